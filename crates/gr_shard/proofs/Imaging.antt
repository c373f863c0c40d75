-- A merge that is prepared can be committed.
use Rattle.std.proofs.Common.{◌≡◌, ◌≤◌, ◌∙◌, ap, sym, refl, subst, Box, Global, ℕ, List, [], ◌∷◌, reverse, true, not, Some}
use Rattle.std.specs.Prelude.{box_value}
use Rattle.std.specs.List.Sorted.{IsStrictlySortedBy}
use Rattle.std.specs.Ordering.{nat_cmp}
use Rattle.std.specs.Cmp.Lexicographic.{slice_cmp}
use Rattle.std.specs.Map.{keys_of as keys_in}
use Rattle.gr_stamp.specs.declared.stamp.TheConstants.{LIMIT}
use Rattle.gr_cq.specs.Entries.{Entry, noted}
use Rattle.gr_history.specs.declared.deed.Deed.{Deed}
use Rattle.gr_history.specs.declared.deed.Deed.TheVariants.{Imaged}
use Rattle.gr_history.specs.declared.identity.Identity.{Identity}
use Rattle.gr_history.specs.declared.image.Image.{Image}
use Rattle.gr_history.specs.Floor.{floor as floor_of}
use Rattle.gr_history.specs.Ids.{id_of, ids, known}
use Rattle.gr_history.specs.Recipients.{recipients}
use Rattle.gr_history.specs.Standing.{changes}
use Rattle.gr_history.specs.Turned.{turned}
use Rattle.gr_stable.proofs.Counting.{heard_next}
use Rattle.gr_vector.specs.Ids.{has_id, Ids}
use Rattle.gr_vector.specs.Order.{united}
use Rattle.gr_vector.proofs.Same.{united-append}
use Rattle.gr_slots.specs.Slots.{Entries, HeldSlots}
use Rattle.gr_shard.specs.declared.effect.IdsAfter.TheVariants as ids_
use Rattle.gr_shard.specs.declared.effect.QueriesAfter.{QueriesAfter}
use Rattle.gr_shard.specs.declared.effect.SlotsAfter.TheVariants as slots_
use Rattle.gr_shard.specs.Asking.{Hold}
use Rattle.gr_shard.specs.Effects.{IsMadeAt, needs, queries_after, unchanged}
use Rattle.gr_shard.specs.InStep.{IsInStep, IsUnasked, opened}
use Rattle.gr_shard.specs.Merges.{IsImageFor, merged}
use Rattle.gr_shard.specs.Prepared.{IsFit}
use Rattle.gr_shard.specs.Telling.{turned_between}
use Rattle.gr_shard.specs.View.{Account, IsKept, Kept}
use Rattle.gr_shard.proofs.Following.{noted_in_step}
use Rattle.gr_shard.proofs.Merges.{of_shard_rows, stands_merged}
use Rattle.gr_shard.proofs.Turning.{turned_by_slots}

-- The queries are told of what a deed turns.
pub in_step_after : (deed : Deed) (past : List Deed) (after : QueriesAfter) (queries : List Entry) → IsUnasked deed
    → queries_after after (opened past) ≡ noted (turned deed past) (opened past) → queries ≡ opened past → IsInStep queries past
    → IsInStep (queries_after after queries) (deed ∷ past)
in_step_after deed past after queries unasked tells same in_step =
    subst (λ all. IsInStep (queries_after after all) (deed ∷ past)) (sym same)
    (subst (λ all. IsInStep all (deed ∷ past)) (sym tells)
    (noted_in_step deed past (opened past) unasked (subst (λ all. IsInStep all past) same in_step)))

module _ (account : Account) (image : Image) (slots : Box HeldSlots Global) (vector : Box Ids Global) (floor : ℕ) (after : QueriesAfter) where
  pub fit_imaged : needs after ≤ account.spare → IsImageFor account.id image → Hold (box_value slots).entries (Imaged image ∷ reverse account.deeds)
      → (box_value vector).ids ≡ known (Imaged image ∷ reverse account.deeds)
      → floor ≡ floor_of account.opening (Imaged image ∷ reverse account.deeds) → floor ≤ LIMIT
      → queries_after after (opened (reverse account.deeds))
      ≡ noted (turned (Imaged image) (reverse account.deeds)) (opened (reverse account.deeds))
      → IsMadeAt (opened (reverse account.deeds)) after
      → IsFit account (Imaged image) (record unchanged {
        slots = slots_.New slots;
        ids = ids_.New vector;
        queries = after;
        floor = Some floor;
        joined = true;
      })
  unfolding recipients
  fit_imaged room fits stands knows floored low tells made = record {
    room = room;
    keeps = λ now ordered same kept. record {
      place = kept.place;
      lawful = (fits.in_order, kept.lawful);
      of_shard = of_shard_rows account.id (λ row. not (has_id (id_of row) (ids (reverse account.deeds)))) image.rows (changes (reverse account.deeds)) fits.of_shard
          kept.of_shard;
      named = (tt, kept.named);
      stands = stands;
      noted = knows;
      floored = floored;
      low = low;
      clocked = kept.clocked;
      imaged = refl;
      aimed = kept.aimed;
      told = kept.told ∙ sym (heard_next (Imaged image) (reverse account.deeds));
      in_step = in_step_after (Imaged image) (reverse account.deeds) after now.queries (λ client name. refl) tells same kept.in_step;
    };
    opens = tells;
    timed = tt;
    made = made;
    given = tt;
  }

-- What was built over what is kept stands behind the merge, and differs from it by what the merge turns.
module _ (id : Identity) (opening : ℕ) (now : Kept) (past : List Deed) (image : Image) (kept : IsKept id opening now past) where
  pub stands_built : IsStrictlySortedBy (slice_cmp nat_cmp) (keys_in now.slots) → IsImageFor id image → (slots : Entries)
      → slots ≡ merged now.vector now.clock image now.slots → Hold slots (Imaged image ∷ past)
  stands_built ordered fits slots is =
      subst (λ all. Hold all (Imaged image ∷ past)) (sym is)
      (stands_merged image past now.slots now.vector now.clock fits.in_order ordered kept.noted kept.clocked kept.stands)

  pub turned_built : (slots : Entries) → Hold slots (Imaged image ∷ past) → turned_between now.slots slots ≡ turned (Imaged image) past
  turned_built slots stands = sym (turned_by_slots (Imaged image) past now.slots slots kept.stands stands)

  pub known_built : (vector : Ids) → vector.ids ≡ united now.vector image.vector.ids → vector.ids ≡ known (Imaged image ∷ past)
  known_built vector is =
      is ∙ ap (λ all. united all image.vector.ids) kept.noted ∙ sym (united-append [] image.vector.ids (ids past))
