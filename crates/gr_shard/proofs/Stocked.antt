-- The open queries stand in the order that the history gives, after each deed.
use Rattle.std.proofs.Common.{◌≡◌, ◌∙◌, ap, sym, ℕ, List, ◌∷◌, false, Option, Some}
use Rattle.gr_stamp.specs.declared.change.Change.{Change}
use Rattle.gr_cq.specs.Entries.{Entry, noted}
use Rattle.gr_history.specs.declared.identity.Identity.{Identity}
use Rattle.gr_history.specs.declared.ask.Ask.{Ask}
use Rattle.gr_history.specs.declared.image.Image.{Image}
use Rattle.gr_history.specs.declared.reply.Reply.{Reply}
use Rattle.gr_history.specs.declared.verdict.Verdict.{Verdict}
use Rattle.gr_history.specs.declared.deed.Deed.{Deed}
use Rattle.gr_history.specs.declared.deed.Deed.TheVariants.{Call, Taken, Imaged}
use Rattle.gr_history.specs.Calls.{call_gives}
use Rattle.gr_history.specs.Turned.{turned}
use Rattle.gr_history.specs.Verdicts.{verdict}
use Rattle.gr_law.proofs.Turns.{turned_call}
use Rattle.gr_slots.specs.Slots.{Entries}
use Rattle.gr_shard.specs.Asking.{Hold}
use Rattle.gr_shard.specs.Entries.{applied}
use Rattle.gr_shard.specs.InStep.{opened}
use Rattle.gr_shard.specs.Telling.{turned_between, turned_by_change}
use Rattle.gr_shard.specs.View.{IsStocked}
use Rattle.gr_shard.proofs.Kept.{turned_change, turned_taken}
use Rattle.gr_shard.proofs.Turning.{turned_by_slots}

-- where no room is claimed
pub unstocked : (history ids : ℕ) (room : Option ℕ) (clock : ℕ) (queries : List Entry) (past : List Deed) → queries ≡ opened past
    → IsStocked false history ids room clock queries past
unstocked history ids room clock queries past is = record { open_are = is; a_deed = λ claimed. absurd cc; an_id = λ claimed. absurd cc; a_slot = λ claimed. absurd cc }

module _ (past : List Deed) (slots : Entries) (queries : List Entry) where
  -- The queries were told of a change, over what stood.
  pub opened_taken : (change : Change) (told : Verdict) → Hold slots past → queries ≡ opened past → told ≡ verdict past change
      → noted (turned_by_change slots (applied told change)) queries ≡ opened (Taken change told ∷ past)
  opened_taken change told stands is told_is =
      ap (λ all. noted all queries) (sym (turned_taken change told past slots told_is stands)) ∙ ap (noted (turned (Taken change told) past))
      is

  pub opened_called : (id : Identity) (opening client seq : ℕ) (ask : Ask) (reply : Reply) (change : Change) (to : ℕ) → Hold slots past
      → queries ≡ opened past → record { reply = reply; made = Some change; to = to } ≡ call_gives id opening past ask
      → noted (turned_by_change slots (Some change)) queries ≡ opened (Call client to seq ask reply (Some change) ∷ past)
  opened_called id opening client seq ask reply change to stands is gives =
      ap (λ all. noted all queries)
      (sym (turned_call id opening client seq ask reply change to past gives ∙ turned_change change past slots stands))
      ∙ ap (noted (turned (Call client to seq ask reply (Some change)) past)) is

  -- The queries were told of other slots in the place of these.
  pub opened_merged : (image : Image) (new : Entries) → Hold slots past → Hold new (Imaged image ∷ past) → queries ≡ opened past
      → noted (turned_between slots new) queries ≡ opened (Imaged image ∷ past)
  opened_merged image new stands stand is =
      ap (λ all. noted all queries) (sym (turned_by_slots (Imaged image) past slots new stands stand))
      ∙ ap (noted (turned (Imaged image) past)) is
