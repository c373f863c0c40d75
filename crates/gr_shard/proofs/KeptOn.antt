-- What a shard keeps stays tied to its history by a deed that leaves the floor, the clock and the recipients as they were.
use Rattle.std.proofs.Common.{◌≡◌, ◌∙◌, ap, sym, ℕ, List, ◌∷◌, Bool}
use Rattle.gr_cq.specs.Entries.{Entry}
use Rattle.gr_history.specs.declared.identity.Identity.{Identity}
use Rattle.gr_history.specs.declared.deed.Deed.{Deed}
use Rattle.gr_history.specs.Clock.{clock}
use Rattle.gr_history.specs.Floor.{floor}
use Rattle.gr_history.specs.Ids.{known}
use Rattle.gr_history.specs.Lawful.{IsLawfulDeed, IsOfShard}
use Rattle.gr_history.specs.Recipients.{NamesMembers, has_image, recipients}
use Rattle.gr_slots.specs.Slots.{Entries}
use Rattle.gr_stable.specs.Heard.{Reports, heard}
use Rattle.gr_vector.specs.Ids.{Id}
use Rattle.gr_shard.specs.Asking.{Hold}
use Rattle.gr_shard.specs.InStep.{IsInStep}
use Rattle.gr_shard.specs.View.{IsKept, Kept}

-- what a history says of these
pub record Said : Type 0 where
  pub floor_is : ℕ
  pub clock_is : ℕ
  pub joined : Bool
  pub to : ℕ

abbrev pub said : Identity → ℕ → List Deed → Said
said id opening past = record {
  floor_is = floor opening past;
  clock_is = clock past;
  joined = has_image past;
  to = recipients id past;
}

pub kept_on : (id : Identity) (opening : ℕ) (now : Kept) (deed : Deed) (past : List Deed) → IsKept id opening now past
    → said id opening (deed ∷ past) ≡ said id opening past
    → IsLawfulDeed id opening deed past → IsOfShard id (deed ∷ past) → NamesMembers id deed
    → (slots : Entries) → Hold slots (deed ∷ past) → (vector : List Id) → vector ≡ known (deed ∷ past)
    → (reports : Reports) → reports ≡ heard (deed ∷ past) → (queries : List Entry) → IsInStep queries (deed ∷ past)
    → IsKept id opening (record now { slots = slots; vector = vector; heard = reports; queries = queries }) (deed ∷ past)
kept_on id opening now deed past kept same is here names slots stands vector noted reports told queries in_step = record {
  place = kept.place;
  lawful = (is, kept.lawful);
  of_shard = here;
  named = (names, kept.named);
  stands = stands;
  noted = noted;
  floored = kept.floored ∙ sym (ap (λ (s : Said). s.floor_is) same);
  low = kept.low;
  clocked = kept.clocked ∙ sym (ap (λ (s : Said). s.clock_is) same);
  imaged = kept.imaged ∙ sym (ap (λ (s : Said). s.joined) same);
  aimed = kept.aimed ∙ sym (ap (λ (s : Said). s.to) same);
  told = told;
  in_step = in_step;
}
