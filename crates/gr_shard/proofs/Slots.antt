-- The slots of a shard after one deed more.
use Rattle.std.proofs.Common.{◌≡◌, ◌∙◌, ap, sym, refl, ℕ, List, ◌∷◌, Bool, true, false, if◌then◌else◌, Option, Some, None}
use Rattle.std.proofs.Common.{bytes_eq}
use Rattle.std.proofs.Common.{arith}
use Rattle.std.proofs.lemmas.Bool.Decides.{nat_tests}
use Rattle.gr_stamp.specs.declared.change.Change.{Change}
use Rattle.gr_stamp.specs.Version.{beats}
use Rattle.gr_stamp.specs.Winner.{winner, wins}
use Rattle.gr_history.specs.declared.deed.Deed.{Deed}
use Rattle.gr_history.specs.Clock.{clock, since, is_same_stamp, is_same_standing}
use Rattle.gr_history.specs.Standing.{lasting, standing}
use Rattle.gr_slots.specs.Slots.{Entries, with_slot}
use Rattle.gr_slots.proofs.Found.{slot_at-with_slot}
use Rattle.gr_shard.specs.Asking.{Hold}
use Rattle.gr_shard.specs.Entries.{slot_from, slot_of}

same_stamp : (change : Change) → is_same_stamp change.stamp change.stamp ≡ true
same_stamp change = grind (arith, nat_tests)

beats_apart : (change before : Change) → beats change.stamp before.stamp ≡ true → is_same_stamp change.stamp before.stamp ≡ false
beats_apart change before win = grind (arith, nat_tests)

-- what stands where nothing changed, since when it did
same_slot : (stands : Option Change) (now before : ℕ)
    → slot_of stands (if is_same_standing stands stands then before else now) ≡ slot_of stands before
same_slot None now before = refl
same_slot (Some change) now before = rw (same_stamp change) refl

-- Nothing changes at a key where the same stands.
pub unchanged : (key : List ℕ) (deed : Deed) (past : List Deed) → standing key (deed ∷ past) ≡ standing key past
    → slot_of (standing key (deed ∷ past)) (since key (deed ∷ past)) ≡ slot_of (standing key past) (since key past)
unchanged key deed past same =
    ap (λ stands. slot_of stands (if is_same_standing stands (standing key past) then since key past else clock past)) same
    ∙ same_slot (standing key past) (clock past) (since key past)

pub stands_unchanged : (slots : Entries) (deed : Deed) (past : List Deed)
    → ((key : List ℕ) → standing key (deed ∷ past) ≡ standing key past)
    → Hold slots past → Hold slots (deed ∷ past)
stands_unchanged slots deed past same stands key = stands key ∙ sym (unchanged key deed past (same key))

-- a change that wins stands from now on
pub won_slot : (change : Change) (before : Option Change) (now then_ : ℕ) → wins change before ≡ true
    → slot_of (Some change) (if is_same_standing (Some change) before then then_ else now) ≡ Some (slot_from change now)
won_slot change None now then_ win = refl
won_slot change (Some before) now then_ win = rw (beats_apart change before win) refl

-- With a change that came in and wins, its slot is at its key, and at other keys what was.
pub slot_after : (deed : Deed) (past : List Deed) (change : Change)
    → ((key : List ℕ) → standing key (deed ∷ past) ≡ (if bytes_eq change.key key then Some change else standing key past))
    → ((key : List ℕ) → bytes_eq change.key key ≡ true → wins change (standing key past) ≡ true)
    → (key : List ℕ)
    → slot_of (standing key (deed ∷ past)) (since key (deed ∷ past))
    ≡ (if bytes_eq change.key key then Some (slot_from change (clock past)) else slot_of (standing key past) (since key past))
slot_after deed past change after win key = at_key (bytes_eq change.key key) refl
  where
    at_key : (b : Bool) → bytes_eq change.key key ≡ b
        → slot_of (standing key (deed ∷ past)) (since key (deed ∷ past))
        ≡ (if b then Some (slot_from change (clock past)) else slot_of (standing key past) (since key past))
    at_key true is =
        let now : standing key (deed ∷ past) ≡ Some change = after key ∙ ap (λ b. if b then Some change else standing key past) is in
        ap (λ s. slot_of s (if is_same_standing s (standing key past) then since key past else clock past)) now
        ∙ won_slot change (standing key past) (clock past) (since key past) (win key is)
    at_key false is = unchanged key deed past (after key ∙ ap (λ b. if b then Some change else standing key past) is)

-- The same of slots that are kept.
pub stands_with : (slots : Entries) (deed : Deed) (past : List Deed) (change : Change)
    → ((key : List ℕ) → standing key (deed ∷ past) ≡ (if bytes_eq change.key key then Some change else standing key past))
    → ((key : List ℕ) → bytes_eq change.key key ≡ true → wins change (standing key past) ≡ true)
    → Hold slots past → Hold (with_slot change.key (slot_from change (clock past)) slots) (deed ∷ past)
stands_with slots deed past change after win stands key =
    slot_at-with_slot key change.key (slot_from change (clock past)) slots
    ∙ ap (λ slot. if bytes_eq change.key key then Some (slot_from change (clock past)) else slot) (stands key)
    ∙ sym (slot_after deed past change after win key)

-- What stands once a change came in that wins.
pub stands_after : (q : List ℕ) (change : Change) (past : List Deed) (same : Bool) → bytes_eq change.key q ≡ same
    → (same ≡ true → wins change (standing q past) ≡ true)
    → winner q (change ∷ lasting q past) ≡ (if same then Some change else standing q past)
stands_after q change past true is win = rw (is, win refl) refl
stands_after q change past false is win = rw is refl

-- What stands once a change came in that loses: what stood before.
pub stands_still : (q : List ℕ) (change : Change) (past : List Deed) (same : Bool) → bytes_eq change.key q ≡ same
    → (same ≡ true → wins change (standing q past) ≡ false)
    → winner q (change ∷ lasting q past) ≡ standing q past
stands_still q change past true is lose = rw (is, lose refl) refl
stands_still q change past false is lose = rw is refl
