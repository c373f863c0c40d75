-- The puts and the removals among changes.
use Rattle.std.proofs.Common.{◌≡◌, refl, ℕ, ◌+◌, List, [], ◌∷◌, ◌++◌, not, if◌then◌else◌}
use Rattle.std.specs.List.{fold}
use Rattle.std.proofs.lemmas.List.{map-append}
use Rattle.std.proofs.lemmas.List.Elements.{filter-append}
use Rattle.gr_stamp.specs.declared.change.Change.{Change}
use Rattle.gr_stamp.specs.Winner.{is_removal}
use Rattle.gr_slots.specs.declared.slot.Slot.{Slot}
use Rattle.gr_slots.specs.Slots.{Entries, tombstones}
use Rattle.gr_shard.specs.Entries.{change_of, changes_in, puts_of, removals_of}

pub puts_of-push : (changes : List Change) (change : Change) → puts_of (changes ++ change ∷ []) ≡ puts_of changes ++ puts_of (change ∷ [])
puts_of-push changes change = filter-append (λ c. not (is_removal c.kind)) changes (change ∷ [])

pub changes_in-push : (entries : List (List ℕ × Slot)) (key : List ℕ) (slot : Slot)
    → changes_in (entries ++ (key, slot) ∷ []) ≡ changes_in entries ++ change_of key slot ∷ []
changes_in-push entries key slot = map-append _ entries ((key, slot) ∷ [])

-- The removals among the slots are those among their changes.
pub removals_held : (entries : Entries) → tombstones entries ≡ removals_of (changes_in entries)
removals_held entries = along 0 entries
  where
    along : (n : ℕ) (xs : Entries) → fold (λ s x. s + (if is_removal x.1.kind then 1 else 0)) n xs
        ≡ fold (λ s c. s + (if is_removal c.kind then 1 else 0)) n (changes_in xs)
    along n [] = refl
    along n (x ∷ xs) = along (n + (if is_removal x.1.kind then 1 else 0)) xs
