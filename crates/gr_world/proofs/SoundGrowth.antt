-- A sound record with one more deed is sound.
use Rattle.std.proofs.Common.{◌≡◌, ◌⊎◌, ℕ, ◌≤◌, List, [], subst, inl}
use Rattle.gr_history.specs.declared.deed.Deed.{Deed}
use Rattle.gr_law.specs.Grids.{Grid, identity}
use Rattle.gr_law.specs.Integrity.{IsGenuine, IsImagedOnce, IsSound}
use Rattle.gr_history.specs.Lawful.{IsLawful}
use Rattle.gr_law.proofs.Growth.{at_each, once_more, pushed, same_grid, still_genuine, still_genuine_deed}
use Rattle.gr_world.specs.Causes.{IsNextDeed}

-- One more deed.
pub sound_pushed : (grid : Grid) → IsSound grid → (m : ℕ) (gone : List ℕ) (deed : Deed) → IsNextDeed grid gone m deed → IsSound (pushed grid m deed)
sound_pushed grid sound m gone deed next = record {
  few = sound.few;
  lawful = at_each grid m deed (λ i h. IsLawful (identity grid i) (grid.opening i) h) (next.lawful, sound.lawful m) sound.lawful;
  genuine = at_each grid m deed (λ i h. IsGenuine (pushed grid m deed) i h)
      (still_genuine_deed grid m m deed deed next.genuine, still_genuine grid m m deed (grid.history m) (sound.genuine m))
      (λ i. still_genuine grid m i deed (grid.history i) (sound.genuine i));
  once = at_each grid m deed (λ i h. IsImagedOnce h) (once_more deed (grid.history m) next.once (sound.once m)) sound.once;
  outside = at_each grid m deed (λ i h. (1 ≤ i) × (i ≤ grid.members) ⊎ (h ≡ [])) (inl (next.from, next.to)) sound.outside;
}

pub sound_next : (grid : Grid) → IsSound grid → (m : ℕ) (gone : List ℕ) (deed : Deed) → IsNextDeed grid gone m deed → (history : ℕ → List Deed)
    → ((i : ℕ) → (pushed grid m deed).history i ≡ history i) → IsSound (record grid { history = history })
sound_next grid sound m gone deed next history e =
    subst IsSound (same_grid (pushed grid m deed) history e) (sound_pushed grid sound m gone deed next)
