use Rattle.std.proofs.Common.{◌≡◌, ◌-◌, ◌≤◌, ℕ, length}
use Rattle.gr_slots.specs.Cells.{key_in, near_in, slot_in}
use Rattle.gr_slots.specs.Links.{AreLinked}
use Rattle.gr_slots.proofs.seats.link_all.Given as goal

abbrev pub invariant-loop-place : goal.invariant-loop-place
invariant-loop-place l =
    AreLinked l.seats l.cells.items l.place × ((p : ℕ) → key_in l.cells.items p ≡ key_in l.fn.cells.items p)
    × ((p : ℕ) → near_in l.cells.items p ≡ near_in l.fn.cells.items p)
    × ((p : ℕ) → slot_in l.cells.items p ≡ slot_in l.fn.cells.items p) × (l.place ≤ length l.cells.items)
    × (length l.cells.items ≡ length l.fn.cells.items)

abbrev pub decreases-loop-place : goal.decreases-loop-place
decreases-loop-place l = length l.initial.cells.items - l.place
