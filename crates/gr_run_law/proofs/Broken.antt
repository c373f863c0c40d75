-- Each of these histories breaks its clause.
use Rattle.std.proofs.Common.{◌≡◌, ◌≢◌, ℕ, ◌<◌, ◌≤◌, [], ◌∷◌, length, true, false, refl, ap, arith, inl, inr}
use Rattle.gr_history.specs.declared.record.Region.{Region}
use Rattle.gr_script.specs.Rules.{IsMember}
use Rattle.gr_script.specs.Steps.{joins_of}
use Rattle.gr_world.specs.Rows.{put, id}
use Rattle.gr_run_law.specs.Broken.{swept_twice, given_twice, asked_early, taken_once, unheard, small_rounds, half_rounds, left_out}
use Rattle.gr_run_law.specs.Closed.{EndsReady, TakesAll, HasSameRows}
use Rattle.gr_run_law.specs.Runs.{DoesDuties, GivesGifts, WaitsForImage, TakesChanges, HearsReports, AreRounds}
use Rattle.gr_run_law.specs.Small.{three, small_lines, small_histories, small_served}

member_1 : IsMember three 1
member_1 = (omega arith, omega arith)

member_2 : IsMember three 2
member_2 = (omega arith, omega arith)

member_3 : IsMember three 3
member_3 = (omega arith, omega arith)

shard_0 : 0 < 2
shard_0 = omega arith

shard_1 : 1 < 2
shard_1 = omega arith

false_isnt_true : false ≡ true → ⊥
false_isnt_true e = cc

pub duties_broken : DoesDuties three small_lines swept_twice → ⊥
duties_broken law = let over : 2 ≡ 1 = ap length (law 1 0 member_1 shard_0) in omega (arith, over)

pub gifts_broken : GivesGifts three small_lines given_twice → ⊥
gifts_broken law = let over : 2 ≡ 1 = ap length (law 2 3 0 member_2 shard_0) in omega (arith, over)

pub waits_broken : WaitsForImage three small_lines asked_early → ⊥
waits_broken law = false_isnt_true (law 3 0 shard_0 joins _ [] (inr (inl refl)) refl)
  where
    joins : joins_of 3 small_lines ≢ 0
    joins e = let one : joins_of 3 small_lines ≡ 1 = refl in omega (arith, e, one)

pub takings_broken : TakesChanges three taken_once small_served → ⊥
takings_broken law = let over : 1 ≡ 2 = law 2 1 (λ change. true) member_2 shard_1 in omega (arith, over)

pub hearings_broken : HearsReports three unheard small_rounds → ⊥
hearings_broken law = let over : 0 ≡ 1 = law 3 0 (λ report. true) member_3 shard_0 in omega (arith, over)

pub rounds_broken : AreRounds three small_histories half_rounds → ⊥
rounds_broken law = let over : 1 ≡ 2 = (law 2 member_2).0.0 in omega (arith, over)

founder : (member : ℕ) → 1 ≤ member → member ≤ 2 → EndsReady three small_lines member
founder member low high = ((low, omega arith), inl high)

ready_1 : EndsReady three small_lines 1
ready_1 = founder 1 (omega arith) (omega arith)

ready_2 : EndsReady three small_lines 2
ready_2 = founder 2 (omega arith) (omega arith)

pub all_broken : TakesAll three small_lines left_out → ⊥
all_broken law = law 2 1 ready_2 shard_1 (put 1 1 1) (inl refl)

abbrev with_put : Region
with_put = record { rows = put 1 1 1 ∷ []; tombstones = 0; floor = 0; vector = record { ids = id 1 1 ∷ []; spare = 0 } }

abbrev empty : Region
empty = record { rows = []; tombstones = 0; floor = 0; vector = record { ids = []; spare = 0 } }

pub rows_broken : HasSameRows three small_lines left_out → ⊥
rows_broken law =
    let over : 1 ≡ 0 = ap length (law 1 2 1 ready_1 ready_2 shard_1 with_put empty
    (record { rows_are = refl; tombstones_are = refl; floor_is = refl; vector_is = refl })
    (record { rows_are = refl; tombstones_are = refl; floor_is = refl; vector_is = refl })) in omega (arith, over)
