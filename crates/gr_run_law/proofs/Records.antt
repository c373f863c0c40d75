-- Records of runs keep the laws, and their members are equal.
use Rattle.std.proofs.Common.{◌≡◌, ℕ, zero, suc, ◌+◌, ◌<◌, ◌==◌, true, List, [], ◌∷◌, length, map, reverse, Some}
use Rattle.std.proofs.Common.{refl, sym, ap, ◌∙◌, arith, if◌then◌else◌, ne_eqb, inl}
use Rattle.std.specs.Prelude.{slice_get}
use Rattle.std.specs.List.{AllByRecursion, list_all}
use Rattle.gr_stamp.specs.declared.change.Change.{Change}
use Rattle.gr_history.specs.declared.deed.Deed.{Deed}
use Rattle.gr_history.specs.declared.record.MemberRecord.{MemberRecord}
use Rattle.gr_history.specs.declared.record.Record.{Record}
use Rattle.gr_history.specs.declared.record.ShardRecord.{ShardRecord}
use Rattle.gr_script.specs.declared.line.Line.{Line}
use Rattle.gr_script.specs.Drill.{IsDrill}
use Rattle.gr_script.specs.Rules.{Heading, IsMember, IsScript}
use Rattle.gr_world.specs.Grids.{grid_from}
use Rattle.gr_world.specs.Histories.{deeds_at, history_at, KeepsLaws}
use Rattle.gr_world.specs.Numbered.{numbers_from}
use Rattle.gr_world.specs.Records.{HasRegion, HasRegions, histories_of}
use Rattle.gr_world.specs.Served.{histories_in}
use Rattle.gr_report.specs.Same.{rows_by_shard, member_eq, are_equal}
use Rattle.gr_report.proofs.Sameness.{member_eq_decides}
use Rattle.gr_world.proofs.Abiding.{whole_abiding}
use Rattle.gr_run_law.specs.Runs.{IsLawfulRun}
use Rattle.gr_run_law.specs.Closed.{EndsReady}
use Rattle.gr_run_law.specs.Records.{IsRecordOfRun}
use Rattle.gr_run_law.proofs.Closed.{takes_all}
use Rattle.gr_run_law.proofs.Lists.{all_at, same_number, none_isnt_some, same_in_some, no_item}
use Rattle.gr_run_law.proofs.Rows.{rows_left, rows_same, regions_same}

-- A lawful run's record keeps the laws,
pub keeps_laws : (heading : Heading) (lines : List Line) (left : Record) → IsLawfulRun heading lines left → KeepsLaws heading [] left
keeps_laws heading lines left lawful shard within = whole_abiding [] (grid_from heading (histories_in left) shard)
    (lawful.run.whole shard within)

-- and all else that is said of it.
pub record_of_run : (heading : Heading) (lines : List Line) (left : Record) → IsScript heading lines → IsLawfulRun heading lines left
    → IsRecordOfRun heading lines left
record_of_run heading lines left head lawful = record {
  lawful = lawful;
  laws = keeps_laws heading lines left lawful;
  served = lawful.run.clients;
  all = takes_all heading lines (histories_in left) left.clients head lawful.run;
  rows = regions_same heading lines (histories_in left) left.clients head lawful.run;
}

-- ---- members by their numbers

abbrev deeds_of : MemberRecord → List (List Deed)
deeds_of one = map (λ (s : ShardRecord). s.history.deeds) one.shards

heads : {A : Type 0} (x y : A) (xs ys : List A) → x ∷ xs ≡ y ∷ ys → (x ≡ y) × (xs ≡ ys)
heads x y xs ys e = (cc, cc)

-- the member at a place has the number that the place gives
pub numbered_history : (shard from n k : ℕ) (ms : List MemberRecord) (one : MemberRecord)
    → map (λ (m : MemberRecord). m.member) ms ≡ numbers_from from n (λ m. m) → slice_get ms k ≡ Some one
    → (history_at shard (map histories_of ms) (from + k) ≡ reverse (deeds_at shard (deeds_of one))) × (k < n)
numbered_history shard from n k [] one e get = absurd (none_isnt_some one get)
numbered_history shard from zero k (first ∷ ms) one e get = absurd (no_item first.member (map (λ (m : MemberRecord). m.member) ms) e)
numbered_history shard from (suc n) zero (first ∷ ms) one e get =
    let h = heads first.member from (map (λ (m : MemberRecord). m.member) ms) (numbers_from (suc from) n (λ m. m)) e in
    let z : from + 0 ≡ from = omega arith in
    let test : (first.member == from + 0) ≡ true = rw (h.0, z) (same_number from) in (
      ap (λ b. if b then reverse (deeds_at shard (deeds_of first)) else history_at shard (map histories_of ms) (from + 0)) test
          ∙ ap (λ m. reverse (deeds_at shard (deeds_of m))) (same_in_some first one get),
      omega arith,
    )
numbered_history shard from (suc n) (suc k) (first ∷ ms) one e get =
    let h = heads first.member from (map (λ (m : MemberRecord). m.member) ms) (numbers_from (suc from) n (λ m. m)) e in
    let f = h.0 in
    let test = ne_eqb first.member (from + suc k) (λ s. absurd (omega arith)) in
    let rest = numbered_history shard (suc from) n k ms one h.1 get in
    let z : suc from + k ≡ from + suc k = omega arith in
    let l = rest.1 in (
      ap (λ b. if b then reverse (deeds_at shard (deeds_of first)) else history_at shard (map histories_of ms) (from + suc k)) test
          ∙ ap (history_at shard (map histories_of ms)) (sym z) ∙ rest.0,
      omega arith,
    )

-- ---- rows

abbrev rows_of_deeds : List Deed → List Change
rows_of_deeds deeds = rows_left (reverse deeds)

rows_are : (floor : ℕ) (shards : List ShardRecord) → AllByRecursion (HasRegion floor) shards
    → map (λ (s : ShardRecord). s.region.rows) shards ≡ map rows_of_deeds (map (λ (s : ShardRecord). s.history.deeds) shards)
rows_are floor [] all = refl
rows_are floor (s ∷ shards) all =
    ap (λ r. r ∷ map (λ (s : ShardRecord). s.region.rows) shards) all.0.rows_are
    ∙ ap (λ l. rows_of_deeds s.history.deeds ∷ l) (rows_are floor shards all.1)

same_maps : (n : ℕ) (xs ys : List (List Deed)) → length xs ≡ n → length ys ≡ n
    → ((s : ℕ) → s < n → rows_left (reverse (deeds_at s xs)) ≡ rows_left (reverse (deeds_at s ys))) → map rows_of_deeds xs
    ≡ map rows_of_deeds ys
same_maps n [] [] e f same = refl
same_maps n [] (y ∷ ys) e f same = absurd (omega arith)
same_maps n (x ∷ xs) [] e f same = absurd (omega arith)
same_maps zero (x ∷ xs) (y ∷ ys) e f same = absurd (omega arith)
same_maps (suc n) (x ∷ xs) (y ∷ ys) e f same =
    ap (λ r. r ∷ map rows_of_deeds xs) (same zero (omega arith))
    ∙ ap (λ l. rows_of_deeds y ∷ l) (same_maps n xs ys (omega arith) (omega arith) (λ s less. same (suc s) (omega arith)))

length_of : (shards : List ShardRecord) → length (map (λ (s : ShardRecord). s.history.deeds) shards) ≡ length shards
length_of [] = refl
length_of (s ∷ shards) = ap (λ n. suc n) (length_of shards)

all_equal : (first : MemberRecord) (rest : List MemberRecord)
    → ((k : ℕ) (one : MemberRecord) → slice_get rest k ≡ Some one → member_eq first one ≡ true)
    → list_all (member_eq first) rest ≡ true
all_equal first [] each = refl
all_equal first (one ∷ rest) each = rw (each zero one refl, all_equal first rest (λ k m get. each (suc k) m get)) refl

-- Where each member is a founder or joins, all members have the rows of the first.
pub members_equal : (heading : Heading) (lines : List Line) (left : Record) → IsScript heading lines → IsLawfulRun heading lines left
    → ((member : ℕ) → IsMember heading member → EndsReady heading lines member) → are_equal left.members ≡ true
members_equal heading lines left head lawful all_in = at_members left.members refl
  where
    is_member : (ms : List MemberRecord) → left.members ≡ ms → (k : ℕ) (one : MemberRecord) → slice_get ms k ≡ Some one
        → (shard : ℕ) → (histories_in left (1 + k) shard ≡ reverse (deeds_at shard (deeds_of one))) × (k < heading.members)
    is_member ms is k one get shard =
        numbered_history shard 1 heading.members k left.members one lawful.members (ap (λ l. slice_get l k) is ∙ get)

    same : (ms : List MemberRecord) → left.members ≡ ms → (first one : MemberRecord) (k : ℕ) → slice_get ms 0
        ≡ Some first → slice_get ms k ≡ Some one
        → rows_by_shard first ≡ rows_by_shard one
    same ms is first one k get_first get =
        let at_first = λ (shard : ℕ). is_member ms is 0 first get_first shard in
        let at_one = λ (shard : ℕ). is_member ms is k one get shard in
        let r1 = all_at (HasRegions heading.floor) left.members lawful.regions 0 first (ap (λ l. slice_get l 0) is ∙ get_first) in
        let r2 = all_at (HasRegions heading.floor) left.members lawful.regions k one (ap (λ l. slice_get l k) is ∙ get) in
        let l1 = all_at (λ (m : MemberRecord). length m.shards ≡ heading.shards) left.members lawful.shards 0 first
        (ap (λ l. slice_get l 0) is ∙ get_first) in
        let l2 = all_at (λ (m : MemberRecord). length m.shards ≡ heading.shards) left.members lawful.shards k one
        (ap (λ l. slice_get l k) is ∙ get) in
        let b1 = (at_first 0).1 in
        let b2 = (at_one 0).1 in
        let in_one : EndsReady heading lines (1 + k) = all_in (1 + k) (omega arith, omega arith) in
        let in_first : EndsReady heading lines (1 + 0) = all_in (1 + 0) (omega arith, omega arith) in
        rows_are heading.floor first.shards r1
        ∙ same_maps heading.shards (deeds_of first) (deeds_of one) (length_of first.shards ∙ l1) (length_of one.shards ∙ l2)
        (λ s less. ap rows_left (sym (at_first s).0)
        ∙ rows_same heading lines (histories_in left) left.clients head lawful.run (1 + 0) (1 + k) s in_first in_one less
        ∙ ap rows_left (at_one s).0)
        ∙ sym (rows_are heading.floor one.shards r2)

    at_members : (ms : List MemberRecord) → left.members ≡ ms → are_equal left.members ≡ true
    at_members [] is = rw is refl
    at_members (first ∷ rest) is =
        rw is (all_equal first rest (λ k one get. (member_eq_decides first one).1 (same (first ∷ rest) is first one (suc k) refl get)))

-- So it is in each drill, whose members are all founders.
pub drill_equal : (start steps : ℕ) (script : Heading × List Line) (left : Record) → IsDrill start steps script
    → IsScript script.0 script.1 → IsLawfulRun script.0 script.1 left → are_equal left.members ≡ true
drill_equal start steps script left drill head lawful = members_equal script.0 script.1 left head lawful ready
  where
    all_found : script.0.members ≡ script.0.founders
    all_found = ap (λ (s : Heading × List Line). s.0.members) drill.2 ∙ sym (ap (λ (s : Heading × List Line). s.0.founders) drill.2)

    ready : (member : ℕ) → IsMember script.0 member → EndsReady script.0 script.1 member
    ready member is = (is, inl (let few = is.1 in let all = all_found in omega arith))
