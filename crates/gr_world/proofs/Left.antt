-- What is read of a record is what its course has.
use Rattle.std.proofs.Common.{zero, suc, ◌≡◌, ◌⊎◌, ℕ, ◌+◌, ◌≤◌, ◌<◌, List, [], Bool, true, false, ◌==◌, refl, sym, ap, ◌∙◌, subst, inl}
use Rattle.std.proofs.Common.{inr}
use Rattle.std.proofs.Common.{arith, reverse, if◌then◌else◌}
use Rattle.std.proofs.lemmas.Bool.Decides.{nat_tests}
use Rattle.gr_history.specs.declared.deed.Deed.{Deed}
use Rattle.gr_law.specs.Grids.{Grid}
use Rattle.gr_law.proofs.Growth.{same_grid}
use Rattle.gr_script.specs.declared.line.Line.{Line}
use Rattle.gr_script.specs.Rules.{Heading}
use Rattle.gr_world.specs.Events.{Event, history}
use Rattle.gr_world.specs.Courses.{course}
use Rattle.gr_world.specs.Causes.{grid_at, IsCausal}
use Rattle.std.proofs.lemmas.List.{reverse-reverse}
use Rattle.gr_history.specs.declared.record.Record.{Record}
use Rattle.gr_script.specs.Rules.{IsScript}
use Rattle.gr_script.specs.Steps.{departed}
use Rattle.gr_world.specs.Numbered.{numbers_from}
use Rattle.gr_world.specs.Records.{member_left, members_left, clients_left, IsReplayed}
use Rattle.gr_world.specs.Served.{histories_in, AreServed, HasServed, FollowsLines}
use Rattle.gr_world.specs.Histories.{deeds_at, history_at, grid_of, IsLawAbiding, KeepsLaws}
use Rattle.gr_world.proofs.Playable.{none_departs}
use Rattle.gr_world.proofs.Whole.{sound_course}
use Rattle.gr_world.proofs.Served.{script_causal, script_abiding, script_served, script_follows, histories_at, served_same, follow_same}

deeds_from : (f : ℕ → List Deed) (from n shard place : ℕ) → shard < n → place ≡ from + shard
    → deeds_at shard (numbers_from from n f) ≡ f place
deeds_from f from zero shard place less is = absurd (omega (arith, less))
deeds_from f from (suc n) zero place less is = ap f (omega (arith, is))
deeds_from f from (suc n) (suc shard) place less is = deeds_from f (suc from) n shard place (omega (arith, less)) (omega (arith, is))

history_from : (heading : Heading) (course : List Event) (shard from n member : ℕ) → shard < heading.shards → from ≤ member
    → member < from + n
    → history_at shard (numbers_from from n (member_left heading course)) member ≡ history member shard course
history_from heading course shard from zero member within low high = absurd (omega (arith, low, high))
history_from heading course shard from (suc n) member within low high =
    at_test (from == member) refl (λ low. history_from heading course shard (suc from) n member within low (omega (arith, high)))
  where
    equal : (a b : ℕ) → (a == b) ≡ true → a ≡ b
    equal a b h = grind (arith, nat_tests)

    apart : (a b : ℕ) → (a == b) ≡ false → a ≤ b → suc a ≤ b
    apart a b h k = grind (arith, nat_tests)

    at_test : (b : Bool) → (from == member) ≡ b
        → (suc from ≤ member
        → history_at shard (numbers_from (suc from) n (member_left heading course)) member ≡ history member shard course)
        → (if b then reverse (deeds_at shard (member_left heading course from).shards) else history_at shard
        (numbers_from (suc from) n (member_left heading course)) member)
        ≡ history member shard course
    at_test true e next =
        ap (λ xs. reverse xs) (deeds_from (λ s. reverse (history from s course)) 0 heading.shards shard shard within (omega arith))
        ∙ reverse-reverse (history from shard course) ∙ ap (λ m. history m shard course) (equal from member e)
    at_test false e next = next (apart from member e low)

history_outside : (heading : Heading) (course : List Event) (shard from n member : ℕ) → (member < from) ⊎ (from + n ≤ member)
    → history_at shard (numbers_from from n (member_left heading course)) member ≡ []
history_outside heading course shard from zero member far = refl
history_outside heading course shard from (suc n) member far =
    rw (apart from member n far) (history_outside heading course shard (suc from) n member (further far))
  where
    apart : (a b n : ℕ) → (b < a) ⊎ (a + suc n ≤ b) → (a == b) ≡ false
    apart a b n h = grind (arith, nat_tests)

    further : (member < from) ⊎ (from + suc n ≤ member) → (member < suc from) ⊎ (suc from + n ≤ member)
    further (inl h) = inl (omega (arith, h))
    further (inr h) = inr (omega (arith, h))

pub one_grid : (heading : Heading) (gone : List ℕ) (course : List Event) → heading.members ≤ 8 → IsCausal heading gone course
    → (shard : ℕ) → shard < heading.shards → grid_at heading shard course ≡ grid_of heading shard (members_left heading course)
one_grid heading gone course few h shard within =
    same_grid (grid_at heading shard course) (history_at shard (members_left heading course))
    (λ member. sym (at_member member (cases member heading.members)))
  where
    cases : (a n : ℕ) → ((1 ≤ a) × (a < 1 + n)) ⊎ ((a < 1) ⊎ (1 + n ≤ a))
    cases a n = grind arith

    none : (member : ℕ) → (member < 1) ⊎ (1 + heading.members ≤ member)
        → (1 ≤ member) × (member ≤ heading.members) ⊎ (history member shard course ≡ [])
        → history member shard course ≡ []
    none member far (inr is) = is
    none member (inl far) (inl is) = absurd (omega (arith, far, is.0))
    none member (inr far) (inl is) = absurd (omega (arith, far, is.1))

    at_member : (member : ℕ) → ((1 ≤ member) × (member < 1 + heading.members)) ⊎ ((member < 1) ⊎ (1 + heading.members ≤ member))
        → history_at shard (members_left heading course) member ≡ history member shard course
    at_member member (inl is) = history_from heading course shard 1 heading.members member within is.0 is.1
    at_member member (inr far) =
        history_outside heading course shard 1 heading.members member far
        ∙ sym (none member far ((sound_course heading gone course few h shard).outside member))

-- What is left of a script keeps the laws.
pub left_abiding : (heading : Heading) (lines : List Line) → IsScript heading lines → (left : Record) → IsReplayed heading lines left
    → KeepsLaws heading (departed (reverse lines)) left
left_abiding heading lines is left replayed shard within =
    let events = course heading (reverse lines) in
    let gone = departed (reverse lines) in
    subst (IsLawAbiding gone) (one_grid heading gone events is.heading.members.1 (script_causal heading lines is) shard within
    ∙ ap (grid_of heading shard) (sym replayed.members)) (script_abiding heading lines is shard)

-- So it is where nobody departs.
pub plain_abiding : (heading : Heading) (lines : List Line) → IsScript heading lines → departed lines ≡ [] → (left : Record)
    → IsReplayed heading lines left → KeepsLaws heading [] left
plain_abiding heading lines is none left replayed =
    subst (λ (gone : List ℕ). KeepsLaws heading gone left) (none_departs lines none) (left_abiding heading lines is left replayed)

-- Its histories are those of the course.
left_histories : (heading : Heading) (lines : List Line) → IsScript heading lines → (left : Record) → IsReplayed heading lines left
    → (member shard : ℕ) → shard < heading.shards
    → histories_at (course heading (reverse lines)) member shard ≡ histories_in left member shard
left_histories heading lines is left replayed member shard within =
    let events = course heading (reverse lines) in
    let gone = departed (reverse lines) in
    ap (λ (grid : Grid). grid.history member)
    (one_grid heading gone events is.heading.members.1 (script_causal heading lines is) shard within)
    ∙ ap (λ all. history_at shard all member) (sym replayed.members)

-- So its clients were served, in the order of the lines.
pub left_served : (heading : Heading) (lines : List Line) → IsScript heading lines → (left : Record) → IsReplayed heading lines left
    → HasServed heading lines left
left_served heading lines is left replayed =
    subst (AreServed heading lines (histories_in left)) (sym replayed.clients)
    (served_same heading lines (histories_at (course heading (reverse lines))) (histories_in left)
    (clients_left heading (course heading (reverse lines))) is.heading.shards.0
    (left_histories heading lines is left replayed) (script_served heading lines is))

pub left_follows : (heading : Heading) (lines : List Line) → IsScript heading lines → (left : Record) → IsReplayed heading lines left
    → FollowsLines heading lines (histories_in left)
left_follows heading lines is left replayed =
    follow_same heading lines (histories_at (course heading (reverse lines))) (histories_in left)
    (left_histories heading lines is left replayed) (script_follows heading lines)
