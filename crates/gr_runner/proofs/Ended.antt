-- What a record has of a member's shards.
use Rattle.std.proofs.Common.{◌≡◌, ◌⊎◌, ℕ, zero, suc, ◌+◌, ◌-◌, ◌<◌, ◌≤◌, Bool, List, [], ◌∷◌, length, map, reverse, Some}
use Rattle.std.proofs.Common.{true, false, leb, refl, sym, ap, ◌∙◌, subst, arith, inl, inr, ne_eqb, if◌then◌else◌}
use Rattle.std.specs.Prelude.{slice_get}
use Rattle.std.specs.List.{AllByRecursion}
use Rattle.std.proofs.lemmas.Bool.Decides.{leb_tells}
use Rattle.std.proofs.lemmas.Option.{get_or_from_slice_get, slice_get_within}
use Rattle.std.proofs.lemmas.List.{reverse-reverse}
use Rattle.gr_history.specs.declared.record.MemberRecord.{MemberRecord}
use Rattle.gr_history.specs.declared.record.Record.{Record}
use Rattle.gr_history.specs.declared.record.ShardRecord.{ShardRecord}
use Rattle.gr_script.specs.declared.line.Line.{Line}
use Rattle.gr_script.specs.Rules.{Heading, IsMember}
use Rattle.gr_world.specs.Histories.{deeds_at, history_at}
use Rattle.gr_world.specs.Numbered.{numbers_from}
use Rattle.gr_world.specs.Records.{HasRegion, HasRegions, histories_of}
use Rattle.gr_world.specs.Served.{histories_in}
use Rattle.gr_run_law.proofs.Lists.{get_some, none_isnt_some, same_in_some}
use Rattle.gr_run_law.proofs.Records.{numbered_history}
use Rattle.gr_member.specs.Left.{IsLeftBy}
use Rattle.gr_member.specs.Plans.{identity_of}
use Rattle.gr_member.specs.Seats.{Place, nowhere}
use Rattle.gr_runner.specs.Left.{AreLeft, at_shard}
use Rattle.gr_runner.specs.Makings.{plan_of}
use Rattle.gr_runner.proofs.Lists.{all_places}

deeds_there : (shards : List ShardRecord) (k : ℕ) (one : ShardRecord) → slice_get shards k ≡ Some one
    → deeds_at k (map (λ (s : ShardRecord). s.history.deeds) shards) ≡ one.history.deeds
deeds_there [] k one e = absurd (none_isnt_some one e)
deeds_there (s ∷ shards) zero one e = ap (λ (r : ShardRecord). r.history.deeds) (same_in_some s one e)
deeds_there (s ∷ shards) (suc k) one e = deeds_there shards k one e

-- The record has this of a shard of a member, and the seat tells of it.
pub record IsHistory (heading : Heading) (left : Record) (member shard : ℕ) (desk : Place) : Type 0 where
  pub one : ShardRecord
  pub history_is : histories_in left member shard ≡ reverse one.history.deeds
  pub left_by : IsLeftBy (identity_of (plan_of heading member) shard) heading.floor desk one

pub history_of : (heading : Heading) (lines : List Line) (left : Record) (a : AreLeft heading lines left) (member shard : ℕ)
    → IsMember heading member → shard < heading.shards → IsHistory heading left member shard (at_shard (a.desks member) shard)
history_of heading lines left a member shard is less =
    let e = a.ended member is in
    let many = e.left_by.many in
    let seats = e.many in
    let g = get_some e.one.shards shard (omega (arith, less, many, seats)) in
    let numbered = numbered_history shard 1 heading.members (member - 1) left.members e.one a.numbered e.there in
    let low = is.0 in
    let back : 1 + (member - 1) ≡ member = omega arith in
    record {
      one = g.0;
      history_is = ap (λ (m : ℕ). histories_in left m shard) (sym back) ∙ numbered.0
          ∙ ap reverse (deeds_there e.one.shards shard g.0 g.1);
      left_by = subst (IsLeftBy (identity_of (plan_of heading member) shard) heading.floor (at_shard (a.desks member) shard))
          (get_or_from_slice_get e.one.shards shard g.0 g.0 g.1) (e.left_by.each shard nowhere g.0 (omega (arith, less, seats)));
    }

-- the history, the oldest deed first
pub oldest_first : (heading : Heading) (left : Record) (member shard : ℕ) (desk : Place) (h : IsHistory heading left member shard desk)
    → reverse (histories_in left member shard) ≡ h.one.history.deeds
oldest_first heading left member shard desk h = ap reverse h.history_is ∙ reverse-reverse h.one.history.deeds

-- ---- nobody else has a history

no_item : {A : Type 0} (x : A) (xs : List A) → x ∷ xs ≡ [] → ⊥
no_item x xs e = cc

heads : {A : Type 0} (x y : A) (xs ys : List A) → x ∷ xs ≡ y ∷ ys → (x ≡ y) × (xs ≡ ys)
heads x y xs ys e = (cc, cc)

no_history : (shard from n member : ℕ) (ms : List MemberRecord) → map (λ (m : MemberRecord). m.member) ms ≡ numbers_from from n (λ m. m)
    → (member < from) ⊎ (from + n ≤ member) → history_at shard (map histories_of ms) member ≡ []
no_history shard from n member [] e out = refl
no_history shard from zero member (first ∷ ms) e out = absurd (no_item first.member (map (λ (m : MemberRecord). m.member) ms) e)
no_history shard from (suc n) member (first ∷ ms) e out =
    let h = heads first.member from (map (λ (m : MemberRecord). m.member) ms) (numbers_from (suc from) n (λ m. m)) e in
    ap (λ (b : Bool). if b then reverse (deeds_at shard (map (λ (s : ShardRecord). s.history.deeds) first.shards))
    else history_at shard (map histories_of ms) member) (ne_eqb first.member member (other h.0 out))
    ∙ no_history shard (suc from) n member ms h.1 (later out)
  where
    other : first.member ≡ from → (member < from) ⊎ (from + suc n ≤ member) → first.member ≡ member → ⊥
    other is (inl low) same = absurd (omega (arith, is, low, same))
    other is (inr high) same = absurd (omega (arith, is, high, same))

    later : (member < from) ⊎ (from + suc n ≤ member) → (member < suc from) ⊎ (suc from + n ≤ member)
    later (inl low) = inl (omega (arith, low))
    later (inr high) = inr (omega (arith, high))

pub is_outside : (heading : Heading) (lines : List Line) (left : Record) → AreLeft heading lines left → (member shard : ℕ)
    → IsMember heading member ⊎ (histories_in left member shard ≡ [])
is_outside heading lines left a member shard = at_first (leb_tells 1 member)
  where
    none : (member < 1) ⊎ (1 + heading.members ≤ member) → histories_in left member shard ≡ []
    none out = no_history shard 1 heading.members member left.members a.numbered out

    at_last : 1 ≤ member → ((leb member heading.members ≡ true) × (member ≤ heading.members))
        ⊎ ((leb member heading.members ≡ false) × (heading.members < member))
        → IsMember heading member ⊎ (histories_in left member shard ≡ [])
    at_last low (inl few) = inl (low, few.1)
    at_last low (inr more) = let m = more.1 in inr (none (inr (omega (arith, m))))

    at_first : ((leb 1 member ≡ true) × (1 ≤ member)) ⊎ ((leb 1 member ≡ false) × (member < 1))
        → IsMember heading member ⊎ (histories_in left member shard ≡ [])
    at_first (inl low) = at_last low.1 (leb_tells member heading.members)
    at_first (inr out) = inr (none (inl out.1))

-- ---- all members

numbered_at : (from n k : ℕ) (ms : List MemberRecord) (one : MemberRecord)
    → map (λ (m : MemberRecord). m.member) ms ≡ numbers_from from n (λ m. m) → slice_get ms k ≡ Some one → k < n
numbered_at from n k [] one e get = absurd (none_isnt_some one get)
numbered_at from zero k (first ∷ ms) one e get = absurd (no_item first.member (map (λ (m : MemberRecord). m.member) ms) e)
numbered_at from (suc n) zero (first ∷ ms) one e get = omega arith
numbered_at from (suc n) (suc k) (first ∷ ms) one e get =
    let h = heads first.member from (map (λ (m : MemberRecord). m.member) ms) (numbers_from (suc from) n (λ m. m)) e in
    let less = numbered_at (suc from) n k ms one h.1 get in omega (arith, less)

-- what holds of the record of each member holds of all
each_ended : (heading : Heading) (lines : List Line) (left : Record) (a : AreLeft heading lines left) (P : MemberRecord → Type 0)
    → ((member : ℕ) (is : IsMember heading member) → P (a.ended member is).one) → AllByRecursion P left.members
each_ended heading lines left a P each = all_places P left.members at
  where
    at : (k : ℕ) (one : MemberRecord) → slice_get left.members k ≡ Some one → P one
    at k one get =
        let less = numbered_at 1 heading.members k left.members one a.numbered get in
        let is : IsMember heading (suc k) = (omega arith, omega (arith, less)) in
        let back : suc k - 1 ≡ k = omega arith in
        subst P (same_in_some (a.ended (suc k) is).one one (sym (a.ended (suc k) is).there ∙ ap (slice_get left.members) back ∙ get))
        (each (suc k) is)

pub shards_left : (heading : Heading) (lines : List Line) (left : Record) → AreLeft heading lines left
    → AllByRecursion (λ (one : MemberRecord). length one.shards ≡ heading.shards) left.members
shards_left heading lines left a = each_ended heading lines left a (λ one. length one.shards ≡ heading.shards)
    (λ member is. (a.ended member is).left_by.many ∙ (a.ended member is).many)

pub regions_left : (heading : Heading) (lines : List Line) (left : Record) → AreLeft heading lines left
    → AllByRecursion (HasRegions heading.floor) left.members
regions_left heading lines left a = each_ended heading lines left a (HasRegions heading.floor) at
  where
    at : (member : ℕ) (is : IsMember heading member) → HasRegions heading.floor (a.ended member is).one
    at member is = all_places (HasRegion heading.floor) (a.ended member is).one.shards each
      where
        each : (k : ℕ) (one : ShardRecord) → slice_get (a.ended member is).one.shards k ≡ Some one → HasRegion heading.floor one
        each k one get =
            let e = a.ended member is in
            let within = slice_get_within e.one.shards k one get in
            let many = e.left_by.many in
            (subst (IsLeftBy (identity_of (plan_of heading member) k) heading.floor (at_shard (a.desks member) k))
            (get_or_from_slice_get e.one.shards k one one get) (e.left_by.each k nowhere one (omega (arith, within, many)))).region
