-- How passes stay what they are.
use Rattle.std.proofs.Common.{◌≡◌, ◌≢◌, ℕ, suc, ◌-◌, ◌<◌, ◌≤◌, List, [], length, get_or, set, refl, sym, ap, ◌∙◌, subst, arith}
use Rattle.std.proofs.lemmas.List.{get_or-set_same, get_or-set_other, get_or_read, length-set}
use mathlib.Core.Logic.{dite}
use native.Mathlib.Decide.{ℕ_discrete}
use Rattle.gr_member.specs.Seats.{Place}
use Rattle.gr_member.specs.Passes.{House, IsPassOf, StaysAll}
use Rattle.gr_member.proofs.Passing.{pass_stays, stays_same}
use Rattle.gr_session.proofs.Seeing.{stays_trans}
use Rattle.gr_member.specs.declared.plan.Plan.{Plan}
use Rattle.gr_host.specs.Houses.{AreMembers, ArePassesOf, StayAt, of_member}

pub all_same : (p : List Place) → StaysAll p p
all_same p = record { many = refl; each = λ k s less. stays_same (get_or p k s) }

pub all_trans : (p q r : List Place) → StaysAll p q → StaysAll q r → StaysAll p r
all_trans p q r a b = record {
  many = b.many ∙ a.many;
  each = λ k s less.
      let many = a.many in
      stays_trans (get_or p k s) (get_or q k s) (get_or r k s) (a.each k s less) (b.each k s (omega arith));
}

pub at_same : (v : List (List Place)) → StayAt v v
at_same v = record { many = refl; each = λ k p less. all_same (get_or v k p) }

pub at_trans : (v u w : List (List Place)) → StayAt v u → StayAt u w → StayAt v w
at_trans v u w a b = record {
  many = b.many ∙ a.many;
  each = λ k p less.
      let many = a.many in
      all_trans (get_or v k p) (get_or u k p) (get_or w k p) (a.each k p less) (b.each k p (omega arith));
}

-- Passes stay ones of the members.
pub passes_stay : (houses : List House) (v w : List (List Place)) → ArePassesOf houses v → StayAt v w → ArePassesOf houses w
passes_stay houses v w a s = record {
  many = s.many ∙ a.many;
  each = λ k h p less.
      let many = a.many in
      pass_stays (get_or houses k h) (get_or v k p) (get_or w k p) (a.each k h p less) (s.each k p (omega arith));
}

-- one pass, which was lent
pub at_set : (v : List (List Place)) (k : ℕ) (o r : List Place) → k < length v → o ≡ get_or v k o → StaysAll o r → StayAt v (set v k r)
at_set v k o r less is stays = record {
  many = length-set v k r;
  each = λ j p below. dite (ℕ_discrete j k)
      (λ (e : j ≡ k). subst (λ (i : ℕ). StaysAll (get_or v i p) (get_or (set v k r) i p)) (sym e)
      (subst (λ (z : List Place). StaysAll (get_or v k p) z) (sym (get_or-set_same v k r p less))
      (subst (λ (z : List Place). StaysAll z r) (get_or_read v k o less is p) stays)))
      (λ (n : j ≢ k). subst (λ (z : List Place). StaysAll (get_or v j p) z) (sym (get_or-set_other v k j r p n)) (all_same (get_or v j p)));
}

-- ---- members that are looked up

pub plan_at : (plan : Plan) (houses : List House) (at member : ℕ) (house : House) → AreMembers plan houses → 1 ≤ member
    → member ≤ plan.members → at ≡ member - 1 → house ≡ get_or houses at house → house.plan ≡ of_member plan member
plan_at plan houses at member house are some stated place is =
    ap (λ (h : House). h.plan) is ∙ are.each at house (omega arith)
    ∙ ap (λ (n : ℕ). of_member plan n) (let same : suc at ≡ member = omega arith in same)

pub pass_at : (houses : List House) (at : ℕ) (house : House) (v : List (List Place)) (o : List Place) → ArePassesOf houses v
    → at < length houses → house ≡ get_or houses at house → o ≡ get_or v at o → IsPassOf house o
pass_at houses at house v o are less is lent =
    subst (λ (h : House). IsPassOf h o) (sym is)
    (subst (IsPassOf (get_or houses at house)) (sym lent) (are.each at house o less))

pub own_pass : (houses : List House) (at member : ℕ) (house : House) (p : List Place) → at ≡ member - 1 → house ≡ get_or houses at house
    → ((h : House) → IsPassOf (get_or houses (member - 1) h) p) → IsPassOf house p
own_pass houses at member house p place is its =
    subst (λ (h : House). IsPassOf h p) (sym (is ∙ ap (λ (k : ℕ). get_or houses k house) place)) (its house)

-- The joiner's pass has a place for each shard.
pub pass_long : (plan : Plan) (houses : List House) (p : List Place) → AreMembers plan houses → 1 ≤ plan.member
    → plan.member ≤ plan.members → ((h : House) → IsPassOf (get_or houses (plan.member - 1) h) p) → length p ≡ plan.shards
pass_long plan houses p are some stated its =
    let any : House = record { plan = plan; locks = [] } in
    (its any).many ∙ are.shards (plan.member - 1) any (omega arith)
