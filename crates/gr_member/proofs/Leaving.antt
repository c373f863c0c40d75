-- What is left of shards that are ended one by one, the last first.
use Rattle.std.proofs.Common.{◌≡◌, ℕ, zero, suc, ◌+◌, ◌<◌, List, [], ◌∷◌, ◌++◌, length, get_or, reverse, refl, sym, ap, ◌∙◌, subst, arith}
use Rattle.std.proofs.Common.{append_assoc, append-nil, length-append}
use Rattle.std.proofs.lemmas.List.{get_or_push, get_or_append_left, reverse-append}
use Rattle.std.specs.Prelude.{Some, Result, Ok, Err, IfOk, OnOk}
use Rattle.gr_value.specs.Lists.{StartsWith}
use Rattle.gr_turn.specs.Views.{HasAll, MadeAll}
use Rattle.gr_history.specs.declared.record.MemberRecord.{MemberRecord}
use Rattle.gr_history.specs.declared.record.ShardRecord.{ShardRecord}
use Rattle.std.specs.List.{AllByRecursion}
use Rattle.gr_history.specs.declared.deed.Deed.{Deed}
use Rattle.gr_history.specs.declared.identity.Identity.{Identity}
use Rattle.gr_history.specs.Lawful.{IsLawful, IsOfShard}
use Rattle.gr_history.specs.Recipients.{NamesMembers}
use Rattle.gr_history.specs.Regions.{IsRegionOf}
use Rattle.gr_member.specs.Plans.{identity_of}
use Rattle.gr_member.specs.Replicas.{Replicated}
use Rattle.gr_member.specs.Seats.{Place}
use Rattle.gr_member.specs.Passes.{House, IsPassOf, HaveAll}
use Rattle.gr_member.proofs.Passing.{lock_at}
use Rattle.gr_member.specs.Left.{IsEndOf, IsLeftBy, IsOneMore, AreEndsOf, AreLeftBy}

abbrev pub Ends : List Place → List ShardRecord → Type 0
Ends [] [] = Unit {0}
Ends (s ∷ ss) (r ∷ rs) = IsEndOf s r × Ends ss rs
Ends [] (r ∷ rs) = ⊥
Ends (s ∷ ss) [] = ⊥

-- the shards behind those that are left have been ended
pub record EndedSoFar (p rest : List Place) (records : List ShardRecord) : Type 0 where
  pub done : List Place
  pub split : p ≡ rest ++ done
  pub ends : Ends done (reverse records)

pub ended_none : (p : List Place) (records : List ShardRecord) → records ≡ [] → EndedSoFar p p records
ended_none p records e = record {
  done = [];
  split = sym (append-nil p);
  ends = subst (λ (r : List ShardRecord). Ends [] (reverse r))
      (sym e) tt;
}

pub ended_more : (p rest fewer : List Place) (s : Place) (records more : List ShardRecord) → EndedSoFar p rest records
    → rest ≡ fewer ++ s ∷ []
    → IsOneMore s records more → EndedSoFar p fewer more
ended_more p rest fewer s records more h e o = record {
  done = s ∷ h.done;
  split = h.split ∙ ap (λ (z : List Place). z ++ h.done) e ∙ append_assoc fewer (s ∷ []) h.done;
  ends = subst (λ (r : List ShardRecord). Ends (s ∷ h.done) (reverse r)) (sym o.last)
      (subst (Ends (s ∷ h.done)) (sym (reverse-append records (o.record_of ∷ []))) (o.ends, h.ends));
}

one_end : (s : Place) (ss : List Place) (r : ShardRecord) (rs : List ShardRecord) → IsEndOf s r → AreEndsOf ss rs
    → (k : ℕ) (x : Place) (y : ShardRecord)
    → k < suc (length ss) → IsEndOf (get_or (s ∷ ss) k x) (get_or (r ∷ rs) k y)
one_end s ss r rs e rest zero x y b = e
one_end s ss r rs e rest (suc k) x y b = rest.each k x y (omega arith)

ends_each : (ss : List Place) (rs : List ShardRecord) → Ends ss rs → AreEndsOf ss rs
ends_each [] [] h = record { many = refl; each = λ k s r b. absurd (omega arith) }
ends_each (s ∷ ss) (r ∷ rs) h =
    let rest = ends_each ss rs h.1 in
    record { many = ap (λ (n : ℕ). suc n) rest.many; each = one_end s ss r rs h.0 rest }
ends_each [] (r ∷ rs) h = absurd h
ends_each (s ∷ ss) [] h = absurd h

pub ended_all : (p rest : List Place) (records : List ShardRecord) → EndedSoFar p rest records → rest ≡ [] → AreEndsOf p (reverse records)
ended_all p rest records h e = subst (λ (z : List Place). AreEndsOf z (reverse records))
    (sym (h.split ∙ ap (λ (z : List Place). z ++ h.done) e)) (ends_each h.done (reverse records) h.ends)

pub all_last : (p fewer : List Place) (s : Place) → HaveAll p → p ≡ fewer ++ s ∷ [] → HaveAll fewer × HasAll s.view
all_last p fewer s h e =
    let m : length p ≡ length fewer + 1 = ap length e ∙ length-append fewer (s ∷ []) in
    let c : length fewer < length p = omega arith in (
      λ k x b.
          let f : k < length p = omega arith in
          subst (λ (z : Place). HasAll z.view) (ap (λ (z : List Place). get_or z k x) e ∙ get_or_append_left fewer (s ∷ []) x k b)
          (h k x f),
      subst (λ (z : Place). HasAll z.view) (ap (λ (z : List Place). get_or z (length fewer) s) e ∙ get_or_push fewer s s (length fewer)
          refl) (h (length fewer) s c),
    )

-- the pass says whose shards they are
pub left_by_pass : (house : House) (p : List Place) (left : MemberRecord) → IsPassOf house p → left.member ≡ house.plan.member
    → AreEndsOf p left.shards
    → AreLeftBy house.plan p left
left_by_pass house p left i m e = record {
  member = m;
  many = e.many;
  each = λ k s r b. e.each k s r b (identity_of house.plan k) house.plan.floor (i.each k (lock_at s) s b).based;
}

pub empty_of : {X : Type 0} (xs : List X) → length xs ≡ 0 → xs ≡ []
empty_of [] e = refl
empty_of (x ∷ xs) e = absurd (omega arith)

end_here : (s : Place) (x : Replicated) (left : ShardRecord) → StartsWith x.deeds s.view.seen → MadeAll s.view (length x.deeds)
    → left.history.deeds ≡ x.deeds → IsRegionOf x.origin.opening (reverse x.deeds) left.region
    → IsLawful x.origin.id x.origin.opening (reverse x.deeds) → IsOfShard x.origin.id (reverse x.deeds)
    → AllByRecursion (NamesMembers x.origin.id) (reverse x.deeds)
    → IsLeftBy x.origin.id x.origin.opening s left
end_here s x left k m d r l o n =
    let e = sym d in
    record {
      seen = subst (λ (d : List Deed). StartsWith d s.view.seen) e k;
      made = subst (λ (d : List Deed). MadeAll s.view (length d)) e m;
      lawful = subst (λ (d : List Deed). IsLawful x.origin.id x.origin.opening (reverse d)) e l;
      of_shard = subst (λ (d : List Deed). IsOfShard x.origin.id (reverse d)) e o;
      named = subst (λ (d : List Deed). AllByRecursion (NamesMembers x.origin.id) (reverse d)) e n;
      region = subst (λ (d : List Deed). IsRegionOf x.origin.opening (reverse d) left.region) e r;
    }

-- what is left of the shard that the seat's lock hands out
pub end_of : {Y : Type 0} (pass : Place) (x : Replicated) (r : Result ShardRecord Y) → pass.view.base ≡ Some x.origin
    → StartsWith x.deeds pass.view.seen → MadeAll pass.view (length x.deeds) → IfOk r (λ left. left.history.deeds ≡ x.deeds)
    → IfOk r (λ left. IsRegionOf x.origin.opening (reverse x.deeds) left.region)
    → OnOk r (IsLawful x.origin.id x.origin.opening (reverse x.deeds)) → OnOk r (IsOfShard x.origin.id (reverse x.deeds))
    → OnOk r (AllByRecursion (NamesMembers x.origin.id) (reverse x.deeds)) → IfOk r (IsEndOf pass)
end_of pass x (Ok left) b k m d e l h n = λ id opening i.
    let same = i x.origin b in
    subst (λ (q : Identity). IsLeftBy q opening pass left) same.0
    (subst (λ (q : ℕ). IsLeftBy x.origin.id q pass left) same.1 (end_here pass x left k m d e l h n))
end_of pass x (Err y) b k m d e l h n = tt
