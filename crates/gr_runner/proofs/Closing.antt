-- Members while they are ended.
use Rattle.std.proofs.Common.{◌≡◌, ℕ, zero, suc, ◌<◌, List, [], ◌∷◌, ◌++◌, length, get_or, refl, sym, ap, ◌∙◌, subst, arith}
use Rattle.std.proofs.Common.{reverse, append-nil, append_assoc}
use Rattle.std.proofs.lemmas.List.{reverse-append}
use Rattle.gr_history.specs.declared.record.MemberRecord.{MemberRecord}
use Rattle.gr_member.specs.Left.{AreLeftBy}
use Rattle.gr_member.specs.Passes.{House, IsPassOf}
use Rattle.gr_member.specs.Seats.{Place}
use Rattle.gr_runner.specs.Ending.{AreEnded, IsOneMore}
use Rattle.gr_host.specs.Houses.{ArePassesOf}
use Rattle.gr_runner.proofs.Ends.{at_front, at_last, one_longer}

-- of the last member and its pass, and of those before them
pub its_last : (all less : List House) (h : House) (passes fewer : List (List Place)) (p : List Place) → ArePassesOf all passes
    → all ≡ less ++ h ∷ [] → passes ≡ fewer ++ p ∷ [] → ArePassesOf less fewer × IsPassOf h p
its_last all less h passes fewer p its e f =
    let long = one_longer all less h e in
    let wide = one_longer passes fewer p f in
    let many = its.many in
    let same : length fewer ≡ length less = omega (arith, long, wide, many) in (
      record {
        many = same;
        each = λ k x y l.
            subst (λ (z : House). IsPassOf z (get_or fewer k y)) (at_front all less h k x e l)
            (subst (IsPassOf (get_or all k x)) (at_front passes fewer p k y f (omega (arith, l, same))) (its.each k x y (omega (arith, l, long))));
      },
      subst (λ (z : House). IsPassOf z p) (at_last all less h (length less) h e refl)
          (subst (IsPassOf (get_or all (length less) h)) (at_last passes fewer p (length less) p f (sym same))
          (its.each (length less) h p (omega (arith, long)))),
    )

-- of each member and its pass the record
abbrev pub Ends : List House → List (List Place) → List MemberRecord → Type 0
Ends [] [] [] = Unit {0}
Ends (h ∷ hs) (p ∷ ps) (r ∷ rs) = AreLeftBy h.plan p r × Ends hs ps rs
Ends _ _ _ = ⊥

-- the members behind those that are left have been ended
pub record EndedSoFar (houses : List House) (passes : List (List Place)) (left : List House) (kept : List (List Place))
    (records : List MemberRecord) : Type 0 where
  pub done : List House
  pub used : List (List Place)
  pub split : houses ≡ left ++ done
  pub parted : passes ≡ kept ++ used
  pub ends : Ends done used (reverse records)

pub ended_none : (houses : List House) (passes : List (List Place)) (records : List MemberRecord) → records ≡ []
    → EndedSoFar houses passes houses passes records
ended_none houses passes records e = record {
  done = [];
  used = [];
  split = sym (append-nil houses);
  parted = sym (append-nil passes);
  ends = subst (λ (r : List MemberRecord). Ends [] [] (reverse r)) (sym e) tt;
}

pub ended_more : (houses left less : List House) (h : House) (passes kept fewer : List (List Place)) (p : List Place)
    (records more : List MemberRecord) → EndedSoFar houses passes left kept records → left ≡ less ++ h ∷ [] → kept ≡ fewer ++ p ∷ []
    → IsOneMore h p records more → EndedSoFar houses passes less fewer more
ended_more houses left less h passes kept fewer p records more s e f o = record {
  done = h ∷ s.done;
  used = p ∷ s.used;
  split = s.split ∙ ap (λ (z : List House). z ++ s.done) e ∙ append_assoc less (h ∷ []) s.done;
  parted = s.parted ∙ ap (λ (z : List (List Place)). z ++ s.used) f ∙ append_assoc fewer (p ∷ []) s.used;
  ends = subst (λ (r : List MemberRecord). Ends (h ∷ s.done) (p ∷ s.used) (reverse r)) (sym o.last)
      (subst (Ends (h ∷ s.done) (p ∷ s.used)) (sym (reverse-append records (o.one ∷ []))) (o.left, s.ends));
}

one_end : (h : House) (hs : List House) (p : List Place) (ps : List (List Place)) (r : MemberRecord) (rs : List MemberRecord)
    → AreLeftBy h.plan p r → AreEnded hs ps rs → (k : ℕ) (x : House) (y : List Place) (z : MemberRecord) → k < suc (length hs)
    → AreLeftBy (get_or (h ∷ hs) k x).plan (get_or (p ∷ ps) k y) (get_or (r ∷ rs) k z)
one_end h hs p ps r rs first rest zero x y z l = first
one_end h hs p ps r rs first rest (suc k) x y z l = rest.each k x y z (omega (arith, l))

ends_each : (hs : List House) (ps : List (List Place)) (rs : List MemberRecord) → Ends hs ps rs → AreEnded hs ps rs
ends_each [] [] [] e = record { many = refl; each = λ k h p r l. absurd (omega (arith, l)) }
ends_each (h ∷ hs) (p ∷ ps) (r ∷ rs) e =
    let rest = ends_each hs ps rs e.1 in
    record { many = ap (λ (n : ℕ). suc n) rest.many; each = one_end h hs p ps r rs e.0 rest }
ends_each [] [] (r ∷ rs) e = absurd e
ends_each [] (p ∷ ps) rs e = absurd e
ends_each (h ∷ hs) [] rs e = absurd e
ends_each (h ∷ hs) (p ∷ ps) [] e = absurd e

pub ended_all : (houses left : List House) (passes kept : List (List Place)) (records : List MemberRecord)
    → EndedSoFar houses passes left kept records → left ≡ [] → kept ≡ [] → AreEnded houses passes (reverse records)
ended_all houses left passes kept records s e f =
    subst (λ (z : List House). AreEnded z passes (reverse records)) (sym (s.split ∙ ap (λ (z : List House). z ++ s.done) e))
    (subst (λ (z : List (List Place)). AreEnded s.done z (reverse records))
    (sym (s.parted ∙ ap (λ (z : List (List Place)). z ++ s.used) f)) (ends_each s.done s.used (reverse records) s.ends))
