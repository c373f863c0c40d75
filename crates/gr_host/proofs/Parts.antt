-- How a join is put together of its parts.
use Rattle.std.proofs.Common.{◌≡◌, ◌⊎◌, ℕ, ◌-◌, ◌<◌, ◌==◌, ◌||◌, Bool, true, false, List, [], ◌∷◌, ◌++◌, length, get_or}
use Rattle.std.proofs.Common.{if◌then◌else◌, inl, inr, refl, sym, ap, ◌∙◌, subst, append-nil}
use Rattle.std.specs.Prelude.{flat_map}
use Rattle.std.specs.List.{filter_map}
use Rattle.std.proofs.lemmas.Grind.{flat_map-append}
use Rattle.std.proofs.lemmas.List.Elements.{filter_map-append}
use Rattle.gr_stamp.specs.declared.change.Change.{Change}
use Rattle.gr_history.specs.declared.deed.Deed.{Deed}
use Rattle.gr_history.specs.declared.identity.Identity.{Identity}
use Rattle.gr_history.specs.declared.image.Gift.{Gift}
use Rattle.gr_history.specs.declared.image.Gift.TheVariants as gift_
use Rattle.gr_history.specs.declared.image.What.{What}
use Rattle.gr_law.specs.Grids.{Among}
use Rattle.gr_world.specs.Courses.{what_from}
use Rattle.gr_run_law.specs.Duties.{Joins}
use Rattle.gr_run_law.specs.Threads.{Work, Merged, FitsShards, duty_at, got_from, mail_of, round_of, work_at}
use Rattle.gr_run_law.proofs.Lists.{all_append, true_false}
use Rattle.gr_member.specs.declared.plan.Plan.{Plan}
use Rattle.gr_member.specs.Plans.{identity_of}
use Rattle.gr_member.specs.Seats.{Place, Gives}
use Rattle.gr_session.specs.Steps.{AddsEach}
use Rattle.gr_host.specs.Houses.{IsOther, of_member}
use Rattle.gr_host.specs.Joins.{GivesIf, IsGivenBy, JoinedWhere, changes_in}
use Rattle.gr_host.proofs.Adding.{each_both}

-- ---- by tests

if_both : {A : Type 0} (b c : Bool) (l : List A) → (b ≡ true → c ≡ false)
    → (if b then l else []) ++ (if c then l else []) ≡ (if b || c then l else [])
if_both true true l apart = absurd (true_false (apart refl))
if_both true false l apart = append-nil l
if_both false c l apart = refl

changes_both : (b c : Bool) (x y : Gift) → (b ≡ true → c ≡ false)
    → (if b then changes_in x else []) ++ (if c then changes_in y else []) ≡ (if b || c then changes_in (if b then x else y) else [])
changes_both true true x y apart = absurd (true_false (apart refl))
changes_both true false x y apart = append-nil (changes_in x)
changes_both false c x y apart = refl

gives_both : (b c : Bool) (id : Identity) (opening : ℕ) (s : Place) (to : ℕ) (what : What) (x y : Gift) (m t : Place)
    → (b ≡ true → c ≡ false) → GivesIf b id opening s to what x m → GivesIf c id opening m to what y t
    → GivesIf (b || c) id opening s to what (if b then x else y) t
gives_both true true id opening s to what x y m t apart g h = absurd (true_false (apart refl))
gives_both true false id opening s to what x y m t apart g h = subst (Gives id opening s to what x) (sym h) g
gives_both false true id opening s to what x y m t apart g h = subst (λ (z : Place). Gives id opening z to what y t) g h
gives_both false false id opening s to what x y m t apart g h = h ∙ g

left_of : (b c : Bool) (x y : Gift) → b ≡ true → ((if b then x else y) ≡ x) × (b || c ≡ true)
left_of true c x y e = (refl, refl)
left_of false c x y e = absurd (true_false (sym e))

right_of : (b c : Bool) (x y : Gift) → (b ≡ true → c ≡ false) → c ≡ true → ((if b then x else y) ≡ y) × (b || c ≡ true)
right_of true c x y apart e = absurd (true_false (sym e ∙ apart refl))
right_of false c x y apart e = (refl, e)

among_both : {A : Type 0} (x : A) (xs ys : List A) → Among x (xs ++ ys) → Among x xs ⊎ Among x ys
among_both x [] ys a = inr a
among_both x (y ∷ xs) ys (inl is) = inl (inl is)
among_both x (y ∷ xs) ys (inr a) = elim (among_both x xs ys a) [ inl b ↦ inl (inr b) | inr b ↦ inr b ]

-- ---- parts

-- Nothing was due.
pub joined_none : (due : ℕ → ℕ → Bool) (plan : Plan) (from : ℕ) (p : List Place) (v : List (List Place)) → IsOther plan from
    → ((giver shard : ℕ) → IsOther plan giver → shard < plan.shards → due giver shard ≡ false) → JoinedWhere due plan from p p v v
joined_none due plan from p v other none = (
  [],
  record {
    many = refl;
    adds = λ shard s less. refl;
    fits = tt;
    duties = λ shard less.
        ap (λ (b : Bool). if b then Joins from ∷ [] else []) (sym (none from shard other less));
    no_mail = refl;
    no_round = refl;
    givers = tt;
    gift = λ giver shard. gift_.Own [];
    gives = λ giver shard x s o less.
        subst (λ (b : Bool). GivesIf b (identity_of (of_member plan giver) shard) plan.floor (get_or (get_or v (giver - 1) x) shard s)
        plan.member (what_from (giver == from)) (gift_.Own []) (get_or (get_or v (giver - 1) x) shard s))
        (sym (none giver shard o less)) refl;
    unused = λ x. refl;
    got = λ giver shard o less. ap (λ (b : Bool). if◌then◌else◌ {A = List Change} b [] []) (sym (none giver shard o less));
    merged = λ shard image a. absurd a;
  },
)

-- The same was due.
pub joined_same : (due one : ℕ → ℕ → Bool) (plan : Plan) (from : ℕ) (p q : List Place) (v w : List (List Place)) → IsOther plan from
    → ((giver shard : ℕ) → IsOther plan giver → shard < plan.shards → due giver shard ≡ one giver shard)
    → JoinedWhere due plan from p q v w → JoinedWhere one plan from p q v w
joined_same due one plan from p q v w other same j =
    let h = j.1 in (
      j.0,
      record {
        many = h.many;
        adds = h.adds;
        fits = h.fits;
        duties = λ shard less.
            h.duties shard less ∙ ap (λ (b : Bool). if b then Joins from ∷ [] else []) (same from shard other less);
        no_mail = h.no_mail;
        no_round = h.no_round;
        givers = h.givers;
        gift = h.gift;
        gives = λ giver shard x s o less.
            subst (λ (b : Bool). GivesIf b (identity_of (of_member plan giver) shard) plan.floor
            (get_or (get_or v (giver - 1) x) shard s) plan.member (what_from (giver == from)) (h.gift giver shard)
            (get_or (get_or w (giver - 1) x) shard s)) (same giver shard o less) (h.gives giver shard x s o less);
        unused = h.unused;
        got = λ giver shard o less.
            h.got giver shard o less
            ∙ ap (λ (b : Bool). if b then changes_in (h.gift giver shard) else []) (same giver shard o less);
        merged = λ shard image a.
            let m = h.merged shard image a in (m.0, m.1, sym (same from shard other m.0) ∙ m.2);
      },
    )

-- One part after the other, where nothing is due in both.
pub joined_both : (one two : ℕ → ℕ → Bool) (plan : Plan) (from : ℕ) (p m q : List Place) (v u w : List (List Place)) → IsOther plan from
    → length p ≡ plan.shards
    → ((giver shard : ℕ) → IsOther plan giver → shard < plan.shards → one giver shard ≡ true → two giver shard ≡ false)
    → JoinedWhere one plan from p m v u → JoinedWhere two plan from m q u w
    → JoinedWhere (λ giver shard. one giver shard || two giver shard) plan from p q v w
joined_both one two plan from p m q v u w other long apart i j =
    let a = i.1 in
    let b = j.1 in (
      i.0 ++ j.0,
      record {
        many = b.many ∙ a.many;
        adds = λ shard s less.
            subst (λ (l : List Deed). AddsEach (get_or p shard s) l (get_or q shard s))
            (sym (flat_map-append (work_at plan.shards shard) i.0 j.0))
            (each_both (get_or p shard s) (get_or m shard s) (get_or q shard s) (flat_map (work_at plan.shards shard) i.0)
            (flat_map (work_at plan.shards shard) j.0) (a.adds shard s less) (b.adds shard s less));
        fits = all_append (FitsShards plan.shards) i.0 j.0 a.fits b.fits;
        duties = λ shard less.
            joined (duty_at shard) i.0 j.0 _ _ (a.duties shard less) (b.duties shard less)
            ∙ if_both (one from shard) (two from shard) (Joins from ∷ []) (apart from shard other less);
        no_mail = joined mail_of i.0 j.0 [] [] a.no_mail b.no_mail;
        no_round = joined round_of i.0 j.0 [] [] a.no_round b.no_round;
        givers = all_append (IsGivenBy plan) i.0 j.0 a.givers b.givers;
        gift = λ giver shard. if one giver shard then a.gift giver shard else b.gift giver shard;
        gives = λ giver shard x s o less.
            gives_both (one giver shard) (two giver shard) (identity_of (of_member plan giver) shard) plan.floor
            (get_or (get_or v (giver - 1) x) shard s) plan.member (what_from (giver == from)) (a.gift giver shard) (b.gift giver shard)
            (get_or (get_or u (giver - 1) x) shard s) (get_or (get_or w (giver - 1) x) shard s) (apart giver shard o less)
            (a.gives giver shard x s o less) (b.gives giver shard x s o less);
        unused = λ x. b.unused x ∙ a.unused x;
        got = λ giver shard o less.
            joined (got_from plan.shards shard giver) i.0 j.0 _ _ (a.got giver shard o less) (b.got giver shard o less)
            ∙ changes_both (one giver shard) (two giver shard) (a.gift giver shard) (b.gift giver shard) (apart giver shard o less);
        merged = λ shard image among.
            elim (among_both (Merged shard image) i.0 j.0 among) [
              | inl x ↦
                  let n = a.merged shard image x in
                  let l = left_of (one from shard) (two from shard) (a.gift from shard) (b.gift from shard) n.2 in
                  (n.0, l.0 ∙ n.1, l.1)
              | inr x ↦
                  let n = b.merged shard image x in
                  let r = right_of (one from shard) (two from shard) (a.gift from shard) (b.gift from shard)
                  (apart from shard other n.0) n.2 in
                  (n.0, r.0 ∙ n.1, r.1)
            ];
      },
    )
  where
    joined : {B : Type 0} (f : Work → _) (xs ys : List Work) (ls rs : List B) → filter_map f xs ≡ ls → filter_map f ys ≡ rs
        → filter_map f (xs ++ ys) ≡ ls ++ rs
    joined f xs ys ls rs d e = filter_map-append f xs ys ∙ ap (λ l. l ++ filter_map f ys) d ∙ ap (λ r. ls ++ r) e
