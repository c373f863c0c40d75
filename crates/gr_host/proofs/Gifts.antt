-- One gift at one shard is a part of a join.
use Rattle.std.proofs.Common.{◌≡◌, ◌≢◌, ℕ, ◌-◌, ◌<◌, ◌≤◌, ◌==◌, ◌&&◌, Bool, true, false, List, [], ◌∷◌, ◌++◌, length, get_or, set, map}
use Rattle.std.proofs.Common.{if◌then◌else◌, Option, Some, None, inl, inr, refl, sym, ap, ◌∙◌, subst, arith, append-nil, eqb-true, eq-eqb}
use Rattle.std.specs.Prelude.{flat_map}
use Rattle.std.specs.List.{AllByRecursion, filter_map, cons_option}
use Rattle.std.proofs.lemmas.List.{get_or-set_same, get_or-set_other, get_or_read}
use Rattle.std.proofs.lemmas.Bool.Decides.{nat_tests}
use Rattle.gr_value.specs.Shard.{shard_of}
use Rattle.gr_stamp.specs.declared.change.Change.{Change}
use Rattle.gr_history.specs.declared.deed.Deed.{Deed}
use Rattle.gr_history.specs.declared.deed.Deed.TheVariants.{Imaged}
use Rattle.gr_history.specs.declared.identity.Identity.{Identity}
use Rattle.gr_history.specs.declared.image.Gift.{Gift}
use Rattle.gr_history.specs.declared.image.Gift.TheVariants as gift_
use Rattle.gr_history.specs.declared.image.Image.{Image}
use Rattle.gr_history.specs.declared.image.What.{What}
use Rattle.gr_history.specs.declared.verdict.Verdict.{Verdict}
use Rattle.gr_history.specs.Gifts.{IsGiftOf}
use Rattle.gr_law.specs.Grids.{Among}
use Rattle.gr_shard.specs.Merges.{IsGiftFor}
use Rattle.gr_world.specs.Courses.{what_from}
use Rattle.gr_run_law.specs.Duties.{Joins}
use Rattle.gr_run_law.specs.Threads.{Work, GotFrom, Merged, FitsShards, duty_at, got_from, mail_of, round_of, work_at}
use Rattle.gr_run_law.proofs.Lists.{all_map, true_false, same_number}
use Rattle.gr_member.specs.declared.plan.Plan.{Plan}
use Rattle.gr_member.specs.Plans.{identity_of}
use Rattle.gr_member.specs.Seats.{Place, Gives}
use Rattle.gr_member.specs.Passes.{AddsAt, At, StaysAll}
use Rattle.gr_session.specs.Steps.{AddsEach}
use Rattle.gr_host.specs.Houses.{IsOther, of_member}
use Rattle.gr_host.specs.Joins.{GivesIf, IsGivenBy, JoinedWhere, Receives, TakesEach, taken_at}
use Rattle.gr_host.proofs.Adding.{adds_where}
use Rattle.gr_host.proofs.Parts.{joined_none}

-- this giver at this shard alone
abbrev pub just : ℕ → ℕ → ℕ → ℕ → Bool
just giver shard one k = one == giver && k == shard

-- ---- the giver's pass

-- At the shard k of the giver's pass it was given at this shard alone.
gives_here : (id : ℕ → Identity) (opening to shard k : ℕ) (what : What) (gift : Gift) (o r : List Place) (s : Place)
    → At shard (λ s t. Gives (id shard) opening s to what gift t) o r
    → GivesIf (k == shard) (id k) opening (get_or o k s) to what gift (get_or r k s)
gives_here id opening to shard k what gift o r s a = at_test (k == shard) refl
  where
    at_test : (b : Bool) → (k == shard) ≡ b → GivesIf b (id k) opening (get_or o k s) to what gift (get_or r k s)
    at_test true e =
        let same = eqb-true k shard e in
        subst (λ (n : ℕ). Gives (id n) opening (get_or o n s) to what gift (get_or r n s)) (sym same)
        (subst (λ (z : Place). Gives (id shard) opening (get_or o shard s) to what gift z)
        (sym (ap (λ (l : List Place). get_or l shard s) a.now ∙ get_or-set_same o shard a.after s a.there)) (a.turned s))
    at_test false e =
        let apart : k ≢ shard = λ same. true_false (sym (eq-eqb k shard same) ∙ e) in
        ap (λ (l : List Place). get_or l k s) a.now ∙ get_or-set_other o shard k a.after s apart

gives_one : (plan : Plan) (from giver shard : ℕ) (gift : Gift) (v : List (List Place)) (o r : List Place)
    → 1 ≤ giver → giver - 1 < length v → o ≡ get_or v (giver - 1) o
    → At shard (λ s t. Gives (identity_of (of_member plan giver) shard) plan.floor s plan.member (what_from (giver == from)) gift t) o r
    → (one k : ℕ) (x : List Place) (s : Place) → IsOther plan one
    → GivesIf (just giver shard one k) (identity_of (of_member plan one) k) plan.floor (get_or (get_or v (one - 1) x) k s) plan.member
    (what_from (one == from)) gift (get_or (get_or (set v (giver - 1) r) (one - 1) x) k s)
gives_one plan from giver shard gift v o r some less is a one k x s other = at_test (one == giver) refl
  where
    at_test : (b : Bool) → (one == giver) ≡ b
        → GivesIf (b && k == shard) (identity_of (of_member plan one) k) plan.floor (get_or (get_or v (one - 1) x) k s) plan.member
        (what_from (one == from)) gift (get_or (get_or (set v (giver - 1) r) (one - 1) x) k s)
    at_test true e =
        let same = eqb-true one giver e in
        subst (λ (n : ℕ). GivesIf (k == shard) (identity_of (of_member plan n) k) plan.floor (get_or (get_or v (n - 1) x) k s)
        plan.member (what_from (n == from)) gift (get_or (get_or (set v (giver - 1) r) (n - 1) x) k s)) (sym same)
        (subst (λ (l : List Place). GivesIf (k == shard) (identity_of (of_member plan giver) k) plan.floor
        (get_or (get_or v (giver - 1) x) k s) plan.member (what_from (giver == from)) gift (get_or l k s))
        (sym (get_or-set_same v (giver - 1) r x less))
        (subst (λ (l : List Place). GivesIf (k == shard) (identity_of (of_member plan giver) k) plan.floor (get_or l k s) plan.member
        (what_from (giver == from)) gift (get_or r k s)) (get_or_read v (giver - 1) o less is x)
        (gives_here (identity_of (of_member plan giver)) plan.floor plan.member shard k (what_from (giver == from)) gift o r s a)))
    at_test false e =
        let apart : one - 1 ≢ giver - 1 =
        λ same. true_false (sym (eq-eqb one giver (let first = other.some in omega arith)) ∙ e) in
        ap (λ (l : List Place). get_or l k s) (get_or-set_other v (giver - 1) (one - 1) r x apart)

-- The joiner's own visit isn't the giver's.
unused_one : (plan : Plan) (giver : ℕ) (v : List (List Place)) (r : List Place) → 1 ≤ plan.member → IsOther plan giver → (x : List Place)
    → get_or (set v (giver - 1) r) (plan.member - 1) x ≡ get_or v (plan.member - 1) x
unused_one plan giver v r some other x =
    get_or-set_other v (giver - 1) (plan.member - 1) r x
    (λ same. other.other (let first = other.some in omega arith))

-- ---- an image

duty_if : (b c : Bool) (from provider : ℕ) → b ≡ true → provider ≡ from
    → cons_option (if c then Some (Joins provider) else None) [] ≡ (if b && c then Joins from ∷ [] else [])
duty_if true true from provider is same = ap (λ (n : ℕ). Joins n ∷ []) same
duty_if true false from provider is same = refl
duty_if false c from provider is same = absurd (true_false (sym is))

none_if : (b : Bool) (l : List Change) → l ≡ [] → l ≡ (if b then l else [])
none_if true l e = refl
none_if false l e = e

image_from : (giver from opening : ℕ) (past : List Deed) (image : Image) (b : Bool) → (giver == from) ≡ b
    → IsGiftOf giver opening past (what_from b) (gift_.Image image) → (giver ≡ from) × (image.from ≡ giver)
image_from giver from opening past image true e h = (eqb-true giver from e, h.giver_is)
image_from giver from opening past image false e h = absurd h

same_work : (k shard : ℕ) (one image : Image) → Merged k one ≡ Merged shard image → (k ≡ shard) × (one ≡ image)
same_work k shard one image e = (cc, cc)

joined_image : (plan : Plan) (from giver shard : ℕ) (image : Image) (p q : List Place) (v : List (List Place)) (o r : List Place)
    → 1 ≤ plan.member → IsOther plan giver → shard < plan.shards → length p ≡ plan.shards → giver - 1 < length v
    → o ≡ get_or v (giver - 1) o
    → At shard (λ s t. Gives (identity_of (of_member plan giver) shard) plan.floor s plan.member (what_from (giver == from))
    (gift_.Image image) t) o r
    → AddsAt shard p (Imaged image) q → StaysAll p q → JoinedWhere (just giver shard) plan from p q v (set v (giver - 1) r)
joined_image plan from giver shard image p q v o r some other less long below is a adds stays =
    let given = (a.turned (a.after)).given in
    let sources = image_from giver from plan.floor _ image (giver == from) refl given in
    let here : (from == giver) ≡ true = eq-eqb from giver (sym sources.0) in (
      Merged shard image ∷ [],
      record {
        many = stays.many;
        adds = λ k s b.
            subst (λ (l : List Deed). AddsEach (get_or p k s) l (get_or q k s))
            (sym (append-nil (work_at plan.shards k (Merged shard image))))
            (adds_where shard p q (Imaged image) adds k s (omega arith));
        fits = (less, tt);
        duties = λ k b. duty_if (from == giver) (k == shard) from image.from here (sources.1 ∙ sources.0);
        no_mail = refl;
        no_round = refl;
        givers = (tt, tt);
        gift = λ one k. gift_.Image image;
        gives = λ one k x s o b. gives_one plan from giver shard (gift_.Image image) v _ r other.some below is a one k x s o;
        unused = unused_one plan giver v r some other;
        got = λ one k o b. none_if (just giver shard one k) [] refl;
        merged = λ k i among.
            elim among [
              | inl e ↦
                  let same = same_work k shard i image e in (
                    subst (λ (n : ℕ). n < plan.shards) (sym same.0) less,
                    ap gift_.Image (sym same.1),
                    ap (λ (n : ℕ). just giver shard from n) same.0 ∙ ap (λ (x : Bool). x && shard == shard) here ∙ same_number shard,
                  )
              | inr e ↦ absurd e
            ];
      },
    )

-- ---- own changes

-- the work of a change that the giver gave, and of what was told of it
abbrev got : ℕ → Change × Verdict → Work
got giver told = GotFrom giver told.0 told.1

and_swap : (b c : Bool) → (b && c) ≡ (c && b)
and_swap true true = refl
and_swap true false = refl
and_swap false true = refl
and_swap false false = refl

eq_swap : (a b : ℕ) → (a == b) ≡ (b == a)
eq_swap a b = grind (arith, nat_tests)

-- the test of got_from
test_just : (giver shard one k n : ℕ) → n ≡ shard → (k == n && giver == one) ≡ just giver shard one k
test_just giver shard one k n e =
    ap (λ (m : ℕ). k == m && giver == one) e ∙ and_swap (k == shard) (giver == one)
    ∙ ap (λ (b : Bool). b && k == shard) (eq_swap giver one)

some_if : (b : Bool) (c : Change) (l : List Change)
    → cons_option (if b then Some c else None) (if b then l else []) ≡ (if b then c ∷ l else [])
some_if true c l = refl
some_if false c l = refl

each_as : (shards k giver : ℕ) (told : List (Change × Verdict))
    → flat_map (work_at shards k) (map (got giver) told) ≡ flat_map (taken_at shards k) told
each_as shards k giver [] = refl
each_as shards k giver (t ∷ told) = ap (λ (l : List Deed). taken_at shards k t ++ l) (each_as shards k giver told)

none_of : {B : Type 0} (f : Work → Option B) (giver : ℕ) → ((t : Change × Verdict) → f (got giver t) ≡ None)
    → (told : List (Change × Verdict)) → filter_map f (map (got giver) told) ≡ []
none_of f giver none [] = refl
none_of f giver none (t ∷ told) =
    ap (λ (o : Option _). cons_option o (filter_map f (map (got giver) told))) (none t) ∙ none_of f giver none told

got_each : (shards giver shard one k : ℕ) (told : List (Change × Verdict))
    → AllByRecursion (λ (change : Change). shard_of change.key shards ≡ shard) (map (λ (t : Change × Verdict). t.0) told)
    → filter_map (got_from shards k one) (map (got giver) told)
    ≡ (if just giver shard one k then map (λ (t : Change × Verdict). t.0) told else [])
got_each shards giver shard one k [] all = none_if (just giver shard one k) [] refl
got_each shards giver shard one k (t ∷ told) all =
    ap (λ (b : Bool). cons_option (if b then Some t.0 else None) (filter_map (got_from shards k one) (map (got giver) told)))
    (test_just giver shard one k (shard_of t.0.key shards) all.0)
    ∙ ap (cons_option (if just giver shard one k then Some t.0 else None)) (got_each shards giver shard one k told all.1)
    ∙ some_if (just giver shard one k) t.0 (map (λ (t : Change × Verdict). t.0) told)

not_merged : (giver shard : ℕ) (image : Image) (change : Change) (verdict : Verdict) → Merged shard image ≡ GotFrom giver change verdict → ⊥
not_merged giver shard image change verdict e = cc

never_merged : (giver shard : ℕ) (image : Image) (told : List (Change × Verdict)) → Among (Merged shard image) (map (got giver) told) → ⊥
never_merged giver shard image [] a = absurd a
never_merged giver shard image (t ∷ told) (inl e) = not_merged giver shard image t.0 t.1 e
never_merged giver shard image (t ∷ told) (inr a) = never_merged giver shard image told a

own_apart : (giver from opening : ℕ) (past : List Deed) (changes : List Change) (b : Bool) → (giver == from) ≡ b
    → IsGiftOf giver opening past (what_from b) (gift_.Own changes) → (from == giver) ≡ false
own_apart giver from opening past changes true e h = absurd h
own_apart giver from opening past changes false e h = eq_swap from giver ∙ e

joined_own : (plan : Plan) (from giver shard : ℕ) (changes : List Change) (p q : List Place) (v : List (List Place)) (o r : List Place)
    → 1 ≤ plan.member → IsOther plan giver → shard < plan.shards → length p ≡ plan.shards → giver - 1 < length v
    → o ≡ get_or v (giver - 1) o
    → At shard (λ s t. Gives (identity_of (of_member plan giver) shard) plan.floor s plan.member (what_from (giver == from))
    (gift_.Own changes) t) o r
    → TakesEach plan.shards changes p q → JoinedWhere (just giver shard) plan from p q v (set v (giver - 1) r)
joined_own plan from giver shard changes p q v o r some other less long below is a takes =
    let given = a.turned a.after in
    let apart = own_apart giver from plan.floor _ changes (giver == from) refl given.given in
    let told = takes.told in (
      map (got giver) told,
      record {
        many = takes.many;
        adds = λ k s b.
            subst (λ (l : List Deed). AddsEach (get_or p k s) l (get_or q k s)) (sym (each_as plan.shards k giver told))
            (takes.adds k s (omega arith));
        fits = all_map (FitsShards plan.shards) (got giver) (λ t. tt) told;
        duties = λ k b.
            none_of (duty_at k) giver (λ t. refl) told
            ∙ ap (λ (x : Bool). if x && k == shard then Joins from ∷ [] else []) (sym apart);
        no_mail = none_of mail_of giver (λ t. refl) told;
        no_round = none_of round_of giver (λ t. refl) told;
        givers = all_map (IsGivenBy plan) (got giver) (λ t. other) told;
        gift = λ one k. gift_.Own changes;
        gives = λ one k x s o b. gives_one plan from giver shard (gift_.Own changes) v _ r other.some below is a one k x s o;
        unused = unused_one plan giver v r some other;
        got = λ one k o b.
            got_each plan.shards giver shard one k told
            (subst (AllByRecursion (λ (change : Change). shard_of change.key plan.shards ≡ shard)) (sym takes.of_changes) given.fits)
            ∙ ap (λ (l : List Change). if just giver shard one k then l else []) takes.of_changes;
        merged = λ k i among. absurd (never_merged giver k i told among);
      },
    )

-- ---- either

pub joined_gift : (plan : Plan) (from giver shard : ℕ) (gift : Gift) (p q : List Place) (v : List (List Place)) (o r : List Place)
    → 1 ≤ plan.member → IsOther plan giver → shard < plan.shards → length p ≡ plan.shards → giver - 1 < length v
    → o ≡ get_or v (giver - 1) o
    → At shard (λ s t. Gives (identity_of (of_member plan giver) shard) plan.floor s plan.member (what_from (giver == from)) gift t) o r
    → Receives plan.shards shard gift p q → StaysAll p q → JoinedWhere (just giver shard) plan from p q v (set v (giver - 1) r)
joined_gift plan from giver shard (gift_.Image image) p q v o r some other less long below is a h stays =
    joined_image plan from giver shard image p q v o r some other less long below is a h stays
joined_gift plan from giver shard (gift_.Own changes) p q v o r some other less long below is a h stays =
    joined_own plan from giver shard changes p q v o r some other less long below is a h

-- the gift of a member of this plan
pub given_by : (plan there : Plan) (giver shard : ℕ) (what one : What) (gift : Gift) (o r : List Place) → there ≡ of_member plan giver
    → what ≡ one → At shard (λ s t. Gives (identity_of there shard) there.floor s plan.member what gift t) o r
    → At shard (λ s t. Gives (identity_of (of_member plan giver) shard) plan.floor s plan.member one gift t) o r
given_by plan there giver shard what one gift o r same is a =
    subst (λ (w : What). At shard (λ s t. Gives (identity_of (of_member plan giver) shard) plan.floor s plan.member w gift t) o r) is
    (subst (λ (x : Plan). At shard (λ s t. Gives (identity_of x shard) x.floor s plan.member what gift t) o r) same a)

-- The joiner gives itself nothing.
pub joined_self : (plan : Plan) (from giver shard : ℕ) (p : List Place) (v : List (List Place)) → IsOther plan from → giver ≡ plan.member
    → JoinedWhere (just giver shard) plan from p p v v
joined_self plan from giver shard p v other same =
    joined_none (just giver shard) plan from p v other (λ one k o less. at_test one k (one == giver) refl o)
  where
    at_test : (one k : ℕ) (b : Bool) → (one == giver) ≡ b → IsOther plan one → (b && k == shard) ≡ false
    at_test one k true e o = absurd (o.other (eqb-true one giver e ∙ same))
    at_test one k false e o = refl

-- A gift that one shard may be given, the shard of that number of another member may be given.
pub fits_other : (one other : Plan) (shard : ℕ) (gift : Gift) → one.shards ≡ other.shards → IsGiftFor (identity_of one shard) gift
    → IsGiftFor (identity_of other shard) gift
fits_other one other shard (gift_.Image image) same h = record {
  in_order = h.in_order;
  of_shard = subst (λ (n : ℕ). AllByRecursion (λ (row : Change). shard_of row.key n ≡ shard) image.rows) same h.of_shard;
  low = h.low;
}
fits_other one other shard (gift_.Own changes) same h =
    subst (λ (n : ℕ). AllByRecursion (λ (change : Change). shard_of change.key n ≡ shard) changes) same h
