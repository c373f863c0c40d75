-- Takers while they are told what senders sent.
use Rattle.std.proofs.Common.{◌≡◌, ◌≢◌, ℕ, zero, suc, ◌+◌, ◌<◌, ◌≤◌, true, List, [], ◌∷◌, ◌++◌, length, map, get_or, set, refl, sym, ap, ◌∙◌, subst, arith, append-nil, append_assoc}
use Rattle.std.specs.List.{AllByRecursion}
use Rattle.std.proofs.lemmas.List.{get_or-set_same, get_or-set_other}
use mathlib.Core.Logic.{dite}
use native.Mathlib.Decide.{ℕ_discrete}
use Rattle.gr_post.specs.declared.mail.Posted.{Posted}
use Rattle.gr_post.specs.Mails.{IsClosed, has_end, of}
use Rattle.gr_post.specs.Passes.{Ring, Sending, Taking}
use Rattle.gr_runner.specs.Receipts.{AreTaken, IsTaken, IsToldAt, ring_tables, send_tables, take_tables}
use Rattle.gr_member.proofs.Leaving.{empty_of}
use Rattle.gr_runner.proofs.Ends.{at_front, at_last, one_longer}
use Rattle.gr_runner.proofs.Lists.{all_weaker}

module _ {E F : Type 0} where
  -- what f says of the items stays where one is replaced by another of which it says the same
  same_set : (f : E → F) (xs : List E) (n : ℕ) (y : E) → n < length xs → ((d : E) → f y ≡ f (get_or xs n d)) → map f (set xs n y) ≡ map f xs
  same_set f [] n y l same = absurd (omega (arith, l))
  same_set f (x ∷ xs) zero y l same = ap (λ (z : F). z ∷ map f xs) (same y)
  same_set f (x ∷ xs) (suc n) y l same = ap (λ (z : List F). f x ∷ z) (same_set f xs n y (omega (arith, l)) same)

  -- and where it says the same of two lists, it does so of the items at a place
  pub same_at : {G : Type 0} (f : E → F) (g : G → F) (xs : List E) (ys : List G) (k : ℕ) (x : E) (y : G) → map f xs ≡ map g ys
      → k < length xs → f (get_or xs k x) ≡ g (get_or ys k y)
  same_at f g [] ys k x y e l = absurd (omega (arith, l))
  same_at f g (a ∷ xs) [] k x y e l = absurd (no e)
    where
      no : f a ∷ map f xs ≡ [] → ⊥
      no e = cc
  same_at f g (a ∷ xs) (b ∷ ys) zero x y e l = cc
  same_at f g (a ∷ xs) (b ∷ ys) (suc k) x y e l = same_at f g xs ys k x y (tails e) (omega (arith, l))
    where
      tails : f a ∷ map f xs ≡ g b ∷ map g ys → map f xs ≡ map g ys
      tails e = cc

  pub same_many : {G : Type 0} (f : E → F) (g : G → F) (xs : List E) (ys : List G) → map f xs ≡ map g ys → length xs ≡ length ys
  same_many f g [] [] e = refl
  same_many f g [] (b ∷ ys) e = absurd (no e)
    where
      no : [] ≡ g b ∷ map g ys → ⊥
      no e = cc
  same_many f g (a ∷ xs) [] e = absurd (no e)
    where
      no : f a ∷ map f xs ≡ [] → ⊥
      no e = cc
  same_many f g (a ∷ xs) (b ∷ ys) e = ap (λ (n : ℕ). suc n) (same_many f g xs ys (tails e))
    where
      tails : f a ∷ map f xs ≡ g b ∷ map g ys → map f xs ≡ map g ys
      tails e = cc

abbrev pub all_taken : List Taking → List (List Posted)
all_taken takes = map (λ (t : Taking). t.taken) takes

-- one taker is told
told_tables : (at : ℕ) (takes : List Taking) (pass : Sending) (after : List Taking) → IsToldAt at takes pass after
    → take_tables after ≡ take_tables takes
told_tables at takes pass after t =
    ap take_tables t.now ∙ same_set (λ (x : Taking). x.table) takes at t.told t.there (λ d. ap (λ (x : Taking). x.table) (t.met d))

told_taken : (at : ℕ) (takes : List Taking) (pass : Sending) (after : List Taking) → IsToldAt at takes pass after
    → all_taken after ≡ all_taken takes
told_taken at takes pass after t =
    ap all_taken t.now ∙ same_set (λ (x : Taking). x.taken) takes at t.told t.there (λ d. ap (λ (x : Taking). x.taken) (t.met d))

-- What is known of a taker rests on what it took alone.
taken_on : (one two : Taking) (send : Sending) → one.taken ≡ two.taken → IsTaken one send → IsTaken two send
taken_on one two send same is = subst (λ (ps : List Posted). IsClosed send.sent → has_end (of send.number ps) ≡ true
    → of send.number ps ≡ send.sent) same is

pub all_on : (takes after : List Taking) (sends : List Sending) → length sends ≡ length takes → all_taken after ≡ all_taken takes
    → AreTaken takes sends → AreTaken after sends
all_on takes after sends many same are k t s l =
    taken_on (get_or takes k t) (get_or after k t) (get_or sends k s)
    (sym (same_at (λ (x : Taking). x.taken) (λ (x : Taking). x.taken) after takes k t t same
    (let long = same_many (λ (x : Taking). x.taken) (λ (x : Taking). x.taken) after takes same in omega (arith, l, many, long)))) (are k t s l)

-- ---- one sender

-- These passes are left, the others were ended.
pub record ToldUpto (takes now : List Taking) (sends left : List Sending) : Type 0 where
  pub tables : take_tables now ≡ take_tables takes
  pub taken : all_taken now ≡ all_taken takes
  pub fewer : length left ≤ length sends
  pub front : (k : ℕ) (s : Sending) → k < length left → get_or left k s ≡ get_or sends k s
  pub told : (k : ℕ) (t : Taking) (s : Sending) → length left ≤ k → k < length sends → IsTaken (get_or now k t) (get_or sends k s)

pub told_none : (takes : List Taking) (sends : List Sending) → ToldUpto takes takes sends sends
told_none takes sends = record {
  tables = refl;
  taken = refl;
  fewer = omega arith;
  front = λ k s l. refl;
  told = λ k t s low high. absurd (omega (arith, low, high));
}

pub told_more : (takes now after : List Taking) (sends left less : List Sending) (pass : Sending) → ToldUpto takes now sends left
    → left ≡ less ++ pass ∷ [] → IsToldAt (length less) now pass after → ToldUpto takes after sends less
told_more takes now after sends left less pass u e t = record {
  tables = told_tables (length less) now pass after t ∙ u.tables;
  taken = told_taken (length less) now pass after t ∙ u.taken;
  fewer = let few = u.fewer in omega (arith, few, long);
  front = λ k s l. sym (at_front left less pass k s e l) ∙ u.front k s (omega (arith, l, long));
  told = λ k x s low high. dite (ℕ_discrete k (length less)) (here k x s) (before k x s low high);
}
  where
    long : length left ≡ length less + 1
    long = one_longer left less pass e

    here : (k : ℕ) (x : Taking) (s : Sending) → k ≡ length less → IsTaken (get_or after k x) (get_or sends k s)
    here k x s is =
        let its : get_or sends (length less) s ≡ pass =
        sym (u.front (length less) s (omega (arith, long))) ∙ at_last left less pass (length less) s e refl in
        let told : get_or after (length less) x ≡ t.told =
        ap (λ (z : List Taking). get_or z (length less) x) t.now ∙ get_or-set_same now (length less) t.told x t.there in
        subst (λ (i : ℕ). IsTaken (get_or after i x) (get_or sends i s)) (sym is)
        (subst (λ (z : Taking). IsTaken z (get_or sends (length less) s)) (sym told)
        (subst (IsTaken t.told) (sym its) t.whole))

    before : (k : ℕ) (x : Taking) (s : Sending) → length less ≤ k → k < length sends → k ≢ length less
        → IsTaken (get_or after k x) (get_or sends k s)
    before k x s low high ne =
        subst (λ (z : Taking). IsTaken z (get_or sends k s))
        (sym (ap (λ (z : List Taking). get_or z k x) t.now ∙ get_or-set_other now (length less) k t.told x ne))
        (u.told k x s (omega (arith, low, ne, long)) high)

-- The last pass that is left is of the inbox at its place, as the taker there.
pub told_there : (rings : List Ring) (takes now : List Taking) (sends left less : List Sending) (pass : Sending)
    → take_tables takes ≡ ring_tables rings → send_tables sends ≡ ring_tables rings → ToldUpto takes now sends left
    → left ≡ less ++ pass ∷ []
    → ((t : Taking) (r : Ring) → (get_or now (length less) t).table ≡ (get_or rings (length less) r).table)
    × ((r : Ring) → pass.table ≡ (get_or rings (length less) r).table)
told_there rings takes now sends left less pass taking sending u e = (
  λ t r. same_at (λ (x : Taking). x.table) (λ (x : Ring). x.table) now rings (length less) t r (u.tables ∙ taking) (omega (arith, there, all)),
  λ r.
      ap (λ (s : Sending). s.table) (sym (at_last left less pass (length less) pass e refl) ∙ u.front (length less) pass (omega (arith, long)))
      ∙ same_at (λ (x : Sending). x.table) (λ (x : Ring). x.table) sends rings (length less) pass r sending there,
)
  where
    long : length left ≡ length less + 1
    long = one_longer left less pass e

    there : length less < length sends
    there = let few = u.fewer in omega (arith, few, long)

    all : length now ≡ length sends
    all = same_many (λ (x : Taking). x.table) (λ (x : Ring). x.table) now rings (u.tables ∙ taking)
        ∙ sym (same_many (λ (x : Sending). x.table) (λ (x : Ring). x.table) sends rings sending)

pub told_all : (takes now : List Taking) (sends left : List Sending) → ToldUpto takes now sends left → length left ≡ 0 → AreTaken now sends
told_all takes now sends left u none k t s l = u.told k t s (omega (arith, none)) l

-- ---- all senders

-- These senders are left, and of the others all is known.
pub record AllToldUpto (takes now : List Taking) (sends left : List (List Sending)) : Type 0 where
  pub tables : take_tables now ≡ take_tables takes
  pub taken : all_taken now ≡ all_taken takes
  pub done : List (List Sending)
  pub parts : sends ≡ left ++ done
  pub told : AllByRecursion (AreTaken now) done

pub all_told_none : (takes : List Taking) (sends : List (List Sending)) → AllToldUpto takes takes sends sends
all_told_none takes sends = record { tables = refl; taken = refl; done = []; parts = sym (append-nil sends); told = tt }

each_on : (takes after : List Taking) (done : List (List Sending)) → AllByRecursion (λ (s : List Sending). length s ≡ length takes) done
    → all_taken after ≡ all_taken takes → AllByRecursion (AreTaken takes) done → AllByRecursion (AreTaken after) done
each_on takes after [] many same are = tt
each_on takes after (s ∷ done) many same are = (all_on takes after s many.0 same are.0, each_on takes after done many.1 same are.1)

pub all_told_more : (rings : List Ring) (takes now after : List Taking) (sends left less : List (List Sending)) (own : List Sending)
    → take_tables takes ≡ ring_tables rings → AllByRecursion (λ (s : List Sending). send_tables s ≡ ring_tables rings) sends
    → AllToldUpto takes now sends left → left ≡ less ++ own ∷ [] → take_tables after ≡ take_tables now → all_taken after ≡ all_taken now
    → AreTaken after own → AllToldUpto takes after sends less
all_told_more rings takes now after sends left less own taking sending u e tables taken are = record {
  tables = tables ∙ u.tables;
  taken = taken ∙ u.taken;
  done = own ∷ u.done;
  parts = u.parts ∙ ap (λ (z : List (List Sending)). z ++ u.done) e ∙ append_assoc less (own ∷ []) u.done;
  told = (are, each_on now after u.done long taken u.told);
}
  where
    back : (xs ys : List (List Sending)) → AllByRecursion (λ (s : List Sending). send_tables s ≡ ring_tables rings) (xs ++ ys)
        → AllByRecursion (λ (s : List Sending). send_tables s ≡ ring_tables rings) ys
    back [] ys all = all
    back (x ∷ xs) ys all = back xs ys all.1

    long : AllByRecursion (λ (s : List Sending). length s ≡ length now) u.done
    long = all_weaker (λ (s : List Sending). send_tables s ≡ ring_tables rings) (λ (s : List Sending). length s ≡ length now)
        (λ s same. same_many (λ (x : Sending). x.table) (λ (x : Ring). x.table) s rings same
        ∙ sym (same_many (λ (x : Taking). x.table) (λ (x : Ring). x.table) now rings (u.tables ∙ taking))) u.done
        (back left u.done (subst (AllByRecursion (λ (s : List Sending). send_tables s ≡ ring_tables rings)) u.parts sending))

pub all_told : (takes now : List Taking) (sends left : List (List Sending)) → AllToldUpto takes now sends left → length left ≡ 0
    → AllByRecursion (AreTaken now) sends
all_told takes now sends left u none =
    subst (AllByRecursion (AreTaken now)) (sym (u.parts ∙ ap (λ (z : List (List Sending)). z ++ u.done) (empty_of left none))) u.told
