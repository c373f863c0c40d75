-- Marks of senders, and mails that are taken.
use Rattle.std.proofs.Common.{◌≡◌, ◌≢◌, ℕ, ◌<◌, ◌==◌, ◌||◌, ◌&&◌, Bool, true, false, List, [], ◌∷◌, ◌++◌, length, get_or, set, cond}
use Rattle.std.proofs.Common.{refl, sym, ap, ◌∙◌, subst, arith, append-nil, append_assoc, eqb-true}
use Rattle.std.specs.List.{AllByRecursion}
use Rattle.std.proofs.lemmas.List.{get_or-set_same, get_or-set_other, length-set}
use mathlib.Core.Logic.{dite}
use native.Mathlib.Decide.{ℕ_discrete}
use Rattle.gr_post.specs.declared.mail.Mail.{Mail}
use Rattle.gr_post.specs.declared.mail.Mail.TheVariants.{Change, Report, End}
use Rattle.gr_post.specs.declared.mail.Posted.{Posted}
use Rattle.gr_post.specs.Mails.{of, is_end, has_end}
use Rattle.gr_post.specs.Passes.{Taking, taken_by}
use Rattle.gr_run_law.proofs.Lists.{all_append, same_number}
use Rattle.gr_host.specs.Ends.{AreEnds}
use Rattle.gr_host.specs.Mails.{TakesMore, TakesOne}

or_nothing : (b : Bool) → (b || false) ≡ b
or_nothing true = refl
or_nothing false = refl

-- whether there is an End of a sender, where one mail more was taken
end_last : (k : ℕ) (taken : List Posted) (one : Posted)
    → has_end (of k (taken ++ one ∷ [])) ≡ (has_end (of k taken) || ((one.from == k) && is_end one.mail))
end_last k [] one = at_test (one.from == k)
  where
    at_test : (b : Bool) → has_end (cond b (one.mail ∷ []) []) ≡ (b && is_end one.mail)
    at_test true = or_nothing (is_end one.mail)
    at_test false = refl
end_last k (m ∷ taken) one = at_test (m.from == k) (end_last k taken one)
  where
    assoc : (a b c : Bool) → (a || (b || c)) ≡ ((a || b) || c)
    assoc true b c = refl
    assoc false b c = refl

    at_test : (b : Bool) → has_end (of k (taken ++ one ∷ [])) ≡ (has_end (of k taken) || ((one.from == k) && is_end one.mail))
        → has_end (cond b (m.mail ∷ of k (taken ++ one ∷ [])) (of k (taken ++ one ∷ [])))
        ≡ (has_end (cond b (m.mail ∷ of k taken) (of k taken)) || ((one.from == k) && is_end one.mail))
    at_test true e = ap (λ (c : Bool). is_end m.mail || c) e
        ∙ assoc (is_end m.mail) (has_end (of k taken)) ((one.from == k) && is_end one.mail)
    at_test false e = e

and_never : (a b : Bool) → b ≡ false → (a && b) ≡ false
and_never true b e = e
and_never false b e = refl

or_always : (a : Bool) → (a || true) ≡ true
or_always true = refl
or_always false = refl

-- a mail that isn't an End
ends_other : (n : ℕ) (taken : List Posted) (ended : List Bool) (one : Posted) → is_end one.mail ≡ false → AreEnds n taken ended
    → AreEnds n (taken ++ one ∷ []) ended
ends_other n taken ended one none a = record {
  many = a.many;
  each = λ k b less. a.each k b less
      ∙ sym (end_last k taken one ∙ ap (λ (c : Bool). has_end (of k taken) || c) (and_never (one.from == k) (is_end one.mail) none)
      ∙ or_nothing (has_end (of k taken)));
}

-- an End
pub ends_marked : (n : ℕ) (taken : List Posted) (ended : List Bool) (one : Posted) → is_end one.mail ≡ true → one.from < n
    → AreEnds n taken ended → AreEnds n (taken ++ one ∷ []) (set ended one.from true)
ends_marked n taken ended one is less a = record {
  many = length-set ended one.from true ∙ a.many;
  each = λ k b below. dite (ℕ_discrete k one.from) (here k b) (other k b below);
}
  where
    here : (k : ℕ) (b : Bool) → k ≡ one.from → get_or (set ended one.from true) k b ≡ has_end (of k (taken ++ one ∷ []))
    here k b e =
        let many = a.many in
        let there : one.from < length ended = omega arith in
        ap (λ (i : ℕ). get_or (set ended one.from true) i b) e ∙ get_or-set_same ended one.from true b there
        ∙ sym (end_last k taken one
        ∙ ap (λ (c : Bool). has_end (of k taken) || (c && is_end one.mail)) (ap (λ (i : ℕ). one.from == i) e ∙ same_number one.from)
        ∙ ap (λ (c : Bool). has_end (of k taken) || c) is ∙ or_always (has_end (of k taken)))

    not_it : (k : ℕ) → k ≢ one.from → (one.from == k) ≡ false
    not_it k apart = at_test (one.from == k) refl
      where
        at_test : (b : Bool) → (one.from == k) ≡ b → b ≡ false
        at_test true e = absurd (apart (sym (eqb-true one.from k e)))
        at_test false e = refl

    other : (k : ℕ) (b : Bool) → k < n → k ≢ one.from
        → get_or (set ended one.from true) k b ≡ has_end (of k (taken ++ one ∷ []))
    other k b below apart = get_or-set_other ended one.from k true b apart ∙ a.each k b below
        ∙ sym (end_last k taken one
        ∙ ap (λ (c : Bool). has_end (of k taken) || (c && is_end one.mail)) (not_it k apart)
        ∙ or_nothing (has_end (of k taken)))

pub ends_unmarked : (n : ℕ) (taken : List Posted) (ended : List Bool) (one : Posted) → (one.mail ≡ End → ⊥) → AreEnds n taken ended
    → AreEnds n (taken ++ one ∷ []) ended
ends_unmarked n taken ended one none = ends_other n taken ended one (not_end one.mail none)
  where
    not_end : (mail : Mail) → (mail ≡ End → ⊥) → is_end mail ≡ false
    not_end (Change shard change) none = refl
    not_end (Report shard report) none = refl
    not_end End none = absurd (none refl)

-- ---- what is taken

pub takes_none : (s : Taking) → TakesMore s s []
takes_none s = record { table = refl; senders = refl; met = refl; taken = sym (append-nil s.taken); known = tt }

pub takes_trans : (s t u : Taking) (xs ys : List Posted) → TakesMore s t xs → TakesMore t u ys → TakesMore s u (xs ++ ys)
takes_trans s t u xs ys a b = record {
  table = b.table ∙ a.table;
  senders = b.senders ∙ a.senders;
  met = b.met ∙ a.met;
  taken = b.taken ∙ ap (λ (l : List Posted). l ++ ys) a.taken ∙ append_assoc s.taken xs ys;
  known = all_append (λ (p : Posted). p.from < s.senders) xs ys a.known
      (subst (λ (n : ℕ). AllByRecursion (λ (p : Posted). p.from < n) ys) a.senders b.known);
}

-- a mail that was taken, and whose sender was marked where it is an End
pub ends_taken : (s t : Taking) (mail : Mail) (from : ℕ) (old new : List Bool) → from ≡ t.sender → t ≡ taken_by s t.sender mail
    → AreEnds s.senders s.taken old
    → ((taken : List Posted) → let one : Posted = record { from = from; mail = mail } in
    AreEnds (length old) taken old → AreEnds (length old) (taken ++ one ∷ []) new)
    → AreEnds t.senders t.taken new
ends_taken s t mail from old new of_it is ends marks =
    let one : Posted = record { from = from; mail = mail } in
    let now : t ≡ taken_by s from mail = is ∙ ap (λ (n : ℕ). taken_by s n mail) (sym of_it) in
    subst (λ (x : Taking). AreEnds x.senders x.taken new) (sym now)
    (subst (λ (n : ℕ). AreEnds n (s.taken ++ one ∷ []) new) ends.many
    (marks s.taken (subst (λ (n : ℕ). AreEnds n s.taken old) (sym ends.many) ends)))

pub takes_one : (s t : Taking) (mail : Mail) → t ≡ taken_by s t.sender mail → t.sender < s.senders → TakesOne s mail t
takes_one s t mail is less = (
  t.sender,
  record {
    table = ap (λ (x : Taking). x.table) is;
    senders = ap (λ (x : Taking). x.senders) is;
    met = ap (λ (x : Taking). x.met) is;
    taken = ap (λ (x : Taking). x.taken) is;
    known = (less, tt);
  },
)
