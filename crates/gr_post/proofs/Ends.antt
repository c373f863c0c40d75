-- What the taker learns of the senders that it met.
use Rattle.std.proofs.Common.{◌≡◌, ℕ, Bool, true, false, true≢false, ◌||◌, List, [], ◌∷◌, ◌++◌, length, sym, refl, ap, ◌∙◌, subst, arith}
use mathlib.Core.Option.{some}
use lib.ListN.{get_elem?}
use Rattle.crossbeam_queue.proofs.Lists.{at_last}
use Rattle.gr_post.specs.declared.mail.Mail.{Mail}
use Rattle.gr_post.specs.declared.mail.Mail.TheVariants.{End}
use Rattle.gr_post.specs.declared.mail.Posted.{Posted}
use Rattle.gr_post.specs.declared.view.View.{View}
use Rattle.gr_post.specs.declared.view.Met.{Met}
use Rattle.gr_post.specs.Mails.{of, is_end, has_end, IsClosed}
use Rattle.gr_post.specs.Views.{meeting, met_of, Balances, IsMetInOrder}
use Rattle.gr_post.proofs.Lists.{nil_right}
use Rattle.gr_value.specs.Lists.{StartsWith}

-- what was taken of the sender that was met last begins what it sent
pub met_last : (v u : View) (number : ℕ) (w w' : View) → u.from ≡ number → w ≡ meeting v u → w' ≡ w → (items : List Posted)
    → Balances w items → StartsWith u.sent (of number w'.taken)
met_last v u number w w' numbered both same items b =
    let there : get_elem? w.met (length v.met) ≡ some (met_of u) =
    ap (λ (y : View). get_elem? y.met (length v.met)) both ∙ at_last v.met (met_of u) (length v.met) refl in (
      of u.from items,
      b (length v.met) (met_of u) there ∙ ap (λ (y : ℕ × View). of y.0 y.1.taken ++ of u.from items)
          (λ i. (numbered i, sym same i)),
    )

cons_same : (x y : Mail) (xs ys : List Mail) → x ∷ xs ≡ y ∷ ys → (x ≡ y) × (xs ≡ ys)
cons_same x y xs ys e = (cc, cc)

nil_cons : {B : Type 0} (x : Mail) (xs : List Mail) → [] ≡ x ∷ xs → B
nil_cons x xs e = absurd (cc)

or_false : (a b : Bool) → (a || b) ≡ false → (a ≡ false) × (b ≡ false)
or_false true b e = absurd (true≢false e)
or_false false b e = (refl, e)

-- a beginning that has an End is the whole of what an End closes
closed : (first got rest : List Mail) (last : Mail) → has_end first ≡ false → first ++ last ∷ [] ≡ got ++ rest → has_end got ≡ true
    → got ≡ first ++ last ∷ []
closed first [] rest last none e has = absurd (true≢false (sym has))
closed [] (g ∷ []) rest last none e has = ap (λ y. y ∷ []) (sym (cons_same last g [] rest e).0)
closed [] (g ∷ h ∷ hs) rest last none e has = nil_cons h (hs ++ rest) (cons_same last g [] (h ∷ hs ++ rest) e).1
closed (x ∷ xs) (g ∷ gs) rest last none e has =
    let same = cons_same x g (xs ++ last ∷ []) (gs ++ rest) e in
    let x_no = or_false (is_end x) (has_end xs) none in
    let g_no : is_end g ≡ false = ap is_end (sym same.0) ∙ x_no.0 in
    let gs_has : has_end gs ≡ true = ap (λ b. b || has_end gs) (sym g_no) ∙ has in
    ap (λ l. g ∷ l) (closed xs gs rest last x_no.1 same.1 gs_has) ∙ ap (λ y. y ∷ (xs ++ last ∷ [])) (sym same.0)

pub closes : (all got : List Mail) → StartsWith all got → IsClosed all → has_end got ≡ true → got ≡ all
closes all got starts is has = closed is.0 got starts.0 End is.2 (sym is.1 ∙ starts.1) has ∙ sym is.1

-- of all that were met, what was taken begins what was sent, and with an empty ring it is all
pub in_order : (w w' : View) (items : List Posted) → w' ≡ w → Balances w items → IsMetInOrder w'.met w'.taken
in_order w w' items same b = subst (λ (y : View). IsMetInOrder y.met y.taken) (sym same) (λ i m e. (of m.from items, b i m e))

pub all_taken : (w w' : View) (items : List Posted) → w' ≡ w → length items ≡ 0 → Balances w items
    → (i : ℕ) (m : Met) → get_elem? w'.met i ≡ some m → of m.from w'.taken ≡ m.sent
all_taken w w' [] same long b i m e =
    ap (λ (y : View). of m.from y.taken) same ∙ sym (nil_right (of m.from w.taken)) ∙ sym
    (b i m (ap (λ (y : View). get_elem? y.met i) (sym same) ∙ e))
all_taken w w' (x ∷ xs) same long b i m e = absurd (omega arith)
