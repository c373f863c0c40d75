-- How often the plan releases each mail.
use Rattle.std.proofs.Common.{◌≡◌, ◌+◌, ◌-◌, ◌/◌, ◌%◌, ◌==◌, ◌||◌, ℕ, Bool, true, false, true≢false, cond, List, []}
use Rattle.std.proofs.Common.{◌∷◌, ◌++◌, length, filter, map, sym, refl, ap, ◌∙◌, append_assoc, arith, if◌then◌else◌, eqb-true}
use Rattle.gr_post.specs.declared.mail.Mail.{Mail}
use Rattle.gr_post.specs.declared.mail.Mail.TheVariants.{End}
use Rattle.gr_post.specs.declared.mail.Posting.{Posting}
use Rattle.gr_post.specs.declared.fate.Held.{Held}
use Rattle.gr_post.specs.declared.fate.Fate.{Fate}
use Rattle.gr_post.specs.declared.fate.Fate.TheVariants.{Once, Twice, Hold, Last}
use Rattle.gr_post.specs.Mails.{is_end, has_end, IsClosed}
use Rattle.gr_post.specs.Plan.{Draw, is_named, number_before, number_after, draws, fate, mails, due, kept, released_by, held_by, held, released, delivered}
use Rattle.gr_post.specs.Laws.{times, owed, DeliversEach}
use Rattle.gr_value.specs.Drawing.{drawn}

abbrev count : (Mail → Bool) → List Mail → ℕ
count test xs = length (filter test xs)

abbrev bit : Bool → ℕ
bit b = if b then 1 else 0

count_cons : (test : Mail → Bool) (x : Mail) (xs : List Mail) → count test (x ∷ xs) ≡ bit (test x) + count test xs
count_cons test x xs = elim (test x) as (λ b. length (cond b (x ∷ filter test xs) (filter test xs)) ≡ bit b + count test xs)
    [ true ↦ omega arith | false ↦ omega arith ]

count_append : (test : Mail → Bool) (xs ys : List Mail) → count test (xs ++ ys) ≡ count test xs + count test ys
count_append test [] ys = omega arith
count_append test (x ∷ xs) ys =
    let a = count_cons test x (xs ++ ys) in
    let b = count_cons test x xs in
    let c = count_append test xs ys in
    omega arith

mails-append : (xs ys : List Held) → mails (xs ++ ys) ≡ mails xs ++ mails ys
mails-append [] ys = refl
mails-append (x ∷ xs) ys = ap (λ l. x.mail ∷ l) (mails-append xs ys)

-- what is due and what is kept is all that was held
due_or_kept : (test : Mail → Bool) (hs : List Held) → count test (due hs) + count test (mails (kept hs)) ≡ count test (mails hs)
due_or_kept test [] = omega arith
due_or_kept test (h ∷ hs) =
    let a = count_cons test h.mail (mails hs) in
    let b = count_cons test h.mail (due hs) in
    let c = count_cons test h.mail (mails (kept hs)) in
    let d = due_or_kept test hs in
    let one : Held = record h { left = h.left - 1 } in
    elim (h.left == 1) as (λ t. count test (if t then h.mail ∷ due hs else due hs) + count test
    (mails (if t then kept hs else one ∷ kept hs))
    ≡ count test (mails (h ∷ hs))) [ true ↦ omega arith | false ↦ omega arith ]

-- how many mails that pass the test a fate brings
abbrev brings : (Mail → Bool) → Fate → ℕ
brings test (Once mail) = bit (test mail)
brings test (Twice mail copy) = bit (test mail) + bit (test copy)
brings test (Hold one) = bit (test one.mail)
brings test Last = bit (test End)

fate_counts : (test : Mail → Bool) (f : Fate) (hs : List Held)
    → count test (released_by f hs) + count test (mails (held_by f hs)) ≡ brings test f + count test (mails hs)
fate_counts test (Once mail) hs =
    let a = count_cons test mail (due hs) in
    let d = due_or_kept test hs in
    omega arith
fate_counts test (Twice mail copy) hs =
    let a = count_cons test mail (copy ∷ due hs) in
    let b = count_cons test copy (due hs) in
    let d = due_or_kept test hs in
    omega arith
fate_counts test (Hold one) hs =
    let a = ap (count test) (mails-append (kept hs) (one ∷ [])) in
    let b = count_append test (mails (kept hs)) (one.mail ∷ []) in
    let c = count_cons test one.mail [] in
    let d = due_or_kept test hs in
    omega arith
fate_counts test Last hs =
    let b = count_append test (mails hs) (End ∷ []) in
    let c = count_cons test End [] in
    omega arith

not_one : (r : ℕ) → (r == 0) ≡ true → (r == 1) ≡ false
not_one r e = ap (λ (n : ℕ). n == 1) (eqb-true r 0 e)

-- a fate brings its mail as often as its number says
brings_times : (test : Mail → Bool) (mail : Mail) (x : ℕ) → brings test (fate mail x) ≡ (if test mail then times x else 0)
brings_times test mail x = by (x % 4 == 0) (x % 4 == 1) (x % 4 == 2) (not_one (x % 4)) (test mail) refl
  where
    by : (a b c : Bool) → (a ≡ true → b ≡ false) → (t : Bool) → test mail ≡ t
        → brings test (if a then Once mail else if b then Twice mail mail else if c then Hold
        (record { mail = mail; left = 1 + x / 4 % 8 })
        else Hold (record { mail = mail; left = 0 })) ≡ (if t then (if b then 2 else 1) else 0)
    by true true c apart t e = absurd (true≢false (apart refl))
    by true false c apart true e = ap bit e
    by true false c apart false e = ap bit e
    by false true c apart true e = ap (λ (u : Bool). bit u + bit u) e
    by false true c apart false e = ap (λ (u : Bool). bit u + bit u) e
    by false false true apart true e = ap bit e
    by false false true apart false e = ap bit e
    by false false false apart true e = ap bit e
    by false false false apart false e = ap bit e

all_count : (test : Mail → Bool) (ds : List Draw) → count test (released ds ++ mails (held ds)) ≡ owed test ds
all_count test [] = refl
all_count test (d ∷ past) =
    let f = fate d.mail d.number in
    let more = released_by f (held past) in
    let a = count_append test (released past ++ more) (mails (held_by f (held past))) in
    let b = count_append test (released past) more in
    let c = count_append test (released past) (mails (held past)) in
    let e = fate_counts test f (held past) in
    let g = brings_times test d.mail d.number in
    let h = all_count test past in
    omega arith

delivered_is : (ds : List Draw) → delivered ds ≡ (released ds ++ mails (held ds)) ++ End ∷ []
delivered_is ds = sym (append_assoc (released ds) (mails (held ds)) (End ∷ []))

pub delivers_each : (ds : List Draw) → DeliversEach ds
delivers_each ds = (released ds ++ mails (held ds), delivered_is ds, λ test. all_count test ds)

or_false : (a b : Bool) → (a || b) ≡ false → (a ≡ false) × (b ≡ false)
or_false true b e = absurd (true≢false e)
or_false false b e = (refl, e)

owed_none : (ds : List Draw) → has_end (map (λ (d : Draw). d.mail) ds) ≡ false → owed is_end ds ≡ 0
owed_none [] e = refl
owed_none (d ∷ ds) e =
    let o = or_false (is_end d.mail) (has_end (map (λ (c : Draw). c.mail) ds)) e in
    let a : owed is_end (d ∷ ds) ≡ 0 + owed is_end ds = ap (λ (b : Bool). (if b then times d.number else 0) + owed is_end ds) o.0 in
    let b = owed_none ds o.1 in
    omega arith

none_has : (xs : List Mail) → count is_end xs ≡ 0 → has_end xs ≡ false
none_has [] e = refl
none_has (x ∷ xs) e = by (is_end x) refl (λ z. none_has xs z)
  where
    by : (b : Bool) → is_end x ≡ b → (count is_end xs ≡ 0 → has_end xs ≡ false) → has_end (x ∷ xs) ≡ false
    by true is rest = let a = count_cons is_end x xs in let b = ap bit is in absurd (omega arith)
    by false is rest = let a = count_cons is_end x xs in let b = ap bit is in ap (λ (t : Bool). t || has_end xs) is ∙ rest (omega arith)

pub ends_once : (ds : List Draw) → has_end (map (λ (d : Draw). d.mail) ds) ≡ false → IsClosed (delivered ds)
ends_once ds e = (
  released ds ++ mails (held ds),
  delivered_is ds,
  none_has (released ds ++ mails (held ds)) (all_count is_end ds ∙ owed_none ds e),
)

pub draws_mails : (n first k : ℕ) (past : List Posting)
    → map (λ (d : Draw). d.mail) (draws n first k past) ≡ map (λ (p : Posting). p.mail) (filter (λ (p : Posting). is_named p.to k) past)
draws_mails n first k [] = refl
draws_mails n first k (p ∷ past) =
    let one : Draw = record { mail = p.mail; number = drawn (number_before (number_after n first past) p.to k) } in
    let rest = draws n first k past in
    let others = filter (λ (q : Posting). is_named q.to k) past in
    elim (is_named p.to k) as (λ b. map (λ (d : Draw). d.mail) (if b then one ∷ rest else rest) ≡ map (λ (q : Posting). q.mail)
    (cond b (p ∷ others) others))
    [ true ↦ ap (λ l. p.mail ∷ l) (draws_mails n first k past) | false ↦ draws_mails n first k past ]
