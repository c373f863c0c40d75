-- What is held back, and the room for it.
use Rattle.std.proofs.Common.{◌≡◌, ◌≢◌, ◌+◌, ◌-◌, ◌≤◌, ◌<◌, ◌==◌, ℕ, Bool, true, false, List, [], ◌∷◌, ◌++◌, length, Option, Some, None}
use Rattle.std.proofs.Common.{slice_index_or, slice_set, sym, refl, ap, ◌∙◌, append_assoc, append-nil, subst, length-append, arith, if◌then◌else◌}
use Rattle.std.proofs.lemmas.Bool.Decides.{nat_tests}
use Rattle.gr_post.specs.declared.fate.Held.{Held}
use Rattle.gr_post.specs.declared.fate.Fate.{Fate}
use Rattle.gr_post.specs.declared.fate.Fate.TheVariants.{Once, Twice, Hold, Last}
use Rattle.gr_post.specs.declared.mail.Mail.{Mail}
use Rattle.gr_post.specs.declared.mail.Mail.TheVariants.{End}
use Rattle.gr_post.specs.Plan.{due, kept, mails, released_by, held_by}
use Rattle.gr_post.specs.Lanes.{Way, Filled, HasRoomFor, at_once, later, to_the_end, settled, settled_by}

pub due-append : (xs ys : List Held) → due (xs ++ ys) ≡ due xs ++ due ys
due-append [] ys = refl
due-append (x ∷ xs) ys = elim (x.left == 1) as (λ b. (if b then x.mail ∷ due (xs ++ ys) else due (xs ++ ys)) ≡
    (if b then x.mail ∷ due xs else due xs) ++ due ys)
    [ true ↦ ap (λ l. x.mail ∷ l) (due-append xs ys) | false ↦ due-append xs ys ]

pub kept-append : (xs ys : List Held) → kept (xs ++ ys) ≡ kept xs ++ kept ys
kept-append [] ys = refl
kept-append (x ∷ xs) ys =
    let one : Held = record x { left = x.left - 1 } in
    elim (x.left == 1) as (λ b. (if b then kept (xs ++ ys) else one ∷ kept (xs ++ ys)) ≡ (if b then kept xs else one ∷ kept xs) ++ kept ys)
    [ true ↦ kept-append xs ys | false ↦ ap (λ l. one ∷ l) (kept-append xs ys) ]

-- What is held to the end isn't due, and stays as it is.
pub due-late : (late : List Mail) → due (to_the_end late) ≡ []
due-late [] = refl
due-late (mail ∷ late) = due-late late

pub kept-late : (late : List Mail) → kept (to_the_end late) ≡ to_the_end late
kept-late [] = refl
kept-late (mail ∷ late) = ap (λ (l : List Held). (record { mail = mail; left = 0 }) ∷ l) (kept-late late)

pub mails-late : (late : List Mail) → mails (to_the_end late) ≡ late
mails-late [] = refl
mails-late (mail ∷ late) = ap (λ (l : List Mail). mail ∷ l) (mails-late late)

pub mails-append : (xs ys : List Held) → mails (xs ++ ys) ≡ mails xs ++ mails ys
mails-append [] ys = refl
mails-append (x ∷ xs) ys = ap (λ (l : List Mail). x.mail ∷ l) (mails-append xs ys)

-- what is due, kept and left behind mails that are held to the end
pub due-behind : (late : List Mail) (held : List Held) → due (to_the_end late ++ held) ≡ due held
due-behind late held = due-append (to_the_end late) held ∙ ap (λ (l : List Mail). l ++ due held) (due-late late)

pub kept-behind : (late : List Mail) (held : List Held) → kept (to_the_end late ++ held) ≡ to_the_end late ++ kept held
kept-behind late held = kept-append (to_the_end late) held ∙ ap (λ (l : List Held). l ++ kept held) (kept-late late)

pub mails-behind : (late : List Mail) (held : List Held) → mails (to_the_end late ++ held) ≡ late ++ mails held
mails-behind late held = mails-append (to_the_end late) held ∙ ap (λ (l : List Mail). l ++ mails held) (mails-late late)

-- One mail more that is held to the end stands behind the others.
pub one-late : (late : List Mail) (one : Held) (held : List Held) → one.left ≡ 0
    → to_the_end (late ++ one.mail ∷ []) ++ held ≡ to_the_end late ++ one ∷ held
one-late [] one held none = ap (λ (n : ℕ). (let first : Held = record { mail = one.mail; left = n } in first) ∷ held) (sym none)
one-late (mail ∷ late) one held none = ap (λ (l : List Held). (record { mail = mail; left = 0 }) ∷ l) (one-late late one held none)

-- with fewer mails waiting there is room still
pub room_less : (fewer waiting late held : Filled) (ready : Option Fate) → fewer.len ≤ waiting.len → fewer.room ≡ waiting.room
    → HasRoomFor waiting late held ready → HasRoomFor fewer late held ready
room_less fewer waiting late held None less same r = omega arith
room_less fewer waiting late held (Some (Once mail)) less same r =
    record { released = (let a = r.released in omega arith); held_back = r.held_back; set_aside = r.set_aside }
room_less fewer waiting late held (Some (Twice mail copy)) less same r =
    record { released = (let a = r.released in omega arith); held_back = r.held_back; set_aside = r.set_aside }
room_less fewer waiting late held (Some (Hold one)) less same r =
    record { released = (let a = r.released in omega arith); held_back = r.held_back; set_aside = r.set_aside }
room_less fewer waiting late held (Some Last) less same r = omega arith

-- one of a list is set, and read
pub read_inside : {A : Type 0} (before : List A) (one d : A) (behind : List A) → slice_index_or (before ++ one ∷ behind) (length before) d ≡ one
read_inside [] one d behind = refl
read_inside (x ∷ before) one d behind = read_inside before one d behind

pub set_inside : {A : Type 0} (before : List A) (one other : A) (behind : List A)
    → slice_set (before ++ one ∷ behind) (length before) other ≡ before ++ other ∷ behind
set_inside [] one other behind = refl
set_inside (x ∷ before) one other behind = ap (λ l. x ∷ l) (set_inside before one other behind)

is_one : (n : ℕ) → (n == 1) ≡ true → n ≡ 1
is_one n e = grind (arith, nat_tests)

other_than_one : (n : ℕ) → n ≢ 1 → (test : Bool) → (n == 1) ≡ test → (n == 1) ≡ false
other_than_one n other true e = absurd (other (is_one n e))
other_than_one n other false e = e

-- what is kept where a mail isn't due, and is counted down
pub counted : (xs before : List Held) (place : ℕ) (one now read : Held) (behind : List Held) (left : ℕ) → xs ≡ before ++ one ∷ behind
    → place ≡ length before → now ≡ slice_index_or xs place now → read ≡ slice_index_or xs place read → read.left ≢ 1
    → left ≡ read.left - 1
    → slice_set xs place (record { mail = now.mail; left = left }) ≡ before ++ (kept (one ∷ []) ++ behind)
counted xs before place one now read behind left is at first second other less =
    let same_now : now ≡ one = first ∙ ap (λ l. slice_index_or l place now) is ∙ ap (λ n. slice_index_or (before ++ one ∷ behind) n now) at
    ∙ read_inside before one now behind in
    let same_read : read ≡ one = second ∙ ap (λ l. slice_index_or l place read) is
    ∙ ap (λ n. slice_index_or (before ++ one ∷ behind) n read) at ∙ read_inside before one read behind in
    let there : Held = record one { left = one.left - 1 } in
    let other_one : (one.left == 1) ≡ false = other_than_one one.left (subst (λ (h : Held). h.left ≢ 1) same_read other) (one.left == 1) refl in
    let made : (let m : Held = record { mail = now.mail; left = left } in m) ≡ there =
    λ i. record { mail = (same_now i).mail; left = (less ∙ ap (λ (h : Held). h.left - 1) same_read) i } in
    ap (λ l. slice_set l place (record { mail = now.mail; left = left })) is
    ∙ ap (λ n. slice_set (before ++ one ∷ behind) n (record { mail = now.mail; left = left })) at
    ∙ set_inside before one (record { mail = now.mail; left = left }) behind ∙ ap (λ (h : Held). before ++ h ∷ behind) made
    ∙ ap (λ (b : Bool). before ++ ((if b then [] else there ∷ []) ++ behind)) (sym other_one)

-- the first of those that are left
pub first_left : (before left : List Held) → length before < length (before ++ left)
    → (one : Held) × (behind : List Held) × (left ≡ one ∷ behind)
first_left before [] less = let n = length-append before [] in absurd (omega arith)
first_left before (one ∷ behind) less = (one, behind, refl)

-- where a mail is to be held back, there is room for it
pub room_later : (waiting late held : Filled) (ready : Option Fate) (fate : Fate) (one : Held) → ready ≡ Some fate → one ∷ [] ≡
    later fate
    → HasRoomFor waiting late held ready → held.len + 1 ≤ held.room
room_later waiting late held ready fate one is has r = by fate has (subst (HasRoomFor waiting late held) is r)
  where
    by : (f : Fate) → one ∷ [] ≡ later f → HasRoomFor waiting late held (Some f) → held.len + 1 ≤ held.room
    by (Once mail) e h = h.held_back
    by (Twice mail copy) e h = h.held_back
    by (Hold one) e h = h.held_back
    by Last e h = absurd (cc)

-- ---- after what was made ready has happened

pub settled_is : (before inside now : Way) (fate : Fate) → inside ≡ before → inside.ready ≡ Some fate → now.pass ≡ inside.pass
    → now.waiting ≡ inside.waiting ++ released_by fate inside.held → now.held ≡ held_by fate inside.held → now.ready ≡ None
    → now ≡ settled before
settled_is before inside now fate is ready pass waiting held none =
    let path : now ≡ settled_by (Some fate) inside = λ i. record { pass = pass i; waiting = waiting i; held = held i; ready = none i } in
    subst (λ (b : Way). now ≡ settled b) is (path ∙ ap (λ (r : Option Fate). settled_by r inside) (sym ready))

-- all that is held back is released, and an End behind it
pub all_released : (waiting late : List Mail) (held : List Held) (between now : List Mail) → between ≡ waiting ++ late
    → now ≡ between ++ (mails held ++ End ∷ []) → now ≡ waiting ++ released_by Last (to_the_end late ++ held)
all_released waiting late held between now first last =
    let ends = mails held ++ End ∷ [] in
    last ∙ ap (λ (l : List Mail). l ++ ends) first ∙ append_assoc waiting late ends
    ∙ ap (λ (l : List Mail). waiting ++ l)
    (sym (append_assoc late (mails held) (End ∷ [])) ∙ ap (λ (l : List Mail). l ++ End ∷ []) (sym (mails-behind late held)))

-- what a mail releases, and what it leaves held back
pub mail_released : (fate : Fate) (late : List Mail) (held : List Held) → fate ≢ Last
    → at_once fate ++ due held ≡ released_by fate (to_the_end late ++ held)
mail_released (Once mail) late held other = ap (λ (l : List Mail). mail ∷ l) (sym (due-behind late held))
mail_released (Twice mail copy) late held other = ap (λ (l : List Mail). mail ∷ copy ∷ l) (sym (due-behind late held))
mail_released (Hold one) late held other = sym (due-behind late held)
mail_released Last late held other = absurd (other refl)

pub mail_held : (fate : Fate) (late : List Mail) (held : List Held) → fate ≢ Last
    → to_the_end late ++ (kept held ++ later fate) ≡ held_by fate (to_the_end late ++ held)
mail_held (Once mail) late held other = ap (λ (l : List Held). to_the_end late ++ l) (append-nil (kept held)) ∙ sym (kept-behind late held)
mail_held (Twice mail copy) late held other =
    ap (λ (l : List Held). to_the_end late ++ l) (append-nil (kept held)) ∙ sym (kept-behind late held)
mail_held (Hold one) late held other =
    sym (append_assoc (to_the_end late) (kept held) (one ∷ [])) ∙ ap (λ (l : List Held). l ++ one ∷ []) (sym (kept-behind late held))
mail_held Last late held other = absurd (other refl)
