-- A line that is printed is read where it may stand.
use Rattle.std.proofs.Common.{◌≡◌, ℕ, ◌+◌, ◌<◌, ◌≤◌, zero, suc, List, [], ◌∷◌, Bool, true, false, cond}
use Rattle.std.proofs.Common.{ltb}
use Rattle.std.proofs.Common.{not, ◌&&◌, Option, Some, None, Result, Ok, refl, ap, ◌∙◌, arith}
use Rattle.std.specs.Option.{ok_or}
use Rattle.std.proofs.lemmas.Bool.{or_from, le-ltb, ne_eqb}
use Rattle.gr_script.specs.declared.forms.LineKind.{LineKind}
use Rattle.gr_script.specs.declared.items.Item.{Item}
use Rattle.gr_script.specs.declared.reason.Reason.{Reason}
use Rattle.gr_script.specs.declared.reason.Reason.TheVariants as reason
use Rattle.gr_script.specs.declared.saying.Saying.{Saying}
use Rattle.gr_script.specs.Cuts.{text_said, is_skipped}
use Rattle.gr_script.specs.Fields.{fits, form_of}
use Rattle.gr_script.specs.Forms.{fields, rank}
use Rattle.gr_script.specs.Halts.{◌>>=◌, unless}
use Rattle.gr_script.specs.Items.{items_at}
use Rattle.gr_script.specs.Past.{setting, stage}
use Rattle.gr_script.specs.Printing.{saying_text}
use Rattle.gr_script.specs.Refusals.{lacks, is_replayed, is_missing, is_full, tests, refusal, unless_refused, form_at}
use Rattle.gr_script.specs.Refusals.{saying_at, past_with}
use Rattle.gr_script.specs.Rules.{IsWithin}
use Rattle.gr_script.specs.Suiting.{AllSuit}
use Rattle.gr_script.proofs.PrintedLines.{read_back}

pub record Accepts (past : List Saying) (saying : Saying) : Type 0 where
  pub suit : AllSuit (setting past) (fields saying.kind) saying.items
  pub due : lacks (stage past) (saying_text saying) ≡ false
  pub order : ltb (rank saying.kind) (stage past) ≡ false
  pub passes : refusal (tests past saying.kind saying.items) ≡ None

-- ---- what is accepted is read

form_read : (runs : Bool) (past : List Saying) (saying : Saying) → (runs && is_replayed saying.kind) ≡ false → Accepts past saying
    → form_at runs (stage past) (saying_text saying) ≡ Ok saying.kind
form_read runs past saying quiet is =
    let text = saying_text saying in
    let kind = saying.kind in
    let back = read_back (setting past) saying is.suit in
    let ordered : LineKind → Result LineKind Reason = λ form. unless (ltb (rank form) (stage past)) reason.Order form >>= λ form.
    unless (not (fits (fields form) text)) reason.Fields form in
    let named : List ℕ → Result LineKind Reason = λ t. ok_or (form_of t) reason.Word >>= λ form.
    unless (runs && is_replayed form) reason.NotInRun form >>= λ form. unless (ltb (rank form) (stage past)) reason.Order form >>= λ form.
    unless (not (fits (fields form) t)) reason.Fields form in
    ap (λ (test : Bool). unless test (reason.Header (stage past + 1)) text >>= named) is.due
    ∙ ap (λ (form : Option LineKind). ok_or form reason.Word >>= λ form. unless
    (runs && is_replayed form) reason.NotInRun form >>= ordered)
    back.form
    ∙ ap (λ (test : Bool). unless test reason.NotInRun kind >>= ordered) quiet
    ∙ ap (λ (test : Bool). unless test reason.Order kind >>= λ form. unless (not (fits (fields form) text)) reason.Fields form) is.order
    ∙ ap (λ (test : Bool). unless (not test) reason.Fields kind) back.fit

saying_read : (runs : Bool) (past : List Saying) (saying : Saying) → (runs && is_replayed saying.kind) ≡ false → Accepts past saying
    → saying_at runs past (saying_text saying) ≡ Ok saying
saying_read runs past saying quiet is =
    let text = saying_text saying in
    let back = read_back (setting past) saying is.suit in
    let with_items : LineKind → Result (List Item) Reason → Result Saying Reason = λ form found. found >>= λ items.
    unless_refused (refusal (tests past form items)) (record { kind = form; items = items }) in
    ap (λ (form : Result LineKind Reason). form >>= λ form. with_items form (items_at (setting past) (fields form) text))
    (form_read runs past saying quiet is)
    ∙ ap (with_items saying.kind) back.read
    ∙ ap (λ (why : Option Reason). unless_refused why saying) is.passes

pub past_read : (runs : Bool) (past : List Saying) (saying : Saying) → (runs && is_replayed saying.kind) ≡ false → Accepts past saying
    → past_with runs past (saying_text saying) ≡ Ok (saying ∷ past)
past_read runs past saying quiet is =
    let text = saying_text saying in
    let back = read_back (setting past) saying is.suit in
    let with : Bool → Result Saying Reason → Result (List Saying) Reason = λ skipped found. cond skipped (Ok past)
    (found >>= λ said. Ok (said ∷ past)) in
    let rest : List ℕ → Result (List Saying) Reason = λ line. with (is_skipped (text_said line)) (saying_at runs past (text_said line)) in
    ap (λ (test : Bool). unless (not test) reason.Utf8 text >>= rest) back.readable
    ∙ ap (λ (t : List ℕ). with (is_skipped t) (saying_at runs past t)) back.whole
    ∙ ap (λ (test : Bool). with test (saying_at runs past text)) back.said
    ∙ ap (λ (found : Result Saying Reason). found >>= λ said. Ok (said ∷ past)) (saying_read runs past saying quiet is)

-- ---- tests that no line of a script meets

pub one_test : (test : Bool) (why : Reason) → test ≡ false → refusal ((test, why) ∷ []) ≡ None
one_test test why isnt = ap (λ (b : Bool). cond b (Some why) None) isnt

pub two_tests : (one two : Bool) (why other : Reason) → one ≡ false → two ≡ false → refusal ((one, why) ∷ (two, other) ∷ []) ≡ None
two_tests one two why other a b = ap (λ (t : Bool). cond t (Some why) (cond two (Some other) None)) a ∙ one_test two other b

pub three_tests : (one two three : Bool) (why other last : Reason) → one ≡ false → two ≡ false → three ≡ false
    → refusal ((one, why) ∷ (two, other) ∷ (three, last) ∷ []) ≡ None
three_tests one two three why other last a b c =
    ap (λ (t : Bool). cond t (Some why) (cond two (Some other) (cond three (Some last) None))) a ∙ two_tests two three other last b c

pub four_tests : (one two three four : Bool) (why other then last : Reason) → one ≡ false → two ≡ false → three ≡ false → four ≡ false
    → refusal ((one, why) ∷ (two, other) ∷ (three, then) ∷ (four, last) ∷ []) ≡ None
four_tests one two three four why other then last a b c d =
    ap (λ (t : Bool). cond t (Some why) (cond two (Some other) (cond three (Some then) (cond four (Some last) None)))) a
    ∙ three_tests two three four other then last b c d

pub room_left : (most count counted : ℕ) → counted ≡ count → counted < most → is_full most count ≡ false
room_left most count counted same less = grind (arith, same, less)

pub there_is : (number count counted : ℕ) → counted ≡ count → IsWithin 1 counted number → is_missing number count ≡ false
there_is number count counted same within =
    or_from _ _ (ne_eqb number 0 (λ e. omega (arith, e, within.0))) (le-ltb count number (omega (arith, same, within.1)))

pub differing : (test : Bool) → not test ≡ true → test ≡ false
differing true e = absurd cc
differing false e = refl

pub late : (now : ℕ) (text : List ℕ) → 4 ≤ now → lacks now text ≡ false
late zero text le = absurd (omega (arith, le))
late (suc zero) text le = absurd (omega (arith, le))
late (suc (suc zero)) text le = absurd (omega (arith, le))
late (suc (suc (suc zero))) text le = absurd (omega (arith, le))
late (suc (suc (suc (suc now)))) text le = refl
