-- What every line that was read is behind the earlier ones.
use Rattle.std.proofs.Common.{◌≡◌, ℕ, zero, suc, ◌+◌, ◌≤◌, ◌<◌, List, [], ◌∷◌, length, Bool, true, false, cond, ltb, not, ◌&&◌, Option}
use Rattle.std.proofs.Common.{◌⊎◌, inl, inr, Some, None, Result, Ok, Err, refl, sym, ap, ◌∙◌, subst, arith, bytes_eq}
use Rattle.std.specs.List.{list_all, AllByRecursion}
use Rattle.std.specs.Str.{is_utf8}
use Rattle.std.specs.Char.{is_ascii_digit}
use Rattle.std.proofs.lemmas.Bool.{and_parts, ltb-false, not-false}
use Rattle.std.proofs.lemmas.Slice.Eq.{bytes_eq-Decides}
use Rattle.gr_script.specs.declared.ending.ScriptEnd.{ScriptEnd}
use Rattle.gr_script.specs.declared.ending.ScriptFault.{ScriptFault}
use Rattle.gr_script.specs.declared.forms.LineKind.{LineKind}
use Rattle.gr_script.specs.declared.forms.LineKind.TheVariants as kind
use Rattle.gr_script.specs.declared.items.Item.{Item}
use Rattle.gr_script.specs.declared.reason.Reason.{Reason}
use Rattle.gr_script.specs.declared.reason.Reason.TheVariants.{Header, Word, Fields, Order, NotInRun, Utf8}
use Rattle.gr_script.specs.declared.saying.Saying.{Saying}
use Rattle.gr_script.specs.Cuts.{text_said, is_skipped, line_count}
use Rattle.gr_script.specs.Fields.{first, second, fits, form_of}
use Rattle.gr_script.specs.Forms.{word, fields, rank, client_kinds, other_kinds, kind_of}
use Rattle.gr_script.specs.Halts.{◌>>=◌}
use Rattle.gr_script.specs.Items.{text_at, items_at}
use Rattle.gr_script.specs.Past.{setting, stage}
use Rattle.gr_script.specs.Refusals.{lacks, is_replayed, tests, refusal, unless_refused, form_at, saying_at, past_with}
use Rattle.gr_script.specs.Sayings.{go_on, sayings_from, end_of, sayings_of}
use Rattle.gr_script.specs.Rests.{IsRest}
use Rattle.gr_script.specs.Suiting.{AreRests}
use Rattle.gr_script.specs.Texts.{lines_of, IsLine}
use Rattle.gr_script.proofs.Contents.{Contents, items_of, items_held}
use Rattle.gr_script.proofs.LineCounts.{lines_counted}
use Rattle.gr_script.proofs.RestsRead.{rests_read, said_rest, lines_are_lines}
use Rattle.gr_script.proofs.Passes.{done_is, bind_ok, unless_ok, some_ok}
use Rattle.gr_script.specs.Limits.{most_lines}

-- what the fields of a line of this form hold, behind earlier lines
abbrev pub Held : List Saying → LineKind → Type 0
Held past form = Contents (setting past) (fields form)

abbrev pub held_items : (past : List Saying) (form : LineKind) → Held past form → List Item
held_items past form c = items_of (setting past) (fields form) c

pub record Follows (past : List Saying) (kind : LineKind) (items : List Item) : Type 0 where
  pub held : Held past kind
  pub items_are : held_items past kind held ≡ items
  pub order : stage past ≤ rank kind
  pub due : stage past < 4 → rank kind ≡ stage past
  pub passes : refusal (tests past kind items) ≡ None
  pub rests : AreRests items

abbrev pub AllFollow : List Saying → Type 0
AllFollow [] = Unit {0}
AllFollow (saying ∷ past) = Follows past saying.kind saying.items × AllFollow past

-- ---- the form

-- the form, by the first word and the second
abbrev form_by : List ℕ → List ℕ → Option LineKind
form_by one two = cond (list_all is_ascii_digit one) (kind_of client_kinds two) (kind_of other_kinds one)

kind_is : (one two : LineKind) → Some one ≡ Some two → one ≡ two
kind_is one two e = cc

form_there : (text wanted : List ℕ) (due form : LineKind) → bytes_eq (first text) wanted ≡ true → form_of text ≡ Some form
    → form_by wanted (second text) ≡ Some due → rank form ≡ rank due
form_there text wanted due form begun is there =
    let same : first text ≡ wanted = (bytes_eq-Decides (first text) wanted).0 begun in
    ap rank (kind_is form due (sym is ∙ ap (λ (w : List ℕ). form_by w (second text)) same ∙ there))

due_form : (stage : ℕ) (text : List ℕ) (form : LineKind) → lacks stage text ≡ false → form_of text ≡ Some form → stage < 4
    → rank form ≡ stage
due_form zero text form lacked is early =
    let begun = not-false _ lacked in
    form_there text (word kind.Georep) kind.Georep form
    (and_parts (bytes_eq (first text) (word kind.Georep)) (fits (fields kind.Georep) text) begun).0 is refl
due_form (suc zero) text form lacked is early = form_there text (word kind.Region) kind.Region form (not-false _ lacked) is refl
due_form (suc (suc zero)) text form lacked is early =
    form_there text (word kind.Members) kind.Members form (not-false _ lacked) is refl
due_form (suc (suc (suc zero))) text form lacked is early =
    form_there text (word kind.Shards) kind.Shards form (not-false _ lacked) is refl
due_form (suc (suc (suc (suc stage)))) text form lacked is early = absurd (omega (arith, early))

pub form_follows : (runs : Bool) (stage : ℕ) (text : List ℕ) (form : LineKind) → form_at runs stage text ≡ Ok form
    → (stage ≤ rank form) × (stage < 4 → rank form ≡ stage)
form_follows runs stage text form e =
    let t = bind_ok _ _ form e in
    let tested = unless_ok (lacks stage text) (Header (stage + 1)) text t.0 t.1 in
    let f = bind_ok _ _ form t.2 in
    let named = some_ok (form_of t.0) Word f.0 f.1 in
    let r = bind_ok _ _ form f.2 in
    let ran = unless_ok (runs && is_replayed f.0) NotInRun f.0 r.0 r.1 in
    let o = bind_ok _ _ form r.2 in
    let ordered = unless_ok (ltb (rank r.0) stage) Order r.0 o.0 o.1 in
    let fitted = unless_ok (not (fits (fields o.0) t.0)) Fields o.0 form o.2 in
    let same : r.0 ≡ form = ordered.1 ∙ fitted.1 in (
      subst (λ (k : LineKind). stage ≤ rank k) same (ltb-false (rank r.0) stage ordered.0),
      λ early. ap rank (sym (ran.1 ∙ same)) ∙ due_form stage t.0 f.0 (ap (lacks stage) (sym tested.1) ∙ tested.0) named early,
    )

-- ---- a line

saying_is : (test : Option Reason) (one two : Saying) → unless_refused test one ≡ Ok two → (test ≡ None) × (one ≡ two)
saying_is None one two e = (refl, done_is one two e)
saying_is (Some why) one two e = absurd cc

saying_follows : (runs : Bool) (past : List Saying) (text : List ℕ) (saying : Saying) → IsRest text → saying_at runs past text ≡ Ok saying
    → Follows past saying.kind saying.items
saying_follows runs past text saying rest e =
    let f = bind_ok (form_at runs (stage past) text) _ saying e in
    let i = bind_ok (items_at (setting past) (fields f.0) text) _ saying f.2 in
    let s = saying_is (refusal (tests past f.0 i.0)) (record { kind = f.0; items = i.0 }) saying i.2 in
    let form = form_follows runs (stage past) text f.0 f.1 in
    let c = items_held (setting past) (fields f.0) text i.0 i.1 in
    subst (λ (s : Saying). Follows past s.kind s.items) s.1
    (record {
      held = c.0;
      items_are = c.1;
      order = form.0;
      due = form.1;
      passes = s.0;
      rests = rests_read (setting past) (fields f.0) text i.0 rest i.1;
    })

-- the earlier lines with one more, which may be skipped
abbrev with : Bool → List Saying → Result Saying Reason → Result (List Saying) Reason
with skipped past read = cond skipped (Ok past) (read >>= λ saying. Ok (saying ∷ past))

with_follows : (skipped : Bool) (past : List Saying) (read : Result Saying Reason) (longer : List Saying)
    → with skipped past read ≡ Ok longer → ((saying : Saying) → read ≡ Ok saying → Follows past saying.kind saying.items)
    → AllFollow past → AllFollow longer
with_follows true past read longer e next all = subst AllFollow (done_is past longer e) all
with_follows false past read longer e next all =
    let b = bind_ok read _ longer e in
    subst AllFollow (done_is (b.0 ∷ past) longer b.2) (next b.0 b.1, all)

pub past_follows : (runs : Bool) (past : List Saying) (line : List ℕ) (longer : List Saying) → IsLine line
    → past_with runs past line ≡ Ok longer → AllFollow past → AllFollow longer
past_follows runs past line longer alone e all =
    let t = bind_ok (text_at line) _ longer e in
    let same = (unless_ok (not (is_utf8 line)) Utf8 line t.0 t.1).1 in
    with_follows (is_skipped (text_said t.0)) past (saying_at runs past (text_said t.0)) longer t.2
    (λ saying. saying_follows runs past (text_said t.0) saying (said_rest t.0 (subst IsLine same alone))) all

-- ---- all lines

abbrev read : {A : Type 0} → A → Result A ScriptFault
read x = Ok x

read_is : (one two : List Saying) → read one ≡ read two → one ≡ two
read_is one two e = cc

ended_follows : (early : Bool) (past all : List Saying) (why : ScriptFault) → cond early (Err why) (Ok past) ≡ Ok all
    → (early ≡ false) × (past ≡ all)
ended_follows true past all why e = absurd cc
ended_follows false past all why e = (refl, read_is past all e)

go_on_ok : (number : ℕ) (found : Result (List Saying) Reason) (rest : List Saying → Result (List Saying) ScriptFault) (all : List Saying)
    → go_on number found rest ≡ Ok all → (longer : List Saying) × (found ≡ Ok longer) × (rest longer ≡ Ok all)
go_on_ok number (Ok longer) rest all e = (longer, refl, e)
go_on_ok number (Err why) rest all e = absurd cc

from_follows : (runs : Bool) (number : ℕ) (past : List Saying) (lines : List (List ℕ)) (all : List Saying)
    → AllByRecursion IsLine lines → sayings_from runs number past lines ≡ Ok all → AllFollow past → AllFollow all × (4 ≤ stage all)
from_follows runs number past [] all alone e so_far =
    let p = ended_follows (ltb (stage past) 4) past all _ e in
    subst (λ (s : List Saying). AllFollow s × (4 ≤ stage s)) p.1 (so_far, ltb-false (stage past) 4 p.0)
from_follows runs number past (line ∷ lines) all alone e so_far =
    let g = go_on_ok number (past_with runs past line) _ all e in
    from_follows runs (number + 1) g.0 lines all alone.1 g.2 (past_follows runs past line g.0 alone.0 g.1 so_far)

end_ok : (many : Bool) (end : ScriptEnd) (found : Result (List Saying) ScriptFault) (all : List Saying)
    → cond many (Err end) (end_of found) ≡ Ok all → (many ≡ false) × (found ≡ Ok all)
end_ok true end found all e = absurd cc
end_ok false end (Ok past) all e = (refl, cc)
end_ok false end (Err fault) all e = absurd cc

-- Each line that was read suits the earlier ones, and the heading is whole.
pub all_follow : (runs : Bool) (text : List ℕ) (all : List Saying) → sayings_of runs text ≡ Ok all → AllFollow all × (4 ≤ stage all)
all_follow runs text all e =
    from_follows runs 1 [] (lines_of text) all (lines_are_lines text)
    (end_ok (ltb most_lines (line_count text)) _ (sayings_from runs 1 [] (lines_of text)) all e).1 tt

-- A line is skipped, or says one thing more.
longer_by : (skipped : Bool) (past : List Saying) (read : Result Saying Reason) (longer : List Saying)
    → with skipped past read ≡ Ok longer → (past ≡ longer) ⊎ ((saying : Saying) × (saying ∷ past ≡ longer))
longer_by true past read longer e = inl (done_is past longer e)
longer_by false past read longer e =
    let b = bind_ok read _ longer e in
    inr (b.0, done_is (b.0 ∷ past) longer b.2)

pub longer_is : (runs : Bool) (past : List Saying) (line : List ℕ) (longer : List Saying) → past_with runs past line ≡ Ok longer
    → (past ≡ longer) ⊎ ((saying : Saying) × (saying ∷ past ≡ longer))
longer_is runs past line longer e =
    let t = bind_ok (text_at line) _ longer e in
    longer_by (is_skipped (text_said t.0)) past (saying_at runs past (text_said t.0)) longer t.2

-- ---- how many there are

pub with_length : (runs : Bool) (past : List Saying) (line : List ℕ) (longer : List Saying) → past_with runs past line ≡ Ok longer
    → length longer ≤ length past + 1
with_length runs past line longer e =
    elim (longer_is runs past line longer e) [
      | inl same ↦ let counted = ap (length {A = Saying}) same in omega (arith, counted)
      | inr more ↦ let counted = ap (length {A = Saying}) more.1 in omega (arith, counted)
    ]

from_length : (runs : Bool) (number : ℕ) (past : List Saying) (lines : List (List ℕ)) (all : List Saying)
    → sayings_from runs number past lines ≡ Ok all → length all ≤ length past + length lines
from_length runs number past [] all e =
    let same = ap (length {A = Saying}) (ended_follows (ltb (stage past) 4) past all _ e).1 in
    omega (arith, same)
from_length runs number past (line ∷ lines) all e =
    let g = go_on_ok number (past_with runs past line) _ all e in
    let one = with_length runs past line g.0 g.1 in
    let rest = from_length runs (number + 1) g.0 lines all g.2 in
    omega (arith, one, rest)

-- There are at most as many as a script may have lines.
pub few_sayings : (runs : Bool) (text : List ℕ) (all : List Saying) → sayings_of runs text ≡ Ok all → length all ≤ most_lines
few_sayings runs text all e =
    let whole = end_ok (ltb most_lines (line_count text)) _ (sayings_from runs 1 [] (lines_of text)) all e in
    let within = ltb-false most_lines (line_count text) whole.0 in
    let counted = lines_counted text in
    let length = from_length runs 1 [] (lines_of text) all whole.1 in
    omega (arith, within, counted, length)
