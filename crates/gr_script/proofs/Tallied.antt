-- The lines that are said are as many as those that say them, of each kind.
use Rattle.std.proofs.Common.{◌≡◌, ℕ, ◌+◌, ◌==◌, List, [], ◌∷◌, Bool, true, false, cond, eqb, ◌&&◌, Option, Some, None, refl, ap, ◌∙◌, subst}
use Rattle.std.proofs.Common.{arith}
use Rattle.std.specs.List.{cons_option, count_by}
use Rattle.std.specs.Option.{is_some, option_map_or}
use Rattle.std.proofs.lemmas.List.Sums.{sum_by-cons}
use Rattle.gr_history.specs.declared.query_ask.QueryAsk.TheVariants as query
use Rattle.gr_script.specs.declared.forms.LineKind.{LineKind}
use Rattle.gr_script.specs.declared.forms.LineKind.TheVariants as kind
use Rattle.gr_script.specs.declared.items.Item.{Item}
use Rattle.gr_script.specs.declared.items.Setting.{Setting}
use Rattle.gr_script.specs.declared.line.Act.{Act}
use Rattle.gr_script.specs.declared.line.Act.TheVariants.{Call, Query, Peek}
use Rattle.gr_script.specs.declared.line.Line.{Line}
use Rattle.gr_script.specs.declared.line.Line.TheVariants as line
use Rattle.gr_script.specs.declared.line.Step.{Step}
use Rattle.gr_script.specs.declared.operation.Operation.TheVariants.{OfKey, OfValue, OfPair}
use Rattle.gr_script.specs.declared.saying.Saying.{Saying}
use Rattle.gr_script.specs.Forms.{fields, is_step, is_kind}
use Rattle.gr_script.specs.Operations.{ask_of_key, ask_of_value, ask_of_pair}
use Rattle.gr_script.specs.Past.{number, setting, steps, is_query as is_query_kind}
use Rattle.gr_script.specs.Said.{line_of, lines_said}
use Rattle.gr_script.specs.Steps.{step_of, is_report, is_report_of, is_sweep, is_join_of, is_join_from, is_query, is_open, departs}
use Rattle.gr_script.proofs.Contents.{Contents, items_of}
use Rattle.gr_script.proofs.Follows.{Follows, AllFollow}

abbrev pub is_hear : Line → Bool
is_hear (line.Hear by of number) = true
is_hear _ = false

abbrev pub is_depart_of : ℕ → Line → Bool
is_depart_of member l = option_map_or (λ of. of == member) (departs l) false

-- what a line counts for, of a client's steps, of a member's reports and joins, and in all
pub record Marks : Type 0 where
  pub step : Bool
  pub report : Bool
  pub report_of : Bool
  pub hear : Bool
  pub sweep : Bool
  pub join_of : Bool
  pub join_from : Bool
  pub depart : Bool
  pub depart_of : Bool
  pub query : Bool
  pub opened : Bool

abbrev pub line_marks : ℕ → Line → Marks
line_marks n l = record {
  step = is_some (step_of n l);
  report = is_report l;
  report_of = is_report_of n l;
  hear = is_hear l;
  sweep = is_sweep l;
  join_of = is_join_of n l;
  join_from = is_join_from n l;
  depart = is_some (departs l);
  depart_of = is_depart_of n l;
  query = is_query l;
  opened = is_open l;
}

abbrev pub form_marks : ℕ → LineKind → List Item → Marks
form_marks n form items = record {
  step = is_step form && eqb (number 0 items) n;
  report = is_kind kind.Report form;
  report_of = is_kind kind.Report form && eqb (number 0 items) n;
  hear = is_kind kind.Hear form;
  sweep = is_kind kind.Sweep form;
  join_of = is_kind kind.Join form && eqb (number 0 items) n;
  join_from = is_kind kind.Join form && eqb (number 1 items) n;
  depart = is_kind kind.Depart form;
  depart_of = is_kind kind.Depart form && eqb (number 0 items) n;
  query = is_query_kind form;
  opened = is_kind kind.Open form;
}

abbrev step_marks : Bool → Bool → Bool → Marks
step_marks own queries opens = record {
  step = own;
  report = false;
  report_of = false;
  hear = false;
  sweep = false;
  join_of = false;
  join_from = false;
  depart = false;
  depart_of = false;
  query = queries;
  opened = opens;
}

abbrev pub no_marks : Marks
no_marks = step_marks false false false

abbrev pub said_marks : ℕ → Option Line → Marks
said_marks n l = option_map_or (line_marks n) l no_marks

abbrev pub line_by : List Saying → LineKind → List Item → Option Line
line_by past form items = line_of past (record { kind = form; items = items })

-- ---- one line

one_step : (test : Bool) (step : Step) → is_some (cond {A = Option Step} test (Some step) None) ≡ test
one_step true step = refl
one_step false step = refl

abbrev a_step : List Saying → ℕ → Act → Line
a_step past client act = line.Step client (steps client past + 1) act

step_line : (n : ℕ) (past : List Saying) (client : ℕ) (act : Act)
    → line_marks n (a_step past client act)
    ≡ step_marks (eqb client n) (is_query (a_step past client act)) (is_open (a_step past client act))
step_line n past client act =
    ap (λ (own : Bool). step_marks own (is_query (a_step past client act)) (is_open (a_step past client act)))
    (one_step (eqb client n) (record { seq = steps client past + 1; act = act }))

same_marks : (n : ℕ) (past : List Saying) (set : Setting) (form : LineKind) (c : Contents set (fields form))
    → said_marks n (line_by past form (items_of set (fields form) c)) ≡ form_marks n form (items_of set (fields form) c)
same_marks n past set (kind.Call (OfKey operation)) c = step_line n past c.0.0 (Call (ask_of_key operation c.1.1.0))
same_marks n past set (kind.Call (OfValue operation)) c = step_line n past c.0.0 (Call (ask_of_value operation c.1.1.0 c.1.1.1.0))
same_marks n past set (kind.Call (OfPair operation)) c =
    step_line n past c.0.0 (Call (ask_of_pair operation c.1.1.0 c.1.1.1.0 c.1.1.1.1.0))
same_marks n past set kind.Peek c = step_line n past c.0.0 (Peek c.1.1.0)
same_marks n past set kind.Open c = step_line n past c.0.0 (Query (query.Enrol c.1.1.0 c.1.1.1.0.0))
same_marks n past set kind.Stop c = step_line n past c.0.0 (Query (query.Stop c.1.1.0))
same_marks n past set kind.Close c = step_line n past c.0.0 (Query (query.Close c.1.1.0))
same_marks n past set kind.Fetch c = step_line n past c.0.0 (Query (query.Fetch c.1.1.0))
same_marks n past set _ c = refl

abbrev one_if : Bool → ℕ
one_if b = cond b 1 0

-- one line more, or none
line_more : (p : Marks → Bool) (n : ℕ) (l : Option Line) (lines : List Line) → p no_marks ≡ false
    → count_by (λ l. p (line_marks n l)) (cons_option l lines) ≡ one_if (p (said_marks n l)) + count_by (λ l. p (line_marks n l)) lines
line_more p n None lines none =
    let zero : one_if (p no_marks) ≡ 0 = ap one_if none in
    omega (arith, zero)
line_more p n (Some l) lines none = sum_by-cons (λ (l : Line). one_if (p (line_marks n l))) l lines

-- What a line that was read says counts as its kind does.
pub says_its_kind : (n : ℕ) (past : List Saying) (saying : Saying) → Follows past saying.kind saying.items
    → said_marks n (line_of past saying) ≡ form_marks n saying.kind saying.items
says_its_kind n past saying first =
    subst (λ (is : List Item). said_marks n (line_by past saying.kind is) ≡ form_marks n saying.kind is) first.items_are
    (same_marks n past (setting past) saying.kind first.held)

-- ---- all lines

pub tallied : (p : Marks → Bool) (n : ℕ) (past : List Saying) → p no_marks ≡ false → AllFollow past
    → count_by (λ l. p (line_marks n l)) (lines_said past) ≡ count_by (λ s. p (form_marks n s.kind s.items)) past
tallied p n [] none all = refl
tallied p n (saying ∷ past) none all =
    let same = says_its_kind n past saying all.0 in
    let one : one_if (p (said_marks n (line_of past saying))) ≡ one_if (p (form_marks n saying.kind saying.items)) =
    ap (λ (m : Marks). one_if (p m)) same in
    let rest = tallied p n past none all.1 in
    let more = line_more p n (line_of past saying) (lines_said past) none in
    let with = sum_by-cons (λ (s : Saying). one_if (p (form_marks n s.kind s.items))) saying past in
    more ∙ omega (arith, one, rest, with)
