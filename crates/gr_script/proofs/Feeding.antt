-- What is handed out of a text, line by line, is its script.
use Rattle.std.proofs.Common.{◌≡◌, ◌∙◌, ℕ, ◌+◌, ◌≤◌, ◌<◌, List, [], ◌∷◌, length, reverse, Bool, true, false, cond, ltb}
use Rattle.std.proofs.Common.{Some, None, Result, Ok, Err, refl, sym, ap, subst, arith, inl, inr}
use Rattle.std.proofs.lemmas.Bool.{cases_lt, le-ltb, ltb-false}
use Rattle.std.proofs.lemmas.List.{reverse-reverse}
use Rattle.gr_script.specs.declared.ending.ScriptEnd.{ScriptEnd}
use Rattle.gr_script.specs.declared.ending.ScriptEnd.TheVariants as end
use Rattle.gr_script.specs.declared.ending.ScriptFault.{ScriptFault}
use Rattle.gr_script.specs.declared.halt.Halt.{Halt}
use Rattle.gr_script.specs.declared.halt.Halt.TheVariants.{Refused, Memory}
use Rattle.gr_script.specs.declared.line.Line.{Line}
use Rattle.gr_script.specs.declared.reason.Reason.{Reason}
use Rattle.gr_script.specs.declared.saying.Saying.{Saying}
use Rattle.gr_script.specs.Cuts.{line_count}
use Rattle.gr_script.specs.Halts.{Halts}
use Rattle.gr_script.specs.Past.{stage}
use Rattle.gr_script.specs.Refusals.{past_with}
use Rattle.gr_script.specs.Rules.{AllStand, AllNameStaying, AllAttend, IsScript}
use Rattle.gr_script.specs.Said.{heading_said, lines_said, script_from, script_of}
use Rattle.gr_script.specs.Sayings.{Ends, end_at, end_of, ended, fault, go_on, sayings_from}
use Rattle.gr_script.specs.Taken.{Taken, said, ahead, advanced, heading_taken, lines_taken, IsFed, IsTaken}
use Rattle.gr_script.specs.Texts.{lines_of}
use Rattle.gr_script.proofs.Follows.{AllFollow, longer_is}
use Rattle.gr_script.proofs.Headed.{is_heading}
use Rattle.gr_script.proofs.LineCounts.{lines_counted}
use Rattle.gr_script.proofs.Standing.{all_stand, all_attend, all_name_staying, no_lines_yet, same_heading}
use Rattle.gr_script.proofs.Taking.{one_more, taken_follow}
use Rattle.gr_script.specs.Limits.{most_lines}

-- ---- one line of the text more

-- Once there is a line, the heading is whole,
begun : (past : List Saying) (one : Line) (lines : List Line) → AllFollow past → lines_said past ≡ one ∷ lines → 8 ≤ stage past
begun past one lines all are =
    elim (cases_lt (stage past) 8) [
      | inl early ↦ let none : [] ≡ one ∷ lines = sym (no_lines_yet past all (omega (arith, early))) ∙ are in absurd cc
      | inr late ↦ late
    ]

-- and stays as it is.
more_stays : (past : List Saying) (saying : Saying) → AllFollow (saying ∷ past) → 8 ≤ stage past
    → heading_said (saying ∷ past) ≡ heading_said past
more_stays past saying all late =
    let order = all.0.order in
    sym (same_heading past saying.kind saying.items (omega (arith, order, late)))

stays_by : (runs : Bool) (past : List Saying) (line : List ℕ) (longer : List Saying) → past_with runs past line ≡ Ok longer
    → AllFollow longer → 8 ≤ stage past → heading_said longer ≡ heading_said past
stays_by runs past line longer reads all late =
    elim (longer_is runs past line longer reads) [
      | inl same ↦ ap heading_said (sym same)
      | inr more ↦ subst (λ (said : List Saying). heading_said said ≡ heading_said past) more.1
          (more_stays past more.0 (subst AllFollow (sym more.1) all) late)
    ]

-- The lines so far are a script.
script_is : (t : Taken) → 4 ≤ stage (said t) → IsScript (heading_taken t) (reverse (lines_taken t))
script_is t late = record {
  heading = is_heading (said t) (taken_follow t) late;
  lines_stand = subst (AllStand (heading_taken t)) (sym (reverse-reverse (lines_taken t))) (all_stand (said t) (taken_follow t));
  names_staying = subst (AllNameStaying (heading_taken t)) (sym (reverse-reverse (lines_taken t)))
      (all_name_staying (said t) (taken_follow t));
  attended = subst AllAttend (sym (reverse-reverse (lines_taken t))) (all_attend (said t) (taken_follow t));
}

-- ---- lines that are no line of the script

pub record IsPassed (old now : Taken) : Type 0 where
  pub runs : now.runs ≡ old.runs
  pub text : now.text ≡ old.text
  pub lines : lines_taken now ≡ lines_taken old
  pub fewer : length (ahead now) ≤ length (ahead old)
  pub stays : (one : Line) (lines : List Line) → lines_taken old ≡ one ∷ lines → heading_taken now ≡ heading_taken old

pub none_passed : (t : Taken) → IsPassed t t
none_passed t = record { runs = refl; text = refl; lines = refl; fewer = omega arith; stays = λ one lines is. refl }

-- One line more of the text was taken in.
pub record IsOneMore (now new : Taken) (line after : List ℕ) : Type 0 where
  pub ahead_is : ahead now ≡ line ∷ lines_of after
  pub taken : new ≡ advanced now
  pub reads : past_with now.runs (said now) line ≡ Ok (said new)

fewer_ahead : (now new : Taken) (line after : List ℕ) → IsOneMore now new line after → length (ahead new) < length (ahead now)
fewer_ahead now new line after more =
    let left = ap (λ (t : Taken). length (ahead t)) more.taken in
    let rest = ap (length {A = List ℕ}) (one_more now.count (lines_of now.text) line (lines_of after) more.ahead_is).left in
    let before = ap (length {A = List ℕ}) more.ahead_is in
    omega (arith, left, rest, before)

heading_stays : (old now new : Taken) (line after : List ℕ) → IsPassed old now → IsOneMore now new line after
    → (one : Line) (lines : List Line) → lines_taken old ≡ one ∷ lines → heading_taken new ≡ heading_taken old
heading_stays old now new line after passed more one lines are =
    let late = begun (said now) one lines (taken_follow now) (passed.lines ∙ are) in
    stays_by now.runs (said now) line (said new) more.reads (taken_follow new) late ∙ passed.stays one lines are

pub passed_more : (old now new : Taken) (line after : List ℕ) → IsPassed old now → IsOneMore now new line after
    → lines_taken new ≡ lines_taken now → IsPassed old new
passed_more old now new line after passed more none =
    let less = fewer_ahead now new line after more in
    record {
      runs = ap (λ (t : Taken). t.runs) more.taken ∙ passed.runs;
      text = ap (λ (t : Taken). t.text) more.taken ∙ passed.text;
      lines = none ∙ passed.lines;
      fewer = omega (arith, less, passed.fewer);
      stays = heading_stays old now new line after passed more;
    }

-- ---- a line of the script

pub fed_line : (old now new : Taken) (line after : List ℕ) (found : Line) → IsPassed old now → IsOneMore now new line after
    → lines_taken new ≡ found ∷ lines_taken now → IsFed old new (Some found)
fed_line old now new line after found passed more is =
    let less = fewer_ahead now new line after more in
    let late = begun (said new) found (lines_taken now) (taken_follow new) is in
    record {
      runs = ap (λ (t : Taken). t.runs) more.taken ∙ passed.runs;
      text = ap (λ (t : Taken). t.text) more.taken ∙ passed.text;
      lines = is ∙ ap (λ (lines : List Line). found ∷ lines) passed.lines;
      fewer = omega (arith, less, passed.fewer);
      ruled = script_is new (omega (arith, late));
      stays = heading_stays old now new line after passed more;
      whole = tt;
    }

-- ---- the end

-- What is ahead decides which script the text is.
script_by : (old now : Taken) → IsPassed old now → IsTaken now
    → script_of old.runs old.text ≡ script_from (end_of (sayings_from now.runs (now.count + 1) (said now) (ahead now)))
script_by old now passed is =
    let counted = lines_counted now.text in
    let few = le-ltb most_lines (line_count now.text) (omega (arith, counted, is.few)) in
    sym (λ i. script_of (passed.runs i) (passed.text i))
    ∙ ap
    (λ (many : Bool). script_from (cond many (Err (end.TooManyLines (line_count now.text)))
    (end_of (sayings_from now.runs 1 [] (lines_of now.text))))) few
    ∙ ap (λ (all : Result (List Saying) ScriptFault). script_from (end_of all)) (sym is.same)

ended_by : (old now : Taken) → IsPassed old now → IsTaken now → ahead now ≡ []
    → script_of old.runs old.text ≡ script_from (end_of (ended (now.count + 1) (said now)))
ended_by old now passed is none =
    script_by old now passed is
    ∙ ap (λ (lines : List (List ℕ)). script_from (end_of (sayings_from now.runs (now.count + 1) (said now) lines))) none

is_late : (early : Bool) (past : List Saying) (why : ScriptFault) → end_of (cond early (Err why) (Ok past)) ≡ Ok past → early ≡ false
is_late true past why e = absurd cc
is_late false past why e = refl

pub fed_end : (old now : Taken) → IsPassed old now → IsTaken now → ahead now ≡ []
    → end_of (ended (now.count + 1) (said now)) ≡ Ok (said now) → IsFed old now None
fed_end old now passed is none ends =
    let late = ltb-false (stage (said now)) 4 (is_late (ltb (stage (said now)) 4) (said now) _ ends) in
    record {
      runs = passed.runs;
      text = passed.text;
      lines = passed.lines;
      fewer = tt;
      ruled = script_is now late;
      stays = passed.stays;
      whole = ended_by old now passed is none ∙ ap script_from ends;
    }

pub short_end : (old now : Taken) (e : ScriptEnd) → IsPassed old now → IsTaken now → ahead now ≡ []
    → Ends e (end_of (ended (now.count + 1) (said now))) → Ends e (script_of old.runs old.text)
short_end old now end.Memory passed is none ends = tt
short_end old now (end.Fault why) passed is none ends = ended_by old now passed is none ∙ ap script_from ends
short_end old now (end.TooManyLines lines) passed is none ends = ended_by old now passed is none ∙ ap script_from ends

pub refused_end : (old now : Taken) (line after : List ℕ) (number : ℕ) (halt : Halt) → IsPassed old now → IsTaken now
    → ahead now ≡ line ∷ lines_of after → number ≡ now.count + 1 → Halts halt (past_with now.runs (said now) line)
    → Ends (end_at number halt) (script_of old.runs old.text)
refused_end old now line after number Memory passed is next numbered halts = tt
refused_end old now line after number (Refused why) passed is next numbered halts =
    let from : Result (List Saying) Reason → Result (List Saying) ScriptFault =
    λ read. go_on (now.count + 1) read (λ longer. sayings_from now.runs (now.count + 1 + 1) longer (lines_of after)) in
    script_by old now passed is
    ∙ ap (λ (lines : List (List ℕ)). script_from (end_of (sayings_from now.runs (now.count + 1) (said now) lines))) next
    ∙ ap (λ (read : Result (List Saying) Reason). script_from (end_of (from read))) halts
    ∙ ap (λ (n : ℕ). Err (end.Fault (fault n why))) (sym numbered)
