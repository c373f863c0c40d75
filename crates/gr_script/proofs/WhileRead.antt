-- A text's script is taken line by line, each line before the next one is read.
use Rattle.std.proofs.Common.{◌≡◌, ◌∙◌, ℕ, ◌+◌, ◌<◌, List, [], ◌∷◌, reverse, Bool, false, Option, Some, None, IfNone, IfSome, Result, Ok, Err, MatchResult, IsErrAnd, sym, ap, subst, arith}
use Rattle.std.specs.List.{cons_option}
use Rattle.gr_script.specs.declared.ending.ScriptEnd.{ScriptEnd}
use Rattle.gr_script.specs.declared.ending.ScriptEnd.TheVariants.{Memory}
use Rattle.gr_script.specs.declared.line.Line.{Line}
use Rattle.gr_script.specs.Rules.{Heading, IsScript}
use Rattle.gr_script.specs.Said.{script_of}
use Rattle.gr_script.specs.Sayings.{Ends}
use Rattle.gr_script.specs.Taken.{Taken, heading_taken, lines_taken, IsFed}

-- What was taken in is these lines, the last one first, and the one that is next.
pub record IsReading (text : List ℕ) (heading : Heading) (t : Taken) (next : Option Line) (behind : List Line) : Type 0 where
  pub runs : t.runs ≡ false
  pub text_is : t.text ≡ text
  pub heading_is : heading_taken t ≡ heading
  pub lines : lines_taken t ≡ cons_option next behind
  pub ruled : IsScript heading (reverse (lines_taken t))
  pub whole : IfNone next (script_of false text ≡ Ok (heading, reverse (lines_taken t)))

-- how many lines are left at most, where so many are ahead
abbrev pub left : Option Line → ℕ → ℕ
left None ahead = 0
left (Some line) ahead = ahead + 1

pub fewer_left : (next : Option Line) (line : Line) (after before : ℕ) → IfSome next (λ _. after < before)
    → left next after < left (Some line) before
fewer_left None line after before fewer = omega arith
fewer_left (Some other) line after before fewer = omega (arith, fewer)

abbrev IsRead : List ℕ → Taken → Option Line → Type 0
IsRead text t next = IfNone next (script_of false text ≡ Ok (heading_taken t, reverse (lines_taken t)))

read_whole : (old new : Taken) (next : Option Line) (text : List ℕ) → IsFed old new next → old.runs ≡ false → old.text ≡ text
    → IsRead text new next
read_whole old new (Some line) text fed runs is = tt
read_whole old new None text fed runs is = sym (λ i. script_of (runs i) (is i)) ∙ fed.whole

with_heading : (text : List ℕ) (t : Taken) (heading : Heading) (next : Option Line) → heading_taken t ≡ heading → IsRead text t next
    → IfNone next (script_of false text ≡ Ok (heading, reverse (lines_taken t)))
with_heading text t heading (Some line) is read = tt
with_heading text t heading None is read =
    subst (λ (h : Heading). script_of false text ≡ Ok (h, reverse (lines_taken t))) is read

pub begins : (text : List ℕ) (old new : Taken) (heading : Heading) (next : Option Line) → IsFed old new next
    → old.runs ≡ false → old.text ≡ text → lines_taken old ≡ [] → heading ≡ heading_taken new → IsReading text heading new next []
begins text old new heading next fed runs is none heading_is = record {
  runs = fed.runs ∙ runs;
  text_is = fed.text ∙ is;
  heading_is = sym heading_is;
  lines = fed.lines ∙ ap (cons_option next) none;
  ruled = subst (λ (h : Heading). IsScript h (reverse (lines_taken new))) (sym heading_is) fed.ruled;
  whole = with_heading text new heading next (sym heading_is) (read_whole old new next text fed runs is);
}

pub goes_on : (text : List ℕ) (heading : Heading) (old new : Taken) (line : Line) (next : Option Line) (behind : List Line)
    → IsReading text heading old (Some line) behind → IsFed old new next → IsReading text heading new next (line ∷ behind)
goes_on text heading old new line next behind is fed =
    let same = fed.stays line behind is.lines ∙ is.heading_is in
    record {
      runs = fed.runs ∙ is.runs;
      text_is = fed.text ∙ is.text_is;
      heading_is = same;
      lines = fed.lines ∙ ap (cons_option next) is.lines;
      ruled = subst (λ (h : Heading). IsScript h (reverse (lines_taken new))) same fed.ruled;
      whole = with_heading text new heading next same (read_whole old new next text fed is.runs is.text_is);
    }

-- With the line that is next, those so far are a script.
pub script_so_far : (text : List ℕ) (heading : Heading) (t : Taken) (line : Line) (behind : List Line)
    → IsReading text heading t (Some line) behind → IsScript heading (reverse (line ∷ behind))
script_so_far text heading t line behind is = subst (λ (lines : List Line). IsScript heading (reverse lines)) is.lines is.ruled

-- A later fault ends the reading of the text.
pub still_ends : (text : List ℕ) (heading : Heading) (t : Taken) (next : Option Line) (behind : List Line)
    → IsReading text heading t next behind → (end : ScriptEnd) → Ends end (script_of t.runs t.text) → Ends end (script_of false text)
still_ends text heading t next behind is end ended =
    subst (λ (bytes : List ℕ). Ends end (script_of false bytes)) is.text_is
    (subst (λ (runs : Bool). Ends end (script_of runs t.text)) is.runs ended)

-- Want of memory may end it at any place.
pub out_of_memory : {X : Type 0} (P : X → Type 0) (text : List ℕ) (left : Result X ScriptEnd) → IsErrAnd left (λ end. end ≡ Memory)
    → MatchResult left P (λ end. Ends end (script_of false text))
out_of_memory P text (Ok x) none = absurd none
out_of_memory P text (Err end) is = subst (λ (why : ScriptEnd). Ends why (script_of false text)) (sym is) tt
