-- The text of a script is read as that script.
use Rattle.std.proofs.Common.{◌≡◌, ℕ, ◌+◌, ◌≤◌, List, [], ◌∷◌, ◌++◌, reverse, map, Bool, true, false, cond, eqb}
use Rattle.std.proofs.Common.{Option, Some, Ok, Err, refl, sym, ap, ◌∙◌, subst, arith, append_assoc}
use Rattle.std.specs.List.{cons_option, onto_first, list_any, AllByRecursion}
use Rattle.std.proofs.lemmas.Bool.{le-ltb, or_parts}
use Rattle.std.proofs.lemmas.List.{reverse-append}
use Rattle.gr_history.specs.declared.ask.Ask.TheVariants as ask
use Rattle.gr_history.specs.declared.query_ask.QueryAsk.TheVariants as query
use Rattle.gr_script.specs.declared.forms.LineKind.TheVariants as kind
use Rattle.gr_script.specs.declared.line.Act.{Act}
use Rattle.gr_script.specs.declared.line.Act.TheVariants.{Call, Query, Peek}
use Rattle.gr_script.specs.declared.line.Line.{Line}
use Rattle.gr_script.specs.declared.line.Line.TheVariants.{Step, Report}
use Rattle.gr_script.specs.declared.reason.Reason.TheVariants as reason
use Rattle.gr_script.specs.declared.saying.Saying.{Saying}
use Rattle.gr_script.specs.Forms.{is_kind}
use Rattle.gr_script.specs.Past.{number, setting, region, stage, steps}
use Rattle.gr_script.specs.Printed.{act_saying, saying_in, IsLineKept}
use Rattle.gr_script.specs.Printing.{saying_text}
use Rattle.gr_script.specs.Rules.{Heading, IsHeading, StandsAfter, AllBehind, AllStand, NamesStaying, AllNameStaying, Attends, AllAttend}
use Rattle.gr_script.specs.Said.{heading_said, line_of, lines_said}
use Rattle.gr_script.specs.Sayings.{fault, go_on, sayings_from}
use Rattle.gr_script.specs.Texts.{lines_of, IsLine, text_of}
use Rattle.gr_script.proofs.Accepted.{Accepts, past_read}
use Rattle.gr_script.proofs.Follows.{AllFollow, past_follows}
use Rattle.gr_script.proofs.LineAccepted.{line_accepts}
use Rattle.gr_script.proofs.PrintedLines.{read_back}
use Rattle.gr_script.proofs.Tallied.{tallied}
use Rattle.gr_script.proofs.Texts.{lines_here, lines_there}

-- ---- lines of a text

line_again : (line rest : List ℕ) → IsLine line → lines_of ((line ++ 10 ∷ []) ++ rest) ≡ line ∷ lines_of rest
line_again [] rest is = lines_here 10 rest refl
line_again (byte ∷ line) rest is =
    let parts = or_parts (eqb byte 10) (list_any (λ b. eqb b 10) line) is in
    lines_there byte ((line ++ 10 ∷ []) ++ rest) parts.0 ∙ ap (onto_first byte) (line_again line rest parts.1)

pub lines_again : (lines : List (List ℕ)) → AllByRecursion IsLine lines → lines_of (text_of lines) ≡ lines
lines_again [] all = refl
lines_again (line ∷ lines) all = line_again line (text_of lines) all.0 ∙ ap (λ (ls : List (List ℕ)). line ∷ ls) (lines_again lines all.1)

-- ---- one line more

-- what the texts say behind earlier ones
pub record Reads (number : ℕ) (past : List Saying) (texts : List (List ℕ)) (h : Heading) (lines : List Line) : Type 0 where
  pub all : List Saying
  pub alone : AllByRecursion IsLine texts
  pub read : sayings_from false number past texts ≡ Ok all
  pub headed : heading_said all ≡ h
  pub said : lines_said all ≡ lines

saying_alone : (past : List Saying) (saying : Saying) → Accepts past saying → IsLine (saying_text saying)
saying_alone past saying is = (read_back (setting past) saying is.suit).alone

pub one_more : (number : ℕ) (past : List Saying) (saying : Saying) (texts : List (List ℕ)) (h : Heading) (lines : List Line)
    → Accepts past saying
    → Reads (number + 1) (saying ∷ past) texts h lines → Reads number past (saying_text saying ∷ texts) h lines
one_more number past saying texts h lines is rest = record {
  all = rest.all;
  alone = (saying_alone past saying is, rest.alone);
  read = ap (λ found. go_on number found (λ longer. sayings_from false (number + 1) longer texts)) (past_read false past saying refl is) ∙ rest.read;
  headed = rest.headed;
  said = rest.said;
}

pub follow_more : (past : List Saying) (saying : Saying) → Accepts past saying → AllFollow past → AllFollow (saying ∷ past)
follow_more past saying is all =
    past_follows false past (saying_text saying) (saying ∷ past) (saying_alone past saying is) (past_read false past saying refl is) all

-- ---- the lines behind the heading

pub record Ready (h : Heading) (past : List Saying) : Type 0 where
  pub follow : AllFollow past
  pub headed : heading_said past ≡ h
  pub named : region past ≡ Some h.region
  pub whole : 4 ≤ stage past

same_head : (past : List Saying) (line : Line) → heading_said (saying_in line ∷ past) ≡ heading_said past
same_head past (Report member) = refl
same_head past (Step client seq (Call (ask.Get key))) = refl
same_head past (Step client seq (Query (query.Stop name))) = refl
same_head past _ = refl

same_region : (past : List Saying) (line : Line) → region (saying_in line ∷ past) ≡ region past
same_region past (Report member) = refl
same_region past (Step client seq (Call (ask.Get key))) = refl
same_region past (Step client seq (Query (query.Stop name))) = refl
same_region past _ = refl

later_stage : (past : List Saying) (line : Line) → 4 ≤ stage (saying_in line ∷ past)
later_stage past (Report member) = omega arith
later_stage past (Step client seq (Call (ask.Get key))) = omega arith
later_stage past (Step client seq (Query (query.Stop name))) = omega arith
later_stage past _ = omega arith

pub step_is : (past : List Saying) (client seq : ℕ) (act : Act) → steps client past + 1 ≡ seq
    → line_of past (saying_in (Step client seq act)) ≡ Some (Step client seq act)
step_is past client seq (Peek key) e = ap (λ (n : ℕ). Some (Step client n (Peek key))) e
step_is past client seq (Call (ask.Get key)) e = ap (λ (n : ℕ). Some (Step client n (Call (ask.Get key)))) e
step_is past client seq (Query (query.Stop name)) e = ap (λ (n : ℕ). Some (Step client n (Query (query.Stop name)))) e
step_is past client seq act e = ap (λ (n : ℕ). Some (Step client n act)) e

-- its first number is its client's, and it is no line on which a member joins
pub first_is : (client : ℕ) (act : Act) → client ≡ number 0 (act_saying client act).items
first_is client (Peek key) = refl
first_is client (Call (ask.Get key)) = refl
first_is client (Query (query.Stop name)) = refl
first_is client act = refl

pub no_join : (client : ℕ) (act : Act) → is_kind kind.Join (act_saying client act).kind ≡ true → 0 ≡ number 1 (act_saying client act).items
no_join client (Peek key) is = absurd cc
no_join client (Call (ask.Get key)) is = absurd cc
no_join client (Query (query.Stop name)) is = absurd cc
no_join client act is = absurd cc

line_is : (h : Heading) (past : List Saying) (line : Line) → AllFollow past → StandsAfter h (lines_said past) line
    → line_of past (saying_in line) ≡ Some line
line_is h past (Step client seq act) all stands =
    let count = tallied (λ m. m.step) client past refl all in
    step_is past client seq act (omega (arith, count, stands.1))
line_is h past _ all stands = refl

rest_behind : (Each : List Line → Line → Type 0) (front past : List Line) → AllBehind Each (front ++ past) → AllBehind Each past
rest_behind Each [] past all = all
rest_behind Each (line ∷ front) past all = rest_behind Each front past all.1

-- Each line may stand behind those before it.
abbrev pub MayStand : Heading → List Line → Type 0
MayStand h lines = AllStand h lines × AllNameStaying h lines × AllAttend lines

pub lines_back : (h : Heading) (number : ℕ) (past : List Saying) (lines : List Line) → IsHeading h → Ready h past
    → MayStand h (reverse lines ++ lines_said past) → AllByRecursion IsLineKept lines
    → Reads number past (map saying_text (map saying_in lines)) h (reverse lines ++ lines_said past)
lines_back h number past [] head ready stand kept = record {
  all = past;
  alone = tt;
  read = ap (λ (early : Bool). cond early (Err (fault number (reason.Header (stage past + 1)))) (Ok past))
      (le-ltb (stage past) 4 ready.whole);
  headed = ready.headed;
  said = refl;
}
lines_back h number past (line ∷ lines) head ready stand kept =
    let so_far = lines_said past in
    let joined : reverse (line ∷ lines) ++ so_far ≡ reverse lines ++ line ∷ so_far =
    ap (λ (ls : List Line). ls ++ so_far) (reverse-append (line ∷ []) lines) ∙ append_assoc (reverse lines) (line ∷ []) so_far
    in
    let stands = subst (MayStand h) joined stand in
    let here : StandsAfter h so_far line = (rest_behind (StandsAfter h) (reverse lines) (line ∷ so_far) stands.0).0 in
    let names : NamesStaying h so_far line = (rest_behind (NamesStaying h) (reverse lines) (line ∷ so_far) stands.1).0 in
    let attends : Attends so_far line = (rest_behind Attends (reverse lines) (line ∷ so_far) stands.2).0 in
    let accepts : Accepts past (saying_in line) = line_accepts past ready.follow (subst IsHeading (sym ready.headed) head)
    (subst (λ (g : Heading). region past ≡ Some g.region) (sym ready.headed) ready.named) ready.whole line
    (subst (λ (g : Heading). StandsAfter g so_far line) (sym ready.headed) here)
    (subst (λ (g : Heading). NamesStaying g so_far line) (sym ready.headed) names) attends kept.0
    in
    let said : lines_said (saying_in line ∷ past) ≡ line ∷ so_far =
    ap (λ (l : Option Line). cons_option l so_far) (line_is h past line ready.follow here) in
    let next : Ready h (saying_in line ∷ past) = record {
      follow = follow_more past (saying_in line) accepts ready.follow;
      headed = same_head past line ∙ ready.headed;
      named = same_region past line ∙ ready.named;
      whole = later_stage past line;
    } in
    let whole : reverse lines ++ lines_said (saying_in line ∷ past) ≡ reverse (line ∷ lines) ++ so_far =
    ap (λ (ls : List Line). reverse lines ++ ls) said ∙ sym joined in
    one_more number past (saying_in line) (map saying_text (map saying_in lines)) h (reverse (line ∷ lines) ++ so_far) accepts
    (subst (Reads (number + 1) (saying_in line ∷ past) (map saying_text (map saying_in lines)) h) whole
    (lines_back h (number + 1) (saying_in line ∷ past) lines head next (subst (MayStand h) (sym whole) stand) kept.1))
