use Rattle.std.proofs.Common.{◌≡◌, ◌∙◌, List, ◌∷◌, Bool, Option, IfNone, Ok, Result, ap, sym, subst}
use Rattle.gr_script.specs.declared.line.Line.{Line}
use Rattle.gr_script.specs.declared.reason.Reason.{Reason}
use Rattle.gr_script.specs.declared.saying.Saying.{Saying}
use Rattle.gr_script.specs.Cuts.{text_said}
use Rattle.gr_script.specs.Refusals.{past_with, saying_at}
use Rattle.gr_script.specs.Said.{lines_said}
use Rattle.gr_script.specs.Taken.{Taken, said, advanced, IsNext}
use Rattle.gr_script.proofs.Taking.{said_next, is_next, says, skips}
use Rattle.gr_script.proofs.sayings.take_line.Goals as goal

abbrev read : List Saying → Result (List Saying) Reason
read past = Ok past

-- Where no step was found, all is as before.
abbrev AsBefore : Taken → Taken → Option Line → Type 0
AsBefore old new found = IfNone found (new ≡ old)

-- ---- a line that is skipped

reads_skipped : (c : goal.After-skip) → past_with c.args.past.now.runs (said c.args.past.now) c.args.next.line.now
    ≡ Ok (said c.args.past.now)
reads_skipped c =
    skips c.args.past.now.runs (said c.args.past.now) c.args.next.line.now _ _ c.in_ok-text_at.ensures
    (c.text_said-text.ensures ∙ ap text_said c.as_bytes.ensures.value) (sym c.is_skipped.ensures ∙ c.if-is_skipped.true)

pub skip-requires : goal.skip-requires
skip-requires c =
    let same = subst (AsBefore c.args.past.now c.take_printed.new.past) c.in_default.is c.in_ok-line.ensures.none in
    let t = c.args.past.now in
    subst (λ (s : Taken). IsNext s (said s) c.args.next.after.now) (sym same)
    (is_next t c.args.next.line.now c.args.next.after.now (said t) c.requires
    (skips t.runs (said t) c.args.next.line.now _ _ c.in_ok-text_at.ensures
    (c.text_said-text.ensures ∙ ap text_said c.as_bytes.ensures.value) (sym c.is_skipped.ensures ∙ c.if-is_skipped.true)))

still_said : (c : goal.After-skip) → said c.skip.new.self ≡ said c.args.past.now
still_said c =
    let same = subst (AsBefore c.args.past.now c.take_printed.new.past) c.in_default.is c.in_ok-line.ensures.none in
    ap said (c.skip.ensures ∙ ap advanced same)
    ∙ said_next c.args.past.now (said c.args.past.now) c.args.next.after.now
    (is_next c.args.past.now c.args.next.line.now c.args.next.after.now (said c.args.past.now) c.requires (reads_skipped c))

pub returns-then-is_skipped-clause-exact : goal.returns-then-is_skipped-clause-exact
returns-then-is_skipped-clause-exact c = reads_skipped c ∙ ap read (sym (still_said c))

pub returns-then-is_skipped-clause-line : goal.returns-then-is_skipped-clause-line
returns-then-is_skipped-clause-line c = ap lines_said (still_said c)

-- ---- a line that says something

pub push-requires : goal.push-requires
push-requires c =
    let same = subst (AsBefore c.args.past.now c.take_printed.new.past) c.in_default.is c.in_ok-line.ensures.none in
    let t = c.args.past.now in
    let saying = c.in_ok-saying.saying in
    let text = c.text_said-text.result.now in
    let reads = says t.runs (said t) c.args.next.line.now _ _ saying c.in_ok-text_at.ensures
    (c.text_said-text.ensures ∙ ap text_said c.as_bytes.ensures.value) (sym c.is_skipped.ensures ∙ c.if-is_skipped.false)
    (subst (λ (s : Taken). saying_at s.runs (said s) text ≡ Ok saying) same
    (subst (λ (runs : Bool). saying_at runs (said c.take_printed.new.past) text ≡ Ok saying) c.runs.ensures c.in_ok-saying.ensures)) in
    subst (λ (s : Taken). IsNext s (saying ∷ said s) c.args.next.after.now) (sym same)
    (is_next t c.args.next.line.now c.args.next.after.now (saying ∷ said t) c.requires reads)

pub returns-clause-exact : goal.returns-clause-exact
returns-clause-exact c =
    let same = subst (AsBefore c.args.past.now c.take_printed.new.past) c.in_default.is c.in_ok-line.ensures.none in
    let t = c.args.past.now in
    let saying = c.in_ok-saying.saying in
    let text = c.text_said-text.result.now in
    let reads = says t.runs (said t) c.args.next.line.now _ _ saying c.in_ok-text_at.ensures
    (c.text_said-text.ensures ∙ ap text_said c.as_bytes.ensures.value) (sym c.is_skipped.ensures ∙ c.if-is_skipped.false)
    (subst (λ (s : Taken). saying_at s.runs (said s) text ≡ Ok saying) same
    (subst (λ (runs : Bool). saying_at runs (said c.take_printed.new.past) text ≡ Ok saying) c.runs.ensures c.in_ok-saying.ensures)) in
    let now = ap said (c.in_ok-push.ensures.taken ∙ ap advanced same)
    ∙ said_next t (saying ∷ said t) c.args.next.after.now
    (is_next t c.args.next.line.now c.args.next.after.now (saying ∷ said t) c.requires reads) in
    reads ∙ ap read (sym now)
