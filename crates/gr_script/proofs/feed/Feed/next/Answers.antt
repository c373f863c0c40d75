use Rattle.std.proofs.Common.{◌≡◌, Option, sym, subst}
use Rattle.std.specs.List.{cons_option}
use Rattle.gr_script.specs.declared.line.Line.{Line}
use Rattle.gr_script.specs.Said.{script_of}
use Rattle.gr_script.specs.Sayings.{Ends}
use Rattle.gr_script.specs.declared.ending.ScriptEnd.{ScriptEnd}
use Rattle.gr_script.specs.Taken.{Taken, lines_taken}
use Rattle.gr_script.proofs.Feeding.{IsPassed, fed_end, fed_line, none_passed, passed_more, refused_end, short_end}
use Rattle.gr_script.proofs.feed.Feed.next.Goals as goal

pub loop-ahead-init : goal.loop-ahead-init
loop-ahead-init c = subst (λ (t : Taken). IsPassed t c.self.inside.past) c.self.view_is (none_passed c.self.inside.past)

pub loop-ahead-preserved : goal.loop-ahead-preserved
loop-ahead-preserved c =
    let now = c.loop-ahead.self-inside.past in
    let new = c.take_line.new.past in
    passed_more c.args.self.now now new c.in-Some.ahead.line.now c.in-Some.ahead.after.now c.loop-ahead.invariant
    (record { ahead_is = c.in-Some.ensures.next; taken = c.in-Ok-None.ensures.taken; reads = c.in-Ok-None.ensures.exact })
    (subst (λ (found : Option Line). lines_taken new ≡ cons_option found (lines_taken now)) c.in-Ok-None.field-0-is
    c.in-Ok-None.ensures.line)

pub returns-in-Ok-Some : goal.returns-in-Ok-Some
returns-in-Ok-Some c =
    let now = c.loop-ahead.self-inside.past in
    let new = c.take_line.new.past in
    fed_line c.args.self.now now new c.in-Some.ahead.line.now c.in-Some.ahead.after.now c.in-Ok-Some.line c.loop-ahead.invariant
    (record { ahead_is = c.in-Some.ensures.next; taken = c.in-Ok-Some.ensures.taken; reads = c.in-Ok-Some.ensures.exact })
    (subst (λ (found : Option Line). lines_taken new ≡ cons_option found (lines_taken now)) c.in-Ok-Some.field-0-is
    c.in-Ok-Some.ensures.line)

pub returns-in-Err : goal.returns-in-Err
returns-in-Err c =
    let now = c.loop-ahead.self-inside.past in
    subst (λ (e : ScriptEnd). Ends e (script_of c.args.self.now.runs c.args.self.now.text)) (sym c.end_at.ensures)
    (refused_end c.args.self.now now c.in-Some.ahead.line.now c.in-Some.ahead.after.now c.next_number-number.result c.in-Err.halt
    c.loop-ahead.invariant c.in-Some.ensures.taken c.in-Some.ensures.next c.next_number-number.ensures c.in-Err.ensures.exact)

pub returns-in-Err-ended : goal.returns-in-Err-ended
returns-in-Err-ended c =
    short_end c.args.self.now c.loop-ahead.self-inside.past c.in-Err-ended.end c.loop-ahead.invariant c.in_default.ensures.taken
    c.in_default.ensures.next c.in-Err-ended.ensures

pub returns : goal.returns
returns c =
    fed_end c.args.self.now c.loop-ahead.self-inside.past c.loop-ahead.invariant c.in_default.ensures.taken
    c.in_default.ensures.next c.in_default-ended.ensures
