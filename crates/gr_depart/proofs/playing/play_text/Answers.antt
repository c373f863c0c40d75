use Rattle.std.proofs.Common.{◌<◌, length, Option, subst, sym}
use Rattle.std.proofs.lemmas.Result.{err_from_is_err_and}
use Rattle.gr_script.specs.declared.line.Line.{Line}
use Rattle.gr_script.specs.Scripts.{heading_of}
use Rattle.gr_script.specs.Taken.{ahead}
use Rattle.gr_durable.specs.Expanding.{lines_in}
use Rattle.gr_script.proofs.WhileRead.{fewer_left, left, out_of_memory, still_ends}
use Rattle.gr_world.specs.Played.{IsPlayed}
use Rattle.gr_depart.proofs.WhileRead.{IsPlaying, ends, goes_on, playable, takable}
use Rattle.gr_depart.proofs.playing.play_text.Goals as goal

pub take-requires : goal.take-requires
take-requires c =
    let text = c.args.text.now in
    let heading = heading_of c.in_ok-bare.bare in
    let loop = c.loop-next in
    let is = subst (λ (next : Option Line). IsPlaying text heading loop.feed next loop.departing loop.expander) c.in-Some.is loop.invariant in
    (length heading.clients, is.played, is.keeps, takable text heading loop.feed c.in-Some.line loop.departing loop.expander is)

pub turn-requires-clause-stated : goal.turn-requires-clause-stated
turn-requires-clause-stated c =
    let text = c.args.text.now in
    let heading = heading_of c.in_ok-bare.bare in
    let loop = c.loop-next in
    let line = c.in-Some.line in
    let is = subst (λ (next : Option Line). IsPlaying text heading loop.feed next loop.departing loop.expander) c.in-Some.is loop.invariant in
    let fits = takable text heading loop.feed line loop.departing loop.expander is in
    playable text heading loop.feed line loop.departing loop.expander (lines_in c.in_ok-turn.turn) is
    (c.in_ok-turn.ensures.turn (length heading.clients) is.played is.keeps fits)

pub loop-next-preserved : goal.loop-next-preserved
loop-next-preserved c =
    let text = c.args.text.now in
    let heading = heading_of c.in_ok-bare.bare in
    let loop = c.loop-next in
    let line = c.in-Some.line in
    let is = subst (λ (next : Option Line). IsPlaying text heading loop.feed next loop.departing loop.expander) c.in-Some.is loop.invariant in
    let clients = length heading.clients in
    let fits = takable text heading loop.feed line loop.departing loop.expander is in
    goes_on text heading loop.feed c.next-in-Some.new.self line (lines_in c.in_ok-turn.turn) c.in_ok-next-2.next loop.departing
    c.turn.new.self loop.expander c.take.new.self is
    (c.in_ok-turn.ensures.turn clients is.played is.keeps fits)
    (c.in_ok-turn.ensures.kept clients is.played is.keeps fits)
    c.in_ok-turn-2.ensures.done c.in_ok-turn-2.ensures.gone c.in_ok-next-2.ensures

pub loop-next-smaller : goal.loop-next-smaller
loop-next-smaller c =
    let after = length (ahead c.next-in-Some.new.self) in
    let before = length (ahead c.loop-next.feed) in
    subst (λ (next : Option Line). left c.in_ok-next-2.next after < left next before) (sym c.in-Some.is)
    (fewer_left c.in_ok-next-2.next c.in-Some.line after before c.in_ok-next-2.ensures.fewer)

pub returns : goal.returns
returns c =
    let heading = heading_of c.in_ok-bare.bare in
    ends (record {
      abiding = c.records_keep_the_laws.ensures.abiding;
      served = c.records_keep_the_laws.ensures.served;
      in_order = c.records_keep_the_laws.ensures.in_order;
      shut = c.laws_of_courses.ensures.shut;
    }) c.expanded_scripts_are_scripts.ensures c.args.text.now heading c.loop-next.feed c.loop-next.departing c.loop-next.expander
    c.in_ok-finish.field-0
    (subst (λ (next : Option Line). IsPlaying c.args.text.now heading c.loop-next.feed next c.loop-next.departing c.loop-next.expander)
    c.in_default.is c.loop-next.invariant)
    c.in_ok-finish.ensures

pub returns-in_err-next-2 : goal.returns-in_err-next-2
returns-in_err-next-2 c =
    let passed = err_from_is_err_and c.from_residual-in_err-next-2.result c.from_residual-in_err-next-2.ensures.1 in
    let is = c.loop-next.invariant in
    rw (passed.1, passed.2) (still_ends c.args.text.now (heading_of c.in_ok-bare.bare) c.loop-next.feed _ is.played is.reading _
    c.in_err-next-2.ensures)

pub returns-in_err-expander : goal.returns-in_err-expander
returns-in_err-expander c = out_of_memory (IsPlayed c.args.text.now) c.args.text.now c.from_residual-in_err-expander.result c.from_residual-in_err-expander.ensures.1

pub returns-in_err-turn : goal.returns-in_err-turn
returns-in_err-turn c = out_of_memory (IsPlayed c.args.text.now) c.args.text.now c.from_residual-in_err-turn.result c.from_residual-in_err-turn.ensures.1

pub returns-in_err-turn-2 : goal.returns-in_err-turn-2
returns-in_err-turn-2 c = out_of_memory (IsPlayed c.args.text.now) c.args.text.now c.from_residual-in_err-turn-2.result c.from_residual-in_err-turn-2.ensures.1

pub returns-in_err-finish : goal.returns-in_err-finish
returns-in_err-finish c = out_of_memory (IsPlayed c.args.text.now) c.args.text.now c.from_residual-in_err-finish.result c.from_residual-in_err-finish.ensures.1
