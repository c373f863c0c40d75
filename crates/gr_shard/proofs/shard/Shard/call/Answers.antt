use Rattle.std.proofs.Common.{ℕ, List, reverse, ◌≡◌, ◌∙◌, ap}
use Rattle.gr_value.specs.Shard.{shard_of}
use Rattle.gr_history.specs.declared.ask.Ask.{Ask}
use Rattle.gr_history.specs.declared.deed.Deed.{Deed}
use Rattle.gr_history.specs.declared.done.Done.{Done}
use Rattle.gr_history.specs.declared.identity.Identity.{Identity}
use Rattle.gr_history.specs.Asks.{key_of}
use Rattle.gr_history.specs.Calls.{call_gives}
use Rattle.gr_shard.specs.Calls.{call_with, done_in}
use Rattle.gr_shard.proofs.Named.{call_below, made_here}
use Rattle.gr_shard.proofs.shard.Shard.call.Goals as goal

-- what was given is read off the deed
done_by : (id : Identity) (opening : ℕ) (past : List Deed) (client seq : ℕ) (asked ask : Ask) (deed : Deed) (done : Done) → done ≡ done_in deed
    → deed ≡ call_with client seq asked (call_gives id opening past asked) → asked ≡ ask → done ≡ call_gives id opening past ask
done_by id opening past client seq asked ask deed done noted gives same = noted ∙ ap done_in gives ∙ ap (call_gives id opening past) same

pub returns-clause-members : goal.returns-clause-members
returns-clause-members c =
    let was = c.self.inside in
    let done = c.in_ok-done.done in
    let gives = done_by was.id was.opening (reverse was.history.deeds) c.args.client c.args.seq c.in_ok-asked.asked c.args.ask.now c.in_ok-deed.deed
    done c.in_ok-done.ensures (rw (← c.self.view_is) at c.in_ok-deed.ensures) c.in_ok-asked.ensures in
    rw (← c.self.view_is)
    (call_below was.id was.opening (reverse was.history.deeds) c.args.ask.now c.self.invariant.0.place.founded c.self.invariant.0.named
    done.reply done.made done.to gives)

pub returns-clause-here : goal.returns-clause-here
returns-clause-here c =
    let was = c.self.inside in
    let done = c.in_ok-done.done in
    let gives = done_by was.id was.opening (reverse was.history.deeds) c.args.client c.args.seq c.in_ok-asked.asked c.args.ask.now c.in_ok-deed.deed
    done c.in_ok-done.ensures (rw (← c.self.view_is) at c.in_ok-deed.ensures) c.in_ok-asked.ensures in
    let here : shard_of (key_of c.args.ask.now) was.id.shards ≡ was.id.shard = rw (← c.self.view_is) at c.requires in
    rw (← c.self.view_is) (made_here was.id was.opening (reverse was.history.deeds) c.args.ask.now done gives here)
