use Rattle.std.proofs.Common.{◌≡◌, ℕ, List, refl, sym, ap, ◌∙◌, subst}
use Rattle.std.specs.List.{AllByRecursion}
use Rattle.std.specs.Option.{option_to_list}
use Rattle.std.proofs.lemmas.Result.{IfOk-weaker}
use Rattle.gr_value.specs.Shard.{shard_of}
use Rattle.gr_history.specs.Asks.{key_of}
use Rattle.gr_shard.specs.Calls.{call_with}
use Rattle.gr_shard.specs.declared.next.Came.TheVariants as came
use Rattle.gr_shard.specs.declared.next.Next.TheVariants as next
use Rattle.gr_member.specs.Plans.{identity_of}
use Rattle.gr_member.specs.Seats.{nowhere}
use Rattle.gr_member.specs.Passes.{House}
use Rattle.gr_member.proofs.Acting.{at_adds, acts_call, acts_few, acts_here}
use Rattle.gr_member.proofs.Passing.{lock_at}
use Rattle.gr_member.proofs.member.Member.call.Goals as goal

pub returns-clause-done : goal.returns-clause-done
returns-clause-done g c =
    IfOk-weaker c.act.result _ _ (λ done a.
    at_adds (next.Call c.args.client c.args.seq c.args.ask) (came.Done done) (call_with c.args.client c.args.seq c.args.ask.now done)
    c.shard-shard.result (shard_of (key_of c.args.ask.now) c.args.self.now.plan.shards) c.args.pass.now c.act.new.pass
    (c.shard-shard.ensures ∙ ap (λ (key : List ℕ). shard_of key c.self.inside.plan.shards) c.key.ensures
    ∙ ap (λ (h : House). shard_of (key_of c.args.ask.now) h.plan.shards) c.self.view_is)
    (λ s t acts. acts_call s t c.args.client c.args.seq c.args.ask (came.Done done) done acts refl)
    a) c.act.ensures.done

pub returns-clause-members : goal.returns-clause-members
returns-clause-members g c =
    IfOk-weaker c.act.result _ _ (λ done a.
    acts_few _ a.after c.args.client c.args.seq c.args.ask (came.Done done) done
    (identity_of c.args.self.now.plan c.shard-shard.result) c.args.self.now.plan.floor (a.turned nowhere) refl
    (c.requires.each c.shard-shard.result (lock_at nowhere) nowhere a.there).based) c.act.ensures.done

pub returns-clause-here : goal.returns-clause-here
returns-clause-here g c =
    let at : c.shard-shard.result ≡ shard_of (key_of c.args.ask.now) c.args.self.now.plan.shards =
    c.shard-shard.ensures ∙ ap (λ (key : List ℕ). shard_of key c.self.inside.plan.shards) c.key.ensures
    ∙ ap (λ (h : House). shard_of (key_of c.args.ask.now) h.plan.shards) c.self.view_is in
    IfOk-weaker c.act.result _ _ (λ done a.
    subst (λ (k : ℕ). AllByRecursion (λ change. shard_of change.key c.args.self.now.plan.shards ≡ k) (option_to_list done.made)) at
    (acts_here _ a.after c.args.client c.args.seq c.args.ask (came.Done done) done
    (identity_of c.args.self.now.plan c.shard-shard.result) c.args.self.now.plan.floor (a.turned nowhere) refl
    (c.requires.each c.shard-shard.result (lock_at nowhere) nowhere a.there).based (sym at))) c.act.ensures.done
