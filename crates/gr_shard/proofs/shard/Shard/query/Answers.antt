use Rattle.std.proofs.Common.{◌≡◌, ◌∙◌, ap, sym, subst, List, [], ◌∷◌, ◌++◌, reverse}
use Rattle.std.proofs.lemmas.List.{reverse-append}
use Rattle.gr_history.specs.declared.deed.Deed.{Deed}
use Rattle.gr_history.specs.declared.deed.Deed.TheVariants.{Asked}
use Rattle.gr_history.specs.Queries.{query_gives}
use Rattle.gr_shard.specs.Effects.{IsMadeAt, queries_after}
use Rattle.gr_shard.specs.InStep.{served}
use Rattle.gr_shard.specs.View.{Kept, kept}
use Rattle.gr_shard.proofs.Asked.{both_given, kept_answered}
use Rattle.gr_shard.proofs.Looked.{looked_on}
use Rattle.gr_shard.proofs.Prepares.{ready_for}
use Rattle.gr_shard.proofs.Pushed.{on_ok}
use Rattle.gr_shard.proofs.Stocked.{unstocked}
use Rattle.gr_shard.proofs.shard.Shard.query.Goals as goal

abbrev past : goal.After-push → List Deed
past c = reverse c.self.inside.history.deeds

abbrev now : goal.After-push → Kept
now c = let was = c.self.inside in
    kept was.slots.entries was.vector.ids was.floor was.clock was.joined was.to was.heard was.queries.entries

both : (c : goal.After-push)
    → (c.in_ok-replies.field-0.replies.noted ≡ query_gives c.args.client c.args.ask.now (past c))
    × (c.in_ok-replies.field-0.replies.told ≡ query_gives c.args.client c.args.ask.now (past c))
both c =
    both_given c.self.inside.id c.self.inside.opening (now c) (past c) c.args.client c.args.ask.now c.in_ok-replies.field-0.replies
    c.self.invariant.0 (c.in_ok-replies.ensures.replies (past c) c.self.invariant.0.stands)

-- the history has the step, with the reply that was noted
pushed : (c : goal.After-push)
    → c.push.new.self.deeds
    ≡ c.self.inside.history.deeds ++ Asked c.args.client c.args.seq c.args.ask.now c.in_ok-replies.field-0.replies.noted ∷ []
pushed c =
    let noted = c.in_ok-replies.field-0.replies.noted in
    on_ok c.push.result (c.push.ensures.room c.in_ok-reserve.ensures.room) c.push.ensures.ok
    ∙ ap (λ deeds. deeds ++ c.in_ok-deed.deed ∷ []) c.in_ok-reserve.ensures.deeds
    ∙ ap (λ deed. c.self.inside.history.deeds ++ deed ∷ []) c.in_ok-deed.ensures
    ∙ ap (λ asked. c.self.inside.history.deeds ++ Asked c.args.client c.args.seq asked noted ∷ []) c.in_ok-asked.ensures

-- the queries are told what was foreseen
told : (c : goal.After-push)
    → c.carry_out.new.queries.entries ≡ served c.args.client c.args.ask.now c.self.inside.queries.entries
told c =
    let after = c.in_ok-replies.field-0.after in
    c.carry_out.ensures ∙ ap (queries_after after) c.in_ok-replies.ensures.entries ∙ c.in_ok-replies.ensures.after

pub carry_out-requires : goal.carry_out-requires
carry_out-requires c =
    let after = c.in_ok-replies.field-0.after in
    ready_for c.foretell.new.queries after (subst (λ all. IsMadeAt all after) (sym c.in_ok-replies.ensures.entries)
    c.in_ok-replies.ensures.made) c.in_ok-replies.ensures.room

pub invariant_of-self-2 : goal.invariant_of-self-2
invariant_of-self-2 c =
    let noted = c.in_ok-replies.field-0.replies.noted in
    let behind =
    kept_answered c.self.inside.id c.self.inside.opening (now c) (past c) c.args.client c.args.seq c.args.ask.now noted c.self.invariant.0
    (both c).0 in
    rw (pushed c, reverse-append, told c) (
      behind,
      unstocked _ _ _ _ _ _ (ap (served c.args.client c.args.ask.now) c.self.invariant.1.open_are),
      looked_on c.self.inside.id c.self.inside.opening c.self.inside.looked _ (Asked c.args.client c.args.seq c.args.ask.now noted) (past c)
          behind c.self.invariant.2,
    )

pub returns-clause-reply : goal.returns-clause-reply
returns-clause-reply c = rw (← c.self.view_is) (both c).1

pub returns-clause-added : goal.returns-clause-added
returns-clause-added c =
    let was = c.self.inside in
    let told = pushed c
    ∙ ap (λ reply. was.history.deeds ++ Asked c.args.client c.args.seq c.args.ask.now reply ∷ []) ((both c).0 ∙ sym (both c).1) in
    rw (← c.self.view_is) (ap (λ deeds. record { id = was.id; opening = was.opening; deeds = deeds; spare = 0 }) told)
