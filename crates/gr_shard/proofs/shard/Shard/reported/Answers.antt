use Rattle.std.proofs.Common.{◌∙◌, ap, sym, refl, reverse}
use Rattle.std.proofs.lemmas.List.{length-reverse}
use Rattle.gr_vector.specs.Ids.{top}
use Rattle.gr_shard.proofs.Made.{top_known}
use Rattle.gr_shard.proofs.shard.Shard.reported.Goals as goal

pub returns-clause-report : goal.returns-clause-report
returns-clause-report c =
    let was = c.self.inside in
    let past = reverse was.history.deeds in
    rw (← c.self.view_is) record {
      member_is = refl;
      at_is = c.len.ensures ∙ sym (length-reverse was.history.deeds);
      own_is = c.top.ensures.top ∙ ap (top was.id.member) c.self.invariant.0.noted ∙ top_known was.id.member past;
      to_is = c.self.invariant.0.aimed;
      vector_is = ap (λ v. v.ids) (c.in_ok-new.ensures ∙ c.in_ok-copy.ensures) ∙ c.self.invariant.0.noted;
    }
