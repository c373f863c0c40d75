use Rattle.std.proofs.Common.{sym, ◌∙◌}
use Rattle.std.specs.Str.{chars}
use Rattle.gr_oql.proofs.LikeLemmas.{has_end_like-whole, has_end_like-open}
use Rattle.gr_oql.proofs.like.has_end_like.Goals as goal

pub returns-in-End-true : goal.returns-in-End-true
returns-in-End-true c = sym (c.loop-rest.invariant.same
    ∙ has_end_like-whole (chars c.loop-rest.pattern.now) (chars c.loop-rest.text.now) (c.in-End-true.ensures.leads
    ∙ c.in-End-true.field-0-test))

pub loop-rest-preserved : goal.loop-rest-preserved
loop-rest-preserved c =
    let met = c.in-Open.ensures in
    record {
      pattern_text = met.shortens.0;
      left_text = met.shortens.1;
      same = c.loop-rest.invariant.same
          ∙ has_end_like-open (chars c.loop-rest.pattern.now) (chars c.loop-rest.text.now) (chars c.in-Open.behind.now)
          (chars c.in-Open.left.now) met.leads;
    }
