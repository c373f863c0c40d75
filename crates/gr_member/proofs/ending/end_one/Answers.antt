use Rattle.std.proofs.Common.{◌≡◌, refl, sym, ap, ◌∙◌, subst}
use Rattle.std.specs.Prelude.{length}
use Rattle.gr_value.specs.Lists.{StartsWith}
use Rattle.gr_turn.specs.Views.{MadeAll}
use Rattle.gr_member.specs.Seats.{Place, placed}
use Rattle.gr_member.proofs.Leaving.{end_of}
use Rattle.gr_member.proofs.Turning.{place_is}
use Rattle.gr_member.proofs.ending.end_one.Goals as goal

pub returns : goal.returns
returns g c =
    let same : placed c.in-Some.seat c.pass.inside.watch.eye ≡ c.args.pass = place_is c.pass.inside.seat c.pass.inside.seat c.in-Some.seat
    c.pass.inside.watch.eye c.args.pass c.in-Some.is refl c.pass.view_is in
    end_of c.args.pass c.in-Ok.replica c.into_record.result
    (ap (λ (p : Place). p.view.base) (sym same) ∙ c.in-Ok.ensures.base)
    (subst (λ (p : Place). StartsWith c.in-Ok.replica.deeds p.view.seen) same c.in-Ok.ensures.seen)
    (subst (λ (p : Place). MadeAll p.view (length c.in-Ok.replica.deeds)) same c.in-Ok.ensures.made)
    c.into_record.ensures.deeds c.into_record.ensures.region c.into_record.ensures.lawful c.into_record.ensures.of_shard
    c.into_record.ensures.named
