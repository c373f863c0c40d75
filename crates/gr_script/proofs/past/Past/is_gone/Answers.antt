use Rattle.std.proofs.Common.{◌≡◌, sym, ap, subst, arith}
use Rattle.gr_script.specs.declared.forms.LineKind.TheVariants as kind
use Rattle.gr_script.specs.declared.past.Counted.{Counted}
use Rattle.gr_script.specs.Past.{count_of}
use Rattle.gr_script.specs.Taken.{Taken, said}
use Rattle.gr_script.proofs.Gone.{none_gone}
use Rattle.gr_script.proofs.past.Past.is_gone.Goals as goal

pub returns-then-self-eq0 : goal.returns-then-self-eq0
returns-then-self-eq0 c =
    let counts = ap (λ (k : Counted). k.departs) c.self.invariant.0.counts in
    sym (none_gone c.args.member (said c.args.self.now)
    (subst (λ (t : Taken). count_of kind.Depart (said t) ≡ 0) c.self.view_is (omega (arith, counts, c.if-self-eq0.true))))
