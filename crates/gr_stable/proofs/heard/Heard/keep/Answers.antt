use Rattle.std.proofs.Common.{◌≤◌, ◌-◌, ◌∙◌, ap, sym, set, length, arith}
use Rattle.gr_stable.proofs.Placing.{outside, placed_later}
use Rattle.gr_stable.proofs.heard.Heard.keep.Goals as goal

pub returns-then-member-len : goal.returns-then-member-len
returns-then-member-len c =
    rw (← c.self.view_is)
    (sym (outside c.args.report c.self.inside.reports.items c.from-member.result c.len.result c.from-member.ensures
    (c.len.ensures ∙ c.self.inside.reports.ok.0) c.then-member-len.either))

pub returns : goal.returns
returns c =
    let all : c.from-member.result ≤ length c.self.inside.reports.items =
    omega (arith, c.if-member-len.false, c.len.ensures, c.self.inside.reports.ok.0) in
    rw (← c.self.view_is)
    (ap (set c.self.inside.reports.items (c.from-member.result - 1)) c.keep_later.ensures
    ∙ sym (placed_later c.args.report c.self.inside.reports.items c.from-member.result (c.from-member.result - 1)
    c.index_mut.result.now _ c.from-member.ensures (omega (arith, c.if-member-eq0.false)) all c.index_mut.ensures.value))
