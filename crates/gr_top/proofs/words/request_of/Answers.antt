use Rattle.gr_top.proofs.Naming.{understood_without}
use Rattle.gr_top.proofs.words.request_of.Goals as goal

pub returns-in_default-as_str-clause-exact : goal.returns-in_default-as_str-clause-exact
returns-in_default-as_str-clause-exact c =
    let first = c.in_default-as_str in
    understood_without c.args.words.now c.word-item.result c.as_str.result.now c.asked_alone_of.result c.in-len1-up.len_at_least
    c.word-item.is c.as_str.ensures.value first.not-run first.not-drill first.not-text first.not-text-2 c.asked_alone_of.ensures.exact
