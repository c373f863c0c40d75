use Rattle.std.proofs.Common.{refl}
use Rattle.gr_top.proofs.Wording.{word_here}
use Rattle.gr_top.proofs.arguments.word_in.Goals as goal

pub returns-in_ok-from_str-in-Ok : goal.returns-in_ok-from_str-in-Ok
returns-in_ok-from_str-in-Ok g c =
    word_here _ c.args.place c.in-Ok.count c.argument.new.buf _ c.text_of.result.now _ c.in-Ok.ensures.gives refl c.text_of.ensures
    c.in_ok-from_str-in-Ok.ensures.ok
