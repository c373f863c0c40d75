use Rattle.std.proofs.Common.{map, refl, string_bytes}
use Rattle.gr_top.specs.Words.{asked_alone, mode_of}
use Rattle.gr_top.proofs.Endings.{refused, refused_alone}
use Rattle.gr_top.proofs.answering.replay_words.Goals as goal

pub returns-in-Err-clause-explained : goal.returns-in-Err-clause-explained
returns-in-Err-clause-explained g c =
    let asked = mode_of (map (λ word. string_bytes word) c.args.words.now) in
    rw c.ended.ensures
    (refused (asked_alone asked) _ _ c.in-Err.cause (refused_alone asked c.in-Err.cause c.in-Err.ensures)
    (record { bytes = refl; faults = refl }) (record { bytes = refl; faults = refl }))

pub returns-in-Ok-clause-explained : goal.returns-in-Ok-clause-explained
returns-in-Ok-clause-explained g c = rw c.in-Ok.ensures c.answer_alone.ensures.explained
