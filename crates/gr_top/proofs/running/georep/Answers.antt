use Rattle.std.proofs.Common.{◌≡◌, ◌∙◌, Ok, ap, map, refl, string_bytes, subst}
use Rattle.gr_top.specs.Words.{Understands, request_of}
use Rattle.gr_top.specs.declared.words.Request.TheVariants.{Drill}
use Rattle.gr_top.proofs.Endings.{refused}
use Rattle.gr_top.proofs.running.georep.Goals as goal

pub returns-in-Err-clause-explained : goal.returns-in-Err-clause-explained
returns-in-Err-clause-explained g c =
    rw c.ended.ensures
    (refused (request_of (map (λ word. string_bytes word) c.args.words.now)) _ _ c.in-Err.cause c.in-Err.ensures.exact
    (record { bytes = refl; faults = refl }) (record { bytes = refl; faults = refl }))

pub returns-in-Ok-Drill-clause-explained : goal.returns-in-Ok-Drill-clause-explained
returns-in-Ok-Drill-clause-explained g c =
    let asked : request_of (map (λ word. string_bytes word) c.args.words.now) ≡ Ok (Drill c.in-Ok-Drill.start c.in-Ok-Drill.steps) =
    subst (Understands (request_of (map (λ word. string_bytes word) c.args.words.now))) (c.in-Ok-Drill.is ∙ ap Ok c.in-Ok-Drill.field-0-is)
    c.request_of.ensures.exact in
    rw asked (c.drill_answer.ensures.explained _ (record { bytes = refl; faults = refl }))
