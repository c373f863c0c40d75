use Rattle.std.proofs.Common.{◌≡◌, ◌∙◌, ◌+◌, ◌∷◌, [], sym, subst, length, arith}
use Rattle.std.proofs.lemmas.List.{length-append}
use Rattle.gr_world.specs.Numbered.{PairsFrom}
use Rattle.gr_world.specs.Worlds.{IsMemberOf}
use Rattle.gr_world.proofs.Lists.{pairs_more, pairs_length}
use Rattle.gr_world.proofs.grid.Grid.into_records.Goals as goal

pub loop-row-preserved : goal.loop-row-preserved
loop-row-preserved c =
    let same = pairs_length IsMemberOf 1 c.loop-row.yielded c.loop-row.members c.loop-row.invariant.0 in
    let more = length-append c.loop-row.yielded (c.in-Some.row ∷ []) in
    let number : c.loop-row.member + 1 ≡ 1 + length c.loop-row.members = omega (arith, same, c.loop-row.invariant.1) in (
      subst (PairsFrom IsMemberOf 1 _) (sym c.in_ok-push.ensures.ok)
          (pairs_more IsMemberOf 1 c.loop-row.yielded c.loop-row.members c.in-Some.row c.in_ok-into_record.field-0 c.loop-row.invariant.0
          (c.in_ok-into_record.ensures.member ∙ number, c.in_ok-into_record.ensures.shards)),
      omega (arith, more, c.loop-row.invariant.1),
    )
