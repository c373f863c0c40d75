use Rattle.std.proofs.Common.{◌∙◌, ap, sym, subst, length, arith}
use Rattle.gr_script.specs.Scripts.{heading_of}
use Rattle.gr_world.specs.Numbered.{PairsFrom}
use Rattle.gr_world.specs.Worlds.{IsClientOf}
use Rattle.gr_world.proofs.Leaving.{world_leaves}
use Rattle.gr_world.proofs.Worlds.{work_clients, work_members}
use Rattle.gr_world.proofs.world.World.finish.Goals as goal

pub into_records-requires : goal.into_records-requires
into_records-requires c =
    let long = work_members (heading_of c.args.script.now) c.args.self c.requires in
    omega (arith, long, c.args.script.now.ruled.heading.members.1)

pub into_records-requires-2-clause-each : goal.into_records-requires-2-clause-each
into_records-requires-2-clause-each c =
    work_clients (heading_of c.args.script.now) c.args.self c.requires ∙ sym (ap (λ xs. length xs) c.as_slice.ensures)

pub returns : goal.returns
returns c =
    let heading = heading_of c.args.script.now in
    world_leaves heading c.args.self _ _ c.in_ok-into_records.ensures
    (subst (λ xs. PairsFrom (IsClientOf xs) 1 c.args.self.tellings c.in_ok-into_records-2.field-0) c.as_slice.ensures
    c.in_ok-into_records-2.ensures)
