use Rattle.std.proofs.Common.{[], None, refl}
use Rattle.gr_shard.proofs.Gifts.{kept_new}
use Rattle.gr_shard.proofs.Looked.{looked_nothing}
use Rattle.gr_shard.proofs.Stocked.{unstocked}
use Rattle.gr_shard.proofs.shard.Shard.new.Goals as goal

pub invariant_of-result : goal.invariant_of-result
invariant_of-result c =
    rw (c.new-5.ensures, c.in_ok-new.ensures, c.in_ok-new-2.ensures, c.in_ok-new-3.ensures, c.in_ok-new-4.ensures) (
      kept_new c.args.id c.args.floor c.first_recipients.result c.requires c.first_recipients.ensures,
      unstocked _ 0 None 0 [] [] refl,
      looked_nothing c.args.id [],
    )
