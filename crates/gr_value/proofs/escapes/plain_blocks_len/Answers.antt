use Rattle.std.proofs.Common.{arith, refl}
use Rattle.gr_value.proofs.PlainBytes.{plain_block}
use Rattle.gr_value.proofs.escapes.plain_blocks_len.Goals as goal

pub further-preserved : goal.further-preserved
further-preserved c = record {
  within = grind arith;
  plain = plain_block c.args.bytes.now _ c.further.len 16 refl c.further.invariant.plain (c.further-test.ensures.plain refl);
}
