use Rattle.std.proofs.Common.{arith}
use Rattle.std.specs.Array.{IsFirstChunk}
use Rattle.gr_value.proofs.KeyFronts.{eight_digits, eight_taken}
use Rattle.gr_value.proofs.near.front_of.Goals as goal

pub returns : goal.returns
returns c =
    let first = c.unwrap.result.now in
    let chunk : IsFirstChunk c.args.bytes.now first 8 = rw c.unwrap.ensures at c.first_chunk.ensures.cases in
    let taken = eight_taken c.args.bytes.now first c.requires chunk.same in
    omega (arith, c.from_be_bytes.ensures, eight_digits first taken.0, taken.1)
