use Rattle.std.proofs.Common.{[]}
use Rattle.gr_io.proofs.EndLemmas.{AppendsPart_rest, flat_map-first}
use Rattle.std.proofs.lemmas.Result.{err_from_is_err_and}
use Rattle.gr_io.proofs.writing.+write_each.Goals as goal

pub returns-in_err-write_each-in-len1-up-clause-part : goal.returns-in_err-write_each-in-len1-up-clause-part
returns-in_err-write_each-in-len1-up-clause-part g t c =
    let stopped = c.from_residual-in_err-write_each-in-len1-up in
    let passed = err_from_is_err_and stopped.result stopped.ensures.1 in
    let split = flat_map-first (λ piece. piece.now) c.args.pieces.now (record { ref_ptr = (0, 0); now = [] }) c.in-len1-up.len_at_least in
    rw (passed.1, split, ← c.as_bytes.ensures.value)
    (AppendsPart_rest _ _ _ _ _ c.in_ok-write_all-in-len1-up.ensures.whole c.in_err-write_each-in-len1-up.ensures.part)
