use Rattle.std.proofs.Common.{ℕ, List, ◌+◌, ◌≡◌, eqb, take, drop, ap, arith}
use Rattle.std.specs.Prelude.{count_by}
use Rattle.std.proofs.lemmas.List.Sums.{sum_by-take-drop}
use Rattle.gr_script.proofs.cuts.feeds_in.Goals as goal

abbrev feeds : List ℕ → ℕ
feeds text = count_by (λ byte. eqb byte 0x0A) text

pub loop-rest-preserved : goal.loop-rest-preserved
loop-rest-preserved c =
    let rest = c.loop-rest.rest.now in
    let split = c.split_at.ensures in
    let block : feeds c.split_at.result.0.now ≡ feeds (take 128 rest) = ap feeds split.front in
    let behind : feeds c.split_at.result.1.now ≡ feeds (drop 128 rest) = ap feeds split.back in
    let both : feeds (take 128 rest) + feeds (drop 128 rest) ≡ feeds rest = sum_by-take-drop _ rest 128 in
    record {
      counted = omega (arith, block, behind, both, c.from-feeds.ensures, c.feeds_among.ensures.exact, c.loop-rest.invariant.counted);
      within = omega (
        arith,
        c.from-feeds.ensures,
        c.feeds_among.ensures.within,
        split.front_len,
        split.back_len,
        c.loop-rest.invariant.within,
      );
    }
