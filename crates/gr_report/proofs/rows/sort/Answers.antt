use Rattle.std.specs.Map.Iter.{deref}
use Rattle.std.proofs.lemmas.List.Sorted.{IsPermutation-map}
use Rattle.gr_report.proofs.rows.sort.Goals as goal

pub returns : goal.returns
returns c = IsPermutation-map deref _ _ c.sort_by_key.ensures.permutation
