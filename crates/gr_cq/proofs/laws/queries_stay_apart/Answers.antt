use Rattle.gr_cq.proofs.Pairs.{find_enrolled, find_changed, find_closed, find_noted, find_unenrolled, find_unchanged, find_unclosed}
use Rattle.gr_cq.proofs.laws.queries_stay_apart.Goals as goal

pub returns-clause-served : goal.returns-clause-served
returns-clause-served c client name entries = record {
  enrolled = λ question none. find_enrolled client name question entries none;
  changed = λ change. find_changed change client name entries;
  closed = find_closed client name entries;
  noted = λ turned. find_noted turned client name entries;
}

pub returns-clause-others : goal.returns-clause-others
returns-clause-others c client name two other entries apart = record {
  enrolled = λ question. find_unenrolled client two name other question entries apart;
  changed = λ change. find_unchanged change client two name other entries apart;
  closed = find_unclosed client two name other entries apart;
}
