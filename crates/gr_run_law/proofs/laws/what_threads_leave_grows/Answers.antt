use Rattle.gr_run_law.proofs.Growing.{shared_none, shared_met, shared_whole, looks_deed, looks_peek, given_once}
use Rattle.gr_run_law.proofs.laws.what_threads_leave_grows.Goals as goal

pub returns : goal.returns
returns c = record {
  none = shared_none;
  met = shared_met;
  whole = shared_whole;
  deeds = looks_deed;
  peek = looks_peek;
  gift = given_once;
}
