-- What the threads of a run leave is a run.
use Rattle.std.proofs.Common.{◌≡◌, ℕ, List, length}
use Rattle.std.specs.List.{filter_map}
use Rattle.gr_history.specs.declared.record.ClientRecord.{ClientRecord}
use Rattle.gr_history.specs.declared.record.Record.{Record}
use Rattle.gr_script.specs.declared.line.Line.{Line}
use Rattle.gr_script.specs.Rules.{Heading, IsScript}
use Rattle.gr_world.specs.Grids.{Histories}
use Rattle.gr_world.specs.Numbered.{numbers_from}
use Rattle.gr_world.specs.Served.{histories_in, Served, client_of}
use Rattle.gr_run_law.specs.Runs.{IsRun, IsLawfulRun}
use Rattle.gr_run_law.specs.Threads.{AreLeftByThreads, IsLeftByThreads, round_of}
use Rattle.gr_run_law.proofs.Clients.{client_served, steps_placed}
use Rattle.gr_run_law.proofs.Duties.{duties_done, gifts_given, steps_wait, rounds_reported}
use Rattle.gr_run_law.proofs.Genuine.{run_whole}
use Rattle.gr_run_law.proofs.Takings.{takings_counted, hearings_counted}

pub threads_run : (heading : Heading) (lines : List Line) (histories : Histories) (served : ℕ → List Served) → IsScript heading lines
    → AreLeftByThreads heading lines histories served → (clients : List ClientRecord)
    → clients ≡ numbers_from 1 (length heading.clients) (client_of heading served) → IsRun heading lines histories clients
threads_run heading lines histories served head a clients answers = record {
  whole = run_whole heading lines histories served a head;
  clients = record {
    served = served;
    answers = answers;
    each = client_served heading lines histories served a head;
    placed = steps_placed heading lines histories served a;
  };
  duties = duties_done heading lines histories served a;
  gifts = gifts_given heading lines histories served a;
  waits = steps_wait heading lines histories served a;
  takings = takings_counted heading lines histories served a head;
  rounds = λ member. filter_map round_of (a.works member);
  reported = rounds_reported heading lines histories served a;
  hearings = hearings_counted heading lines histories served a head;
}

pub left_lawful : (heading : Heading) (lines : List Line) (left : Record) → IsScript heading lines → IsLeftByThreads heading lines left
    → IsLawfulRun heading lines left
left_lawful heading lines left head a = record {
  members = a.members;
  shards = a.shards;
  regions = a.regions;
  run = threads_run heading lines (histories_in left) a.served head a.threads left.clients a.clients;
}
