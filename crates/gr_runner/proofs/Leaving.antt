-- What is left of all threads is a lawful run's record.
use Rattle.std.proofs.Common.{◌≡◌, ℕ, zero, suc, ◌+◌, ◌<◌, ◌≤◌, List, ◌∷◌, length}
use Rattle.std.proofs.Common.{refl, sym, ap, ◌∙◌, subst, arith}
use Rattle.gr_history.specs.declared.record.Record.{Record}
use Rattle.gr_history.specs.Lawful.{IsLawful}
use Rattle.gr_law.specs.Grids.{identity}
use Rattle.gr_post.specs.Passes.{Sending, sender_of}
use Rattle.gr_script.specs.declared.line.Line.{Line}
use Rattle.gr_script.specs.Rules.{Heading, IsMember, IsScript}
use Rattle.gr_world.specs.Grids.{grid_from}
use Rattle.gr_world.specs.Numbered.{numbers_from}
use Rattle.gr_world.specs.Served.{client_of, histories_in}
use Rattle.gr_run_law.specs.Threads.{AreLeftByThreads, IsLeftByThreads, IsMailed}
use Rattle.gr_member.specs.Seats.{no_seat}
use Rattle.gr_runner.specs.Left.{AreLeft}
use Rattle.gr_runner.proofs.Ended.{history_of, is_outside, regions_left, shards_left}
use Rattle.gr_runner.proofs.Sessions.{sessions_left}
use Rattle.gr_runner.proofs.Shared.{owned, places, shared_left, written_left}
use Rattle.gr_runner.proofs.Threads.{threads_left}

-- one list where both functions give the same of each of its numbers
same_numbers : {A : Type 0} (f g : ℕ → A) (from n : ℕ) → ((k : ℕ) → from ≤ k → k < from + n → f k ≡ g k)
    → numbers_from from n f ≡ numbers_from from n g
same_numbers f g from zero same = refl
same_numbers f g from (suc n) same =
    ap (λ x. x ∷ numbers_from (suc from) n f) (same from (omega arith) (omega arith))
    ∙ ap (λ l. g from ∷ l) (same_numbers f g (suc from) n (λ k low high. same k (omega (arith, low)) (omega (arith, high))))

nobody : Sending
nobody = sender_of no_seat.lock 0

module _ (heading : Heading) (lines : List Line) (left : Record) (script : IsScript heading lines) (a : AreLeft heading lines left) where
  lawful_left : (member shard : ℕ) → IsMember heading member → shard < heading.shards
      → IsLawful (identity (grid_from heading (histories_in left) shard) member) heading.floor (histories_in left member shard)
  lawful_left member shard is less =
      let h = history_of heading lines left a member shard is less in
      subst (IsLawful (identity (grid_from heading (histories_in left) shard) member) heading.floor) (sym h.history_is) h.left_by.lawful

  mailed_left : (member : ℕ) → IsMember heading member
      → IsMailed heading (λ client. (a.clients client).served) (λ m. (a.hosts m).works) member (a.hosts member).taken
  mailed_left member is = record {
    senders = (a.each_host member is).senders;
    of_clients = λ client stated. a.from_clients client member nobody stated is ∙ (a.each_client client stated).sent member nobody is;
    of_members = λ other stated. a.from_members other member nobody stated is ∙ (a.each_host other stated).sent member nobody is;
  }

  by_threads : AreLeftByThreads heading lines (histories_in left) (λ client. (a.clients client).served)
  by_threads = record {
    lawful = lawful_left;
    outside = is_outside heading lines left a;
    owned = owned heading lines left script a;
    places = places heading lines left script a;
    shared = shared_left heading lines left script a;
    written = written_left heading lines left script a;
    works = λ member. (a.hosts member).works;
    taken = λ member. (a.hosts member).taken;
    sessions = sessions_left heading lines left script a;
    threads = threads_left heading lines left script a;
    mailed = mailed_left;
  }

  pub lawful_record : IsLeftByThreads heading lines left
  lawful_record = record {
    served = λ client. (a.clients client).served;
    members = a.numbered;
    shards = shards_left heading lines left a;
    regions = regions_left heading lines left a;
    clients = a.told ∙ same_numbers (λ client. (a.clients client).told) (client_of heading (λ client. (a.clients client).served)) 1
        (length heading.clients) (λ client low high. (a.each_client client (low, omega (arith, high))).told_is);
    threads = by_threads;
  }
