-- News of threads, told apart.
use Rattle.std.specs.Prelude.{◌≡◌, List, [], ◌∷◌, ◌++◌, Option, Some, None}
use Rattle.std.specs.Option.{option_to_list}
use Rattle.gr_history.specs.declared.record.ClientRecord.{ClientRecord}
use Rattle.gr_post.specs.Passes.{Sending, Taking}
use Rattle.gr_runner.specs.declared.gathering.News.{News}
use Rattle.gr_runner.specs.declared.gathering.News.TheVariants as news
use Rattle.gr_runner.specs.declared.sorting.Sorted.{Sorted}

-- what the client was told
abbrev pub told_in : News → Option ClientRecord
told_in (news.Client told sends) = Some told
told_in (news.Member take sends) = None

-- the member's leave to take mail
abbrev pub take_in : News → Option Taking
take_in (news.Client told sends) = None
take_in (news.Member take sends) = Some take

-- the leaves to send
abbrev pub sends_in : News → List Sending
sends_in (news.Client told sends) = sends
sends_in (news.Member take sends) = sends

-- One thread's news stand behind those from before.
pub record IsAdded (old : Sorted) (one : News) (new : Sorted) : Type 0 where
  pub told : new.told ≡ old.told ++ option_to_list (told_in one)
  pub takes : new.takes.items ≡ old.takes.items ++ option_to_list (take_in one)
  pub sends : new.sends.items ≡ old.sends.items ++ sends_in one ∷ []
