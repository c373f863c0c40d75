-- A run before and after its threads.
use Rattle.std.specs.Prelude.{◌≡◌, List, length, map}
use Rattle.std.specs.List.{AllByRecursion, filter_map}
use Rattle.gr_history.specs.declared.record.ClientRecord.{ClientRecord}
use Rattle.gr_post.specs.Passes.{Ring, Taking}
use Rattle.gr_script.specs.declared.line.Line.{Line}
use Rattle.gr_script.specs.Rules.{Heading, IsScript}
use Rattle.gr_member.specs.Passes.{House}
use Rattle.gr_member.specs.Seats.{Place}
use Rattle.gr_runner.specs.declared.dealing.Dealt.{Dealt}
use Rattle.gr_runner.specs.declared.gathering.News.{News}
use Rattle.gr_runner.specs.declared.kits.Kits.{Kits}
use Rattle.gr_runner.specs.Dealing.{AreDealt, IsDealt}
use Rattle.gr_runner.specs.Gone.{HasGone}
use Rattle.gr_runner.specs.Kits.{AreKits}
use Rattle.gr_runner.specs.Makings.{AreMade}
use Rattle.gr_runner.specs.Receipts.{AreTaken}
use Rattle.gr_runner.specs.Sorting.{sends_in, take_in, told_in}

-- Members were made, and kits and passes were dealt.
pub record IsReady (h : Heading) (lines : List Line) (houses : List House) (rings : List Ring) (dealt : Dealt) : Type 0 where
  pub script : IsScript h lines
  pub passes : List (List (List Place))
  pub made : AreMade h h.members houses passes
  pub many : length rings ≡ h.members
  pub kits : Kits
  pub kits_are : AreKits h lines rings kits
  pub dealt_are : IsDealt h passes kits.clients.items kits.members.items dealt
  pub new : AreDealt h houses dealt

-- So it was for some script.
abbrev pub WasReady : List House → List Ring → Dealt → Type 0
WasReady houses rings dealt = (h : Heading) × (lines : List Line) × IsReady h lines houses rings dealt

-- These clients' records are of the news, and takers were told what was sent.
pub record IsToldBy (news : List News) (told : List ClientRecord) : Type 0 where
  pub told_is : told ≡ filter_map told_in news
  pub takes : List Taking
  pub taken : map (λ (t : Taking). t.taken) takes ≡ map (λ (t : Taking). t.taken) (filter_map take_in news)
  pub receipts : AllByRecursion (AreTaken takes) (map sends_in news)

-- All threads ran, and this is what clients were told.
pub record HasGoneBy (h : Heading) (lines : List Line) (houses : List House) (rings : List Ring) (desks : List (List Place))
    (told : List ClientRecord) : Type 0 where
  pub news : List News
  pub gone : HasGone h lines houses rings desks news
  pub told_is : told ≡ filter_map told_in news
