-- A run, from the making of its members to the end of its mail.
use Rattle.std.specs.Prelude.{◌≡◌, ℕ, ◌<◌, List, length, map, slice_index_or, Some}
use Rattle.std.specs.List.{AllByRecursion, filter_map}
use Rattle.gr_post.specs.Passes.{Ring, Taking}
use Rattle.gr_script.specs.declared.line.Line.{Line}
use Rattle.gr_script.specs.Rules.{Heading}
use Rattle.gr_member.specs.Passes.{House}
use Rattle.gr_member.specs.Seats.{Place}
use Rattle.gr_runner.specs.declared.dealing.Dealt.{Dealt}
use Rattle.gr_runner.specs.declared.gathering.Left.{Left}
use Rattle.gr_runner.specs.declared.gathering.News.{News}
use Rattle.gr_runner.specs.declared.kits.Kits.{Kits}
use Rattle.gr_runner.specs.declared.slots.Slot.{Slot}
use Rattle.gr_runner.specs.Dealing.{IsDealt}
use Rattle.gr_runner.specs.Gathering.{DesksKnow}
use Rattle.gr_runner.specs.Kits.{AreKits}
use Rattle.gr_runner.specs.Makings.{AreMade}
use Rattle.gr_runner.specs.Receipts.{AreTaken}
use Rattle.gr_runner.specs.Slots.{HasRun}
use Rattle.gr_runner.specs.Sorting.{sends_in, take_in}

-- Members were made, kits and passes were dealt, all threads ran and left news, and their passes were met into these desks.
pub record HasPlayed (h : Heading) (lines : List Line) (houses : List House) (rings : List Ring) (desks : List (List Place))
    (news : List News) : Type 0 where
  pub passes : List (List (List Place))
  pub made : AreMade h h.members houses passes
  pub many : length rings ≡ h.members
  pub kits : Kits
  pub kits_are : AreKits h lines rings kits
  pub dealt : Dealt
  pub dealt_are : IsDealt h passes kits.clients.items kits.members.items dealt
  pub ran : List Slot
  pub all_ran : length ran ≡ length dealt.slots.items
  pub each_ran : (k : ℕ) (s : Slot) → k < length dealt.slots.items → HasRun (slice_index_or dealt.slots.items k s) (slice_index_or ran k s)
  pub lefts : List Left
  pub left_by : map (λ (l : Left). Some l) lefts ≡ map (λ (s : Slot). s.left) ran
  pub known : DesksKnow dealt.desks.items desks lefts
  pub told : map (λ (n : News). Some n) news ≡ map (λ (l : Left). l.news) lefts

-- Takers were told, too, what was sent.
pub record HasGone (h : Heading) (lines : List Line) (houses : List House) (rings : List Ring) (desks : List (List Place))
    (news : List News) : Type 0 where
  pub played : HasPlayed h lines houses rings desks news
  pub takes : List Taking
  pub taken : map (λ (t : Taking). t.taken) takes ≡ map (λ (t : Taking). t.taken) (filter_map take_in news)
  pub receipts : AllByRecursion (AreTaken takes) (map sends_in news)
