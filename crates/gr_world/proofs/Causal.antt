-- The course of a script is causal.
use Rattle.std.specs.Prelude.{◌-◌, slice_index}
use Rattle.std.proofs.Common.{zero, suc, ℕ, ◌<◌, List, [], ◌∷◌, refl}
use Rattle.std.proofs.Common.{arith, length}
use Rattle.gr_value.specs.Shard.{shard_of}
use Rattle.gr_history.specs.Asks.{key_of}
use Rattle.gr_script.specs.declared.line.Act.TheVariants as act
use Rattle.gr_script.specs.declared.line.Line.{Line}
use Rattle.gr_script.specs.declared.line.Line.TheVariants.{Step, Deliver, Hear, Sweep, Join, Depart, Leave, Back}
use Rattle.gr_script.specs.declared.line.Line.TheVariants as line
use Rattle.gr_script.specs.Rules.{Heading, IsHeading, IsMember, IsStated, IsWithin, AreWithin, home_of, StandsAfter, AllStand}
use Rattle.gr_world.specs.Doings.{Calls, Reports, Sweeps, Asks}
use Rattle.gr_script.specs.Steps.{departed}
use Rattle.gr_world.specs.Courses.{does, hears_of, closes_all, sweeps_at, hands_over, after, course}
use Rattle.gr_world.specs.Causes.{IsCausal}
use Rattle.gr_world.proofs.Causes.{does_causal, delivers_causal, hears_causal, closes_causal, hands_over_causal, causal_more}
use Rattle.gr_world.proofs.Walks.{each_keep}
use Rattle.gr_world.proofs.Asking.{gathered}
use Rattle.gr_world.proofs.Joins.{joins_ready, course_unmerged}

within_at : (least most : ℕ) (numbers : List ℕ) (i : ℕ) → AreWithin least most numbers → i < length numbers
    → IsWithin least most (slice_index numbers i)
within_at least most [] i all less = absurd (omega (arith, less))
within_at least most (first ∷ rest) zero all less = all.0
within_at least most (first ∷ rest) (suc i) all less = within_at least most rest i all.1 (omega (arith, less))

-- a client's member is a member
pub home_stated : (heading : Heading) (client : ℕ) → IsHeading heading → IsStated client heading
    → IsMember heading (home_of heading client)
home_stated heading client is stated =
    within_at 1 heading.members heading.clients (client - 1) is.at_members (omega (arith, stated.0, stated.1))

-- Of the line's own departure it may be that it is closed.
line_causal : (heading : Heading) (line : Line) (past : List Line) → IsHeading heading → StandsAfter heading past line
    → IsCausal heading (departed past) (course heading past)
    → IsCausal heading (departed (line ∷ past)) (after heading (departed past) line (course heading past))
line_causal heading (Step client number (act.Call ask)) past is stands h =
    does_causal heading (departed past) (home_of heading client) (shard_of (key_of ask) heading.shards) (Calls client number ask)
    (course heading past) (home_stated heading client is stands.0) (refl, refl) h
line_causal heading (Step client number (act.Query ask)) past is stands h = (
  gathered heading client number ask (course heading past),
  each_keep (IsCausal heading (departed past)) heading.shards
      (λ shard. does heading (home_of heading client) shard (Asks client number ask))
      (λ shard less mid k. does_causal heading (departed past) (home_of heading client) shard (Asks client number ask) mid
      (home_stated heading client is stands.0) refl k) (course heading past) h,
)
line_causal heading (Step client number (act.Peek key)) past is stands h = ((refl, refl), h)
line_causal heading (Deliver member client number) past is stands h =
    delivers_causal heading (departed past) member client number (course heading past) stands.0 h
line_causal heading (line.Report member) past is stands h =
    each_keep (IsCausal heading (departed past)) heading.shards (λ shard. does heading member shard Reports)
    (λ shard less mid k. does_causal heading (departed past) member shard Reports mid stands.0 tt k) (course heading past) h
line_causal heading (Hear member of number) past is stands h =
    each_keep (IsCausal heading (departed past)) heading.shards (hears_of heading member of number)
    (λ shard less mid k. hears_causal heading (departed past) member of number shard mid is.members.1 stands.0 k) (course heading past) h
line_causal heading (Sweep member moment) past is stands h =
    each_keep (IsCausal heading (departed past)) heading.shards (sweeps_at heading (departed past) member moment)
    (λ shard less mid k. does_causal heading (departed past) member shard (Sweeps moment) (closes_all heading (departed past) member shard mid)
    stands.0 tt (closes_causal heading (departed past) member shard mid stands.0 k)) (course heading past) h
line_causal heading (Join joiner provider) past is stands h =
    joins_ready heading (departed past) joiner provider (course heading past) is.members.1 (omega (arith, stands.0), stands.1) stands.0
    stands.2.1 (record { causal = h; none = λ shard from. course_unmerged heading joiner past stands.3 shard })
line_causal heading (Depart member) past is stands h =
    each_keep (IsCausal heading (member ∷ departed past)) heading.shards (hands_over heading (member ∷ departed past) member)
    (λ shard less mid k. hands_over_causal heading (member ∷ departed past) member shard mid is.members.1 k) (course heading past)
    (causal_more heading member (departed past) (course heading past) h)
line_causal heading (Leave client moment) past is stands h = h
line_causal heading (Back client moment) past is stands h = h

-- Each event is one that may come after those before it.
pub course_causal : (heading : Heading) (past : List Line) → IsHeading heading → AllStand heading past
    → IsCausal heading (departed past) (course heading past)
course_causal heading [] is stand = tt
course_causal heading (line ∷ past) is stand = line_causal heading line past is stand.0 (course_causal heading past is stand.1)
