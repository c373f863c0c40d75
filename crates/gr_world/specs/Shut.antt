-- What holds of a member's changes once it has departed.
use Rattle.std.specs.Prelude.{◌≡◌, ◌<◌, ℕ, List, ◌∷◌, ◌++◌, false, true}
use Rattle.gr_stamp.specs.declared.change.Change.{Change}
use Rattle.gr_vector.specs.Ids.{Id, has_id}
use Rattle.gr_history.specs.Ids.{id_of, ids}
use Rattle.gr_law.specs.Grids.{Among}
use Rattle.gr_script.specs.declared.line.Line.{Line}
use Rattle.gr_script.specs.declared.line.Line.TheVariants.{Depart}
use Rattle.gr_script.specs.Rules.{Heading, IsMember}
use Rattle.gr_script.specs.Steps.{departed, is_gone}
use Rattle.gr_world.specs.Courses.{course}
use Rattle.gr_world.specs.Departures.{taken_of}
use Rattle.gr_world.specs.Events.{Event, history}

-- a member that hasn't departed, ready or not
pub record IsStaying (heading : Heading) (gone : List ℕ) (member : ℕ) : Type 0 where
  pub stated : IsMember heading member
  pub stays : is_gone gone member ≡ false

-- All members that stay know the same changes of the one.
abbrev pub AreOne : Heading → List ℕ → ℕ → List Event → Type 0
AreOne heading gone of now = (shard : ℕ) → shard < heading.shards → (j k : ℕ) → IsStaying heading gone j → IsStaying heading gone k
    → (id : Id) → id.member ≡ of → has_id id (ids (history j shard now)) ≡ has_id id (ids (history k shard now))

-- They know no more of these than before.
abbrev pub AreStill : Heading → List ℕ → ℕ → List Event → List Event → Type 0
AreStill heading gone of before now = (shard : ℕ) → shard < heading.shards → (j : ℕ) → IsStaying heading gone j → (id : Id)
    → id.member ≡ of → has_id id (ids (history j shard now)) ≡ has_id id (ids (history j shard before))

-- After a member departed, all members that stay know the same of its changes, and they know no more of them at the end.
pub record IsShut (heading : Heading) (of : ℕ) (past later : List Line) : Type 0 where
  pub one : AreOne heading (of ∷ departed past) of (course heading (Depart of ∷ past))
  pub still : AreStill heading (of ∷ departed past) of (course heading (Depart of ∷ past)) (course heading (later ++ Depart of ∷ past))

-- So it is of each departure of these lines, which are listed the last one first.
abbrev pub AreShut : Heading → List Line → Type 0
AreShut heading lines = (of : ℕ) (past later : List Line) → lines ≡ later ++ Depart of ∷ past → IsShut heading of past later

-- ---- how it comes about

-- whether a member knows the change of this id, at a shard
abbrev pub Knows : ℕ → ℕ → Id → List Event → Type 0
Knows member shard id now = has_id id (ids (history member shard now)) ≡ true

-- whether it took in this change of the one
abbrev pub HasTaken : ℕ → ℕ → ℕ → Change → List Event → Type 0
HasTaken of member shard change now = Among change (taken_of of (history member shard now))

-- one that stays had taken in the change of this id
pub record IsKept (heading : Heading) (gone : List ℕ) (of shard : ℕ) (start : List Event) (id : Id) : Type 0 where
  pub giver : ℕ
  pub staying : IsStaying heading gone giver
  pub change : Change
  pub taken : HasTaken of giver shard change start
  pub named : id_of change ≡ id

-- What members that stay know of the one, one that stays took in.
abbrev pub IsFromTaken : Heading → List ℕ → ℕ → ℕ → List Event → Type 0
IsFromTaken heading gone of shard now = (j : ℕ) → IsStaying heading gone j → (id : Id) → id.member ≡ of → Knows j shard id now
    → IsKept heading gone of shard now id

-- All members that stay know the same changes of the one, at a shard.
abbrev pub IsOne : Heading → List ℕ → ℕ → ℕ → List Event → Type 0
IsOne heading gone of shard now = (j k : ℕ) → IsStaying heading gone j → IsStaying heading gone k → (id : Id) → id.member ≡ of
    → has_id id (ids (history j shard now)) ≡ has_id id (ids (history k shard now))
