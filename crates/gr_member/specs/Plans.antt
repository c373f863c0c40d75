-- What a member is planned to be.
use Rattle.std.specs.Prelude.{ℕ, ◌≤◌}
use Rattle.gr_stamp.specs.declared.stamp.TheConstants.{LIMIT}
use Rattle.gr_history.specs.declared.identity.Identity.{Identity}
use Rattle.gr_member.specs.declared.plan.Plan.{Plan}

-- What a plan may be.
pub record IsPlan (plan : Plan) : Type 0 where
  pub some_member : 1 ≤ plan.member
  pub stated : plan.member ≤ plan.members
  pub few : plan.members ≤ 8
  pub founded : plan.founders ≤ plan.members
  pub some_shard : 1 ≤ plan.shards
  pub shards : plan.shards ≤ 32
  pub low : plan.floor ≤ LIMIT

-- whose shard the shard k of the member is
abbrev pub identity_of : Plan → ℕ → Identity
identity_of plan k = record { member = plan.member; members = plan.members; founders = plan.founders; shard = k; shards = plan.shards }
