-- The version stamp of a change, and the order of stamps.
use Rattle.std.specs.Prelude.{ℕ, ◌≤◌, Bool, true, ◌&&◌, ◌||◌, ◌==◌, nat_lt, Option, Some, None}
use Rattle.gr_stamp.specs.declared.stamp.TheConstants.{LIMIT}

-- the entry's version, the member that made the change, and that member's region version
pub record Version : Type 0 where
  pub ver : ℕ
  pub member : ℕ
  pub rv : ℕ

pub record IsInRange (ver member rv : ℕ) : Type 0 where
  pub ver_from : 1 ≤ ver
  pub ver_to : ver ≤ LIMIT
  pub member_from : 1 ≤ member
  pub member_to : member ≤ 8
  pub rv_from : 1 ≤ rv
  pub rv_to : rv ≤ LIMIT

-- The greater version wins, on a tie the higher member, on a tie the higher region version.
abbrev pub beats : Version → Version → Bool
beats one two =
    nat_lt two.ver one.ver
    || (one.ver == two.ver && (nat_lt two.member one.member
    || (one.member == two.member && nat_lt two.rv one.rv)))

-- whether a new stamp replaces what is held
abbrev pub decides : Option Version → Version → Bool
decides None new = true
decides (Some held) new = beats new held
