-- A line behind the heading is of none of the heading's kinds.
use Rattle.std.proofs.Common.{◌≡◌, ◌≤◌, ◌<◌, ◌+◌, ℕ, false, sym, ap, nat_lt, if◌then◌else◌, arith}
use Rattle.std.proofs.Math.Nat.{le_trans, min-le_left, min-eq_right}
use Rattle.std.proofs.lemmas.Bool.{ne_eqb}
use Rattle.gr_script.specs.declared.forms.LineKind.{LineKind}
use Rattle.gr_script.specs.declared.forms.LineKind.TheVariants as kind
use Rattle.gr_script.specs.Forms.{place, rank, is_kind}
use Rattle.gr_script.specs.Past.{next_rank}

-- A line behind the heading states nothing of it.
pub record StatesNone (one : LineKind) : Type 0 where
  pub region : is_kind kind.Region one ≡ false
  pub members : is_kind kind.Members one ≡ false
  pub shards : is_kind kind.Shards one ≡ false
  pub inbox : is_kind kind.Inbox one ≡ false
  pub trouble : is_kind kind.Trouble one ≡ false
  pub floor : is_kind kind.Floor one ≡ false
  pub client : is_kind kind.Client one ≡ false
  pub last : 8 ≡ next_rank one

late_place : (one : LineKind) → 8 ≤ rank one → 8 ≤ place one
late_place one late = le_trans late (min-le_left (place one) 8)

other : (form one : LineKind) → place form < 8 → 8 ≤ place one → is_kind form one ≡ false
other form one early late = ne_eqb (place form) (place one) (λ same. absurd (omega arith))

pub states_none : (one : LineKind) → 8 ≤ rank one → StatesNone one
states_none one late =
    let behind = late_place one late in
    let next : ℕ → ℕ = λ of. if nat_lt of 7 then of + 1 else of in
    record {
      region = other kind.Region one (omega arith) behind;
      members = other kind.Members one (omega arith) behind;
      shards = other kind.Shards one (omega arith) behind;
      inbox = other kind.Inbox one (omega arith) behind;
      trouble = other kind.Trouble one (omega arith) behind;
      floor = other kind.Floor one (omega arith) behind;
      client = other kind.Client one (omega arith) behind;
      last = ap next (sym (min-eq_right behind));
    }
