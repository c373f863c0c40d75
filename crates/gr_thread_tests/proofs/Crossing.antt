-- A reference that a closure captured may be shared where what it refers to may.
use denote.Builtin as builtin
use denote.Hole.{as_row}
use denote.RattleType.{RattleType}
use denote.Ref.{NamedLft}
use denote.Struct.Field.{row_field, shr_ref_field}
use denote.Param.Send.{IsSync, shr_sync}
use denote.Param.SendFields.{as_row_sync}

pub captured_sync : (a : NamedLft) (R : RattleType) (one : builtin.One R.mir) → IsSync R
    → IsSync (as_row (row_field (shr_ref_field a R one).row))
captured_sync a R one s = as_row_sync (row_field (shr_ref_field a R one).row) (shr_sync a.mir a.lft R s)
