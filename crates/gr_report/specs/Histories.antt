-- The text of the members' histories.
use Rattle.std.specs.Prelude.{ℕ, List, ◌++◌, length, codes, decimal, flat_map}
use Rattle.gr_history.specs.declared.record.MemberRecord.{MemberRecord}
use Rattle.gr_history.specs.declared.record.ShardRecord.{ShardRecord}
use Rattle.gr_report.specs.Deeds.{deed_line}
use Rattle.gr_report.specs.Texts.{texts_from}

unfoldable pub history_line : ℕ → ℕ → ℕ → List ℕ
history_line member shard deeds =
    codes "history " ++ decimal member ++ codes " " ++ decimal shard ++ codes " " ++ decimal deeds ++ codes "\n"

-- a shard of a member, with its number
abbrev pub history_text : ℕ → ℕ → ShardRecord → List ℕ
history_text member shard shard_record =
    history_line member shard (length shard_record.history.deeds) ++ flat_map deed_line shard_record.history.deeds

-- Shards are numbered from 0.
abbrev pub histories_of : MemberRecord → List ℕ
histories_of member_record = texts_from (history_text member_record.member) 0 member_record.shards
