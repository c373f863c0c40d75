use Rattle.gr_value.proofs.PlainBytes.{escape_shorter}
use Rattle.gr_value.proofs.plain.Cursor.take_escaped.Goals as goal

pub escapes-smaller : goal.escapes-smaller
escapes-smaller c = escape_shorter _ _ _ _ c.in-Some.ensures c.in_ok-rest.ensures.within
