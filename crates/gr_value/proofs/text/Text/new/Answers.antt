use Rattle.std.proofs.lemmas.Str.{is_utf8-from_IsUtf8}
use Rattle.gr_value.proofs.text.Text.new.Goals as goal

pub of_utf8-requires : goal.of_utf8-requires
of_utf8-requires c = is_utf8-from_IsUtf8 _ c.as_bytes.ensures.utf8
