use Rattle.std.proofs.Common.{IsUtf8, rules}
use Rattle.std.proofs.lemmas.Str.{IsUtf8-from_is_utf8}
use Rattle.gr_value.proofs.text.Text.as_str.Goals as goal

pub unwrap-requires : goal.unwrap-requires
unwrap-requires c =
    let text : IsUtf8 c.bytes.result.now = IsUtf8-from_is_utf8 _ (rw c.bytes.ensures.bytes c.bytes.ensures.utf8) in
    search rules
