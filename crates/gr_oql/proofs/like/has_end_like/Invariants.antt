-- The pattern and the text that are left say what the whole says, and each turn shortens one of them.
use Rattle.std.proofs.Common.{◌≡◌, ◌+◌, length}
use denote.Text.{Utf8}
use denote.Shadow.{shadow}
use Rattle.std.specs.Str.{chars}
use Rattle.gr_oql.specs.Like.{has_end_like}
use Rattle.gr_oql.proofs.like.has_end_like.Given as goal

abbrev pub invariant-loop-rest : goal.invariant-loop-rest
invariant-loop-rest l = record {
  pattern_text : shadow (Utf8 l.pattern);
  left_text : shadow (Utf8 l.text);
  same : has_end_like (chars l.initial.pattern) (chars l.initial.text) ≡ has_end_like (chars l.pattern) (chars l.text);
}

abbrev pub decreases-loop-rest : goal.decreases-loop-rest
decreases-loop-rest l = length l.pattern + length l.text
