-- What is left of both says what the whole says, and each turn takes a character of the pattern.
use Rattle.std.proofs.Common.{◌≤◌, length}
use denote.Text.{Utf8}
use denote.Shadow.{shadow}
use Rattle.std.specs.Str.{chars}
use Rattle.gr_oql.specs.Reader.Walk.{Follows}
use Rattle.gr_oql.proofs.like.follow.Given as goal

abbrev pub invariant-loop-agree : goal.invariant-loop-agree
invariant-loop-agree l = record {
  pattern_text : shadow (Utf8 l.pattern);
  left_text : shadow (Utf8 l.text);
  follows : Follows (chars l.initial.pattern) (chars l.initial.text) (chars l.pattern) (chars l.text);
  shorter : length l.pattern ≤ length l.initial.pattern;
  no_longer : length l.text ≤ length l.initial.text;
}

abbrev pub decreases-loop-agree : goal.decreases-loop-agree
decreases-loop-agree l = length l.pattern
