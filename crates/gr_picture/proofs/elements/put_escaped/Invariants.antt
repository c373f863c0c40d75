-- What is put so far, and the rest of the text escaped behind it.
use Rattle.std.proofs.Common.{◌≡◌, ◌++◌, IsUtf8, string_bytes}
use Rattle.std.specs.Str.Iter.{chars_rest}
use Rattle.gr_picture.specs.Escapes.{escaped}
use Rattle.gr_picture.proofs.elements.put_escaped.Given as goal

abbrev pub invariant-loop-letter : goal.invariant-loop-letter
invariant-loop-letter l = IsUtf8 (chars_rest l.letter-iterator)
    × (string_bytes l.out ++ escaped l.fn.quoted (chars_rest l.letter-iterator) ≡ string_bytes l.fn.out ++ escaped l.fn.quoted l.fn.text)
