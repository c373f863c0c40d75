-- Lines of a text, and fields of a line.
use Rattle.std.specs.Prelude.{◌≡◌, ℕ, List, [], ◌∷◌, ◌++◌, Bool, true, false, ◌==◌, Option, Some, None, option_map, flat_map}
use Rattle.std.specs.Prelude.{if◌then◌else◌}
use Rattle.std.specs.List.{onto_first, list_any}

-- what stands in front of the first such byte, and what stands behind it
abbrev pub cut : ℕ → List ℕ → Option (List ℕ × List ℕ)
cut mark [] = None
cut mark (byte ∷ bytes) = if byte == mark then Some ([], bytes) else option_map (λ parts. (byte ∷ parts.0, parts.1)) (cut mark bytes)

-- the lines of a text, of which the last one may lack its line feed
abbrev pub lines_of : List ℕ → List (List ℕ)
lines_of [] = []
lines_of (byte ∷ bytes) = if byte == 0x0A then [] ∷ lines_of bytes else onto_first byte (lines_of bytes)

-- whether the last line, too, ends with a line feed
abbrev pub is_ended : List ℕ → Bool
is_ended [] = true
is_ended (byte ∷ []) = byte == 0x0A
is_ended (_ ∷ next ∷ bytes) = is_ended (next ∷ bytes)

-- A line has no line feed in it,
abbrev pub IsLine : List ℕ → Type 0
IsLine line = list_any (λ byte. byte == 0x0A) line ≡ false

-- and ends with one in a text.
abbrev pub text_of : List (List ℕ) → List ℕ
text_of lines = flat_map (λ line. line ++ 0x0A ∷ []) lines
