-- Where the text of a value ends.
use Rattle.std.specs.Prelude.{ℕ, ◌+◌, ◌-◌, List, [], ◌∷◌, length, Bool, false, ◌==◌, if◌then◌else◌, Option, position}
use Rattle.std.specs.Option.{option_map_or}
use Rattle.gr_script.specs.declared.piece.Nesting.{Nesting}
use Rattle.gr_script.specs.declared.piece.Place.{Place}
use Rattle.gr_script.specs.declared.piece.Place.TheVariants.{Outside, Quoted, Escaped}

abbrev pub nesting_of : ℕ → Place → Nesting
nesting_of depth place = record { depth = depth; place = place }

-- how many braces are open behind one more byte, and where that is
abbrev pub behind : Nesting → ℕ → Nesting
behind before byte = go before.depth before.place
  where
    go : ℕ → Place → Nesting
    go depth Outside =
        if byte == 0x7B then nesting_of (depth + 1) Outside
        else (if byte == 0x7D then nesting_of (depth - 1) Outside
        else (if byte == 0x22 then nesting_of depth Quoted
        else nesting_of depth Outside))
    go depth Quoted =
        if byte == 0x22 then nesting_of depth Outside
        else (if byte == 0x5C then nesting_of depth Escaped
        else nesting_of depth Quoted)
    go depth Escaped = nesting_of depth Quoted

-- how many braces are open behind each byte
abbrev pub depths : Nesting → List ℕ → List ℕ
depths before [] = []
depths before (byte ∷ text) = (behind before byte).depth ∷ depths (behind before byte) text

-- the place of the first byte behind which no brace is open
abbrev pub closing : Nesting → List ℕ → Option ℕ
closing before text = position (λ depth. depth == 0) (depths before text)

abbrev pub begins_braced : List ℕ → Bool
begins_braced [] = false
begins_braced (first ∷ _) = first == 0x7B

-- How many bytes the piece has that a value is: up to the brace that closes its first one, or all. Said by braces in
-- balance it is a law, `values_end_with_their_brace`.
abbrev pub piece_len : List ℕ → ℕ
piece_len text =
    if begins_braced text then option_map_or (λ place. place + 1) (closing (nesting_of 0 Outside) text) (length text)
    else length text
