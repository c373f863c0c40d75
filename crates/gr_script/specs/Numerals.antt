-- How a number is spelled.
use Rattle.std.specs.Prelude.{ℕ, ◌+◌, ◌-◌, ◌*◌, List, [], ◌∷◌, length, nat_le, Bool, false, ◌&&◌, ◌||◌, ◌==◌, not, if◌then◌else◌, Option}
use Rattle.std.specs.Prelude.{Some, None}
use Rattle.std.specs.List.{fold, list_all}
use Rattle.std.specs.Char.{is_ascii_digit}

-- Only 0 itself begins with 0.
abbrev pub begins_number : List ℕ → Bool
begins_number [] = false
begins_number (first ∷ more) = not (first == 0x30) || length more == 0

-- digits, at most 20 of them
abbrev pub is_number : List ℕ → Bool
is_number text = begins_number text && nat_le (length text) 20 && list_all is_ascii_digit text

-- what digits spell
abbrev pub worth : List ℕ → ℕ
worth digits = fold (λ number digit. number * 10 + (digit - 0x30)) 0 digits

-- the number that is spelled so
abbrev pub number_of : List ℕ → Option ℕ
number_of text = if is_number text then Some (worth text) else None
