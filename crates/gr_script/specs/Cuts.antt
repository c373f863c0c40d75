-- How a text is cut into lines, and a line into what it says.
use Rattle.std.specs.Prelude.{ℕ, ◌+◌, ◌-◌, List, [], ◌∷◌, length, take, drop, Bool, true, false, ◌==◌, not, if◌then◌else◌, count_by}
use Rattle.std.specs.Prelude.{slice_get}
use Rattle.std.specs.List.{prefix_len, suffix_len}
use Rattle.std.specs.Option.{option_map_or}
use Rattle.gr_script.specs.Texts.{is_ended}

-- whether the text's last byte is this one
abbrev pub ends_with : ℕ → List ℕ → Bool
ends_with byte text = option_map_or (λ last. last == byte) (slice_get text (length text - 1)) false

-- how many line feeds a text has, and one more where something stands behind the last one
abbrev pub line_count : List ℕ → ℕ
line_count text = count_by (λ byte. byte == 0x0A) text + (if is_ended text then 0 else 1)

abbrev pub without_last : List ℕ → List ℕ
without_last text = take (length text - 1) text

-- a line without the carriage return at its end
abbrev pub without_return : List ℕ → List ℕ
without_return line = if ends_with 0x0D line then without_last line else line

abbrev pub is_space : ℕ → Bool
is_space byte = byte == 0x20

-- without the spaces in front
abbrev pub after_spaces : List ℕ → List ℕ
after_spaces text = drop (prefix_len is_space text) text

-- without the spaces behind
abbrev pub before_spaces : List ℕ → List ℕ
before_spaces text = take (length text - suffix_len is_space text) text

-- what a line says
abbrev pub text_said : List ℕ → List ℕ
text_said line = after_spaces (before_spaces (without_return line))

-- Nothing is said, or a comment.
abbrev pub is_skipped : List ℕ → Bool
is_skipped [] = true
is_skipped (first ∷ _) = first == 0x23

-- how many bytes the field has that stands in front
abbrev pub field_len : List ℕ → ℕ
field_len text = prefix_len (λ byte. not (is_space byte)) text
