-- Which piece of a text each field is.
use Rattle.std.specs.Prelude.{ℕ, List, [], ◌∷◌, length, take, drop, Bool, ◌&&◌, ◌==◌, not, codes, bytes_eq, Option, if◌then◌else◌}
use Rattle.std.specs.List.{list_all}
use Rattle.std.specs.Char.{is_ascii_digit}
use Rattle.gr_script.specs.declared.forms.LineKind.{LineKind}
use Rattle.gr_script.specs.declared.forms.FieldKind.{FieldKind}
use Rattle.gr_script.specs.declared.forms.FieldKind.TheVariants as field
use Rattle.gr_script.specs.Cuts.{after_spaces, field_len}
use Rattle.gr_script.specs.Forms.{client_kinds, other_kinds, kind_of}
use Rattle.gr_script.specs.Pieces.{piece_len}

-- how many bytes a field of this kind has, which stands in front
abbrev pub len_of : FieldKind → List ℕ → ℕ
len_of field.Value text = piece_len text
len_of field.Query text = length text
len_of _ text = field_len text

abbrev pub piece : FieldKind → List ℕ → List ℕ
piece kind text = take (len_of kind text) text

-- what stands behind it
abbrev pub left : FieldKind → List ℕ → List ℕ
left kind text = after_spaces (drop (len_of kind text) text)

-- Some fields are one word only, and none is missing.
abbrev pub is_filled : FieldKind → List ℕ → Bool
is_filled field.At piece = bytes_eq piece (codes "at")
is_filled field.Version piece = bytes_eq piece (codes "1")
is_filled _ piece = not (length piece == 0)

-- No field is missing, and there is none too many.
abbrev pub fits : List FieldKind → List ℕ → Bool
fits [] text = length text == 0
fits (kind ∷ kinds) text = is_filled kind (piece kind text) && fits kinds (left kind text)

abbrev pub first : List ℕ → List ℕ
first text = piece field.Word text

abbrev pub second : List ℕ → List ℕ
second text = first (left field.Word text)

-- A line that begins with digits alone is a client's.
abbrev pub is_client : List ℕ → Bool
is_client text = list_all is_ascii_digit (first text)

-- the form that the line's word names
abbrev pub form_of : List ℕ → Option LineKind
form_of text = if is_client text then kind_of client_kinds (second text) else kind_of other_kinds (first text)
