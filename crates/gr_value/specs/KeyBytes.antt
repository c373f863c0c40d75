-- What a key is, and why bytes are none.
use Rattle.std.specs.Prelude.{◌≡◌, ℕ, ◌&&◌, List, length, Bool, not, nat_lt, nat_le, position, if◌then◌else◌, ◌==◌, Option, Some, None}
use Rattle.std.specs.Prelude.{option_map}
use Rattle.gr_value.specs.declared.fault.KeyFault.{KeyFault}
use Rattle.gr_value.specs.declared.fault.KeyFault.TheVariants.{Empty, TooLong, BadByte, Memory}

-- A key's byte can be printed, and is no space.
abbrev pub is_key_byte : ℕ → Bool
is_key_byte byte = nat_le 0x21 byte && nat_le byte 0x7E

-- the place of the first byte that no key has
abbrev pub bad_place : List ℕ → Option ℕ
bad_place bytes = position (λ byte. not (is_key_byte byte)) bytes

-- Why bytes are no key. The length is judged before the bytes.
abbrev pub key_fault : List ℕ → Option KeyFault
key_fault bytes =
    if length bytes == 0 then Some Empty
    else (if nat_lt 255 (length bytes) then Some TooLong
    else option_map BadByte (bad_place bytes))

-- A key is what has no fault.
abbrev pub IsKey : List ℕ → Type 0
IsKey bytes = key_fault bytes ≡ None

-- What was answered is the fault, or memory was refused where there is none.
abbrev pub FaultIs : Option KeyFault → KeyFault → Type 0
FaultIs fault Memory = fault ≡ None
FaultIs fault Empty = fault ≡ Some Empty
FaultIs fault TooLong = fault ≡ Some TooLong
FaultIs fault (BadByte place) = fault ≡ Some (BadByte place)
