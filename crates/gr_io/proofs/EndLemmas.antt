-- How a read that stops early ends the whole.
use Rattle.std.proofs.Common.{◌≡◌, ℕ, ◌+◌, ◌-◌, ◌≤◌, ◌++◌, ◌∷◌, [], inl, inr, refl, List, length, take, drop, flat_map, get_or, Option}
use Rattle.std.proofs.Common.{IfSome, arith}
use Rattle.std.specs.Io.KnownBytes.{Appends, Consumes, Keeps, IsAtEnd}
use Rattle.std.proofs.KnownBytes.{Appends-trans, Consumes-kept, Consumes-trans, Consumes-whole}
use Rattle.std.proofs.Math.Seq.{take-add, take-append-add, take-length}
use Rattle.std.proofs.lemmas.List.{length-append}
use Rattle.gr_io.specs.declared.end.ReadEnd.{ReadEnd}
use Rattle.gr_io.specs.declared.end.ReadEnd.TheVariants.{Fault, TooLarge, Memory}
use Rattle.gr_io.specs.Ends.{AppendsPart, EndsFor, StopsFor}
use Rattle.gr_value.specs.Counts.{Rose}

-- a count that rose in a later part of a call rose in the call
pub Rose-since : (had mid has : ℕ) → had ≤ mid → Rose mid has → Rose had has
Rose-since had mid has low rose = elim rose [ inl more ↦ inl (omega arith) | inr most ↦ inr most ]

-- some bytes were read, and the next read stopped
pub EndsFor-stopped : (limit : ℕ) (a b c : Option (List ℕ)) (bytes : List ℕ) (had mid has : ℕ) (end : ReadEnd)
    → Consumes a b bytes → length bytes ≤ limit → had ≤ mid → Keeps b c → StopsFor mid has end → EndsFor limit a c had has end
EndsFor-stopped limit a b c bytes had mid has Fault read fits low kept stops =
    (Rose-since had mid has low stops, (bytes, Consumes-kept a b c bytes read kept, fits))
EndsFor-stopped limit a b c bytes had mid has (TooLarge more) read fits low kept stops = absurd stops
EndsFor-stopped limit a b c bytes had mid has Memory read fits low kept stops = (bytes, Consumes-kept a b c bytes read kept, fits)

-- what one more write appended comes behind what was appended before
pub Appends-more : (a b c : Option (List ℕ)) (bytes : List ℕ) (written n : ℕ) → Appends a b (take written bytes)
    → Appends b c (take n (drop written bytes))
    → Appends a c (take (written + n) bytes)
Appends-more a b c bytes written n before now =
    rw take-add (Appends-trans a b c (take written bytes) (take n (drop written bytes)) before now)

-- a source that was read to its end gave all that it had
pub whole_read : (a b c : Option (List ℕ)) (bytes more all : List ℕ) → Consumes a b bytes → Consumes b c more → IsAtEnd c → all ≡ bytes
    ++ more
    → IfSome a (λ left. all ≡ left)
whole_read a b c bytes more all before now end is =
    Consumes-whole a c (bytes ++ more) (λ left. all ≡ left) (Consumes-trans a b c bytes more before now) end is

-- the whole of what comes first, and then a part of the rest, is a part of the whole
pub AppendsPart_rest : (a b c : Option (List ℕ)) (first rest : List ℕ) → Appends a b first → AppendsPart b c rest
    → AppendsPart a c (first ++ rest)
AppendsPart_rest a b c first rest whole part = (
  length first + part.0,
  rw (take-append-add first rest part.0) (Appends-trans a b c first (take part.0 rest) whole part.1),
  omega (arith, part.2, length-append first rest),
)

-- pieces are the first and the rest
pub flat_map-first : {X : Type 0} (f : X → List ℕ) (xs : List X) (other : X) → 1 ≤ length xs
    → flat_map f xs ≡ f (get_or xs 0 other) ++ flat_map f (take (length xs - 1) (drop 1 xs))
flat_map-first f [] other some = absurd (omega (arith, some))
flat_map-first f (x ∷ xs) other some =
    let rest : length (x ∷ xs) - 1 ≡ length xs = omega arith in
    rw (rest, take-length xs) refl
