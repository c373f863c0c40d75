-- How items with separators between them are read one after another.
use Rattle.std.proofs.Common.{◌≡◌, ℕ, zero, suc, ◌≤◌, List, [], ◌∷◌, ◌++◌, length, Ok, Err, Bool, true, false, sym, refl, ap, ◌∙◌, arith}
use Rattle.std.proofs.Common.{append-nil, append_assoc}
use Rattle.gr_oql.specs.Terminals.{Terminal, begins, rest}
use Rattle.gr_oql.specs.Reader.Reading.{Reading, read_as, more_at, separated_at}
use Rattle.gr_oql.specs.Reader.Gives.{Stops, Reads, Passes}
use Rattle.gr_oql.specs.declared.halt.Wrong.{Wrong}
use Rattle.gr_oql.specs.declared.halt.Halt.{Halt}
use Rattle.gr_oql.specs.declared.halt.Halt.TheVariants as stops

-- two values made one after the other
read_as_twice : {A B C : Type 0} (f : A → B) (g : B → C) (read : Reading A) → read_as g (read_as f read) ≡ read_as (λ x. g (f x)) read
read_as_twice f g (Ok x) = refl
read_as_twice f g (Err e) = refl

read_as_same : {A B : Type 0} (f g : A → B) → ((x : A) → f x ≡ g x) → (read : Reading A) → read_as f read ≡ read_as g read
read_as_same f g same (Ok x) = ap (λ y. Ok (y, x.1)) (same x.0)
read_as_same f g same (Err e) = refl

module _ {A B : Type 0} (make : A → B) where
  pub made : (read : Reading A) (x : A) (left : List Terminal) → read ≡ Ok (x, left) → read_as make read ≡ Ok (make x, left)
  made read x left is = rw is refl

  pub made_stops : (stop : Halt) (left : List Terminal) (read : Reading A) → Stops stop left read → Stops stop left (read_as make read)
  made_stops stops.Memory left read is = tt
  made_stops (stops.Wrong wrong) left read is = rw is refl

module _ {A : Type 0} (separator : Terminal → Bool) (item : List Terminal → Reading A) where
  -- the items so far, and those that come
  pub record SoFar (start : List Terminal) (found : List A) (left : List Terminal) : Type 0 where
    pub turns : ℕ
    pub enough : length left ≤ turns
    pub within : length left ≤ length start
    pub same : separated_at separator item start ≡ read_as (λ more. found ++ more) (more_at separator item turns left)

  pub begun : (start left : List Terminal) (x : A) (found : List A) → item start ≡ Ok (x, left) → length left ≤ length start
      → found ≡ x ∷ [] → SoFar start found left
  begun start left x found read shorter is = record {
    turns = length left;
    enough = omega arith;
    within = shorter;
    same = rw (read, is) refl;
  }

  more_after : (turns : ℕ) (left after : List Terminal) (x : A) → begins separator left ≡ true → item (rest left) ≡ Ok (x, after)
      → more_at separator item (suc turns) left ≡ read_as (λ xs. x ∷ xs) (more_at separator item turns after)
  more_after turns left after x goes_on read = rw (goes_on, read) refl

  some_left : (left : List Terminal) → begins separator left ≡ true → length left ≡ suc (length (rest left))
  some_left [] goes_on = absurd (cc)
  some_left (t ∷ ts) goes_on = refl

  pub stepped : (start left next after : List Terminal) (x : A) (found longer : List A) → SoFar start found left
      → begins separator left ≡ true → next ≡ rest left → item next ≡ Ok (x, after) → length after ≤ length next → longer ≡ found ++ x ∷ []
      → SoFar start longer after
  stepped start left next after x found longer so_far goes_on passed read_next shorter_next is =
      with_turns so_far.turns so_far.enough so_far.same
    where
      read : item (rest left) ≡ Ok (x, after)
      read = ap item (sym passed) ∙ read_next

      shorter : length after ≤ length (rest left)
      shorter = omega (arith, shorter_next, ap length passed)

      with_turns : (turns : ℕ) → length left ≤ turns
          → separated_at separator item start ≡ read_as (λ more. found ++ more) (more_at separator item turns left)
          → SoFar start longer after
      with_turns zero enough same = absurd (omega (arith, some_left left goes_on))
      with_turns (suc turns) enough same = record {
        turns = turns;
        enough = omega (arith, shorter, some_left left goes_on);
        within = omega (arith, shorter, some_left left goes_on, so_far.within);
        same = same ∙ ap (read_as (λ more. found ++ more)) (more_after turns left after x goes_on read)
            ∙ read_as_twice (λ xs. x ∷ xs) (λ more. found ++ more) (more_at separator item turns after)
            ∙ read_as_same (λ xs. found ++ x ∷ xs) (λ more. longer ++ more) (λ xs. sym (append_assoc found (x ∷ []) xs)
            ∙ ap (λ (l : List A). l ++ xs) (sym is)) (more_at separator item turns after);
      }

  no_more : (turns : ℕ) (left : List Terminal) → begins separator left ≡ false → more_at separator item turns left ≡ Ok ([], left)
  no_more zero left ends = refl
  no_more (suc turns) left ends = rw ends refl

  pub finished : (start left : List Terminal) (found : List A) → SoFar start found left → begins separator left ≡ false
      → separated_at separator item start ≡ Ok (found, left)
  finished start left found so_far ends =
      so_far.same ∙ ap (read_as (λ more. found ++ more)) (no_more so_far.turns left ends)
      ∙ ap (λ (l : List A). Ok (l, left)) (append-nil found)

  pub broken : (start left : List Terminal) (found : List A) (e : Wrong × List Terminal) → SoFar start found left
      → begins separator left ≡ true → item (rest left) ≡ Err e → separated_at separator item start ≡ Err e
  broken start left found e so_far goes_on read = with_turns so_far.turns so_far.enough so_far.same
    where
      with_turns : (turns : ℕ) → length left ≤ turns
          → separated_at separator item start ≡ read_as (λ more. found ++ more) (more_at separator item turns left)
          → separated_at separator item start ≡ Err e
      with_turns zero enough same = absurd (omega (arith, some_left left goes_on))
      with_turns (suc turns) enough same = same ∙ rw (goes_on, read) refl

  pub broken_first : (start : List Terminal) (e : Wrong × List Terminal) → item start ≡ Err e → separated_at separator item start ≡ Err e
  broken_first start e read = rw read refl

  -- the same of what the code answered
  pub stops_within : (start left next after : List Terminal) (found : List A) (stop : Halt) → SoFar start found left
      → begins separator left ≡ true → next ≡ rest left → Stops stop after (item next)
      → Stops stop after (separated_at separator item start)
  stops_within start left next after found stops.Memory so_far goes_on passed read = tt
  stops_within start left next after found (stops.Wrong wrong) so_far goes_on passed read =
      broken start left found (wrong, after) so_far goes_on (ap item (sym passed) ∙ read)

  pub stops_first : (start after : List Terminal) (stop : Halt) → Stops stop after (item start)
      → Stops stop after (separated_at separator item start)
  stops_first start after stops.Memory read = tt
  stops_first start after (stops.Wrong wrong) read = broken_first start (wrong, after) read

  -- what a loop over the items tells of them, where the cursor stood behind the items found so far
  module _ {X : Type 0} (view : X → A) (start left next : List Terminal) (found : List A) where
    pub row_grows : (after : List Terminal) (x : X) (longer : List A) → SoFar start found left → Passes separator true left next
        → Reads view (Ok x) next after (item next) → longer ≡ found ++ view x ∷ [] → SoFar start longer after
    row_grows after x longer so_far passes read is =
        stepped start left next after (view x) found longer so_far (sym passes.test) passes.after read.exact read.within is

    pub row_stops : {Y B : Type 0} (seen : Y → B) (make : List A → B) (after : List Terminal) (stop : Halt) → SoFar start found left
        → Passes separator true left next → Reads view (Err stop) next after (item next)
        → Reads seen (Err stop) start after (read_as make (separated_at separator item start))
    row_stops seen make after stop so_far passes read = record {
      exact = made_stops make stop after _
          (stops_within start left next after found stop so_far (sym passes.test) passes.after read.exact);
      within = omega (arith, so_far.within, passes.within, read.within);
    }

  pub row_ends : {Y B : Type 0} (seen : Y → B) (make : List A → B) (start left next : List Terminal) (found : List A) (y : Y)
      → SoFar start found left → Passes separator false left next → seen y ≡ make found
      → Reads seen (Ok y) start next (read_as make (separated_at separator item start))
  row_ends seen make start left next found y so_far passes is = record {
    exact = made make _ found left (finished start left found so_far (sym passes.test))
        ∙ ap (λ z. Ok (z, left)) (sym is) ∙ ap (λ l. Ok (seen y, l)) (sym passes.after);
    within = omega (arith, so_far.within, passes.within);
  }
