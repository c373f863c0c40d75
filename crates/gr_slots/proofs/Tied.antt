-- Slots in cells, and what is found there.
use Rattle.std.proofs.Common.{◌≡◌, ◌≢◌, ◌∙◌, ap, sym, subst, refl, ℕ, zero, suc, ◌<◌, ◌==◌, List, [], ◌∷◌, ◌++◌}
use Rattle.std.proofs.Common.{Bool, true, false, Option, Some, None, length, option_map, ◌⊎◌, inl, inr, if◌then◌else◌, ◌&&◌, arith}
use Rattle.std.specs.Prelude.{cond, Result, Ok, Err, OnErr}
use Rattle.std.specs.Ordering.{nat_cmp}
use Rattle.std.specs.Cmp.Lexicographic.{slice_cmp}
use Rattle.std.specs.List.{slice_get}
use Rattle.std.specs.List.Sorted.{IsStrictlySortedBy}
use Rattle.std.specs.Option.{option_and_then}
use Rattle.std.specs.Map.{lookup, keys_of}
use Rattle.std.specs.BTreeMap.{BTreeMap, get, is_at, IsOrdered}
use Rattle.std.proofs.lemmas.Map.Lookups.{exact_bytes}
use Rattle.std.proofs.lemmas.Option.{slice_get_within}
use Rattle.gr_slots.specs.declared.slot.Slot.{Slot}
use Rattle.gr_slots.specs.declared.cell.Cell.{Cell}
use Rattle.gr_slots.specs.Slots.{Entries, slot_at, with_slot, without}
use Rattle.gr_slots.specs.Cells.{key_in, near_in, near_key, slot_in, rows_in, standing, with_cell, AreApart, AreTied, IsPlaceOf}
use Rattle.gr_slots.proofs.Found.{at-with_slot, at-without, sorted-with_slot, sorted-without}
use Rattle.gr_slots.proofs.Ordered.{one_order}
use Rattle.gr_slots.proofs.Lists.{get-push, is_same, same_of, not_same}
use Rattle.gr_slots.proofs.Timed.{key_order, one_key, key_itself}

abbrev is_key : List ℕ → List ℕ → Bool
is_key key = is_at (slice_cmp nat_cmp key)

pub on_err : {A E P : Type 0} (r : Result A E) → P → OnErr r P
on_err (Ok a) p = tt
on_err (Err e) p = p

pub some_one : {A : Type 0} (x y : A) → Some x ≡ Some y → x ≡ y
some_one x y e = cc

pub other_key : (key q : List ℕ) → (key ≡ q → ⊥) → is_key key q ≡ false
other_key key q never = at_key (is_key key q) refl
  where
    at_key : (b : Bool) → is_key key q ≡ b → b ≡ false
    at_key true k = absurd (never (one_key key q k))
    at_key false k = refl

same_is : (key q : List ℕ) → key ≡ q → is_key key q ≡ true
same_is key q same = ap (is_key key) (sym same) ∙ key_itself key

-- ---- what is found at a key

pub apart_tail : (cell : Cell) (cells : List Cell) → AreApart (cell ∷ cells) → AreApart cells
apart_tail cell cells apart key one two e f = let same : suc one ≡ suc two = apart key (suc one) (suc two) e f in omega arith

-- it is told by the first cell, if that has the key
first_found : (q : List ℕ) (cell : Cell) (cells : List Cell) (b : Bool) → is_key cell.key q ≡ b
    → slot_at q (rows_in (cell ∷ cells)) ≡ cond b (if cell.live then Some cell.slot else slot_at q (rows_in cells)) (slot_at q (rows_in cells))
first_found q cell cells b k = at_live cell.live b k
  where
    at_live : (live b : Bool) → is_key cell.key q ≡ b
        → slot_at q (if live then with_slot cell.key cell.slot (rows_in cells) else rows_in cells)
        ≡ cond b (if live then Some cell.slot else slot_at q (rows_in cells)) (slot_at q (rows_in cells))
    at_live true b k =
        at-with_slot q cell.key cell.slot (rows_in cells) ∙ ap (λ t. cond t (Some cell.slot) (slot_at q (rows_in cells))) k
    at_live false true k = refl
    at_live false false k = refl

none_found : (q : List ℕ) (cells : List Cell) → ((place : ℕ) → key_in cells place ≢ Some q) → slot_at q (rows_in cells) ≡ None
none_found q [] never = refl
none_found q (cell ∷ cells) never =
    first_found q cell cells false (other_key cell.key q (λ same. never 0 (ap Some same)))
    ∙ none_found q cells (λ place. never (suc place))

some_found : (q : List ℕ) (cells : List Cell) (place : ℕ) → AreApart cells → key_in cells place ≡ Some q
    → slot_at q (rows_in cells) ≡ slot_in cells place
some_found q [] place apart is = absurd cc
some_found q (cell ∷ cells) zero apart is =
    first_found q cell cells true (same_is cell.key q (some_one cell.key q is))
    ∙ ap (λ found. if cell.live then Some cell.slot else found)
    (none_found q cells (λ place e. absurd (let same : 0 ≡ suc place = apart q 0 (suc place) is e in omega (arith, same))))
some_found q (cell ∷ cells) (suc place) apart is =
    first_found q cell cells false (other_key cell.key q (λ same.
    let zero_is : 0 ≡ suc place = apart q 0 (suc place) (ap Some same) is in omega (arith, zero_is)))
    ∙ some_found q cells place (apart_tail cell cells apart) is

-- What is found at a key among the rows stands in its cell.
pub found : (q : List ℕ) (cells : List Cell) (o : Option ℕ) → AreApart cells → IsPlaceOf cells q o
    → slot_at q (rows_in cells) ≡ option_and_then (slot_in cells) o
found q cells None apart is = none_found q cells is
found q cells (Some place) apart is = some_found q cells place apart is

-- Each key has a cell, or has none.
pub look : (q : List ℕ) (cells : List Cell) → (o : Option ℕ) × IsPlaceOf cells q o
look q [] = (None, λ place e. absurd cc)
look q (cell ∷ cells) = at_key (is_key cell.key q) refl (look q cells).0 (look q cells).1
  where
    never_here : is_key cell.key q ≡ false → ((place : ℕ) → key_in cells place ≢ Some q) → (place : ℕ) → key_in (cell ∷ cells) place ≢ Some q
    never_here k never zero e = let t : is_key cell.key q ≡ true = same_is cell.key q (some_one cell.key q e) in cc
    never_here k never (suc place) e = never place e

    at_key : (b : Bool) → is_key cell.key q ≡ b → (o : Option ℕ) → IsPlaceOf cells q o → (o : Option ℕ) × IsPlaceOf (cell ∷ cells) q o
    at_key true k o is = (Some 0, ap Some (one_key cell.key q k))
    at_key false k None is = (None, never_here k is)
    at_key false k (Some place) is = (Some (suc place), is)

-- The rows are in the order of the keys.
pub rows_ordered : (cells : List Cell) → IsStrictlySortedBy (slice_cmp nat_cmp) (keys_of (rows_in cells))
unfolding IsStrictlySortedBy
rows_ordered [] = tt
rows_ordered (cell ∷ cells) = at_live cell.live (rows_ordered cells)
  where
    at_live : (b : Bool) → IsStrictlySortedBy (slice_cmp nat_cmp) (keys_of (rows_in cells))
        → IsStrictlySortedBy (slice_cmp nat_cmp) (keys_of (if b then with_slot cell.key cell.slot (rows_in cells) else rows_in cells))
    at_live true rest = sorted-with_slot cell.key cell.slot (rows_in cells) rest
    at_live false rest = rest

-- a place is that of a cell
pub within : (key : List ℕ) (cells : List Cell) (place : ℕ) → key_in cells place ≡ Some key → place < length cells
within key cells place e = at_cell (slice_get cells place) refl
  where
    at_cell : (c : Option Cell) → slice_get cells place ≡ c → place < length cells
    at_cell None f = absurd (let k : None ≡ Some key = sym (ap (option_map (λ (cell : Cell). cell.key)) f) ∙ e in cc)
    at_cell (Some cell) f = slice_get_within cells place cell f

-- ---- cells with the same keys

pub same_tied : (far : BTreeMap (List ℕ) ℕ) (cells next : List Cell) → ((p : ℕ) → key_in next p ≡ key_in cells p)
    → ((p : ℕ) → near_in next p ≡ near_in cells p) → AreTied far cells → AreTied far next
same_tied far cells next keys nears tied = record {
  ordered = tied.ordered;
  apart = λ key one two e f. tied.apart key one two (sym (keys one) ∙ e) (sym (keys two) ∙ f);
  has_key = λ key place e. keys place ∙ tied.has_key key place e;
  has_place = λ key place e. subst (λ o. (o ≡ Some key) ⊎ (get (slice_cmp nat_cmp) far key ≡ Some place)) (sym (nears place))
      (tied.has_place key place (sym (keys place) ∙ e));
}

-- the same map
pub same_far : (far after : BTreeMap (List ℕ) ℕ) (cells : List Cell) → after.entries ≡ far.entries → IsOrdered (slice_cmp nat_cmp) after
    → AreTied far cells → AreTied after cells
same_far far after cells same ordered tied = record {
  ordered = ordered;
  apart = tied.apart;
  has_key = λ key place e. tied.has_key key place (sym (got key) ∙ e);
  has_place = λ key place e. subst (λ o. (near_in cells place ≡ Some key) ⊎ (o ≡ Some place)) (sym (got key)) (tied.has_place key place e);
}
  where
    got : (key : List ℕ) → get (slice_cmp nat_cmp) after key ≡ get (slice_cmp nat_cmp) far key
    got key = ap (λ (entries : List (List ℕ × ℕ)). lookup (is_key key) entries) same

abbrev with_standing : List ℕ → Option Slot → Entries → Entries
with_standing key None rows = rows
with_standing key (Some slot) rows = with_slot key slot rows

by_standing : (cell : Cell) (rows : Entries) → with_cell cell rows ≡ with_standing cell.key (standing cell) rows
by_standing cell rows = at_live cell.live
  where
    at_live : (b : Bool) → (if b then with_slot cell.key cell.slot rows else rows)
        ≡ with_standing cell.key (if b then Some cell.slot else None) rows
    at_live true = refl
    at_live false = refl

-- The rows are told by the keys and by what stands there.
pub same_rows : (cells next : List Cell) → ((p : ℕ) → key_in next p ≡ key_in cells p) → ((p : ℕ) → slot_in next p ≡ slot_in cells p)
    → length next ≡ length cells → rows_in next ≡ rows_in cells
same_rows [] [] keys slots long = refl
same_rows [] (cell ∷ next) keys slots long = absurd (omega (arith, long))
same_rows (cell ∷ cells) [] keys slots long = absurd (omega (arith, long))
same_rows (cell ∷ cells) (other ∷ next) keys slots long =
    by_standing other (rows_in next)
    ∙ ap (λ key. with_standing key (standing other) (rows_in next)) (some_one other.key cell.key (keys 0))
    ∙ ap (λ stands. with_standing cell.key stands (rows_in next)) (slots 0)
    ∙ ap (with_standing cell.key (standing cell))
    (same_rows cells next (λ p. keys (suc p)) (λ p. slots (suc p)) (omega (arith, long)))
    ∙ sym (by_standing cell (rows_in cells))

-- ---- what stands in one cell is changed

module _ (cells next : List Cell) (apart : AreApart cells) (key : List ℕ) (place : ℕ) (here : key_in cells place ≡ Some key)
    (keys : (p : ℕ) → key_in next p ≡ key_in cells p) where
  apart_next : AreApart next
  apart_next k one two e f = apart k one two (sym (keys one) ∙ e) (sym (keys two) ∙ f)

  still_place : (q : List ℕ) (o : Option ℕ) → IsPlaceOf cells q o → IsPlaceOf next q o
  still_place q None is = λ p e. is p (sym (keys p) ∙ e)
  still_place q (Some p) is = keys p ∙ is

  module _ (to : Option Slot) (slots : (p : ℕ) → slot_in next p ≡ cond (p == place) to (slot_in cells p)) where
    changed : (q : List ℕ) (b : Bool) → is_key key q ≡ b → (o : Option ℕ) → IsPlaceOf cells q o
        → option_and_then (slot_in next) o ≡ cond b to (option_and_then (slot_in cells) o)
    changed q true k None is = absurd (is place (here ∙ ap Some (one_key key q k)))
    changed q true k (Some p) is =
        slots p ∙ ap (λ t. cond t to (slot_in cells p)) (is_same p place (apart q p place is (here ∙ ap Some (one_key key q k))))
    changed q false k None is = refl
    changed q false k (Some p) is =
        slots p ∙ ap (λ t. cond t to (slot_in cells p)) (not_same p place (λ same.
        let one : Some key ≡ Some q = sym here ∙ ap (key_in cells) (sym same) ∙ is in
        let t : is_key key q ≡ true = same_is key q (some_one key q one) in cc))

    found_changed : (q : List ℕ) → slot_at q (rows_in next) ≡ cond (is_key key q) to (slot_at q (rows_in cells))
    found_changed q =
        let o = (look q cells).0 in
        let is = (look q cells).1 in
        found q next o apart_next (still_place q o is) ∙ changed q (is_key key q) refl o is
        ∙ ap (cond (is_key key q) to) (sym (found q cells o apart is))

  -- A slot is put into the cell of its key.
  pub put_rows : (slot : Slot) → ((p : ℕ) → slot_in next p ≡ cond (p == place) (Some slot) (slot_in cells p))
      → rows_in next ≡ with_slot key slot (rows_in cells)
  put_rows slot slots =
      one_order (slice_cmp nat_cmp) key_order exact_bytes _ _ (rows_ordered next)
      (sorted-with_slot key slot (rows_in cells) (rows_ordered cells))
      (λ q. found_changed (Some slot) slots q ∙ sym (at-with_slot q key slot (rows_in cells)))

  -- What stands in the cell of a key is taken out.
  pub left_rows : ((p : ℕ) → slot_in next p ≡ cond (p == place) None (slot_in cells p)) → rows_in next ≡ without key (rows_in cells)
  left_rows slots =
      one_order (slice_cmp nat_cmp) key_order exact_bytes _ _ (rows_ordered next)
      (sorted-without key (rows_in cells) (rows_ordered cells))
      (λ q. found_changed None slots q ∙ sym (at-without q key (rows_in cells) (rows_ordered cells)))

-- ---- a key gets the next cell

swapped : (a b : Bool) (one two : Slot) (o : Option Slot) → (a ≡ true → b ≡ true → ⊥)
    → cond a (Some one) (cond b (Some two) o) ≡ cond b (Some two) (cond a (Some one) o)
swapped true true one two o never = absurd (never refl refl)
swapped true false one two o never = refl
swapped false b one two o never = refl

found_grown : (q key : List ℕ) (slot : Slot) (far : Bool) (cells : List Cell) → ((place : ℕ) → key_in cells place ≢ Some key)
    → slot_at q (rows_in (cells ++ record { key = key; slot = slot; live = true; far = far; next = 0 } ∷ []))
    ≡ cond (is_key key q) (Some slot) (slot_at q (rows_in cells))
found_grown q key slot far [] never = at-with_slot q key slot []
found_grown q key slot far (cell ∷ cells) never =
    at_live cell.live (found_grown q key slot far cells (λ place. never (suc place)))
  where
    grown : List Cell
    grown = cells ++ record { key = key; slot = slot; live = true; far = far; next = 0 } ∷ []

    at_live : (b : Bool) → slot_at q (rows_in (cells ++ record { key = key; slot = slot; live = true; far = far; next = 0 } ∷ []))
        ≡ cond (is_key key q) (Some slot) (slot_at q (rows_in cells))
        → slot_at q (if b
        then with_slot cell.key cell.slot (rows_in (cells ++ record { key = key; slot = slot; live = true; far = far; next = 0 } ∷ []))
        else rows_in (cells ++ record { key = key; slot = slot; live = true; far = far; next = 0 } ∷ []))
        ≡ cond (is_key key q) (Some slot) (slot_at q (if b then with_slot cell.key cell.slot (rows_in cells) else rows_in cells))
    at_live true rest =
        at-with_slot q cell.key cell.slot _ ∙ ap (cond (is_key cell.key q) (Some cell.slot)) rest
        ∙ swapped (is_key cell.key q) (is_key key q) cell.slot slot (slot_at q (rows_in cells))
        (λ one two. never 0 (ap Some (one_key cell.key q one ∙ sym (one_key key q two))))
        ∙ ap (cond (is_key key q) (Some slot)) (sym (at-with_slot q cell.key cell.slot (rows_in cells)))
    at_live false rest = rest

-- Its slot is among the rows.
pub enter_rows : (cells : List Cell) (key : List ℕ) (slot : Slot) (far : Bool) → IsPlaceOf cells key None
    → rows_in (cells ++ record { key = key; slot = slot; live = true; far = far; next = 0 } ∷ []) ≡ with_slot key slot (rows_in cells)
enter_rows cells key slot far absent =
    one_order (slice_cmp nat_cmp) key_order exact_bytes _ _
    (rows_ordered (cells ++ record { key = key; slot = slot; live = true; far = far; next = 0 } ∷ []))
    (sorted-with_slot key slot (rows_in cells) (rows_ordered cells))
    (λ q. found_grown q key slot far cells absent ∙ sym (at-with_slot q key slot (rows_in cells)))

module _ (far after : BTreeMap (List ℕ) ℕ) (cells : List Cell) (cell : Cell) (tied : AreTied far cells)
    (absent : IsPlaceOf cells cell.key None) (ordered : IsOrdered (slice_cmp nat_cmp) after)
    (has : (q : List ℕ) (p : ℕ) → get (slice_cmp nat_cmp) after q ≡ Some p
    → (get (slice_cmp nat_cmp) far q ≡ Some p) ⊎ ((p ≡ length cells) × (cell.key ≡ q)))
    (gets : (q : List ℕ) (p : ℕ) → get (slice_cmp nat_cmp) far q ≡ Some p → get (slice_cmp nat_cmp) after q ≡ Some p)
    (new : (near_key cell ≡ Some cell.key) ⊎ (get (slice_cmp nat_cmp) after cell.key ≡ Some (length cells))) where
  abbrev all : List Cell
  all = cells ++ cell ∷ []

  key_all : (p : ℕ) → key_in all p ≡ cond (p == length cells) (Some cell.key) (key_in cells p)
  key_all p = ap (option_map (λ (c : Cell). c.key)) (get-push cells cell p) ∙ at_test (p == length cells)
    where
      at_test : (t : Bool) → option_map (λ (c : Cell). c.key) (cond t (Some cell) (slice_get cells p)) ≡ cond t (Some cell.key) (key_in cells p)
      at_test true = refl
      at_test false = refl

  near_all : (p : ℕ) → near_in all p ≡ cond (p == length cells) (near_key cell) (near_in cells p)
  near_all p = ap (option_and_then near_key) (get-push cells cell p) ∙ at_test (p == length cells)
    where
      at_test : (t : Bool) → option_and_then near_key (cond t (Some cell) (slice_get cells p)) ≡ cond t (near_key cell) (near_in cells p)
      at_test true = refl
      at_test false = refl

  -- a key of an older cell has it still
  older : (q : List ℕ) (p : ℕ) → key_in cells p ≡ Some q → (p == length cells) ≡ false
  older q p e = not_same p (length cells) (λ same. let less : p < length cells = within q cells p e in omega (arith, less, same))

  -- a cell with a key is the new one, or an older one
  which : (q : List ℕ) (p : ℕ) → key_in all p ≡ Some q → ((p ≡ length cells) × (cell.key ≡ q)) ⊎ (key_in cells p ≡ Some q)
  which q p e = at_test (p == length cells) refl (sym (key_all p) ∙ e)
    where
      at_test : (t : Bool) → (p == length cells) ≡ t → cond t (Some cell.key) (key_in cells p) ≡ Some q
          → ((p ≡ length cells) × (cell.key ≡ q)) ⊎ (key_in cells p ≡ Some q)
      at_test true s f = inl (same_of p (length cells) s, some_one cell.key q f)
      at_test false s f = inr f

  one_cell : (q : List ℕ) (one two : ℕ) → ((one ≡ length cells) × (cell.key ≡ q)) ⊎ (key_in cells one ≡ Some q)
      → ((two ≡ length cells) × (cell.key ≡ q)) ⊎ (key_in cells two ≡ Some q) → one ≡ two
  one_cell q one two (inl e) (inl f) = e.0 ∙ sym f.0
  one_cell q one two (inl e) (inr f) = absurd (absent two (f ∙ ap Some (sym e.1)))
  one_cell q one two (inr e) (inl f) = absurd (absent one (e ∙ ap Some (sym f.1)))
  one_cell q one two (inr e) (inr f) = tied.apart q one two e f

  key_of : (q : List ℕ) (p : ℕ) → (get (slice_cmp nat_cmp) far q ≡ Some p) ⊎ ((p ≡ length cells) × (cell.key ≡ q)) → key_in all p ≡ Some q
  key_of q p (inl e) =
      let old = tied.has_key q p e in
      key_all p ∙ ap (λ t. cond t (Some cell.key) (key_in cells p)) (older q p old) ∙ old
  key_of q p (inr e) = key_all p ∙ ap (λ t. cond t (Some cell.key) (key_in cells p)) (is_same p (length cells) e.0) ∙ ap Some e.1

  at_new : (near_key cell ≡ Some cell.key) ⊎ (get (slice_cmp nat_cmp) after cell.key ≡ Some (length cells)) → (q : List ℕ) (p : ℕ)
      → p ≡ length cells → cell.key ≡ q → (near_in all p ≡ Some q) ⊎ (get (slice_cmp nat_cmp) after q ≡ Some p)
  at_new (inl near) q p s k =
      inl (near_all p ∙ ap (λ t. cond t (near_key cell) (near_in cells p)) (is_same p (length cells) s) ∙ near ∙ ap Some k)
  at_new (inr got) q p s k = inr (ap (get (slice_cmp nat_cmp) after) (sym k) ∙ got ∙ ap Some (sym s))

  at_old : (q : List ℕ) (p : ℕ) → key_in cells p ≡ Some q → (near_in cells p ≡ Some q) ⊎ (get (slice_cmp nat_cmp) far q ≡ Some p)
      → (near_in all p ≡ Some q) ⊎ (get (slice_cmp nat_cmp) after q ≡ Some p)
  at_old q p e (inl near) = inl (near_all p ∙ ap (λ t. cond t (near_key cell) (near_in cells p)) (older q p e) ∙ near)
  at_old q p e (inr got) = inr (gets q p got)

  place_of : (q : List ℕ) (p : ℕ) → ((p ≡ length cells) × (cell.key ≡ q)) ⊎ (key_in cells p ≡ Some q)
      → (near_in all p ≡ Some q) ⊎ (get (slice_cmp nat_cmp) after q ≡ Some p)
  place_of q p (inl e) = at_new new q p e.0 e.1
  place_of q p (inr e) = at_old q p e (tied.has_place q p e)

  grown_tied : AreTied after (cells ++ cell ∷ [])
  grown_tied = record {
    ordered = ordered;
    apart = λ q one two e f. one_cell q one two (which q one e) (which q two f);
    has_key = λ q p e. key_of q p (has q p e);
    has_place = λ q p e. place_of q p (which q p e);
  }

module _ (far : BTreeMap (List ℕ) ℕ) (cells : List Cell) (key : List ℕ) (slot : Slot) (tied : AreTied far cells)
    (absent : IsPlaceOf cells key None) where
  -- one in no chain
  far_tied : (after : BTreeMap (List ℕ) ℕ) → IsOrdered (slice_cmp nat_cmp) after
      → ((q : List ℕ) → get (slice_cmp nat_cmp) after q ≡ cond (is_key key q) (Some (length cells)) (get (slice_cmp nat_cmp) far q))
      → AreTied after (cells ++ record { key = key; slot = slot; live = true; far = true; next = 0 } ∷ [])
  far_tied after ordered entered =
      grown_tied far after cells (record { key = key; slot = slot; live = true; far = true; next = 0 }) tied absent ordered
      (λ q p e. which_is q p (is_key key q) refl (sym (entered q) ∙ e))
      (λ q p e. entered q ∙ ap (λ b. cond b (Some (length cells)) (get (slice_cmp nat_cmp) far q))
      (other_key key q (λ same. absent p (tied.has_key q p e ∙ ap Some (sym same)))) ∙ e)
      (inr (entered key ∙ ap (λ b. cond b (Some (length cells)) (get (slice_cmp nat_cmp) far key)) (key_itself key)))
    where
      which_is : (q : List ℕ) (p : ℕ) (b : Bool) → is_key key q ≡ b → cond b (Some (length cells)) (get (slice_cmp nat_cmp) far q) ≡ Some p
          → (get (slice_cmp nat_cmp) far q ≡ Some p) ⊎ ((p ≡ length cells) × (key ≡ q))
      which_is q p true k e = inr (sym (some_one (length cells) p e), one_key key q k)
      which_is q p false k e = inl e

-- One or the other, where the map got its place or didn't.
pub entered_tied : (far after : BTreeMap (List ℕ) ℕ) (cells : List Cell) (key : List ℕ) (slot : Slot) (is_far : Bool) → AreTied far cells
    → IsPlaceOf cells key None → IsOrdered (slice_cmp nat_cmp) after
    → ((q : List ℕ) → get (slice_cmp nat_cmp) after q ≡ cond (is_far && is_key key q) (Some (length cells)) (get (slice_cmp nat_cmp) far q))
    → AreTied after (cells ++ record { key = key; slot = slot; live = true; far = is_far; next = 0 } ∷ [])
entered_tied far after cells key slot true tied absent ordered entered = far_tied far cells key slot tied absent after ordered entered
entered_tied far after cells key slot false tied absent ordered entered =
    grown_tied far after cells (record { key = key; slot = slot; live = true; far = false; next = 0 }) tied absent ordered
    (λ q p e. inl (sym (entered q) ∙ e)) (λ q p e. entered q ∙ e) (inl refl)

-- ---- a key that no chain has

pub far_place : (far : BTreeMap (List ℕ) ℕ) (cells : List Cell) (key : List ℕ) → AreTied far cells
    → ((place : ℕ) → near_in cells place ≢ Some key) → (o : Option ℕ) → get (slice_cmp nat_cmp) far key ≡ o → IsPlaceOf cells key o
far_place far cells key tied never (Some place) is = tied.has_key key place is
far_place far cells key tied never None is = λ place e. at_place place (tied.has_place key place e)
  where
    at_place : (place : ℕ) → (near_in cells place ≡ Some key) ⊎ (get (slice_cmp nat_cmp) far key ≡ Some place) → ⊥
    at_place place (inl near) = never place near
    at_place place (inr got) = let both : None ≡ Some place = sym is ∙ got in cc
