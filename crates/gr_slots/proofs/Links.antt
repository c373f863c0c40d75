-- Chains of cells: what is met along one, and how one more cell is put in front.
use Rattle.std.proofs.Common.{◌≡◌, ◌≢◌, ◌∙◌, ap, sym, subst, refl, ℕ, zero, suc, ◌+◌, ◌<◌, ◌≤◌, ◌==◌, List, [], ◌∷◌, ◌++◌}
use Rattle.std.proofs.Common.{◌⊎◌, inl, inr, Bool, true, false, if◌then◌else◌, Option, Some, None, length, option_map, arith}
use Rattle.std.specs.Prelude.{cond, IfSome}
use Rattle.std.specs.List.{slice_get, slice_set}
use Rattle.std.specs.Option.{unwrap_or}
use Rattle.std.proofs.lemmas.Bool.{cases_lt}
use Rattle.std.proofs.lemmas.List.{length-append}
use Rattle.std.proofs.lemmas.Option.{slice_get_within, slice_get_past, slice_get-get_or}
use Rattle.gr_slots.specs.declared.cell.Cell.{Cell}
use Rattle.gr_slots.specs.declared.seats.Seats.{Seats}
use Rattle.std.specs.Option.{option_and_then}
use Rattle.std.specs.BTreeMap.{BTreeMap}
use Rattle.gr_slots.specs.Cells.{key_in, near_in, near_key, AreTied}
use Rattle.gr_slots.specs.Links.{seat_of, next_in, sits, last_at, AreLinked, IsKept}
use Rattle.gr_slots.proofs.Lists.{get-push, get-set-any, length-set, is_same, same_of, not_same}
use Rattle.gr_slots.proofs.Tied.{same_tied, some_one}

-- ---- the last cell of a seat

module _ (size seat : ℕ) (cells : List Cell) where
  by_test : (n : ℕ) (b : Bool) → sits size seat (near_in cells n) ≡ b
      → last_at size seat cells (suc n) ≡ (if b then suc n else last_at size seat cells n)
  by_test n b is = ap (λ b. if b then suc n else last_at size seat cells n) is

  -- it has this seat
  last_sits : (n place : ℕ) → last_at size seat cells n ≡ suc place → (place < n) × (sits size seat (near_in cells place) ≡ true)
  last_sits zero place e = absurd (omega arith)
  last_sits (suc n) place e = at_test (sits size seat (near_in cells n)) refl (last_sits n place)
    where
      at_test : (b : Bool) → sits size seat (near_in cells n) ≡ b
          → (last_at size seat cells n ≡ suc place → (place < n) × (sits size seat (near_in cells place) ≡ true))
          → (place < suc n) × (sits size seat (near_in cells place) ≡ true)
      at_test true is among =
          let f : suc n ≡ suc place = sym (by_test n true is) ∙ e in
          let same : n ≡ place = omega arith in
          (omega arith, subst (λ p. sits size seat (near_in cells p) ≡ true) same is)
      at_test false is among =
          let rest = among (sym (by_test n false is) ∙ e) in
          let less : place < n = rest.0 in
          (omega arith, rest.1)

  -- none behind it has
  none_behind : (n place : ℕ) → last_at size seat cells n ≤ place → place < n → sits size seat (near_in cells place) ≡ false
  none_behind zero place behind less = absurd (omega arith)
  none_behind (suc n) place behind less = at_test (sits size seat (near_in cells n)) refl (place == n) refl (none_behind n place)
    where
      at_test : (b : Bool) → sits size seat (near_in cells n) ≡ b → (t : Bool) → (place == n) ≡ t
          → (last_at size seat cells n ≤ place → place < n → sits size seat (near_in cells place) ≡ false)
          → sits size seat (near_in cells place) ≡ false
      at_test true is t e among =
          let long : suc n ≤ place = subst (λ m. m ≤ place) (by_test n true is) behind in
          absurd (omega arith)
      at_test false is true e among =
          let same : place ≡ n = same_of place n e in
          subst (λ p. sits size seat (near_in cells p) ≡ false) (sym same) is
      at_test false is false e among =
          let apart : place ≢ n = (λ same. let t : (place == n) ≡ true = is_same place n same in absurd cc) in
          among (subst (λ m. m ≤ place) (by_test n false is) behind) (omega arith)

-- it is told by the keys
same_last : (size seat : ℕ) (one two : List Cell) (n : ℕ) → ((p : ℕ) → p < n → near_in two p ≡ near_in one p)
    → last_at size seat two n ≡ last_at size seat one n
same_last size seat one two zero keys = refl
same_last size seat one two (suc n) keys =
    ap (λ key. if sits size seat key then suc n else last_at size seat two n) (keys n (omega arith))
    ∙ ap (λ m. if sits size seat (near_in one n) then suc n else m) (same_last size seat one two n (λ p less. keys p (omega arith)))

-- so are links
pub linked_same : (seats : Seats) (one two : List Cell) (n : ℕ) → ((p : ℕ) → p < n → near_in two p ≡ near_in one p)
    → ((p : ℕ) → p < n → next_in two p ≡ next_in one p) → AreLinked seats one n → AreLinked seats two n
linked_same seats one two n keys nexts linked = record {
  heads = λ seat. subst (λ m. IfSome (slice_get seats.heads.items seat) (λ at. at ≡ m))
      (sym (same_last seats.size seat one two n keys)) (linked.heads seat);
  nexts = λ place key less is small. nexts place less ∙ linked.nexts place key less (sym (keys place less) ∙ is) small
      ∙ ap Some (sym (same_last seats.size (seat_of seats.size key) one two place (λ p l. keys p (omega arith))));
}

kept_same : (seats : Seats) (one two : List Cell) → ((p : ℕ) → near_in two p ≡ near_in one p)
    → ((p : ℕ) → next_in two p ≡ next_in one p) → length two ≡ length one → IsKept seats one → IsKept seats two
kept_same seats one two keys nexts long kept =
    subst (λ n. AreLinked seats two n) (sym long)
    (linked_same seats one two (length one) (λ p less. keys p) (λ p less. nexts p) kept)

-- a cell whose key sits anywhere is in a chain
near_is : (size seat : ℕ) (cell : Cell) → sits size seat (near_key cell) ≡ true → near_key cell ≡ Some cell.key
near_is size seat cell is = at_far cell.far is
  where
    at_far : (b : Bool) → sits size seat (if b then None else Some cell.key) ≡ true → (if b then None else Some cell.key) ≡ Some cell.key
    at_far true e = absurd cc
    at_far false e = refl

-- ---- a walk along a chain

module _ (seats : Seats) (cells : List Cell) (key : List ℕ) where
  abbrev seat : ℕ
  seat = seat_of seats.size key

  -- The key has no cell from a place on, and before this place the last cell of its seat is the one at hand.
  abbrev pub IsBehind : ℕ → Type 0
  IsBehind at = (n : ℕ) × (at ≡ last_at seats.size seat cells n) × ((p : ℕ) → n ≤ p → near_in cells p ≢ Some key)

  its_seat : (p : ℕ) → near_in cells p ≡ Some key → sits seats.size seat (near_in cells p) ≡ true
  its_seat p is = ap (sits seats.size seat) is ∙ is_same seat seat refl

  never_behind : (n p : ℕ) → last_at seats.size seat cells n ≤ p → p < n → near_in cells p ≢ Some key
  never_behind n p behind less is =
      let t = its_seat p is in
      let f = none_behind seats.size seat cells n p behind less in
      absurd (let both : true ≡ false = sym t ∙ f in cc)

  at_none : (p : ℕ) → length cells ≤ p → near_in cells p ≢ Some key
  at_none p past is =
      let none : None ≡ Some key = sym (ap (option_and_then near_key) (slice_get_past cells p past)) ∙ is in absurd cc

  pub behind_start : (head : ℕ) → slice_get seats.heads.items seat ≡ Some head → AreLinked seats cells (length cells) → IsBehind head
  behind_start head is linked =
      (length cells, subst (λ o. IfSome o (λ at. at ≡ last_at seats.size seat cells (length cells))) is (linked.heads seat), at_none)

  pub behind_end : (at : ℕ) → at ≡ 0 → IsBehind at → (place : ℕ) → near_in cells place ≢ Some key
  behind_end at zero_is behind place is = at_test (cases_lt place behind.0)
    where
      at_test : (place < behind.0) ⊎ (behind.0 ≤ place) → ⊥
      at_test (inl less) = never_behind behind.0 place
          (let e : at ≡ last_at seats.size seat cells behind.0 = behind.1 in omega arith) less is
      at_test (inr past) = behind.2 place past is

  pub behind_next : (head at place : ℕ) (cell : Cell) → slice_get seats.heads.items seat ≡ Some head
      → AreLinked seats cells (length cells) → at ≡ suc place → slice_get cells place ≡ Some cell → cell.key ≢ key
      → IsBehind at → IsBehind cell.next
  behind_next head at place cell head_is linked at_is cell_is other behind = (place, next_is, none)
    where
      n : ℕ
      n = behind.0

      here : near_in cells place ≡ near_key cell
      here = ap (option_and_then near_key) cell_is

      key_is : near_in cells place ≡ Some cell.key
      key_is = here ∙ near_is seats.size seat cell (sym (ap (sits seats.size seat) here)
          ∙ (last_sits seats.size seat cells n place (sym behind.1 ∙ at_is)).1)

      same_seat : seat_of seats.size cell.key ≡ seat
      same_seat = same_of (seat_of seats.size cell.key) seat
          (sym (ap (sits seats.size seat) key_is) ∙ (last_sits seats.size seat cells n place (sym behind.1 ∙ at_is)).1)

      next_is : cell.next ≡ last_at seats.size seat cells place
      next_is = some_one cell.next _
          (sym (ap (option_map (λ (cell : Cell). cell.next)) cell_is)
          ∙ linked.nexts place cell.key (slice_get_within cells place cell cell_is) key_is
          (subst (λ s. s < length seats.heads.items) (sym same_seat) (slice_get_within seats.heads.items seat head head_is))
          ∙ ap (λ s. Some (last_at seats.size s cells place)) same_seat)

      none : (p : ℕ) → place ≤ p → near_in cells p ≢ Some key
      none p from is = at_test (p == place) refl (cases_lt p n)
        where
          at_test : (t : Bool) → (p == place) ≡ t → (p < n) ⊎ (n ≤ p) → ⊥
          at_test true e o = other (some_one cell.key key
              (sym key_is ∙ ap (near_in cells) (sym (same_of p place e)) ∙ is))
          at_test false e (inl less) =
              let apart : p ≢ place = (λ same. let t : (p == place) ≡ true = is_same p place same in absurd cc) in
              never_behind n p (let l : last_at seats.size seat cells n ≡ suc place = sym behind.1 ∙ at_is in omega arith) less is
          at_test false e (inr past) = behind.2 p past is

-- ---- one more cell is linked

module _ (old new : Seats) (cells next : List Cell) (place : ℕ) (key : List ℕ) (here : near_in cells place ≡ Some key)
    (size : new.size ≡ old.size) (heads : new.heads.items ≡ slice_set old.heads.items (seat_of old.size key) (suc place))
    (keys : (p : ℕ) → near_in next p ≡ near_in cells p)
    (nexts : (p : ℕ) → next_in next p
    ≡ cond (p == place) (Some (unwrap_or (slice_get old.heads.items (seat_of old.size key)) 0)) (next_in cells p))
    (linked : AreLinked old cells place) where
  abbrev seat_here : ℕ
  seat_here = seat_of old.size key

  head_is : (seat : ℕ) → slice_get new.heads.items seat
      ≡ cond (seat == seat_here) (option_map (λ (at : ℕ). suc place) (slice_get old.heads.items seat)) (slice_get old.heads.items seat)
  head_is seat = ap (λ (items : List ℕ). slice_get items seat) heads ∙ get-set-any old.heads.items seat_here (suc place) seat

  sits_here : (seat : ℕ) → sits old.size seat (near_in next place) ≡ (seat_here == seat)
  sits_here seat = ap (sits old.size seat) (keys place ∙ here)

  more_heads : (seat : ℕ) → IfSome (slice_get new.heads.items seat) (λ at. at ≡ last_at old.size seat next (suc place))
  more_heads seat = subst (λ o. IfSome o (λ at. at ≡ last_at old.size seat next (suc place))) (sym (head_is seat))
      (at_test (seat == seat_here) refl)
    where
      at_old : (o : Option ℕ) → suc place ≡ last_at old.size seat next (suc place)
          → IfSome (option_map (λ (at : ℕ). suc place) o) (λ at. at ≡ last_at old.size seat next (suc place))
      at_old None e = tt
      at_old (Some at) e = e

      at_test : (t : Bool) → (seat == seat_here) ≡ t
          → IfSome (cond t (option_map (λ (at : ℕ). suc place) (slice_get old.heads.items seat)) (slice_get old.heads.items seat))
          (λ at. at ≡ last_at old.size seat next (suc place))
      at_test true e = at_old (slice_get old.heads.items seat)
          (sym (by_test old.size seat next place true (sits_here seat ∙ is_same seat_here seat (sym (same_of seat seat_here e)))))
      at_test false e = subst (λ m. IfSome (slice_get old.heads.items seat) (λ at. at ≡ m))
          (sym (by_test old.size seat next place false (sits_here seat
          ∙ not_same seat_here seat (λ same. let t : (seat == seat_here) ≡ true = is_same seat seat_here (sym same) in absurd cc))
          ∙ same_last old.size seat cells next place (λ p less. keys p)))
          (linked.heads seat)

  length_new : length new.heads.items ≡ length old.heads.items
  length_new = ap (λ (items : List ℕ). length items) heads ∙ length-set old.heads.items seat_here (suc place)

  more_nexts : (p : ℕ) (k : List ℕ) → p < suc place → near_in next p ≡ Some k → seat_of old.size k < length new.heads.items
      → next_in next p ≡ Some (last_at old.size (seat_of old.size k) next p)
  more_nexts p k less is small = nexts p ∙ at_test (p == place) refl
      ∙ ap Some (sym (same_last old.size (seat_of old.size k) cells next p (λ q l. keys q)))
    where
      at_head : (o : Option ℕ) → slice_get old.heads.items seat_here ≡ o → seat_here < length old.heads.items
          → Some (unwrap_or o 0) ≡ Some (last_at old.size seat_here cells place)
      at_head None e within =
          let some : None ≡ Some _ = sym e ∙ slice_get-get_or old.heads.items seat_here 0 within in absurd cc
      at_head (Some at) e within =
          ap Some (subst (λ o. IfSome o (λ at. at ≡ last_at old.size seat_here cells place)) e (linked.heads seat_here))

      at_test : (t : Bool) → (p == place) ≡ t
          → cond t (Some (unwrap_or (slice_get old.heads.items seat_here) 0)) (next_in cells p)
          ≡ Some (last_at old.size (seat_of old.size k) cells p)
      at_test true e =
          let at_place : p ≡ place = same_of p place e in
          let one : key ≡ k = some_one key k (sym here ∙ ap (near_in cells) (sym at_place) ∙ sym (keys p) ∙ is) in
          at_head (slice_get old.heads.items seat_here) refl
          (subst (λ k. seat_of old.size k < length old.heads.items) (sym one) (subst (λ m. seat_of old.size k < m) length_new small))
          ∙ ap (λ k. Some (last_at old.size (seat_of old.size k) cells place)) one
          ∙ ap (λ q. Some (last_at old.size (seat_of old.size k) cells q)) (sym at_place)
      at_test false e =
          let apart : p ≢ place = (λ same. let t : (p == place) ≡ true = is_same p place same in absurd cc) in
          linked.nexts p k (omega arith) (sym (keys p) ∙ is) (subst (λ m. seat_of old.size k < m) length_new small)

  pub linked_more : AreLinked new next (suc place)
  linked_more = record {
    heads = λ seat. subst (λ s. IfSome (slice_get new.heads.items seat) (λ at. at ≡ last_at s seat next (suc place))) (sym size)
        (more_heads seat);
    nexts = λ p k less is small. subst (λ s. next_in next p ≡ Some (last_at s (seat_of s k) next p)) (sym size)
        (more_nexts p k less is (subst (λ s. seat_of s k < length new.heads.items) size small));
  }

-- A further cell behind those that are linked changes nothing for them.
pub linked_grown : (seats : Seats) (cells : List Cell) (cell : Cell) → AreLinked seats cells (length cells)
    → AreLinked seats (cells ++ cell ∷ []) (length cells)
linked_grown seats cells cell =
    linked_same seats cells (cells ++ cell ∷ []) (length cells)
    (λ p less. ap (option_and_then near_key) (here p less)) (λ p less. ap (option_map (λ (c : Cell). c.next)) (here p less))
  where
    here : (p : ℕ) → p < length cells → slice_get (cells ++ cell ∷ []) p ≡ slice_get cells p
    here p less = get-push cells cell p
        ∙ ap (λ b. cond b (Some cell) (slice_get cells p)) (not_same p (length cells) (λ same. omega arith))

-- Cells are tied and linked as before where their keys and their links are as before.
pub kept_on : (far : BTreeMap (List ℕ) ℕ) (seats : Seats) (cells next : List Cell) → ((p : ℕ) → key_in next p ≡ key_in cells p)
    → ((p : ℕ) → near_in next p ≡ near_in cells p) → ((p : ℕ) → next_in next p ≡ next_in cells p) → length next ≡ length cells
    → AreTied far cells × IsKept seats cells → AreTied far next × IsKept seats next
kept_on far seats cells next keys nears nexts long kept =
    (same_tied far cells next keys nears kept.0, kept_same seats cells next nears nexts long kept.1)

-- A cell that is in no chain changes nothing for those before it.
pub linked_past : (seats : Seats) (cells : List Cell) (place : ℕ) → near_in cells place ≡ None → AreLinked seats cells place
    → AreLinked seats cells (suc place)
linked_past seats cells place none linked = record {
  heads = λ seat. subst (λ m. IfSome (slice_get seats.heads.items seat) (λ at. at ≡ m))
      (sym (by_test seats.size seat cells place false (ap (sits seats.size seat) none))) (linked.heads seat);
  nexts = λ p key less is small. at_test p key (p == place) refl is small less;
}
  where
    at_test : (p : ℕ) (key : List ℕ) (t : Bool) → (p == place) ≡ t → near_in cells p ≡ Some key
        → seat_of seats.size key < length seats.heads.items → p < suc place
        → next_in cells p ≡ Some (last_at seats.size (seat_of seats.size key) cells p)
    at_test p key true s is small less =
        absurd (let both : None ≡ Some key = sym none ∙ ap (near_in cells) (sym (same_of p place s)) ∙ is in cc)
    at_test p key false s is small less =
        let apart : p ≢ place = (λ same. let t : (p == place) ≡ true = is_same p place same in absurd cc) in
        linked.nexts p key (omega arith) is small

-- A cell that is entered behind all, and then linked, is linked with them.
pub kept_entered : (seats new : Seats) (cells grown next : List Cell) (cell : Cell) (place : ℕ) → place ≡ length cells
    → grown ≡ cells ++ cell ∷ [] → length next ≡ length grown → IsKept seats cells
    → (AreLinked seats grown place → AreLinked new next (place + 1)) → IsKept new next
kept_entered seats new cells grown next cell place at grown_is long kept link =
    subst (λ n. AreLinked new next n) all (link (subst (λ n. AreLinked seats grown n) (sym at)
    (subst (λ items. AreLinked seats items (length cells)) (sym grown_is) (linked_grown seats cells cell kept))))
  where
    all : place + 1 ≡ length next
    all = let more = ap (λ (items : List Cell). length items) grown_is ∙ length-append cells (cell ∷ []) in omega arith
