-- The winner of a key, by the order of stamps.
use Rattle.std.proofs.Common.{◌≡◌, ◌&&◌, ℕ, Bool, true, false, List, [], ◌∷◌, Option, Some, None, bytes_eq, if◌then◌else◌, refl, suc}
use Rattle.std.proofs.Common.{arith}
use Rattle.std.specs.Prelude.{MatchOption, Contains}
use Rattle.std.specs.List.{AllByRecursion}
use Rattle.gr_stamp.specs.declared.change.Change.{Change}
use Rattle.gr_stamp.specs.Version.{beats}
use Rattle.gr_stamp.specs.Winner.{winner, wins, IsUnbeaten, HasNoChange}
use Rattle.gr_stamp.proofs.Order.{beats_itself, beats-greater}

here : (change : Change) (past : List Change) → Contains (change ∷ past) change
here change past = (0, omega arith, refl)

later : (change before : Change) (past : List Change) → Contains past before → Contains (change ∷ past) before
later change before past (k, inside, is) = (suc k, omega (arith, inside), is)

abbrev Found : List ℕ → List Change → Option Change → Type 0
Found key changes best = MatchOption best (HasNoChange key changes) (IsUnbeaten key changes)

-- a winner that loses to one more change
overtaken : (key : List ℕ) (change before : Change) (past : List Change) → beats change.stamp before.stamp ≡ true
    → AllByRecursion (λ c. bytes_eq c.key key ≡ true → beats c.stamp before.stamp ≡ false) past
    → AllByRecursion (λ c. bytes_eq c.key key ≡ true → beats c.stamp change.stamp ≡ false) past
overtaken key change before [] win h = tt
overtaken key change before (c ∷ past) win h =
    (λ same. beats-greater c.stamp change.stamp before.stamp win (h.0 same), overtaken key change before past win h.1)

nothing_beats : (key : List ℕ) (change : Change) (past : List Change) → HasNoChange key past
    → AllByRecursion (λ c. bytes_eq c.key key ≡ true → beats c.stamp change.stamp ≡ false) past
nothing_beats key change [] h = tt
nothing_beats key change (c ∷ past) h = (λ same. cc, nothing_beats key change past h.1)

one_more : (key : List ℕ) (change : Change) (past : List Change) (before : Option Change) (same win : Bool)
    → bytes_eq change.key key ≡ same → wins change before ≡ win → Found key past before
    → Found key (change ∷ past) (if same && win then Some change else before)
one_more key change past None true true same win h = record {
  of_key = same;
  among = here change past;
  unbeaten = (λ _. beats_itself change.stamp, nothing_beats key change past h);
}
one_more key change past (Some b) true true same win h = record {
  of_key = same;
  among = here change past;
  unbeaten = (λ _. beats_itself change.stamp, overtaken key change b past win h.unbeaten);
}
one_more key change past None true false same win h = cc
one_more key change past (Some b) true false same win h = record {
  of_key = h.of_key;
  among = later change b past h.among;
  unbeaten = (λ _. win, h.unbeaten);
}
one_more key change past None false win same e h = (same, h)
one_more key change past (Some b) false win same e h = record {
  of_key = h.of_key;
  among = later change b past h.among;
  unbeaten = (λ it. cc, h.unbeaten);
}

pub winner-found : (key : List ℕ) (changes : List Change)
    → MatchOption (winner key changes) (HasNoChange key changes) (IsUnbeaten key changes)
winner-found key [] = tt
winner-found key (change ∷ past) = one_more key change past (winner key past) _ _ refl refl (winner-found key past)
