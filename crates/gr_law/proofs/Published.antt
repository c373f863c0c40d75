-- Turned keys with their new values take what is present before a deed to what is present behind it.
use Rattle.std.proofs.Common.{◌≡◌, ◌⊎◌, ℕ, List, [], ◌∷◌, true, false, sym, ap, ◌∙◌, inl, inr, bytes_eq, if◌then◌else◌}
use Rattle.std.specs.Prelude.{map}
use Rattle.std.proofs.lemmas.Slice.Eq.{bytes_eq-Decides}
use Rattle.gr_oql.specs.Events.{Present}
use Rattle.gr_history.specs.declared.deed.Deed.{Deed}
use Rattle.gr_history.specs.Standing.{present}
use Rattle.gr_law.specs.Grids.{Among}
use Rattle.gr_law.proofs.Lists.{either}
use Rattle.gr_oql.specs.declared.event.Turned.{Turned}
use Rattle.gr_history.specs.Turned.{turns, turned_at, turned_keys, turned}
use Rattle.gr_law.specs.Queries.{present_of}
use Rattle.gr_law.proofs.Turning.{among_turned, unturned_present}

-- each turned key gets its new value
abbrev pub with_turned : List Turned → Present → Present
with_turned [] stood key = stood key
with_turned (one ∷ more) stood key = if bytes_eq key one.key then one.new else with_turned more stood key

turned_there : (deed : Deed) (past : List Deed) (keys : List (List ℕ)) (key : List ℕ)
    → Among key keys ⊎ (present key (deed ∷ past) ≡ present key past)
    → with_turned (map (turned_at deed past) keys) (present_of past) key ≡ present key (deed ∷ past)
turned_there deed past [] key (inl a) = absurd a
turned_there deed past [] key (inr same) = sym same
turned_there deed past (first ∷ keys) key there = at_key (either (bytes_eq key first)) (turned_there deed past keys key)
  where
    behind : bytes_eq key first ≡ false → Among key (first ∷ keys) ⊎ (present key (deed ∷ past) ≡ present key past)
        → Among key keys ⊎ (present key (deed ∷ past) ≡ present key past)
    behind apart (inl (inl is)) = absurd (no (sym ((bytes_eq-Decides key first).1 is) ∙ apart))
      where
        no : true ≡ false → ⊥
        no e = cc
    behind apart (inl (inr a)) = inl a
    behind apart (inr same) = inr same

    at_key : (bytes_eq key first ≡ true) ⊎ (bytes_eq key first ≡ false)
        → (Among key keys ⊎ (present key (deed ∷ past) ≡ present key past) → with_turned (map (turned_at deed past) keys) (present_of
        past) key ≡ present key (deed ∷ past))
        → with_turned (map (turned_at deed past) (first ∷ keys)) (present_of past) key ≡ present key (deed ∷ past)
    at_key (inl is) next = rw is (ap (λ k. present k (deed ∷ past)) (sym ((bytes_eq-Decides key first).0 is)))
    at_key (inr apart) next = rw apart (next (behind apart there))

pub published : (deed : Deed) (past : List Deed) (key : List ℕ) → with_turned (turned deed past) (present_of past) key ≡ present key
    (deed ∷ past)
published deed past key = turned_there deed past (turned_keys deed past) key (at_turn (either (turns deed past key)))
  where
    at_turn : (turns deed past key ≡ true) ⊎ (turns deed past key ≡ false) → Among key (turned_keys deed past) ⊎ (present key (deed ∷
        past) ≡ present key past)
    at_turn (inl is) = inl (among_turned deed past key is)
    at_turn (inr isnt) = inr (unturned_present deed past key isnt)
