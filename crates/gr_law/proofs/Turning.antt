-- What a deed doesn't turn is as before; and which keys it can turn.
use Rattle.std.proofs.Common.{◌≡◌, ◌⊎◌, ℕ, List, [], ◌∷◌, ◌++◌, Bool, true, false, ◌&&◌, not, refl, sym, ap, ◌∙◌, subst, inl, inr}
use Rattle.std.proofs.Common.{arith, bytes_eq}
use Rattle.std.specs.Prelude.{Option, Some, None, filter}
use Rattle.std.specs.Option.{option_and_then}
use Rattle.std.proofs.lemmas.Bool.Decides.{nat_tests}
use Rattle.std.proofs.lemmas.Slice.Eq.{bytes_eq-Decides}
use Rattle.gr_stamp.specs.declared.change.Change.{Change}
use Rattle.gr_stamp.specs.Version.{Version, beats}
use Rattle.gr_stamp.specs.Winner.{winner, wins, put_value}
use Rattle.gr_stamp.proofs.Order.{beats-transitive}
use Rattle.gr_history.specs.Regions.{keys_of}
use Rattle.gr_history.specs.declared.deed.Deed.{Deed}
use Rattle.gr_history.specs.Standing.{came, changes, drops, lasting, standing, present}
use Rattle.gr_law.specs.Grids.{Among}
use Rattle.gr_law.proofs.Lists.{among_right, filter_keeps}
use Rattle.gr_law.proofs.Steps.{standing_best}
use Rattle.gr_law.proofs.Images.{key_of_change, lasting_came}
use Rattle.gr_history.specs.Clock.{is_same_stamp}
use Rattle.gr_history.specs.Turned.{is_other, turns, turned_keys}
use Rattle.gr_law.proofs.Keys.{IsInOrder, in_order_keys, same_filtered}

-- the winner is as before, or another won over it
pub record IsWonOver (key : List ℕ) (more before : List Change) : Type 0 where
  pub change : Change
  pub is : winner key (more ++ before) ≡ Some change
  pub wins_over : wins change (winner key before) ≡ true

wins_twice : (one two : Change) (before : Option Change) → beats one.stamp two.stamp ≡ true → wins two before ≡ true → wins one before ≡
    true
wins_twice one two None a b = refl
wins_twice one two (Some held) a b = beats-transitive one.stamp two.stamp held.stamp a b

pub winner_over : (key : List ℕ) (more before : List Change) → (winner key (more ++ before) ≡ winner key before) ⊎ IsWonOver key more
    before
winner_over key [] before = inl refl
winner_over key (change ∷ more) before = at_test (bytes_eq change.key key && wins change (winner key (more ++ before))) refl (winner_over
    key more before)
  where
    and_right : (a b : Bool) → (a && b) ≡ true → b ≡ true
    and_right a b h = grind arith

    over : (winner key (more ++ before) ≡ winner key before) ⊎ IsWonOver key more before → wins change (winner key (more ++ before)) ≡
        true
        → wins change (winner key before) ≡ true
    over (inl same) won = rw same at won
    over (inr w) won = wins_twice change w.change (winner key before) (rw w.is at won) w.wins_over

    at_test : (b : Bool) → (bytes_eq change.key key && wins change (winner key (more ++ before))) ≡ b
        → (winner key (more ++ before) ≡ winner key before) ⊎ IsWonOver key more before
        → (winner key (change ∷ more ++ before) ≡ winner key before) ⊎ IsWonOver key (change ∷ more) before
    at_test true e next = inr (record { change = change; is = rw e refl; wins_over = over next (and_right _ _ e) })
    at_test false e (inl same) = inl (rw e same)
    at_test false e (inr w) = inr (record { change = w.change; is = rw e w.is; wins_over = w.wins_over })

beats_other : (one two : Version) → beats one two ≡ true → is_same_stamp two one ≡ false
beats_other one two h = grind (arith, nat_tests)

pub won_other : (change : Change) (before : Option Change) → wins change before ≡ true → is_other before (Some change) ≡ true
won_other change None w = refl
won_other change (Some held) w = ap not (beats_other change.stamp held.stamp w)

dropped_other : (before : Option Change) → is_other before None ≡ false → None ≡ before
dropped_other None h = refl
dropped_other (Some change) h = absurd (cc)

-- A key that a deed doesn't turn has what it had.
pub unturned_same : (deed : Deed) (past : List Deed) (key : List ℕ) → turns deed past key ≡ false → standing key (deed ∷ past) ≡ standing
    key past
unturned_same deed past key h = at_drop (drops key deed (standing key past)) refl (winner_over key (came deed past) (lasting key past))
  where
    others : (after : Option Change) → standing key (deed ∷ past) ≡ after → is_other (standing key past) after ≡ false
    others after e = subst (λ o. is_other (standing key past) o ≡ false) e h

    true_isnt : true ≡ false → ⊥
    true_isnt e = cc

    at_drop : (b : Bool) → drops key deed (standing key past) ≡ b
        → (winner key (came deed past ++ lasting key past) ≡ standing key past) ⊎ IsWonOver key (came deed past) (lasting key past)
        → standing key (deed ∷ past) ≡ standing key past
    at_drop true e w = let is : standing key (deed ∷ past) ≡ None = rw e refl in is ∙ dropped_other (standing key past) (others None is)
    at_drop false e (inl same) = rw e same
    at_drop false e (inr w) =
        let is : standing key (deed ∷ past) ≡ Some w.change = rw e w.is in
        absurd (true_isnt (sym (won_other w.change (standing key past) w.wins_over) ∙ others (Some w.change) is))

-- and so the value that it had
pub unturned_present : (deed : Deed) (past : List Deed) (key : List ℕ) → turns deed past key ≡ false → present key (deed ∷ past) ≡
    present key past
unturned_present deed past key h = ap (option_and_then (λ change. put_value change.kind)) (unturned_same deed past key h)

same_stamp_itself : (one : Version) → is_same_stamp one one ≡ true
same_stamp_itself one = grind (arith, nat_tests)

not_other_itself : (o : Option Change) → is_other o o ≡ false
not_other_itself None = refl
not_other_itself (Some change) = ap not (same_stamp_itself change.stamp)

-- and a key that has what it had isn't turned
pub same_unturned : (deed : Deed) (past : List Deed) (key : List ℕ) → standing key (deed ∷ past) ≡ standing key past → turns deed past
    key ≡ false
same_unturned deed past key is = rw is (not_other_itself (standing key past))

-- what stands has its key among those of the changes
pub standing_key : (key : List ℕ) (past : List Deed) (change : Change) → standing key past ≡ Some change → Among key (keys_of (changes
    past))
standing_key key past change is =
    let best = standing_best key past change is in
    subst (λ k. Among k (keys_of (changes past))) ((bytes_eq-Decides change.key key).0 best.of_key)
    (key_of_change change (changes past) (lasting_came key past change best.among))

pub turned_key : (deed : Deed) (past : List Deed) (key : List ℕ) → turns deed past key ≡ true → Among key (keys_of (changes (deed ∷
    past)))
turned_key deed past key h = at_standing (standing key past) (standing key (deed ∷ past)) refl refl h
  where
    at_standing : (old new : Option Change) → standing key past ≡ old → standing key (deed ∷ past) ≡ new → is_other old new ≡ true
        → Among key (keys_of (changes (deed ∷ past)))
    at_standing None None e f h = absurd (cc)
    at_standing old (Some new) e f h = standing_key key (deed ∷ past) new f
    at_standing (Some old) None e f h =
        let best = standing_best key past old e in
        subst (λ k. Among k (keys_of (changes (deed ∷ past)))) ((bytes_eq-Decides old.key key).0 best.of_key)
        (key_of_change old (changes (deed ∷ past)) (among_right old (came deed past) (changes past) (lasting_came key past old
        best.among)))

pub among_turned : (deed : Deed) (past : List Deed) (key : List ℕ) → turns deed past key ≡ true → Among key (turned_keys deed past)
among_turned deed past key h = filter_keeps (turns deed past) key (keys_of (changes (deed ∷ past))) h (turned_key deed past key h)

-- The turned keys are those of any list of keys in order that has them all.
pub turned_of : (deed : Deed) (past : List Deed) (keys : List (List ℕ)) → IsInOrder keys
    → ((key : List ℕ) → turns deed past key ≡ true → Among key keys) → turned_keys deed past ≡ filter (turns deed past) keys
turned_of deed past keys in_order all =
    same_filtered (turns deed past) (keys_of (changes (deed ∷ past))) keys (in_order_keys (changes (deed ∷ past))) in_order (turned_key
    deed past) all
