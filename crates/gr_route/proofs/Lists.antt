-- What a query is told of deeds, as the turned keys of each have it.
use Rattle.std.proofs.Common.{◌≡◌, ℕ, suc, ◌+◌, ◌-◌, ◌≤◌, List, [], ◌∷◌, ◌++◌, Bool, true, false, refl, sym, ap, ◌∙◌, length, take, drop, nat_le, arith, length-append, if◌then◌else◌}
use Rattle.std.specs.Prelude.{flat_map}
use Rattle.std.proofs.lemmas.Bool.Decides.{nat_tests}
use Rattle.std.proofs.lemmas.List.{drop_all, take_all, take-append-le, drop-append-le, drop-take, flat_map_more}
use Rattle.gr_oql.specs.declared.event.Event.{Event}
use Rattle.gr_oql.specs.declared.event.Turned.{Turned}
use Rattle.gr_oql.specs.Events.{told_all}
use Rattle.gr_oql.specs.Question.{Question}
use Rattle.gr_history.specs.declared.deed.Deed.{Deed}
use Rattle.gr_history.specs.Places.{at_place}
use Rattle.gr_history.specs.Turned.{turned, events, events_at, events_from}
use Rattle.gr_route.specs.Turning.{turned_each}

pub as_many : (past : List Deed) → length (turned_each past) ≡ length past
as_many [] = refl
as_many (deed ∷ past) = omega (arith, length-append (turned_each past) (turned deed past ∷ []), as_many past)

up_to : (n : ℕ) (past : List Deed) → turned_each (at_place n past) ≡ take n (turned_each past)
up_to n [] = sym (take_all n [] (omega arith))
up_to n (deed ∷ past) = at_test (nat_le (suc (length past)) n) refl (up_to n past)
  where
    all : List (List Turned)
    all = turned_each past ++ turned deed past ∷ []

    many : length all ≡ length past + 1
    many = omega (arith, length-append (turned_each past) (turned deed past ∷ []), as_many past)

    at_test : (b : Bool) → nat_le (suc (length past)) n ≡ b → turned_each (at_place n past) ≡ take n (turned_each past)
        → turned_each (if b then deed ∷ past else at_place n past) ≡ take n all
    at_test true e next =
        let le : suc (length past) ≤ n = grind (arith, nat_tests) in
        sym (take_all n all (omega (arith, le, many)))
    at_test false e next =
        let le : n ≤ length past = grind (arith, nat_tests) in
        next ∙ sym (take-append-le n (turned_each past) (turned deed past ∷ []) (omega (arith, le, as_many past)))

from_on : (question : Question) (from : ℕ) (past : List Deed)
    → events_from question from past ≡ flat_map (told_all question) (drop from (turned_each past))
from_on question from [] = sym (ap (flat_map (told_all question)) (drop_all from [] (omega arith)))
from_on question from (deed ∷ past) = at_test (nat_le from (length past)) refl (from_on question from past)
  where
    all : List (List Turned)
    all = turned_each past ++ turned deed past ∷ []

    many : length all ≡ length past + 1
    many = omega (arith, length-append (turned_each past) (turned deed past ∷ []), as_many past)

    nothing : List Event
    nothing = []

    at_test : (b : Bool) → nat_le from (length past) ≡ b
        → events_from question from past ≡ flat_map (told_all question) (drop from (turned_each past))
        → (if b then events_from question from past ++ events_at question deed past else nothing) ≡ flat_map (told_all question) (drop from all)
    at_test true e next =
        let le : from ≤ length past = grind (arith, nat_tests) in
        ap (λ before. before ++ events_at question deed past) next
        ∙ flat_map_more (told_all question) [] (drop from (turned_each past)) (turned deed past)
        ∙ sym (ap (flat_map (told_all question)) (drop-append-le from (turned_each past) (turned deed past ∷ []) (omega (arith, le, as_many past))))
    at_test false e next =
        let le : suc (length past) ≤ from = grind (arith, nat_tests) in
        sym (ap (flat_map (told_all question)) (drop_all from all (omega (arith, le, many))))

-- the events of so many deeds from a place on
pub between : (question : Question) (past : List Deed) (from count : ℕ)
    → events question past from (from + count) ≡ flat_map (told_all question) (take count (drop from (turned_each past)))
between question past from count =
    from_on question from (at_place (from + count) past)
    ∙ ap (λ lists. flat_map (told_all question) (drop from lists)) (up_to (from + count) past)
    ∙ ap (flat_map (told_all question)) (drop-take from count (turned_each past))

-- so many of the lists behind a place give the events up to their end
pub told_between : (question : Question) (past : List Deed) (lists : List (List Turned)) (place count : ℕ) → lists ≡ turned_each past
    → flat_map (told_all question) (take (place + 1 + count - (place + 1)) (drop (place + 1) lists))
    ≡ events question past (suc place) (suc place + count)
told_between question past lists place count is =
    let many : place + 1 + count - (place + 1) ≡ count = omega arith in
    let next : place + 1 ≡ suc place = omega arith in
    ap (λ n. flat_map (told_all question) (take n (drop (place + 1) lists))) many
    ∙ ap (λ n. flat_map (told_all question) (take count (drop n lists))) next
    ∙ ap (λ those. flat_map (told_all question) (take count (drop (suc place) those))) is
    ∙ sym (between question past (suc place) count)
