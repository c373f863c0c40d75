-- What each query is told, step by step.
use Rattle.std.proofs.Common.{◌≡◌, ℕ, zero, suc, ◌+◌, ◌≤◌, ◌<◌, List, [], ◌∷◌, ◌++◌, length, take, drop, max, get_or, Vec}
use Rattle.std.proofs.Common.{Global, refl, sym, ap, ◌∙◌, subst, arith, add-one}
use Rattle.std.specs.List.{AllByRecursion}
use Rattle.gr_oql.specs.declared.event.Event.{Event}
use Rattle.gr_oql.specs.declared.event.Turned.{Turned}
use Rattle.gr_cq.specs.declared.open.Open.{Open}
use Rattle.gr_cq.specs.Entries.{Entry, with_kept, kept_with, coming_to, noted}
use Rattle.gr_cq.specs.Foresight.{told_each, coming_to_each, longest}
use Rattle.gr_cq.specs.View.{entry_of, entries_of, events_in, HaveRoom, Fit}

abbrev Lists : Type 0
Lists = List (Vec Event Global)

abbrev pub AreWithin : ℕ → List (List Event) → Type 0
AreWithin most lists = AllByRecursion (λ (events : List Event). length events ≤ most) lists

longest_next : (most before : ℕ) (lists : Lists) (i : ℕ) (d : Vec Event Global) → before ≤ most → i < length lists
    → length (get_or lists i d).items ≤ most → AreWithin before (events_in (take i lists)) → AreWithin most (events_in (take (suc i)
    lists))
longest_next most before [] i d more lt this all = absurd (omega (arith, lt))
longest_next most before (events ∷ lists) zero d more lt this all = (this, tt)
longest_next most before (events ∷ lists) (suc i) d more lt this all =
    (omega (arith, all.0, more), longest_next most before lists i d more (omega (arith, lt)) this all.1)

pub longest_more : (most before : ℕ) (lists : Lists) (i : ℕ) (d : Vec Event Global) → before ≤ most → i < length lists
    → length (get_or lists i d).items ≤ most → AreWithin before (events_in (take i lists)) → AreWithin most (events_in (take (i + 1)
    lists))
longest_more most before lists i d more lt this all =
    subst (λ n. AreWithin most (events_in (take n lists))) (sym (add-one i)) (longest_next most before lists i d more lt this all)

longest_next_is : (lists : Lists) (i : ℕ) (d : Vec Event Global) → i < length lists
    → longest (events_in (take (suc i) lists)) ≡ max (longest (events_in (take i lists))) (length (get_or lists i d).items)
longest_next_is [] i d lt = absurd (omega (arith, lt))
longest_next_is (events ∷ lists) zero d lt = omega arith
longest_next_is (events ∷ lists) (suc i) d lt =
    let next = longest_next_is lists i d (omega (arith, lt)) in omega (arith, next)

pub longest_more_is : (lists : Lists) (i : ℕ) (d : Vec Event Global) → i < length lists
    → longest (events_in (take (i + 1) lists)) ≡ max (longest (events_in (take i lists))) (length (get_or lists i d).items)
longest_more_is lists i d lt =
    ap (λ n. longest (events_in (take n lists))) (add-one i) ∙ longest_next_is lists i d lt

abbrev no_queries : List Open
no_queries = []

drop_none : (i : ℕ) → drop i no_queries ≡ no_queries
drop_none zero = refl
drop_none (suc i) = refl

no_query : (lists : Lists) (i : ℕ) → i < length lists → Fit (events_in (drop i lists)) no_queries → ⊥
no_query [] i lt fit = omega (arith, lt)
no_query (events ∷ lists) zero lt fit = fit
no_query (events ∷ lists) (suc i) lt fit = no_query lists i (omega (arith, lt)) fit

-- there is a query for each list
pub fit_within : (lists : Lists) (all : List Open) (i : ℕ) → i < length lists → Fit (events_in (drop i lists)) (drop i all)
    → i < length all
fit_within [] all i lt fit = absurd (omega (arith, lt))
fit_within (events ∷ lists) [] i lt fit =
    absurd (no_query (events ∷ lists) i lt (subst (Fit (events_in (drop i (events ∷ lists)))) (drop_none i) fit))
fit_within (events ∷ lists) (one ∷ all) zero lt fit = omega arith
fit_within (events ∷ lists) (one ∷ all) (suc i) lt fit =
    let next : i < length all = fit_within lists all i (omega (arith, lt)) fit in omega (arith, next)

-- the queries before a place as they are, and the others once they were told
abbrev told_from : ℕ → Lists → List Open → List Entry
told_from i lists all = entries_of (take i all) ++ told_each (events_in (drop i lists)) (entries_of (drop i all))

dropped : (lists : Lists) (i : ℕ) → length lists ≤ i → drop i lists ≡ []
dropped [] zero le = refl
dropped [] (suc i) le = refl
dropped (events ∷ lists) zero le = absurd (omega (arith, le))
dropped (events ∷ lists) (suc i) le = dropped lists i (omega (arith, le))

whole : (all : List Open) (i : ℕ) → entries_of (take i all) ++ entries_of (drop i all) ≡ entries_of all
whole all zero = refl
whole [] (suc i) = refl
whole (one ∷ all) (suc i) = ap (λ rest. entry_of one ∷ rest) (whole all i)

-- behind the last list all are told
pub told_last : (lists : Lists) (all : List Open) (i : ℕ) → length lists ≤ i → told_from i lists all ≡ entries_of all
told_last lists all i le =
    ap (λ rest. entries_of (take i all) ++ told_each (events_in rest) (entries_of (drop i all))) (dropped lists i le) ∙ whole all i

-- there is room for what each query is told where there is room for the longest
pub fit_told : (turned : List Turned) (spare : ℕ) (all : List Open) → AreWithin spare (coming_to_each turned (entries_of all))
    → HaveRoom spare all → Fit (coming_to_each turned (entries_of all)) all
fit_told turned spare [] within room = tt
fit_told turned spare (one ∷ all) within room =
    (omega (arith, within.0, room.0), fit_told turned spare all within.1 room.1)

-- to be told what is coming is to be told of the turned keys
pub told_noted : (turned : List Turned) (entries : List Entry) → told_each (coming_to_each turned entries) entries ≡ noted turned entries
told_noted turned [] = refl
told_noted turned (entry ∷ entries) =
    ap (λ rest. with_kept (kept_with (coming_to turned entry.kept)) entry ∷ rest) (told_noted turned entries)
