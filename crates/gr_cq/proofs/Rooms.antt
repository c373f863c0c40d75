-- Steps along lists of open queries, and their room.
use Rattle.std.proofs.Common.{◌≡◌, ℕ, zero, suc, ◌+◌, ◌≤◌, ◌<◌, List, [], ◌∷◌, ◌++◌, length, take, set, get_or, Vec}
use Rattle.std.proofs.Common.{Global, sym, subst, arith}
use Rattle.std.specs.List.{AllByRecursion}
use Rattle.std.specs.Option.{option_to_list}
use Rattle.std.proofs.Math.Seq.{map-set_same}
use Rattle.std.proofs.lemmas.List.{take_more_set}
use Rattle.gr_oql.specs.declared.event.Event.{Event}
use Rattle.gr_oql.specs.declared.event.Turned.{Turned}
use Rattle.gr_cq.specs.declared.open.Open.{Open}
use Rattle.gr_cq.specs.declared.foreseen.Plan.{Plan}
use Rattle.gr_cq.specs.declared.foreseen.Plan.TheVariants as plan
use Rattle.gr_cq.specs.Foresight.{IsMadeFor, coming_to_each}
use Rattle.gr_cq.specs.View.{entry_of, entries_of, events_in, change_of, HaveRoom, Fit, IsRoomy, FitsIn}
use Rattle.gr_cq.proofs.Telling.{AreWithin, fit_told}

pub entries_same : (all : List Open) (i : ℕ) (d new : Open) → entry_of new ≡ entry_of (get_or all i d)
    → entries_of (set all i new) ≡ entries_of all
entries_same all i d new same = map-set_same entry_of all i new d same

pub room_kept : (spare : ℕ) (all : List Open) (i : ℕ) (d new : Open) → (get_or all i d).waiting.spare ≤ new.waiting.spare
    → HaveRoom spare all → HaveRoom spare (set all i new)
room_kept spare [] i d new more room = room
room_kept spare (one ∷ all) zero d new more room = (omega (arith, room.0, more), room.1)
room_kept spare (one ∷ all) (suc i) d new more room = (room.0, room_kept spare all i d new more room.1)

all_behind : {A : Type 0} → (P : A → Type 0) (xs : List A) (y : A) → AllByRecursion P xs → P y → AllByRecursion P (xs ++ y ∷ [])
all_behind P [] y all p = (p, tt)
all_behind P (x ∷ xs) y all p = (all.0, all_behind P xs y all.1 p)

pub room_more : (spare : ℕ) (all : List Open) (i : ℕ) (new : Open) → i < length all → HaveRoom spare (take i all)
    → spare ≤ new.waiting.spare → HaveRoom spare (take (i + 1) (set all i new))
room_more spare all i new lt room more =
    subst (HaveRoom spare) (sym (take_more_set all i new lt)) (all_behind (λ one. spare ≤ one.waiting.spare) (take i all) new room more)

-- there is always room for none
pub no_room : (all : List Open) → HaveRoom 0 all
no_room [] = tt
no_room (one ∷ all) = (omega arith, no_room all)

pub none_roomy : (all : Vec Open Global) → IsRoomy 0 all
none_roomy all = record { one_more = λ le. absurd (never le); each = no_room all.items }
  where
    never : 1 ≤ 0 → ⊥
    never le = omega (arith, le)

-- there is room for what each query is told
fits_lists : (spare : ℕ) (all : List Open) (lists : List (List Event)) → HaveRoom spare all → (turned : List Turned)
    → lists ≡ coming_to_each turned (entries_of all) → AreWithin spare lists → Fit lists all
fits_lists spare all lists room turned is within =
    subst (λ told. Fit told all) (sym is) (fit_told turned spare all (subst (AreWithin spare) is within) room)

-- there is room for what was foreseen
pub fits_made : (spare : ℕ) (all : Vec Open Global) (it : Plan) → IsRoomy spare all
    → IsMadeFor (record { entries = entries_of all.items; spare = spare }) (change_of it) → FitsIn all it
fits_made spare all (plan.Enrol one) roomy made = roomy.one_more made.room
fits_made spare all (plan.Take client name) roomy made = tt
fits_made spare all (plan.Tell event) roomy made =
    fits_lists spare all.items (option_to_list event ∷ []) roomy.each made.made.0 made.made.1 made.within
fits_made spare all (plan.Note lists) roomy made =
    fits_lists spare all.items (events_in lists.items) roomy.each made.made.0 made.made.1 made.within
