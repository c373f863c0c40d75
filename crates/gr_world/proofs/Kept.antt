-- What is kept of the places by numbers.
use Rattle.std.proofs.Common.{zero, suc, ◌≡◌, ◌∙◌, ap, sym, refl, ℕ, ◌≤◌, ◌<◌, List, [], ◌∷◌, ◌++◌, length, get_or, set, map, arith}
use Rattle.std.proofs.Common.{Bool, true, false, ◌==◌, if◌then◌else◌}
use Rattle.std.proofs.lemmas.Bool.Decides.{nat_tests}
use Rattle.std.proofs.lemmas.List.{get_or-set_same, get_or-set_other}
use Rattle.std.specs.Prelude.{Some, None, option_and_then, slice_get}
use Rattle.gr_world.specs.declared.place.DeedPlace.{DeedPlace}
use Rattle.gr_world.specs.Noted.{place_kept}

pub get_kept : (places : List DeedPlace) (k : ℕ)
    → option_and_then place_kept (slice_get places k) ≡ get_or (map place_kept places) k None
get_kept [] k = refl
get_kept (place ∷ places) zero = refl
get_kept (place ∷ places) (suc k) = get_kept places k

-- One place more that is none changes nothing that is found.
pub get_lengthened : (places : List DeedPlace) (last : DeedPlace) (k : ℕ) → place_kept last ≡ None
    → get_or (map place_kept (places ++ last ∷ [])) k None ≡ get_or (map place_kept places) k None
get_lengthened [] last zero none = none
get_lengthened [] last (suc k) none = refl
get_lengthened (place ∷ places) last zero none = refl
get_lengthened (place ∷ places) last (suc k) none = get_lengthened places last k none

map_set : (places : List DeedPlace) (n : ℕ) (place : DeedPlace)
    → map place_kept (set places n place) ≡ set (map place_kept places) n (place_kept place)
map_set [] n place = refl
map_set (first ∷ places) zero place = refl
map_set (first ∷ places) (suc n) place = ap (λ rest. place_kept first ∷ rest) (map_set places n place)

kept_itself : (place : DeedPlace) → 1 ≤ place.site.member → place_kept place ≡ Some place
kept_itself place from = let is : (place.site.member == 0) ≡ false = grind (arith, nat_tests) in rw is refl

-- Once a member's place is kept at a number, it is what is found there.
pub get_set : (places : List DeedPlace) (n : ℕ) (place : DeedPlace) → 1 ≤ place.site.member → n < length (map place_kept places)
    → (own : ℕ) → get_or (map place_kept (set places n place)) own None
    ≡ (if n == own then Some place else get_or (map place_kept places) own None)
get_set places n place from within own =
    ap (λ kept. get_or kept own None) (map_set places n place ∙ ap (set (map place_kept places) n) (kept_itself place from))
    ∙ at_test (n == own) refl
  where
    equal : (n == own) ≡ true → n ≡ own
    equal e = grind (arith, nat_tests)

    apart : (n == own) ≡ false → own ≡ n → ⊥
    apart e same = grind (arith, nat_tests)

    at_test : (b : Bool) → (n == own) ≡ b
        → get_or (set (map place_kept places) n (Some place)) own None ≡ (if b then Some place else get_or (map place_kept places) own None)
    at_test true e =
        ap (λ k. get_or (set (map place_kept places) n (Some place)) k None) (sym (equal e))
        ∙ get_or-set_same (map place_kept places) n (Some place) None within
    at_test false e = get_or-set_other (map place_kept places) n own (Some place) None (apart e)
