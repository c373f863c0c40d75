-- Where what each step made stands.
use Rattle.std.specs.Prelude.{◌≡◌, ℕ, ◌==◌, ◌&&◌, List, [], Option, Some, None, get_or, if◌then◌else◌}
use Rattle.gr_world.specs.Named.{or_else}
use Rattle.gr_world.specs.declared.place.DeedPlace.{DeedPlace}

-- the place that is kept, where it is that of a member
abbrev pub place_kept : DeedPlace → Option DeedPlace
place_kept place = if place.site.member == 0 then None else Some place

-- The place of this step of one client is noted too.
abbrev pub HasNoted : ℕ → DeedPlace → List (Option DeedPlace) → List (Option DeedPlace) → Type 0
HasNoted number place old new =
    (own : ℕ) → get_or new own None ≡ (if number == own then Some place else get_or old own None)

-- the place of a client's step, where the lists stand by the numbers of the clients
abbrev pub place_of : List (List (Option DeedPlace)) → ℕ → ℕ → Option DeedPlace
place_of rows client number = get_or (get_or rows client []) number None

-- The place of this step is noted too, if there is one.
abbrev pub Notes : ℕ → ℕ → Option DeedPlace → List (List (Option DeedPlace)) → List (List (Option DeedPlace)) → Type 0
Notes client number place old new = (own step : ℕ)
    → place_of new own step ≡ or_else (if client == own && number == step then place else None) (place_of old own step)
