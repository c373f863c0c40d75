-- What the queries of a client were told is found by their steps.
use Rattle.std.proofs.Common.{◌≡◌, ℕ, List, [], ◌∷◌, ◌==◌, ap, flat_map, refl}
use Rattle.std.specs.Prelude.{if◌then◌else◌}
use Rattle.std.specs.Borrow.{Bor}
use Rattle.std.specs.BTreeMap.{BTreeMap}
use Rattle.gr_oql.specs.declared.event.Event.{Event}
use Rattle.gr_route.specs.declared.openings.Opening.{Opening}
use Rattle.gr_ask.specs.Told.{events_among, events_told, text_if_found, text_if_of, told_text}

one_text : (client : ℕ) (found : List (BTreeMap ℕ (Bor (List Event)))) (shards : List (List Opening))
    → ((seq : ℕ) → events_among seq found ≡ events_told client seq shards)
    → (opening : Opening) → text_if_found client found opening ≡ text_if_of client shards opening
one_text client found shards same opening =
    ap (λ told. if opening.client == client then told_text opening told else []) (same opening.seq)

pub same_texts : (client : ℕ) (found : List (BTreeMap ℕ (Bor (List Event)))) (shards : List (List Opening)) (openings : List Opening)
    → ((seq : ℕ) → events_among seq found ≡ events_told client seq shards)
    → flat_map (text_if_found client found) openings ≡ flat_map (text_if_of client shards) openings
same_texts client found shards [] same = refl
same_texts client found shards (opening ∷ openings) same =
    let first = one_text client found shards same opening in
    rw (first, same_texts client found shards openings same) refl
