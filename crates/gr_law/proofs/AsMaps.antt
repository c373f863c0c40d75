-- From equal at each key to equal as finite maps.
use Rattle.std.proofs.Common.{◌≡◌, ℕ, List, [], ◌∷◌, Bool, true, false, refl, sym, ap, ◌∙◌, bytes_eq, if◌then◌else◌}
use Rattle.std.specs.Prelude.{Option, Some, None, map, length}
use Rattle.std.specs.Ordering.{nat_cmp}
use Rattle.std.specs.Cmp.Lexicographic.{slice_cmp}
use Rattle.std.proofs.lemmas.Cmp.{nat_list_cmp_total}
use Rattle.std.proofs.lemmas.Map.Text.{is_eq-slice_cmp}
use Rattle.std.proofs.lemmas.Slice.Eq.{bytes_eq-Decides}
use Rattle.gr_value.specs.declared.value.Field.{Field}
use Rattle.gr_oql.specs.declared.event.Event.{Event}
use Rattle.gr_oql.specs.Events.{Present, value_left, with_event, played}
use Rattle.gr_history.specs.declared.query_reply.Row.{Row}
use Rattle.gr_history.specs.declared.deed.Deed.{Deed}
use Rattle.gr_history.specs.Turned.{events}
use Rattle.gr_history.specs.Queries.{rows_of}
use Rattle.gr_law.specs.Queries.{IsAnswered, found}
use Rattle.gr_law.specs.QueryMaps.{Rows, entry_of, map_of, put_at, followed, IsKeptUpAsMaps}
use Rattle.gr_law.proofs.Following.{found_rows}
use Rattle.gr_law.proofs.KeptUp.{kept_up}
use Rattle.std.specs.FinMap as finite

flipped : (one two : List ℕ) → bytes_eq one two ≡ bytes_eq two one
flipped one two = at_test (bytes_eq one two) (bytes_eq two one) refl refl
  where
    at_test : (b c : Bool) → bytes_eq one two ≡ b → bytes_eq two one ≡ c → b ≡ c
    at_test true true e f = refl
    at_test false false e f = refl
    at_test true false e f = sym ((bytes_eq-Decides two one).1 (sym ((bytes_eq-Decides one two).0 e))) ∙ f
    at_test false true e f = sym e ∙ (bytes_eq-Decides one two).1 (sym ((bytes_eq-Decides two one).0 f))

pub get_rows : (rows : List Row) (key : List ℕ) → finite.find (slice_cmp nat_cmp) key (map entry_of rows) ≡ found rows key
get_rows [] key = refl
get_rows (row ∷ rows) key =
    ap (λ b. if b then Some row.value else finite.find (slice_cmp nat_cmp) key (map entry_of rows)) (is_eq-slice_cmp key row.key ∙
    flipped key row.key)
    ∙ ap (λ o. if bytes_eq row.key key then Some row.value else o) (get_rows rows key)

get_map : (rows : List Row) (key : List ℕ) → finite.get (map_of rows) key ≡ found rows key
get_map rows key = finite.get-from_entries nat_list_cmp_total (map entry_of rows) key ∙ get_rows rows key

get_put : (at : List ℕ) (value : Option (List Field)) (rows : Rows) (key : List ℕ)
    → finite.get (put_at at value rows) key ≡ (if bytes_eq key at then value else finite.get rows key)
get_put at None rows key = finite.get-remove nat_list_cmp_total rows at key ∙ ap (λ b. if b then None else finite.get rows key)
    (is_eq-slice_cmp key at)
get_put at (Some value) rows key = finite.get-insert nat_list_cmp_total rows at value key ∙ ap (λ b. if b then Some value else finite.get
    rows key) (is_eq-slice_cmp key at)

get_followed : (all : List Event) (rows : Rows) (stood : Present) → ((key : List ℕ) → finite.get rows key ≡ stood key)
    → (key : List ℕ) → finite.get (followed rows all) key ≡ played stood all key
get_followed [] rows stood is key = is key
get_followed (event ∷ all) rows stood is key =
    get_followed all (put_at event.key (value_left event.op event.value) rows) (with_event event stood)
    (λ other. get_put event.key (value_left event.op event.value) rows other ∙ ap (λ o. if bytes_eq other event.key then value_left
    event.op event.value else o) (is other)) key

pub kept_up_as_maps : (client : ℕ) (name : List ℕ) (h : List Deed) → IsAnswered h → IsKeptUpAsMaps client name h
kept_up_as_maps client name h law opening runs =
    finite.same_map nat_list_cmp_total (finite.slice_cmp-IsAntisymmetric finite.nat_cmp-IsAntisymmetric)
    (followed (map_of opening.rows) (events opening.question h opening.place (length h))) (map_of (rows_of opening.question h))
    (λ key. get_followed (events opening.question h opening.place (length h)) (map_of opening.rows) (found opening.rows) (get_map
    opening.rows) key
    ∙ kept_up client name h law opening runs key
    ∙ sym (found_rows opening.question h key) ∙ sym (get_map (rows_of opening.question h) key))
