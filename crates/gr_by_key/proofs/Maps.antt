-- Entries of an ordered map, read as a finite map.
use Rattle.std.proofs.Common.{◌≡◌, ℕ, List, [], ◌∷◌, Bool, true, false, refl, sym, ap, ◌∙◌, cond}
use Rattle.std.specs.Prelude.{Option, Some, None}
use Rattle.std.specs.Ordering.{nat_cmp, eq_by_cmp}
use Rattle.std.specs.Cmp.{eq_by_cmp_equiv}
use Rattle.std.specs.Cmp.Lexicographic.{slice_cmp}
use Rattle.std.specs.Map.{lookup}
use Rattle.std.specs.BTreeMap.{is_at}
use Rattle.std.specs.FinMap as finite
use Rattle.std.proofs.lemmas.Cmp.{nat_list_cmp_total}
use Rattle.gr_by_key.specs.Maps.{ByKey, with_value}

module _ {V : Type 0} where
  found_there : (es : List (List ℕ × V)) (key : List ℕ) → finite.find (slice_cmp nat_cmp) key es ≡ lookup (is_at (slice_cmp nat_cmp key)) es
  found_there [] key = refl
  found_there (e ∷ es) key = ap (cond (eq_by_cmp (slice_cmp nat_cmp) key e.0) (Some e.1)) (found_there es key)

  pub get_found : (es : List (List ℕ × V)) (key : List ℕ)
      → finite.get (finite.from_entries {R = slice_cmp nat_cmp} es) key ≡ lookup (is_at (slice_cmp nat_cmp key)) es
  get_found es key = finite.get-from_entries nat_list_cmp_total es key ∙ found_there es key

  pub get_with_value : (key : List ℕ) (value : Option V) (entries : ByKey V) (other : List ℕ)
      → finite.get (with_value key value entries) other ≡ cond (eq_by_cmp (slice_cmp nat_cmp) key other) value (finite.get entries other)
  get_with_value key None entries other = finite.get-remove nat_list_cmp_total entries key other
      ∙ ap (λ b. cond b None (finite.get entries other)) ((eq_by_cmp_equiv nat_list_cmp_total).symm other key)
  get_with_value key (Some value) entries other = finite.get-insert nat_list_cmp_total entries key value other
      ∙ ap (λ b. cond b (Some value) (finite.get entries other)) ((eq_by_cmp_equiv nat_list_cmp_total).symm other key)

  -- entries that answer as before, but at one key
  pub with_value_is : (key : List ℕ) (value : Option V) (old new : List (List ℕ × V))
      → ((other : List ℕ) → lookup (is_at (slice_cmp nat_cmp other)) new ≡ cond (is_at (slice_cmp nat_cmp key) other) value (lookup (is_at (slice_cmp nat_cmp other)) old))
      → finite.from_entries {R = slice_cmp nat_cmp} new ≡ with_value key value (finite.from_entries old)
  with_value_is key value old new is =
      finite.same_map nat_list_cmp_total (finite.slice_cmp-IsAntisymmetric finite.nat_cmp-IsAntisymmetric) _ _
      (λ other. get_found new other ∙ is other
      ∙ ap (cond (is_at (slice_cmp nat_cmp key) other) value) (sym (get_found old other))
      ∙ sym (get_with_value key value (finite.from_entries old) other))

  shadowed : (b : Bool) (x y z : Option V) → cond b x (cond b y z) ≡ cond b x z
  shadowed true x y z = refl
  shadowed false x y z = refl

  -- what is taken out and put in again is put in
  pub put_again : (entries : ByKey V) (key : List ℕ) (value : V)
      → finite.insert (finite.remove entries key) key value ≡ finite.insert entries key value
  put_again entries key value =
      finite.same_map nat_list_cmp_total (finite.slice_cmp-IsAntisymmetric finite.nat_cmp-IsAntisymmetric) _ _
      (λ other. finite.get-insert nat_list_cmp_total (finite.remove entries key) key value other
      ∙ ap (cond (eq_by_cmp (slice_cmp nat_cmp) other key) (Some value)) (finite.get-remove nat_list_cmp_total entries key other)
      ∙ shadowed (eq_by_cmp (slice_cmp nat_cmp) other key) (Some value) None (finite.get entries other)
      ∙ sym (finite.get-insert nat_list_cmp_total entries key value other))
