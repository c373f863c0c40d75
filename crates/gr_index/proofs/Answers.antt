-- What is found is what matches of what stands.
use Rattle.std.proofs.Common.{◌≡◌, ◌∙◌, ap, sym, refl, subst, ℕ, List, [], ◌∷◌, Bool, true, false, if◌then◌else◌, map}
use Rattle.std.proofs.Common.{Option, Some, None, bytes_eq}
use Rattle.std.specs.List.{fold, IsDistinct, AllByRecursion}
use Rattle.std.specs.List.Sorted.{IsStrictlySortedBy}
use Rattle.std.specs.declared.cmp.Ordering.{Ordering}
use Rattle.std.specs.declared.cmp.Ordering.TheVariants.{Less, Equal, Greater}
use Rattle.std.specs.Ordering.{nat_cmp, match_ordering, is_eq}
use Rattle.std.specs.Cmp.Lexicographic.{slice_cmp}
use Rattle.std.specs.BTreeMap.{insert_entry}
use Rattle.std.specs.Map.{keys_of}
use Rattle.std.proofs.lemmas.Map.Text.{is_eq-slice_cmp}
use Rattle.std.proofs.lemmas.Slice.Eq.{bytes_eq-Decides}
use Rattle.gr_value.specs.declared.value.Field.{Field}
use Rattle.gr_stamp.specs.declared.change.Change.{Change}
use Rattle.gr_stamp.specs.Winner.{put_value}
use Rattle.gr_oql.specs.Question.{Question}
use Rattle.gr_oql.specs.Events.{where_matching}
use Rattle.gr_history.specs.declared.query_reply.Row.{Row}
use Rattle.gr_history.specs.declared.record.ShardRecord.{ShardRecord}
use Rattle.gr_index.specs.Answer.{standing_rows, AreApart, value_among, value_in, IsAnswer, Found, with_value, with_row, found_rows, answer}

-- what is found at a key
abbrev at : List ℕ → Found → Option (List Field)
at key found = value_in key (found_rows found)

either : (b : Bool) (x y z : Option (List Field)) → (if b then x else z) ≡ (if b then x else (if b then y else z))
either true x y z = refl
either false x y z = refl

-- A value is found at its key, and at other keys what was found before.
at-insert : (q key : List ℕ) (value : List Field) (found : Found)
    → at q (insert_entry (slice_cmp nat_cmp) found key value) ≡ (if bytes_eq q key then Some value else at q found)
at-insert q key value [] = refl
at-insert q key value (e ∷ es) = at_order (slice_cmp nat_cmp key e.0) refl (bytes_eq q key) refl (at-insert q key value es)
  where
    more : Found
    more = insert_entry (slice_cmp nat_cmp) es key value

    at_order : (o : Ordering) → slice_cmp nat_cmp key e.0 ≡ o → (b : Bool) → bytes_eq q key ≡ b
        → at q more ≡ (if bytes_eq q key then Some value else at q es)
        → at q (match_ordering o ((key, value) ∷ e ∷ es) ((e.0, value) ∷ es) (e ∷ more))
        ≡ (if b then Some value else at q (e ∷ es))
    at_order Less is b same rest = ap (λ t. if t then Some value else at q (e ∷ es)) same
    at_order Equal is b same rest =
        let key_is : key ≡ e.0 = (bytes_eq-Decides key e.0).0 (sym (is_eq-slice_cmp key e.0) ∙ ap is_eq is) in
        let tested : bytes_eq q e.0 ≡ b = ap (bytes_eq q) (sym key_is) ∙ same in
        ap (λ t. if t then Some value else at q es) tested
        ∙ either b (Some value) (Some e.1) (at q es)
        ∙ ap (λ t. if b then Some value else (if t then Some e.1 else at q es)) (sym tested)
    at_order Greater is true same rest =
        let q_is : q ≡ key = (bytes_eq-Decides q key).0 same in
        let apart : bytes_eq q e.0 ≡ false = ap (λ k. bytes_eq k e.0) q_is ∙ sym (is_eq-slice_cmp key e.0) ∙ ap is_eq is in
        ap (λ t. if t then Some e.1 else at q more) apart ∙ rest ∙ ap (λ t. if t then Some value else at q es) same
    at_order Greater is false same rest =
        ap (λ l. if bytes_eq q e.0 then Some e.1 else l) (rest ∙ ap (λ t. if t then Some value else at q es) same)

both : (b : Bool) (x : Option (List Field)) → x ≡ (if b then x else x)
both true x = refl
both false x = refl

at-with_value : (q key : List ℕ) (value : Option (List Field)) (found : Found) → at q found ≡ None
    → at q (with_value key value found) ≡ (if bytes_eq q key then value else None)
at-with_value q key None found none = none ∙ both (bytes_eq q key) None
at-with_value q key (Some value) found none = at-insert q key value found ∙ ap (λ l. if bytes_eq q key then Some value else l) none

at-elsewhere : (q key : List ℕ) (value : Option (List Field)) (found : Found) → bytes_eq q key ≡ false
    → at q (with_value key value found) ≡ at q found
at-elsewhere q key None found apart = refl
at-elsewhere q key (Some value) found apart = at-insert q key value found ∙ ap (λ b. if b then Some value else at q found) apart

module _ (question : Question) where
  -- Rows at other keys change nothing.
  others : (q : List ℕ) (rows : List Change) (found : Found) → AllByRecursion (λ key. bytes_eq q key ≡ false) (map (λ row. row.key) rows)
      → at q (fold (with_row question) found rows) ≡ at q found
  others q [] found apart = refl
  others q (row ∷ rows) found apart =
      others q rows (with_row question found row) apart.1
      ∙ at-elsewhere q row.key (where_matching question (put_value row.kind)) found apart.0

  same_key : (q : List ℕ) (row : Change) (rows : List Change) → q ≡ row.key
      → AllByRecursion (λ key. bytes_eq row.key key ≡ false) (map (λ row. row.key) rows)
      → AllByRecursion (λ key. bytes_eq q key ≡ false) (map (λ row. row.key) rows)
  same_key q row rows is apart = subst (λ k. AllByRecursion (λ key. bytes_eq k key ≡ false) (map (λ row. row.key) rows)) (sym is) apart

  exact : (q : List ℕ) (rows : List Change) (found : Found) → AreApart rows → at q found ≡ None
      → at q (fold (with_row question) found rows) ≡ where_matching question (value_among q rows)
  unfolding IsDistinct
  exact q [] found apart none = none
  exact q (row ∷ rows) found apart none =
      by_key (bytes_eq q row.key) refl (exact q rows (with_row question found row) apart.1)
    where
      value : Option (List Field)
      value = where_matching question (put_value row.kind)

      by_key : (b : Bool) → bytes_eq q row.key ≡ b
          → (at q (with_row question found row) ≡ None
          → at q (fold (with_row question) (with_row question found row) rows) ≡ where_matching question (value_among q rows))
          → at q (fold (with_row question) (with_row question found row) rows)
          ≡ where_matching question (if b then put_value row.kind else value_among q rows)
      by_key true same rest =
          others q rows (with_row question found row) (same_key q row rows ((bytes_eq-Decides q row.key).0 same) apart.0)
          ∙ at-with_value q row.key value found none
          ∙ ap (λ b. if b then value else None) same
      by_key false same rest = rest (at-elsewhere q row.key value found same ∙ none)

unmapped : (found : Found) → found ≡ map (λ x. x) found
unmapped [] = refl
unmapped (e ∷ es) = ap (λ found. e ∷ found) (unmapped es)

-- what was taken of a map, at its end
pub all_found : (rows : List Row) (taken found : Found) → rows ≡ found_rows taken → map (λ x. x) taken ≡ found → rows ≡ found_rows found
all_found rows taken found is whole = is ∙ ap found_rows (unmapped taken ∙ whole)

keys_found : (found : Found) → map (λ row. row.key) (found_rows found) ≡ keys_of found
keys_found [] = refl
keys_found (e ∷ es) = ap (λ keys. e.0 ∷ keys) (keys_found es)

pub in_order : (found : Found) (rows : List Row) → rows ≡ found_rows found → IsStrictlySortedBy (slice_cmp nat_cmp) (keys_of found)
    → IsStrictlySortedBy (slice_cmp nat_cmp) (map (λ row. row.key) rows)
in_order found rows is sorted =
    subst (IsStrictlySortedBy (slice_cmp nat_cmp)) (sym (ap (map (λ row. row.key)) is ∙ keys_found found)) sorted

pub is_answer : (question : Question) (shards : List ShardRecord) (rows : List Row) → rows ≡ answer question shards
    → IsStrictlySortedBy (slice_cmp nat_cmp) (map (λ row. row.key) rows) → AreApart (standing_rows shards)
    → IsAnswer question (standing_rows shards) rows
is_answer question shards rows is sorted apart = record {
  in_order = sorted;
  exact = λ key. ap (value_in key) is ∙ exact question key (standing_rows shards) [] apart refl;
}
