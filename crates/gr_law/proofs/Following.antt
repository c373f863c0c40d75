-- The events of a deed take the result before it to the result behind it.
use Rattle.std.proofs.Common.{◌≡◌, ◌⊎◌, ℕ, List, [], ◌∷◌, ◌++◌, Bool, true, false, refl, sym, ap, ◌∙◌, subst, inl, inr, ⊎_elim}
use Rattle.std.proofs.Common.{bytes_eq, if◌then◌else◌}
use Rattle.std.specs.Prelude.{Option, Some, None, map, option_map}
use Rattle.std.specs.List.{filter_map}
use Rattle.std.proofs.lemmas.Slice.Eq.{bytes_eq-Decides}
use Rattle.gr_value.specs.declared.value.Field.{Field}
use Rattle.gr_stamp.specs.declared.change.Change.{Change}
use Rattle.gr_history.specs.Regions.{keys_of}
use Rattle.gr_oql.specs.declared.event.BaseOp.{BaseOp}
use Rattle.gr_oql.specs.declared.event.Event.{Event}
use Rattle.gr_oql.specs.Question.{Question}
use Rattle.gr_oql.specs.Events.{Present, is_match, query_op, base_op, where_matching, with_event, with_told, result_of, played, told}
use Rattle.gr_oql.specs.Events.{told_all}
use Rattle.gr_oql.proofs.EventLemmas.{with_told-elsewhere}
use Rattle.gr_history.specs.declared.deed.Deed.{Deed}
use Rattle.gr_history.specs.Standing.{changes, standing, present}
use Rattle.gr_law.specs.Grids.{Among}
use Rattle.gr_law.proofs.Lists.{either}
use Rattle.gr_oql.specs.declared.event.Turned.{Turned}
use Rattle.gr_history.specs.Turned.{turns, turned_at, turned_keys, turned, events_at}
use Rattle.gr_history.specs.Queries.{row_at, rows_of}
use Rattle.gr_law.specs.Queries.{found, present_of}
use Rattle.gr_law.proofs.Turning.{among_turned, unturned_present, standing_key}

same : (key : List ℕ) → bytes_eq key key ≡ true
same key = (bytes_eq-Decides key key).1 refl

-- the event by whether the old and the new value match
abbrev event_by : Bool → Bool → BaseOp → List ℕ → Option (List Field) → Option Event
event_by before after base key new = option_map (λ told. record { op = told; base = base; key = key; value = new }) (query_op before
    after)

abbrev chosen : Bool → Option (List Field) → Option (List Field)
chosen matches value = if matches then value else None

-- told of a key once or twice, what matches of the new value is there
there : (before after : Bool) (base : BaseOp) (key : List ℕ) (old new : Option (List Field)) (stood : Present)
    → (stood key ≡ chosen before old) ⊎ (stood key ≡ chosen after new) → with_told (event_by before after base key new) stood key ≡
    chosen after new
there false false base key old new stood (inl is) = is
there false false base key old new stood (inr is) = is
there false true base key old new stood is = rw (same key) refl
there true false base key old new stood is = rw (same key) refl
there true true base key old new stood is = rw (same key) refl

told_there : (question : Question) (one : Turned) (stood : Present)
    → (stood one.key ≡ where_matching question one.old) ⊎ (stood one.key ≡ where_matching question one.new)
    → with_told (told question one) stood one.key ≡ where_matching question one.new
told_there question one stood is = there (is_match question one.old) (is_match question one.new) (base_op one.had one.has one.new) one.key
    one.old one.new stood is

told_elsewhere : (question : Question) (one : Turned) (other : List ℕ) (stood : Present) → bytes_eq other one.key ≡ false
    → with_told (told question one) stood other ≡ stood other
told_elsewhere question one other stood apart = with_told-elsewhere question one other stood apart

pub played_append : (stood : Present) (xs ys : List Event) → played stood (xs ++ ys) ≡ played (played stood xs) ys
played_append stood [] ys = refl
played_append stood (event ∷ xs) ys = played_append (with_event event stood) xs ys

played_told : (question : Question) (one : Turned) (more : List Turned) (stood : Present)
    → played stood (told_all question (one ∷ more)) ≡ played (with_told (told question one) stood) (told_all question more)
played_told question one more stood = at_told (told question one) refl
  where
    at_told : (o : Option Event) → told question one ≡ o → played stood (told_all question (one ∷ more)) ≡ played (with_told o stood)
        (told_all question more)
    at_told None e = rw e refl
    at_told (Some event) e = rw e refl

-- Each key has what matches of the old or of the new value; those that aren't in the list have what matches of the new one.
abbrev IsBetween : Question → Deed → List Deed → List (List ℕ) → Present → List ℕ → Type 0
IsBetween question deed past keys stood key =
    ((stood key ≡ where_matching question (present key past)) ⊎ (stood key ≡ where_matching question (present key (deed ∷ past))))
    × (Among key keys ⊎ (stood key ≡ where_matching question (present key (deed ∷ past))))

played_keys : (question : Question) (deed : Deed) (past : List Deed) (keys : List (List ℕ)) (stood : Present)
    → ((key : List ℕ) → IsBetween question deed past keys stood key)
    → (key : List ℕ) → played stood (told_all question (map (turned_at deed past) keys)) key ≡ where_matching question (present key (deed
    ∷ past))
played_keys question deed past [] stood between key = ⊎_elim (λ a. absurd a) (λ is. is) (between key).1
played_keys question deed past (first ∷ keys) stood between key =
    ap (λ f. f key) (played_told question (turned_at deed past first) (map (turned_at deed past) keys) stood)
    ∙ played_keys question deed past keys next (λ other. at_key other (either (bytes_eq other first)) (between other)) key
  where
    next : Present
    next = with_told (told question (turned_at deed past first)) stood

    at_key : (other : List ℕ) → (bytes_eq other first ≡ true) ⊎ (bytes_eq other first ≡ false) → IsBetween question deed past (first ∷
        keys) stood other
        → IsBetween question deed past keys next other
    at_key other (inl is) stands =
        let e : other ≡ first = (bytes_eq-Decides other first).0 is in
        let new : next other ≡ where_matching question (present other (deed ∷ past)) =
        subst (λ k. next k ≡ where_matching question (present k (deed ∷ past))) (sym e)
        (told_there question (turned_at deed past first) stood (between first).0) in
        (inr new, inr new)
    at_key other (inr apart) stands =
        let same_there : next other ≡ stood other = told_elsewhere question (turned_at deed past first) other stood apart in (
          ⊎_elim (λ old. inl (same_there ∙ old)) (λ new. inr (same_there ∙ new)) stands.0,
          ⊎_elim (λ a. not_first other a apart) (λ new. inr (same_there ∙ new)) stands.1,
        )
      where
        not_first : (other : List ℕ) → Among other (first ∷ keys) → bytes_eq other first ≡ false
            → Among other keys ⊎ (next other ≡ where_matching question (present other (deed ∷ past)))
        not_first other (inl is) apart = absurd (no (sym ((bytes_eq-Decides other first).1 is) ∙ apart))
          where
            no : true ≡ false → ⊥
            no e = cc
        not_first other (inr a) apart = inl a

-- What matches before a deed, followed by the deed's events, is what matches behind it.
pub played_deed : (question : Question) (deed : Deed) (past : List Deed) (stood : Present)
    → ((key : List ℕ) → stood key ≡ result_of question (present_of past) key)
    → (key : List ℕ) → played stood (events_at question deed past) key ≡ result_of question (present_of (deed ∷ past)) key
played_deed question deed past stood is = played_keys question deed past (turned_keys deed past) stood (λ key. at_turn key (either (turns
    deed past key)))
  where
    at_turn : (key : List ℕ) → (turns deed past key ≡ true) ⊎ (turns deed past key ≡ false) → IsBetween question deed past (turned_keys
        deed past) stood key
    at_turn key (inl turned) = (inl (is key), inl (among_turned deed past key turned))
    at_turn key (inr unturned) = (
      inl (is key),
      inr (is key ∙ ap (where_matching question) (sym (unturned_present deed past key
          unturned))),
    )

-- the rows of a result, read as a map, are the result
found_keys : (question : Question) (past : List Deed) (keys : List (List ℕ)) (key : List ℕ)
    → Among key keys ⊎ (where_matching question (present key past) ≡ None)
    → found (filter_map (row_at question past) keys) key ≡ where_matching question (present key past)
found_keys question past [] key (inl a) = absurd a
found_keys question past [] key (inr none) = sym none
found_keys question past (first ∷ keys) key all = at_value (where_matching question (present first past)) refl (either (bytes_eq first
    key)) (found_keys question past keys key)
  where
    rest : bytes_eq first key ≡ false → Among key (first ∷ keys) ⊎ (where_matching question (present key past) ≡ None)
        → Among key keys ⊎ (where_matching question (present key past) ≡ None)
    rest apart (inl (inl is)) = absurd (no (sym ((bytes_eq-Decides first key).1 (sym is)) ∙ apart))
      where
        no : true ≡ false → ⊥
        no e = cc
    rest apart (inl (inr a)) = inl a
    rest apart (inr none) = inr none

    none_rest : (where_matching question (present first past) ≡ None) → Among key (first ∷ keys) ⊎ (where_matching question (present key
        past) ≡ None)
        → Among key keys ⊎ (where_matching question (present key past) ≡ None)
    none_rest none (inl (inl is)) = inr (subst (λ k. where_matching question (present k past) ≡ None) (sym is) none)
    none_rest none (inl (inr a)) = inl a
    none_rest none (inr e) = inr e

    at_value : (o : Option (List Field)) → where_matching question (present first past) ≡ o → (bytes_eq first key ≡ true) ⊎ (bytes_eq
        first key ≡ false)
        → (Among key keys ⊎ (where_matching question (present key past) ≡ None) → found (filter_map (row_at question past) keys) key ≡
        where_matching question (present key past))
        → found (filter_map (row_at question past) (first ∷ keys)) key ≡ where_matching question (present key past)
    at_value None e b next = rw e (next (none_rest e all))
    at_value (Some value) e (inl is) next =
        let same_key : first ≡ key = (bytes_eq-Decides first key).0 is in
        rw (e, is) (sym e ∙ ap (λ k. where_matching question (present k past)) same_key)
    at_value (Some value) e (inr apart) next = rw (e, apart) (next (rest apart all))

pub found_rows : (question : Question) (past : List Deed) (key : List ℕ) → found (rows_of question past) key ≡ result_of question
    (present_of past) key
found_rows question past key = found_keys question past (keys_of (changes past)) key (at_value (standing key past) refl)
  where
    at_value : (o : Option Change) → standing key past ≡ o → Among key (keys_of (changes past)) ⊎ (where_matching question (present key
        past) ≡ None)
    at_value None e = inr (rw e refl)
    at_value (Some change) e = inl (standing_key key past change e)
