-- Each small record breaks its law.
use Rattle.std.proofs.Common.{◌≡◌, ◌≤◌, ℕ, suc, List, [], ◌∷◌, true, false, refl, sym, ap, inl, inr, arith}
use Rattle.std.specs.Prelude.{Some, None}
use Rattle.gr_value.specs.declared.value.Field.{Field}
use Rattle.gr_stamp.specs.declared.change.Change.{Change}
use Rattle.gr_oql.specs.declared.event.Event.{Event}
use Rattle.gr_history.specs.Calls.{ver_of}
use Rattle.gr_law.specs.Broken.{Breaks, older, newer, removed, known_unseen, equal_versions, tombstone_again, removal_ignored, put_ignored}
use Rattle.gr_law.specs.Broken.{gone, valueless, key_lost, one_stamp, name, row_missing, event_missing}
use Rattle.gr_law.specs.Laws.{AreAlso, law_0, law_1, law_2, law_3, same_value, same_entry, law_4, law_5}
use Rattle.gr_law.specs.QueryMaps.{law_queries}
use Rattle.gr_law.specs.Small.{key}

no_value : (value : List Field) → Some value ≡ None → ⊥
no_value value e = cc

not_older : Some older ≡ Some newer → ⊥
not_older e = let over : ver_of (Some older) ≡ ver_of (Some newer) = ap ver_of e in apart (ver_of (Some older)) over
  where
    apart : (n : ℕ) → n ≡ suc n → ⊥
    apart n h = omega arith

false_isnt_true : false ≡ true → ⊥
false_isnt_true e = cc

-- The first member took in what the second did, in another order, and one change twice.
fewer : (a b : Change) (key : List ℕ) → AreAlso key (a ∷ b ∷ a ∷ []) (b ∷ a ∷ [])
fewer a b key change (inl is) same = inr (inl is)
fewer a b key change (inr (inl is)) same = inl is
fewer a b key change (inr (inr (inl is))) same = inr (inl is)
fewer a b key change (inr (inr (inr none))) same = absurd none

more : (a b : Change) (key : List ℕ) → AreAlso key (b ∷ a ∷ []) (a ∷ b ∷ a ∷ [])
more a b key change (inl is) same = inr (inl is)
more a b key change (inr (inl is)) same = inl is
more a b key change (inr (inr none)) same = absurd none

pub law_0-breaks : Breaks law_0 known_unseen
law_0-breaks law = let over : 1 ≤ 0 = law 1 _ (inl refl) older (inl refl) refl in omega (arith, over)

pub law_1-breaks : Breaks law_1 equal_versions
law_1-breaks law = let over : 2 ≤ 1 = law 1 _ _ (inl refl) _ (inl refl) older (inl refl) refl in omega (arith, over)

pub law_2-breaks : Breaks law_2 tombstone_again
law_2-breaks law = false_isnt_true ((law 1).0 removed removed (inl refl) (inl refl) refl)

pub law_3-breaks : Breaks law_3 removal_ignored
law_3-breaks law = no_value [] (law 1 _ (inl refl) key).present_is

pub stands-breaks : Breaks law_3 put_ignored
stands-breaks law = not_older ((law 1 _ (inl refl) key).stands newer refl refl)

pub same_value-breaks : Breaks same_value removal_ignored
same_value-breaks law =
    no_value [] (law 1 2 _ _ (inl refl) (inl refl) key (fewer older removed key) (more older removed key)).0

pub there-breaks : Breaks law_3 key_lost
there-breaks law = false_isnt_true (law 1 _ (inl refl) key).there_is

pub same_key-breaks : Breaks same_value key_lost
same_key-breaks law =
    false_isnt_true (law 1 2 _ _ (inl refl) (inl refl) key (fewer gone valueless key) (more gone valueless key)).1

pub same_entry-breaks : Breaks same_entry put_ignored
same_entry-breaks law = not_older (law 2 1 _ _ (inl refl) (inl refl) key (more older newer key) (fewer older newer key) newer refl refl)

pub law_4-breaks : Breaks law_4 one_stamp
law_4-breaks law = false_isnt_true (law 1 _ (inl refl) _ older (inr (inl refl)) refl refl refl)

pub law_5-breaks : Breaks law_5 removal_ignored
law_5-breaks law =
    no_value [] (law 1 _ (inl refl)
    ((λ change tombstone a t same. absurd t), ((λ change tombstone a t same. absurd t), tt))
    (tt, (((λ change tombstone a t same. absurd t), ((λ change tombstone a t same. absurd t), tt)), tt))
    (tt, ((λ change tombstone a unknown t same. absurd t), tt)) key).present_is

pub rows-break : Breaks law_queries row_missing
rows-break law = no_value [] (sym ((law 1 _ (inl refl) 1 name).at_each_key _ refl key))

pub events-break : Breaks law_queries event_missing
events-break law = none_are_some _ [] ((law 1 _ (inl refl) 1 name).handed_out _ refl ([], refl))
  where
    none_are_some : (one : Event) (rest : List Event) → [] ≡ one ∷ rest → ⊥
    none_are_some one rest e = cc
