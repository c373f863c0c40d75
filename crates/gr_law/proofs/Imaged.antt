-- Law 3 at an image: two sides that are settled give one that is.
use Rattle.std.proofs.Common.{◌≡◌, ℕ, List, [], ◌∷◌, ◌++◌, Bool, true, false, ◌&&◌, ◌||◌, not, refl, sym, ◌∙◌, subst, inl, inr}
use Rattle.std.proofs.Common.{⊎_elim, arith, bytes_eq, if◌then◌else◌}
use Rattle.std.specs.Prelude.{Option, Some, None}
use Rattle.std.proofs.lemmas.Bool.Decides.{nat_tests}
use Rattle.std.proofs.lemmas.Slice.Eq.{bytes_eq-Decides}
use Rattle.gr_stamp.specs.declared.change.Change.{Change}
use Rattle.gr_stamp.specs.Version.{Version, beats}
use Rattle.gr_stamp.specs.Winner.{winner}
use Rattle.gr_history.specs.declared.image.Image.{Image}
use Rattle.gr_history.specs.declared.deed.Deed.{Deed}
use Rattle.gr_history.specs.declared.deed.Deed.TheVariants.{Imaged}
use Rattle.gr_history.specs.Ids.{id_of, ids}
use Rattle.gr_vector.specs.Ids.{has_id}
use Rattle.gr_history.specs.Standing.{came, has_key, drops, is_known, lasting, standing}
use Rattle.gr_history.specs.Floor.{expired}
use Rattle.gr_law.specs.Grids.{Among, Grid}
use Rattle.gr_law.specs.Integrity.{IsMade, giver_of}
use Rattle.gr_law.specs.Laws.{taken, took}
use Rattle.gr_law.proofs.Lists.{among_either, among_left, among_right, among_filter, filter_keeps}
use Rattle.gr_law.proofs.Winners.{winner-best, Best, IsBest, HasNone, IsTop}
use Rattle.gr_law.proofs.Steps.{true_isnt_false, standing_best}
use Rattle.gr_law.proofs.Reached.{has_row}
use Rattle.gr_law.proofs.Settled.{gone, IsSettled, IsAfter, best_left, best_right, top_below, top_beaten, top_none, both_gone}

-- What the step at an image goes from. The giver's side is `given`, with what expired there; `rows` are what stands there.
pub record IsJoined (grid : Grid) (image : Image) (past : List Deed) (key : List ℕ) : Type 0 where
  pub before : IsSettled key (took grid past) (gone grid past) (standing key past)
  pub given : IsSettled key (taken (giver_of grid image)) (expired (giver_of grid image)) (standing key (giver_of grid image))
  pub row_stands : (row : Change) → Among row image.rows → standing row.key (giver_of grid image) ≡ Some row
  pub stands_row : (row : Change) → standing key (giver_of grid image) ≡ Some row → Among row image.rows
  pub known : (change : Change) → IsMade grid change → has_id (id_of change) (ids past) ≡ true → Among change (took grid past)
  pub carried : (change : Change) → IsMade grid change → has_id (id_of change) image.vector.ids ≡ true
      → Among change (taken (giver_of grid image))
  pub rows_made : (row : Change) → Among row image.rows → IsMade grid row
  pub made_lasting : (change : Change) → Among change (lasting key past) → IsMade grid change × (has_id (id_of change) (ids past) ≡ true)
  pub after : (change : Change) → Among change (came (Imaged image) past) → IsAfter change (gone grid past)
  pub apart : (change : Change) → Among change (lasting key past) → has_id (id_of change) image.vector.ids ≡ false
      → IsAfter change (expired (giver_of grid image))

-- No row of the key: nothing of it came in.
no_row_none : (key : List ℕ) (rows : List Change) → has_key key rows ≡ false → HasNone key rows
no_row_none key rows h row a same = true_isnt_false (sym (has_row key row rows a same) ∙ h)

no_row_given : (grid : Grid) (image : Image) (past : List Deed) (key : List ℕ) → IsJoined grid image past key
    → has_key key image.rows ≡ false
    → IsSettled key (taken (giver_of grid image)) (expired (giver_of grid image)) None
no_row_given grid image past key j h = at_standing (standing key (giver_of grid image)) refl j.given
  where
    at_standing : (o : Option Change) → standing key (giver_of grid image) ≡ o
        → IsSettled key (taken (giver_of grid image)) (expired (giver_of grid image)) o
        → IsSettled key (taken (giver_of grid image)) (expired (giver_of grid image)) None
    at_standing None e s = s
    at_standing (Some row) e s = absurd (no_row_none key image.rows h row (j.stands_row row e) s.of_key)

-- The key is dropped.
dropped_settled : (grid : Grid) (image : Image) (past : List Deed) (key : List ℕ) → IsJoined grid image past key
    → has_key key image.rows ≡ false
    → (best : Change) → standing key past ≡ Some best → has_id (id_of best) image.vector.ids ≡ true
    → IsSettled key (took grid (Imaged image ∷ past)) (gone grid (Imaged image ∷ past)) None
dropped_settled grid image past key j none best stood held =
    let low : Best key (took grid past) best = subst (IsSettled key (took grid past) (gone grid past)) stood j.before in
    let s = j.made_lasting best (standing_best key past best stood).among in
    at_given (no_row_given grid image past key j none) (j.carried best s.0 held) low
  where
    at_given : IsSettled key (taken (giver_of grid image)) (expired (giver_of grid image)) None → Among best (taken (giver_of grid image))
        → Best key (took grid past) best
        → IsSettled key (took grid (Imaged image ∷ past)) (gone grid (Imaged image ∷ past)) None
    at_given (inl nothing) a low = absurd (nothing best a low.of_key)
    at_given (inr t) a low =
        inr (
          t.0,
          best_left key (taken (giver_of grid image)) (took grid past) t.0 t.1
              (top_below key (took grid past) best t.0 low.unbeaten (t.1.unbeaten best a low.of_key)),
          t.2,
          among_left t.0 (expired (giver_of grid image)) (gone grid past) t.3,
        )

-- Nothing of the key stood before, and nothing came in.
empty_settled : (grid : Grid) (image : Image) (past : List Deed) (key : List ℕ) → IsJoined grid image past key
    → HasNone key (came (Imaged image) past) → IsSettled key (took grid past) (gone grid past) None
    → IsSettled key (took grid (Imaged image ∷ past)) (gone grid (Imaged image ∷ past)) None
empty_settled grid image past key j none before = at_standing (standing key (giver_of grid image)) refl j.given
  where
    known_row : (row : Change) → Among row image.rows → bytes_eq row.key key ≡ true → Among row (took grid past)
    known_row row a same = at_test (has_id (id_of row) (ids past)) refl
      where
        at_test : (b : Bool) → has_id (id_of row) (ids past) ≡ b → Among row (took grid past)
        at_test true e = j.known row (j.rows_made row a) e
        at_test false e = absurd (none row (filter_keeps (λ row. not (has_id (id_of row) (ids past))) row image.rows (rw e refl) a) same)

    at_before : (row : Change) → Best key (taken (giver_of grid image)) row → Among row (took grid past)
        → IsSettled key (took grid past) (gone grid past) None
        → IsSettled key (took grid (Imaged image ∷ past)) (gone grid (Imaged image ∷ past)) None
    at_before row best a (inl nothing) = absurd (nothing row a best.of_key)
    at_before row best a (inr t) =
        inr (
          t.0,
          best_right key (taken (giver_of grid image)) (took grid past) t.0 t.1
              (top_below key (taken (giver_of grid image)) row t.0 best.unbeaten (t.1.unbeaten row a best.of_key)),
          t.2,
          among_right t.0 (expired (giver_of grid image)) (gone grid past) t.3,
        )

    at_standing : (o : Option Change) → standing key (giver_of grid image) ≡ o
        → IsSettled key (taken (giver_of grid image)) (expired (giver_of grid image)) o
        → IsSettled key (took grid (Imaged image ∷ past)) (gone grid (Imaged image ∷ past)) None
    at_standing None e s = both_gone key (taken (giver_of grid image)) (took grid past) (expired (giver_of grid image))
        (gone grid past) s before
    at_standing (Some row) e s = at_before row s (known_row row (j.stands_row row e) s.of_key) before

key_row : (key : List ℕ) (rows : List Change) → has_key key rows ≡ true → (row : Change) × Among row rows × (bytes_eq row.key key ≡ true)
key_row key [] h = absurd (true_isnt_false (sym h))
key_row key (first ∷ rest) h = at_first (bytes_eq first.key key) refl h (key_row key rest)
  where
    at_first : (b : Bool) → bytes_eq first.key key ≡ b → (b || has_key key rest) ≡ true
        → (has_key key rest ≡ true → (row : Change) × Among row rest × (bytes_eq row.key key ≡ true))
        → (row : Change) × Among row (first ∷ rest) × (bytes_eq row.key key ≡ true)
    at_first true e h next = (first, inl refl, e)
    at_first false e h next = let r = next h in (r.0, inr r.1, r.2)

below_by : (a b c : Version) → beats a b ≡ true → beats a c ≡ false → beats b c ≡ false
below_by a b c h k = grind (arith, nat_tests)

-- Something stands behind the image.
found_settled : (grid : Grid) (image : Image) (past : List Deed) (key : List ℕ) → IsJoined grid image past key
    → drops key (Imaged image) (standing key past) ≡ false
    → (best : Change) → Best key (came (Imaged image) past ++ lasting key past) best
    → Best key (took grid (Imaged image ∷ past)) best
found_settled grid image past key j kept best h = record {
  of_key = h.of_key;
  among = ⊎_elim (λ new. among_left best (taken (giver_of grid image)) (took grid past) (new_given best new h.of_key))
      (λ old. among_right best (taken (giver_of grid image)) (took grid past) (let s = j.made_lasting best old in j.known best s.0 s.1))
      (among_either best (came (Imaged image) past) (lasting key past) h.among);
  unbeaten = λ c a same. ⊎_elim (λ g. given_below (standing key (giver_of grid image)) refl j.given c g same) (λ p. past_below c p same)
      (among_either c (taken (giver_of grid image)) (took grid past) a);
}
  where
    row_of : (row : Change) → Among row (came (Imaged image) past) → Among row image.rows
    row_of row a = (among_filter (λ row. not (has_id (id_of row) (ids past))) row image.rows a).0

    row_best : (row : Change) → Among row image.rows → bytes_eq row.key key ≡ true → Best key (taken (giver_of grid image)) row
    row_best row a same =
        let e : standing key (giver_of grid image) ≡ Some row =
        subst (λ k. standing k (giver_of grid image) ≡ Some row) ((bytes_eq-Decides row.key key).0 same) (j.row_stands row a) in
        subst (IsSettled key (taken (giver_of grid image)) (expired (giver_of grid image))) e j.given

    new_given : (row : Change) → Among row (came (Imaged image) past) → bytes_eq row.key key ≡ true
        → Among row (taken (giver_of grid image))
    new_given row a same = (row_best row (row_of row a) same).among

    same_key : (one two : Change) → bytes_eq one.key key ≡ true → bytes_eq two.key key ≡ true → one.key ≡ two.key
    same_key one two a b = (bytes_eq-Decides one.key key).0 a ∙ sym ((bytes_eq-Decides two.key key).0 b)

    -- what stood before doesn't beat what stands now
    lasting_below : (c : Change) → Among c (lasting key past) → bytes_eq c.key key ≡ true → beats c.stamp best.stamp ≡ false
    lasting_below c a same = h.unbeaten c (among_right c (came (Imaged image) past) (lasting key past) a) same

    past_at : (o : Option Change) → standing key past ≡ o → IsSettled key (took grid past) (gone grid past) o
        → IsTop key (took grid past) best
    past_at (Some old) e s = top_below key (took grid past) old best s.unbeaten
        (lasting_below old (standing_best key past old e).among s.of_key)
    past_at None e (inl nothing) = top_none key (took grid past) best nothing
    past_at None e (inr t) = ⊎_elim
        (λ new. top_beaten key (took grid past) t.0 best t.1.unbeaten (j.after best new t.0 t.3 (same_key best t.0 h.of_key t.1.of_key)))
        (λ old. absurd (none_last (standing key past) e (winner-best key (lasting key past)) best old h.of_key))
        (among_either best (came (Imaged image) past) (lasting key past) h.among)
      where
        none_last : (o : Option Change) → o ≡ None → IsBest key (lasting key past) o → HasNone key (lasting key past)
        none_last None e n = n
        none_last (Some x) e n = absurd (no e)
          where
            no : Some x ≡ None → ⊥
            no e = cc

    past_below : IsTop key (took grid past) best
    past_below = past_at (standing key past) refl j.before

    -- a row that isn't new was taken in before
    row_below : (row : Change) → Among row image.rows → bytes_eq row.key key ≡ true → beats row.stamp best.stamp ≡ false
    row_below row a same = at_test (has_id (id_of row) (ids past)) refl
      where
        at_test : (b : Bool) → has_id (id_of row) (ids past) ≡ b → beats row.stamp best.stamp ≡ false
        at_test true e = past_below row (j.known row (j.rows_made row a) e) same
        at_test false e = h.unbeaten row (among_left row (came (Imaged image) past) (lasting key past)
            (filter_keeps (λ row. not (has_id (id_of row) (ids past))) row image.rows (rw e refl) a)) same

    -- what expired at the giver is below what stood here, which the image doesn't hold
    expired_below : (t : Change) → Among t (expired (giver_of grid image)) → bytes_eq t.key key ≡ true
        → standing key (giver_of grid image) ≡ None → beats t.stamp best.stamp ≡ false
    expired_below t gone_ same nothing = ⊎_elim
        (λ new. absurd (no_row (row_of best new)))
        (λ old. from_old old)
        (among_either best (came (Imaged image) past) (lasting key past) h.among)
      where
        not_both : (o : Option Change) (c : Change) → o ≡ None → o ≡ Some c → ⊥
        not_both o c e k = some_none (sym e ∙ k)
          where
            some_none : None ≡ Some c → ⊥
            some_none e = cc

        no_row : Among best image.rows → ⊥
        no_row a = not_both (standing key (giver_of grid image)) best nothing
            (subst (λ k. standing k (giver_of grid image) ≡ Some best) ((bytes_eq-Decides best.key key).0 h.of_key) (j.row_stands best a))

        no_key : has_key key image.rows ≡ false
        no_key = at_test (has_key key image.rows) refl
          where
            at_test : (b : Bool) → has_key key image.rows ≡ b → b ≡ false
            at_test true e =
                let r = key_row key image.rows e in
                absurd (not_both (standing key (giver_of grid image)) r.0 nothing
                (subst (λ k. standing k (giver_of grid image) ≡ Some r.0) ((bytes_eq-Decides r.0.key key).0 r.2) (j.row_stands r.0 r.1)))
            at_test false e = refl

        from_old : Among best (lasting key past) → beats t.stamp best.stamp ≡ false
        from_old old = at_standing (standing key past) refl (winner-best key (lasting key past))
          where
            not_held : (o : Option Change) → (k : Bool) → k ≡ false → (not k && is_known image.vector.ids o) ≡ false
                → is_known image.vector.ids o ≡ false
            not_held o true e h = absurd (true_isnt_false e)
            not_held o false e h = h

            at_standing : (o : Option Change) → standing key past ≡ o → IsBest key (lasting key past) o → beats t.stamp best.stamp ≡ false
            at_standing None e none = absurd (none best old h.of_key)
            at_standing (Some one) e b =
                below_by one.stamp t.stamp best.stamp
                (j.apart one b.among (not_held (Some one) (has_key key image.rows) no_key
                (subst (λ o. drops key (Imaged image) o ≡ false) e kept)) t gone_ (same_key one t b.of_key same))
                (lasting_below one b.among b.of_key)

    given_below : (o : Option Change) → standing key (giver_of grid image) ≡ o
        → IsSettled key (taken (giver_of grid image)) (expired (giver_of grid image)) o
        → IsTop key (taken (giver_of grid image)) best
    given_below (Some row) e s = top_below key (taken (giver_of grid image)) row best s.unbeaten
        (row_below row (j.stands_row row e) s.of_key)
    given_below None e (inl nothing) = top_none key (taken (giver_of grid image)) best nothing
    given_below None e (inr t) = top_below key (taken (giver_of grid image)) t.0 best t.1.unbeaten (expired_below t.0 t.3 t.1.of_key e)

-- The step at an image.
pub imaged_settled : (grid : Grid) (image : Image) (past : List Deed) (key : List ℕ) → IsJoined grid image past key
    → IsSettled key (took grid (Imaged image ∷ past)) (gone grid (Imaged image ∷ past)) (standing key (Imaged image ∷ past))
imaged_settled grid image past key j = at_drop (drops key (Imaged image) (standing key past)) refl
  where
    at_found : (o : Option Change) → winner key (came (Imaged image) past ++ lasting key past) ≡ o
        → IsBest key (came (Imaged image) past ++ lasting key past) o
        → drops key (Imaged image) (standing key past) ≡ false
        → IsSettled key (took grid (Imaged image ∷ past)) (gone grid (Imaged image ∷ past)) o
    at_found (Some best) e b kept = found_settled grid image past key j kept best b
    at_found None e none kept = empty_settled grid image past key j
        (λ c a same. none c (among_left c (came (Imaged image) past) (lasting key past) a) same)
        (at_standing (standing key past) refl (winner-best key (lasting key past)) j.before)
      where
        at_standing : (o : Option Change) → standing key past ≡ o → IsBest key (lasting key past) o
            → IsSettled key (took grid past) (gone grid past) o
            → IsSettled key (took grid past) (gone grid past) None
        at_standing None e n s = s
        at_standing (Some x) e b s = absurd (none x (among_right x (came (Imaged image) past) (lasting key past) b.among) b.of_key)

    at_dropped : (o : Option Change) (k : Bool) → standing key past ≡ o → has_key key image.rows ≡ k
        → (not k && is_known image.vector.ids o) ≡ true
        → IsSettled key (took grid (Imaged image ∷ past)) (gone grid (Imaged image ∷ past)) None
    at_dropped o true e k h = absurd (true_isnt_false (sym h))
    at_dropped None false e k h = absurd (true_isnt_false (sym h))
    at_dropped (Some best) false e k h = dropped_settled grid image past key j k best e h

    at_drop : (b : Bool) → drops key (Imaged image) (standing key past) ≡ b
        → IsSettled key (took grid (Imaged image ∷ past)) (gone grid (Imaged image ∷ past))
        (winner key (if b then [] else came (Imaged image) past ++ lasting key past))
    at_drop true e = at_dropped (standing key past) (has_key key image.rows) refl refl e
    at_drop false e = at_found (winner key (came (Imaged image) past ++ lasting key past)) refl
        (winner-best key (came (Imaged image) past ++ lasting key past)) e
