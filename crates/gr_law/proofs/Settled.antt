-- Law 3 of one history: what stands is the winner of what was taken in, or that is a tombstone that expired.
use Rattle.std.proofs.Common.{◌≡◌, ◌⊎◌, ℕ, ◌≤◌, List, [], ◌∷◌, ◌++◌, Bool, true, false, ◌&&◌, refl, sym, ◌∙◌, subst, inl, inr}
use Rattle.std.proofs.Common.{⊎_elim, arith, bytes_eq, if◌then◌else◌}
use Rattle.std.specs.Prelude.{Option, Some, None}
use Rattle.std.specs.Option.{option_to_list}
use Rattle.std.proofs.lemmas.Bool.Decides.{nat_tests}
use Rattle.std.proofs.lemmas.Slice.Eq.{bytes_eq-Decides}
use Rattle.gr_history.specs.declared.identity.Identity.{Identity}
use Rattle.gr_history.specs.declared.ask.Ask.{Ask}
use Rattle.gr_history.specs.declared.reply.Reply.{Reply}
use Rattle.gr_stamp.specs.declared.change.Change.{Change}
use Rattle.gr_stamp.specs.Version.{Version, beats}
use Rattle.gr_stamp.specs.Winner.{winner, wins, is_removal}
use Rattle.gr_stamp.proofs.Order.{beats_itself, beats-greater}
use Rattle.gr_history.specs.declared.deed.Deed.{Deed}
use Rattle.gr_history.specs.declared.deed.Deed.TheVariants.{Call, Asked, Taken, Gave, Imaged, Reported, Heard, Swept}
use Rattle.gr_history.specs.Ids.{id_of, ids_at, ids}
use Rattle.gr_vector.specs.Ids.{has_id}
use Rattle.gr_history.specs.Standing.{names, lasting, standing}
use Rattle.gr_history.specs.Floor.{removal_of, expired_at, expired}
use Rattle.gr_law.specs.Grids.{identity, Among, Older, Grid}
use Rattle.gr_law.specs.Integrity.{IsMade, IsGenuine, IsGenuineDeed, IsSound, giver_of}
use Rattle.gr_history.specs.Lawful.{IsLawful, IsLawfulDeed}
use Rattle.gr_law.specs.Laws.{taken_at, taken, took_at, took}
use Rattle.gr_law.proofs.Lists.{known_ids, among_either, among_left, among_right, has_either}
use Rattle.gr_law.proofs.Winners.{Best, HasNone, IsTop}
use Rattle.gr_law.proofs.Made.{older_past}
use Rattle.gr_law.proofs.Steps.{true_isnt_false, came_sound, named_expires, named_due}
use Rattle.gr_law.proofs.Reached.{one_id}
use Rattle.gr_law.proofs.Took.{giver_older, giver_lawful, giver_genuine}

pub unbeaten-transitive : (a b c : Version) → beats a b ≡ false → beats b c ≡ false → beats a c ≡ false
unbeaten-transitive a b c h k = grind (arith, nat_tests)

-- what is made or taken in at a deed is what it makes known, but for images
known_here : (grid : Grid) → IsSound grid
    → (me : ℕ) (client seq : ℕ) (ask : Ask) (reply : Reply) (own : Option Change) (to : ℕ) (past : List Deed)
    → Older (Call client to seq ask reply own ∷ past) (grid.history me)
    → IsLawfulDeed (identity grid me) (grid.opening me) (Call client to seq ask reply own) past
    → (change : Change) → IsMade grid change → has_id (id_of change) (ids_at (Call client to seq ask reply own)) ≡ true
    → Among change (option_to_list own)
known_here grid sound me client seq ask reply None to past o law change is h = absurd (true_isnt_false (sym h))
known_here grid sound me client seq ask reply (Some one) to past o law change is h =
    let s = came_sound grid sound me (Call client to seq ask reply (Some one)) past o law tt tt one (inl refl) in
    inl (one_id grid sound change one is s.0 h)

-- What a founder knows it made or took in.
pub known_taken : (grid : Grid) → IsSound grid → (me : ℕ) (past : List Deed) → me ≤ grid.founders → Older past (grid.history me)
    → IsLawful (identity grid me) (grid.opening me) past → IsGenuine grid me past
    → (change : Change) → IsMade grid change → has_id (id_of change) (ids past) ≡ true → Among change (taken past)
known_taken grid sound me [] le o law own change is h = absurd (true_isnt_false (sym h))
known_taken grid sound me (deed ∷ past) le o law own change is h = ⊎_elim
    (λ here. among_left change (taken_at deed) (taken past) (at_deed deed o law.0 own.0 here))
    (λ there. among_right change (taken_at deed) (taken past)
    (known_taken grid sound me past le (older_past deed past (grid.history me) o) law.1 own.1 change is there))
    (has_either (id_of change) (ids_at deed) (ids past) h)
  where
    at_deed : (d : Deed) → Older (d ∷ past) (grid.history me) → IsLawfulDeed (identity grid me) (grid.opening me) d past
        → IsGenuineDeed grid me d
        → has_id (id_of change) (ids_at d) ≡ true → Among change (taken_at d)
    at_deed (Call client to seq ask reply one) o law own h = known_here grid sound me client seq ask reply one to past o law change is h
    at_deed (Asked client seq ask reply) o law own h = absurd (true_isnt_false (sym h))
    at_deed (Taken c how) o law own h = inl (one_id grid sound change c is own h)
    at_deed (Gave to what) o law own h = absurd (true_isnt_false (sym h))
    at_deed (Imaged image) o law own h = absurd (omega (arith, le, own.0))
    at_deed (Reported report) o law own h = absurd (true_isnt_false (sym h))
    at_deed (Heard report) o law own h = absurd (true_isnt_false (sym h))
    at_deed (Swept moment named) o law own h = absurd (true_isnt_false (sym h))

-- What is known was taken in.
pub known_took : (grid : Grid) → IsSound grid → (me : ℕ) (past : List Deed) → Older past (grid.history me)
    → IsLawful (identity grid me) (grid.opening me) past → IsGenuine grid me past
    → (change : Change) → IsMade grid change → has_id (id_of change) (ids past) ≡ true → Among change (took grid past)
known_took grid sound me [] o law own change is h = absurd (true_isnt_false (sym h))
known_took grid sound me (deed ∷ past) o law own change is h = ⊎_elim
    (λ here. among_left change (took_at grid deed) (took grid past) (at_deed deed o law.0 own.0 here))
    (λ there. among_right change (took_at grid deed) (took grid past)
    (known_took grid sound me past (older_past deed past (grid.history me) o) law.1 own.1 change is there))
    (has_either (id_of change) (ids_at deed) (ids past) h)
  where
    at_deed : (d : Deed) → Older (d ∷ past) (grid.history me) → IsLawfulDeed (identity grid me) (grid.opening me) d past
        → IsGenuineDeed grid me d
        → has_id (id_of change) (ids_at d) ≡ true → Among change (took_at grid d)
    at_deed (Call client to seq ask reply one) o law own h = known_here grid sound me client seq ask reply one to past o law change is h
    at_deed (Asked client seq ask reply) o law own h = absurd (true_isnt_false (sym h))
    at_deed (Taken c how) o law own h = inl (one_id grid sound change c is own h)
    at_deed (Gave to what) o law own h = absurd (true_isnt_false (sym h))
    at_deed (Imaged image) o law own h =
        known_taken grid sound image.from (giver_of grid image) own.1.from_founder (giver_older grid image) (giver_lawful grid sound
        image)
        (giver_genuine grid sound image)
        change is (sym (known_ids image.vector.ids (giver_of grid image) own.1.is_image.vector_is (id_of change)) ∙ h)
    at_deed (Reported report) o law own h = absurd (true_isnt_false (sym h))
    at_deed (Heard report) o law own h = absurd (true_isnt_false (sym h))
    at_deed (Swept moment named) o law own h = absurd (true_isnt_false (sym h))

-- the tombstones that expired at a deed, or at the giver of its image
abbrev pub gone_at : Grid → Deed → List Deed → List Change
gone_at grid (Imaged image) past = expired (giver_of grid image)
gone_at grid (Swept moment named) past = expired_at (Swept moment named) past
gone_at grid deed past = []

abbrev pub gone : Grid → List Deed → List Change
gone grid [] = []
gone grid (deed ∷ past) = gone_at grid deed past ++ gone grid past

-- What was taken in has this winner, which stands or has expired.
abbrev pub IsSettled : List ℕ → List Change → List Change → Option Change → Type 0
IsSettled key took_ gone_ (Some best) = Best key took_ best
IsSettled key took_ gone_ None = HasNone key took_
    ⊎ ((best : Change) × Best key took_ best × (is_removal best.kind ≡ true) × Among best gone_)

-- the first change beats each tombstone of its key among these
abbrev pub IsAfter : Change → List Change → Type 0
IsAfter change tombstones = (tombstone : Change) → Among tombstone tombstones → change.key ≡ tombstone.key
    → beats change.stamp tombstone.stamp ≡ true

-- one more change, of another key
other_one : (key : List ℕ) (took_ gone_ : List Change) (change : Change) (o : Option Change) → IsSettled key took_ gone_ o
    → bytes_eq change.key key ≡ false → IsSettled key (change ∷ took_) gone_ o
other_one key took_ gone_ change (Some best) h other = record {
  of_key = h.of_key;
  among = inr h.among;
  unbeaten = more best h.unbeaten;
}
  where
    more : (best : Change) → IsTop key took_ best → IsTop key (change ∷ took_) best
    more best top c (inl is) same = absurd (true_isnt_false (sym same ∙ (subst (λ x. bytes_eq x.key key ≡ false) (sym is) other)))
    more best top c (inr a) same = top c a same
other_one key took_ gone_ change None (inl none) other = inl (more none)
  where
    more : HasNone key took_ → HasNone key (change ∷ took_)
    more none c (inl is) same = true_isnt_false (sym same ∙ (subst (λ x. bytes_eq x.key key ≡ false) (sym is) other))
    more none c (inr a) same = none c a same
other_one key took_ gone_ change None (inr h) other =
    inr (h.0, record { of_key = h.1.of_key; among = inr h.1.among; unbeaten = more h.0 h.1.unbeaten }, h.2, h.3)
  where
    more : (best : Change) → IsTop key took_ best → IsTop key (change ∷ took_) best
    more best top c (inl is) same = absurd (true_isnt_false (sym same ∙ (subst (λ x. bytes_eq x.key key ≡ false) (sym is) other)))
    more best top c (inr a) same = top c a same

-- a change that beats the best is the best
new_best : (key : List ℕ) (took_ : List Change) (change best : Change) → IsTop key took_ best → bytes_eq change.key key ≡ true
    → beats change.stamp best.stamp ≡ true → Best key (change ∷ took_) change
new_best key took_ change best top same win = record { of_key = same; among = inl refl; unbeaten = more }
  where
    more : IsTop key (change ∷ took_) change
    more c (inl is) k = subst (λ x. beats x.stamp change.stamp ≡ false) (sym is) (beats_itself change.stamp)
    more c (inr a) k = beats-greater c.stamp change.stamp best.stamp win (top c a k)

first_best : (key : List ℕ) (took_ : List Change) (change : Change) → HasNone key took_ → bytes_eq change.key key ≡ true
    → Best key (change ∷ took_) change
first_best key took_ change none same = record { of_key = same; among = inl refl; unbeaten = more }
  where
    more : IsTop key (change ∷ took_) change
    more c (inl is) k = subst (λ x. beats x.stamp change.stamp ≡ false) (sym is) (beats_itself change.stamp)
    more c (inr a) k = absurd (none c a k)

old_best : (key : List ℕ) (took_ : List Change) (change best : Change) → Best key took_ best → beats change.stamp best.stamp ≡ false
    → Best key (change ∷ took_) best
old_best key took_ change best h lose = record { of_key = h.of_key; among = inr h.among; unbeaten = more }
  where
    more : IsTop key (change ∷ took_) best
    more c (inl is) k = subst (λ x. beats x.stamp best.stamp ≡ false) (sym is) lose
    more c (inr a) k = h.unbeaten c a k

-- One more change that comes in.
pub more_settled : (key : List ℕ) (took_ gone_ : List Change) (change : Change) (o : Option Change) → IsSettled key took_ gone_ o
    → IsAfter change gone_
    → IsSettled key (change ∷ took_) gone_ (if bytes_eq change.key key && wins change o then Some change else o)
more_settled key took_ gone_ change o h after = at_key (bytes_eq change.key key) refl
  where
    same_key : (best : Change) → bytes_eq change.key key ≡ true → bytes_eq best.key key ≡ true → change.key ≡ best.key
    same_key best a b = (bytes_eq-Decides change.key key).0 a ∙ sym ((bytes_eq-Decides best.key key).0 b)

    at_win : (best : Change) (w : Bool) → beats change.stamp best.stamp ≡ w → bytes_eq change.key key ≡ true → Best key took_ best
        → IsSettled key (change ∷ took_) gone_ (if w then Some change else Some best)
    at_win best true e same h = new_best key took_ change best h.unbeaten same e
    at_win best false e same h = old_best key took_ change best h e

    at_held : (o : Option Change) → bytes_eq change.key key ≡ true → IsSettled key took_ gone_ o
        → IsSettled key (change ∷ took_) gone_ (if wins change o then Some change else o)
    at_held (Some best) same h = at_win best (beats change.stamp best.stamp) refl same h
    at_held None same (inl none) = first_best key took_ change none same
    at_held None same (inr t) = new_best key took_ change t.0 t.1.unbeaten same (after t.0 t.3 (same_key t.0 same t.1.of_key))

    at_key : (b : Bool) → bytes_eq change.key key ≡ b
        → IsSettled key (change ∷ took_) gone_ (if b && wins change o then Some change else o)
    at_key true e = at_held o e h
    at_key false e = other_one key took_ gone_ change o h e

-- a change that was there before
pub again_settled : (key : List ℕ) (took_ gone_ : List Change) (change : Change) (o : Option Change) → IsSettled key took_ gone_ o
    → Among change took_
    → IsSettled key (change ∷ took_) gone_ o
again_settled key took_ gone_ change o h there = at_key (bytes_eq change.key key) refl
  where
    at_held : (o : Option Change) → bytes_eq change.key key ≡ true → IsSettled key took_ gone_ o → IsSettled key (change ∷ took_) gone_ o
    at_held (Some best) same h = old_best key took_ change best h (h.unbeaten change there same)
    at_held None same (inl none) = absurd (none change there same)
    at_held None same (inr t) = inr (t.0, old_best key took_ change t.0 t.1 (t.1.unbeaten change there same), t.2, t.3)

    at_key : (b : Bool) → bytes_eq change.key key ≡ b → IsSettled key (change ∷ took_) gone_ o
    at_key true e = at_held o e h
    at_key false e = other_one key took_ gone_ change o h e

-- A sweep.
pub swept_settled : (grid : Grid) (id : Identity) (opening moment : ℕ) (named : List (List ℕ)) (past : List Deed)
    → IsLawfulDeed id opening (Swept moment named) past
    → (key : List ℕ) → IsSettled key (took grid past) (gone grid past) (standing key past)
    → IsSettled key (took grid (Swept moment named ∷ past)) (gone grid (Swept moment named ∷ past))
    (standing key (Swept moment named ∷ past))
swept_settled grid id opening moment named past law key h = at_name (names key named) refl
  where
    removal_is : (o : Option Change) (c : Change) → o ≡ Some c → is_removal c.kind ≡ true → removal_of o ≡ Some c
    removal_is o c e r = rw (e, r) refl

    grow : (o : Option Change) → IsSettled key (took grid past) (gone grid past) o
        → IsSettled key (took grid past) (gone grid (Swept moment named ∷ past)) o
    grow (Some best) h = h
    grow None (inl none) = inl none
    grow None (inr t) = inr (t.0, t.1, t.2, among_right t.0 (expired_at (Swept moment named) past) (gone grid past) t.3)

    at_name : (b : Bool) → names key named ≡ b
        → IsSettled key (took grid past) (gone grid (Swept moment named ∷ past)) (winner key (if b then [] else lasting key past))
    at_name false e = grow (standing key past) h
    at_name true e =
        let d = named_due id opening moment named past law key e in
        let best : Best key (took grid past) d.0 = subst (IsSettled key (took grid past) (gone grid past)) d.1.stands h in
        inr (
          d.0,
          best,
          d.1.removes,
          among_left d.0 (expired_at (Swept moment named) past) (gone grid past)
              (named_expires (λ key. removal_of (standing key past)) key d.0 named e
              (removal_is (standing key past) d.0 d.1.stands d.1.removes)),
        )

-- Two best ones of lists that are joined.
pub best_left : (key : List ℕ) (xs ys : List Change) (best : Change) → Best key xs best → IsTop key ys best → Best key (xs ++ ys) best
best_left key xs ys best h top = record { of_key = h.of_key; among = among_left best xs ys h.among; unbeaten = more }
  where
    more : IsTop key (xs ++ ys) best
    more c a same = ⊎_elim (λ x. h.unbeaten c x same) (λ y. top c y same) (among_either c xs ys a)

pub best_right : (key : List ℕ) (xs ys : List Change) (best : Change) → Best key ys best → IsTop key xs best → Best key (xs ++ ys) best
best_right key xs ys best h top = record { of_key = h.of_key; among = among_right best xs ys h.among; unbeaten = more }
  where
    more : IsTop key (xs ++ ys) best
    more c a same = ⊎_elim (λ x. top c x same) (λ y. h.unbeaten c y same) (among_either c xs ys a)

-- what is below one that is below another is below that
pub top_below : (key : List ℕ) (xs : List Change) (low high : Change) → IsTop key xs low → beats low.stamp high.stamp ≡ false
    → IsTop key xs high
top_below key xs low high top below c a same = unbeaten-transitive c.stamp low.stamp high.stamp (top c a same) below

pub top_beaten : (key : List ℕ) (xs : List Change) (low high : Change) → IsTop key xs low → beats high.stamp low.stamp ≡ true
    → IsTop key xs high
top_beaten key xs low high top win c a same = beats-greater c.stamp high.stamp low.stamp win (top c a same)

pub top_none : (key : List ℕ) (xs : List Change) (high : Change) → HasNone key xs → IsTop key xs high
top_none key xs high none c a same = absurd (none c a same)

-- An expired one, or none, on both sides.
pub both_gone : (key : List ℕ) (xs ys xgone ygone : List Change) → IsSettled key xs xgone None → IsSettled key ys ygone None
    → IsSettled key (xs ++ ys) (xgone ++ ygone) None
both_gone key xs ys xgone ygone (inl none) (inl nothing) = inl more
  where
    more : HasNone key (xs ++ ys)
    more c a same = ⊎_elim (λ x. none c x same) (λ y. nothing c y same) (among_either c xs ys a)
both_gone key xs ys xgone ygone (inl none) (inr t) =
    inr (t.0, best_right key xs ys t.0 t.1 (top_none key xs t.0 none), t.2, among_right t.0 xgone ygone t.3)
both_gone key xs ys xgone ygone (inr t) (inl nothing) =
    inr (t.0, best_left key xs ys t.0 t.1 (top_none key ys t.0 nothing), t.2, among_left t.0 xgone ygone t.3)
both_gone key xs ys xgone ygone (inr s) (inr t) = at_test (beats t.0.stamp s.0.stamp) refl
  where
    at_test : (b : Bool) → beats t.0.stamp s.0.stamp ≡ b → IsSettled key (xs ++ ys) (xgone ++ ygone) None
    at_test true e = inr (
      t.0,
      best_right key xs ys t.0 t.1 (top_beaten key xs s.0 t.0 s.1.unbeaten e),
      t.2,
      among_right t.0 xgone ygone t.3,
    )
    at_test false e = inr (
      s.0,
      best_left key xs ys s.0 s.1 (top_below key ys t.0 s.0 t.1.unbeaten e),
      s.2,
      among_left s.0 xgone ygone
          s.3,
    )
