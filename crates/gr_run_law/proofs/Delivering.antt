-- What a courier delivers was posted.
use Rattle.std.proofs.Common.{◌≡◌, ◌⊎◌, ℕ, ◌+◌, ◌-◌, ◌/◌, ◌%◌, ◌==◌, Bool, true, false, List, [], ◌∷◌, ◌++◌, map, filter, reverse}
use Rattle.std.proofs.Common.{refl, sym, ap, subst, inl, inr, ⊎_elim, if◌then◌else◌}
use Rattle.gr_law.specs.Grids.{Among}
use Rattle.gr_law.proofs.Lists.{among_either, among_filter, among_reverse}
use Rattle.gr_post.specs.declared.mail.Mail.{Mail}
use Rattle.gr_post.specs.declared.mail.Mail.TheVariants.{End}
use Rattle.gr_post.specs.declared.mail.Posting.{Posting}
use Rattle.gr_post.specs.declared.fate.Held.{Held}
use Rattle.gr_post.specs.declared.fate.Fate.{Fate}
use Rattle.gr_post.specs.declared.fate.Fate.TheVariants.{Once, Twice, Hold, Last}
use Rattle.gr_post.specs.Plan.{Draw, is_named, draws, fate, mails, due, kept, released_by, held_by, held, released, delivered}
use Rattle.gr_post.proofs.Counting.{draws_mails}

-- the mails that a fate is of
abbrev of_fate : Fate → List Mail
of_fate (Once mail) = mail ∷ []
of_fate (Twice mail copy) = mail ∷ copy ∷ []
of_fate (Hold one) = one.mail ∷ []
of_fate Last = []

pub among_map : {A B : Type 0} (f : A → B) (y : B) (xs : List A) → Among y (map f xs) → (x : A) × Among x xs × (y ≡ f x)
among_map f y [] a = absurd a
among_map f y (x ∷ xs) (inl is) = (x, inl refl, is)
among_map f y (x ∷ xs) (inr a) = let r = among_map f y xs a in (r.0, inr r.1, r.2)

pub map_among : {A B : Type 0} (f : A → B) (x : A) (xs : List A) → Among x xs → Among (f x) (map f xs)
map_among f x [] a = absurd a
map_among f x (y ∷ xs) (inl is) = inl (ap f is)
map_among f x (y ∷ xs) (inr a) = inr (map_among f x xs a)

module _ (m : Mail) where
  in_due : (hs : List Held) → Among m (due hs) → Among m (mails hs)
  in_due [] a = a
  in_due (h ∷ hs) a = at_test (h.left == 1) (in_due hs) a
    where
      at_test : (b : Bool) → (Among m (due hs) → Among m (mails hs)) → Among m (if b then h.mail ∷ due hs else due hs)
          → Among m (mails (h ∷ hs))
      at_test true next (inl is) = inl is
      at_test true next (inr a) = inr (next a)
      at_test false next a = inr (next a)

  in_kept : (hs : List Held) → Among m (mails (kept hs)) → Among m (mails hs)
  in_kept [] a = a
  in_kept (h ∷ hs) a = at_test (h.left == 1) (in_kept hs) a
    where
      at_test : (b : Bool) → (Among m (mails (kept hs)) → Among m (mails hs))
          → Among m (mails (if b then kept hs else (record h { left = h.left - 1 }) ∷ kept hs)) → Among m (mails (h ∷ hs))
      at_test true next a = inr (next a)
      at_test false next (inl is) = inl is
      at_test false next (inr a) = inr (next a)

  mails_append : (xs ys : List Held) → Among m (mails (xs ++ ys)) → Among m (mails xs) ⊎ Among m (mails ys)
  mails_append [] ys a = inr a
  mails_append (x ∷ xs) ys (inl is) = inl (inl is)
  mails_append (x ∷ xs) ys (inr a) = ⊎_elim (λ b. inl (inr b)) (λ b. inr b) (mails_append xs ys a)

  in_released : (f : Fate) (hs : List Held) → Among m (released_by f hs) → Among m (of_fate f) ⊎ Among m (mails hs) ⊎ (m ≡ End)
  in_released (Once mail) hs (inl is) = inl (inl is)
  in_released (Once mail) hs (inr a) = inr (inl (in_due hs a))
  in_released (Twice mail copy) hs (inl is) = inl (inl is)
  in_released (Twice mail copy) hs (inr (inl is)) = inl (inr (inl is))
  in_released (Twice mail copy) hs (inr (inr a)) = inr (inl (in_due hs a))
  in_released (Hold one) hs a = inr (inl (in_due hs a))
  in_released Last hs a = ⊎_elim (λ b. inr (inl b)) at_end (among_either m (mails hs) (End ∷ []) a)
    where
      at_end : Among m (End ∷ []) → Among m (of_fate Last) ⊎ Among m (mails hs) ⊎ (m ≡ End)
      at_end (inl is) = inr (inr is)
      at_end (inr b) = absurd b

  in_held_by : (f : Fate) (hs : List Held) → Among m (mails (held_by f hs)) → Among m (of_fate f) ⊎ Among m (mails hs)
  in_held_by (Once mail) hs a = inr (in_kept hs a)
  in_held_by (Twice mail copy) hs a = inr (in_kept hs a)
  in_held_by (Hold one) hs a = ⊎_elim (λ b. inr (in_kept hs b)) (λ b. inl b) (mails_append (kept hs) (one ∷ []) a)
  in_held_by Last hs a = absurd a

  in_fate : (mail : Mail) (x : ℕ) → Among m (of_fate (fate mail x)) → m ≡ mail
  in_fate mail x a = at_tests (x % 4 == 0) (x % 4 == 1) (x % 4 == 2) a
    where
      at_tests : (b c d : Bool)
          → Among m (of_fate (if b then Once mail else if c then Twice mail mail else if d then Hold
          (record { mail = mail; left = 1 + x / 4 % 8 })
          else Hold (record { mail = mail; left = 0 }))) → m ≡ mail
      at_tests true c d (inl is) = is
      at_tests true c d (inr b) = absurd b
      at_tests false true d (inl is) = is
      at_tests false true d (inr (inl is)) = is
      at_tests false true d (inr (inr b)) = absurd b
      at_tests false false true (inl is) = is
      at_tests false false true (inr b) = absurd b
      at_tests false false false (inl is) = is
      at_tests false false false (inr b) = absurd b

  abbrev Drawn : List Draw → Type 0
  Drawn ds = Among m (map (λ (d : Draw). d.mail) ds)

  in_held : (ds : List Draw) → Among m (mails (held ds)) → Drawn ds
  in_held [] a = a
  in_held (d ∷ ds) a = ⊎_elim (λ b. inl (in_fate d.mail d.number b)) (λ b. inr (in_held ds b))
      (in_held_by (fate d.mail d.number) (held ds) a)

  in_all_released : (ds : List Draw) → Among m (released ds) → Drawn ds ⊎ (m ≡ End)
  in_all_released [] a = inl a
  in_all_released (d ∷ ds) a =
      ⊎_elim (λ b. ⊎_elim (λ c. inl (inr c)) (λ c. inr c) (in_all_released ds b)) later
      (among_either m (released ds) (released_by (fate d.mail d.number) (held ds)) a)
    where
      at_case : Among m (of_fate (fate d.mail d.number)) ⊎ Among m (mails (held ds)) ⊎ (m ≡ End) → Drawn (d ∷ ds) ⊎ (m ≡ End)
      at_case (inl b) = inl (inl (in_fate d.mail d.number b))
      at_case (inr (inl b)) = inl (inr (in_held ds b))
      at_case (inr (inr e)) = inr e

      later : Among m (released_by (fate d.mail d.number) (held ds)) → Drawn (d ∷ ds) ⊎ (m ≡ End)
      later b = at_case (in_released (fate d.mail d.number) (held ds) b)

  in_delivered : (ds : List Draw) → Among m (delivered ds) → Drawn ds ⊎ (m ≡ End)
  in_delivered ds a = ⊎_elim (in_all_released ds) last (among_either m (released ds) (released_by Last (held ds)) a)
    where
      at_end : Among m (End ∷ []) → Drawn ds ⊎ (m ≡ End)
      at_end (inl is) = inr is
      at_end (inr b) = absurd b

      last : Among m (released_by Last (held ds)) → Drawn ds ⊎ (m ≡ End)
      last b = ⊎_elim (λ c. inl (in_held ds c)) at_end (among_either m (mails (held ds)) (End ∷ []) b)

  -- what was drawn for was posted
  pub drawn_posted : (n first k : ℕ) (posted : List Posting) → Among m (map (λ (d : Draw). d.mail) (draws n first k (reverse posted)))
      → Among m (map (λ (p : Posting). p.mail) posted)
  drawn_posted n first k posted b =
      let named = among_map (λ (p : Posting). p.mail) m (filter (λ (p : Posting). is_named p.to k) (reverse posted))
      (subst (Among m) (draws_mails n first k (reverse posted)) b) in
      let p = among_reverse named.0 posted (among_filter (λ (p : Posting). is_named p.to k) named.0 (reverse posted) named.1).0 in
      subst (λ x. Among x (map (λ (p : Posting). p.mail) posted)) (sym named.2) (map_among (λ (p : Posting). p.mail) named.0 posted p)

  -- what comes of a courier was posted, or it is the End
  pub was_posted : (n first k : ℕ) (posted : List Posting) → Among m (delivered (draws n first k (reverse posted)))
      → Among m (map (λ (p : Posting). p.mail) posted) ⊎ (m ≡ End)
  was_posted n first k posted a =
      ⊎_elim (λ b. inl (drawn_posted n first k posted b)) (λ e. inr e) (in_delivered (draws n first k (reverse posted)) a)
