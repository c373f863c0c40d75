-- A record with one more deed keeps its integrity.
use Rattle.std.proofs.Common.{suc, ◌≡◌, ◌⊎◌, ℕ, ◌≤◌, ◌<◌, List, [], ◌∷◌, Bool, true, false, ◌==◌, refl, sym, subst, inl, inr, arith}
use Rattle.std.proofs.Common.{if◌then◌else◌}
use Rattle.std.specs.Prelude.{length, map, nat_le}
use Rattle.std.proofs.lemmas.Bool.Decides.{nat_tests}
use Rattle.gr_stamp.specs.declared.change.Change.{Change}
use Rattle.gr_history.specs.declared.image.Image.{Image}
use Rattle.gr_history.specs.declared.deed.Deed.{Deed}
use Rattle.gr_history.specs.declared.deed.Deed.TheVariants.{Call, Asked, Taken, Gave, Imaged, Reported, Heard, Swept}
use Rattle.gr_history.specs.Made.{made, made_at}
use Rattle.gr_history.specs.Room.{bare}
use Rattle.gr_law.specs.Grids.{Among, Older, Grid, identity, at_place}
use Rattle.gr_law.specs.Integrity.{giver_of, IsMade, IsGenuine, IsGenuineDeed, IsImagedOnce, IsHeardDeed, AreHeard, IsWhole}
use Rattle.gr_law.specs.Integrity.{IsGift}
use Rattle.gr_history.specs.Lawful.{IsLawful}
use Rattle.gr_history.specs.Gifts.{IsImageOf}
use Rattle.gr_history.specs.declared.image.What.TheVariants as what
use Rattle.gr_law.specs.Next.{IsFirstImage, IsNext}
use Rattle.gr_law.proofs.Lists.{among_right}

-- the member's history with one more deed
abbrev pub pushed : Grid → ℕ → Deed → Grid
pushed grid m deed = record grid { history = λ i. if i == m then deed ∷ grid.history i else grid.history i }

pub still_made : (grid : Grid) (m : ℕ) (deed : Deed) (change : Change) → IsMade grid change → IsMade (pushed grid m deed) change
still_made grid m deed change h = at_test (change.stamp.member == m)
  where
    at_test : (b : Bool) → Among change (made (if b then deed ∷ grid.history change.stamp.member else grid.history change.stamp.member))
    at_test true = among_right change (made_at deed) (made (grid.history change.stamp.member)) h
    at_test false = h

still_heard : (grid : Grid) (m : ℕ) (deed one : Deed) → IsHeardDeed grid one → IsHeardDeed (pushed grid m deed) one
still_heard grid m deed (Call client to seq ask reply own) h = tt
still_heard grid m deed (Asked client seq ask reply) h = tt
still_heard grid m deed (Taken change how) h = tt
still_heard grid m deed (Gave to what) h = tt
still_heard grid m deed (Imaged image) h = tt
still_heard grid m deed (Reported report) h = tt
still_heard grid m deed (Heard report) h = at_test (report.member == m)
  where
    at_test : (b : Bool)
        → Among (bare (Reported report)) (map bare (if b then deed ∷ grid.history report.member else grid.history report.member))
    at_test true = inr h
    at_test false = h
still_heard grid m deed (Swept moment named) h = tt

pub older_length : (q h : List Deed) → Older q h → length q ≤ length h
older_length q [] o = rw o (omega arith)
older_length q (first ∷ past) (inl is) = rw is (omega arith)
older_length q (first ∷ past) (inr o) = let e = older_length q past o in omega (arith, e)

-- the place at which an image was given stays
still_there : (grid : Grid) (m me : ℕ) (deed : Deed) (image : Image) → IsGift grid me image
    → giver_of (pushed grid m deed) image ≡ giver_of grid image
still_there grid m me deed image gift = at_test (image.from == m)
  where
    past : List Deed
    past = grid.history image.from

    short : nat_le (suc (length (grid.history image.from))) image.at ≡ false
    short =
        let l : suc (length (giver_of grid image)) ≤ length (grid.history image.from) =
        older_length (Gave me what.Image ∷ giver_of grid image) (grid.history image.from) gift.gave in
        let e : image.at ≡ length (giver_of grid image) = gift.is_image.at_is in
        over (length (grid.history image.from)) (omega (arith, l, e))
      where
        over : (n : ℕ) → image.at < n → nat_le (suc n) image.at ≡ false
        over n h = grind (arith, nat_tests)

    at_test : (b : Bool) → at_place image.at (if b then deed ∷ grid.history image.from else grid.history image.from)
        ≡ at_place image.at (grid.history image.from)
    at_test true = rw short refl
    at_test false = refl

still_gift : (grid : Grid) (m me : ℕ) (deed : Deed) (image : Image) → IsGift grid me image → IsGift (pushed grid m deed) me image
still_gift grid m me deed image gift = record {
  from_founder = gift.from_founder;
  gave = subst (λ p. Older (Gave me what.Image ∷ p) ((pushed grid m deed).history image.from)) (sym there) (at_test (image.from == m));
  is_image = subst (λ p. IsImageOf image.from (grid.opening image.from) p image) (sym there) gift.is_image;
}
  where
    there : giver_of (pushed grid m deed) image ≡ giver_of grid image
    there = still_there grid m me deed image gift

    at_test : (b : Bool) → Older (Gave me what.Image ∷ giver_of grid image) (if b then deed ∷ grid.history image.from
        else grid.history image.from)
    at_test true = inr gift.gave
    at_test false = gift.gave

pub still_genuine_deed : (grid : Grid) (m me : ℕ) (deed one : Deed) → IsGenuineDeed grid me one → IsGenuineDeed (pushed grid m deed) me one
still_genuine_deed grid m me deed (Call client to seq ask reply own) h = tt
still_genuine_deed grid m me deed (Asked client seq ask reply) h = tt
still_genuine_deed grid m me deed (Taken change how) h = still_made grid m deed change h
still_genuine_deed grid m me deed (Gave to what) h = tt
still_genuine_deed grid m me deed (Imaged image) h = (h.0, still_gift grid m me deed image h.1)
still_genuine_deed grid m me deed (Reported report) h = tt
still_genuine_deed grid m me deed (Heard report) h = tt
still_genuine_deed grid m me deed (Swept moment named) h = tt

pub still_genuine : (grid : Grid) (m me : ℕ) (deed : Deed) (past : List Deed) → IsGenuine grid me past → IsGenuine (pushed grid m deed) me
    past
still_genuine grid m me deed [] h = tt
still_genuine grid m me deed (first ∷ past) h = (still_genuine_deed grid m me deed first h.0, still_genuine grid m me deed past h.1)

all_heard : (grid : Grid) (m : ℕ) (deed : Deed) (past : List Deed) → AreHeard grid past → AreHeard (pushed grid m deed) past
all_heard grid m deed [] h = tt
all_heard grid m deed (first ∷ past) h = (still_heard grid m deed first h.0, all_heard grid m deed past h.1)

-- a fact of each history, with the one deed more
pub at_each : (grid : Grid) (m : ℕ) (deed : Deed) (P : ℕ → List Deed → Type 0) → P m (deed ∷ grid.history m) → ((i : ℕ) → P i (grid.history
    i))
    → (i : ℕ) → P i ((pushed grid m deed).history i)
at_each grid m deed P new old i = at_test (i == m) refl
  where
    same : (i == m) ≡ true → m ≡ i
    same h = grind (arith, nat_tests)

    at_test : (b : Bool) → (i == m) ≡ b → P i (if b then deed ∷ grid.history i else grid.history i)
    at_test true e = subst (λ k. P k (deed ∷ grid.history k)) (same e) new
    at_test false e = old i

pub once_more : (deed : Deed) (past : List Deed) → IsFirstImage deed past → IsImagedOnce past → IsImagedOnce (deed ∷ past)
once_more (Call client to seq ask reply own) past first h = h
once_more (Asked client seq ask reply) past first h = h
once_more (Taken change how) past first h = h
once_more (Gave to what) past first h = h
once_more (Imaged image) past first h = first
once_more (Reported report) past first h = h
once_more (Heard report) past first h = h
once_more (Swept moment named) past first h = h

-- The step of a replay: one more deed.
pub whole_pushed : (grid : Grid) → IsWhole grid → (m : ℕ) (deed : Deed) → IsNext grid m deed → IsWhole (pushed grid m deed)
whole_pushed grid whole m deed next = record {
  sound = record {
    few = whole.sound.few;
    lawful = at_each grid m deed (λ i h. IsLawful (identity grid i) (grid.opening i) h) (
      next.lawful,
      whole.sound.lawful m,
    ) whole.sound.lawful;
    genuine = at_each grid m deed (λ i h. IsGenuine (pushed grid m deed) i h)
        (still_genuine_deed grid m m deed deed next.genuine, still_genuine grid m m deed (grid.history m) (whole.sound.genuine m))
        (λ i. still_genuine grid m i deed (grid.history i) (whole.sound.genuine i));
    once = at_each grid m deed (λ i h. IsImagedOnce h) (once_more deed (grid.history m) next.once (whole.sound.once m)) whole.sound.once;
    outside = at_each grid m deed (λ i h. (1 ≤ i) × (i ≤ grid.members) ⊎ (h ≡ [])) (inl (next.from, next.to)) whole.sound.outside;
  };
  heard = at_each grid m deed (λ i h. AreHeard (pushed grid m deed) h)
      (still_heard grid m deed deed next.heard, all_heard grid m deed (grid.history m) (whole.heard m))
      (λ i. all_heard grid m deed (grid.history i) (whole.heard i));
}

pub same_grid : (grid : Grid) (history : ℕ → List Deed) → ((i : ℕ) → grid.history i ≡ history i) → grid ≡ record grid {
  history = history;
}
same_grid grid history e = λ j. record grid { history = λ i. e i j }

-- The same, where the new histories are given member by member.
pub whole_next : (grid : Grid) → IsWhole grid → (m : ℕ) (deed : Deed) → IsNext grid m deed → (history : ℕ → List Deed)
    → ((i : ℕ) → (pushed grid m deed).history i ≡ history i) → IsWhole (record grid { history = history })
whole_next grid whole m deed next history e =
    subst IsWhole (same_grid (pushed grid m deed) history e) (whole_pushed grid whole m deed next)
