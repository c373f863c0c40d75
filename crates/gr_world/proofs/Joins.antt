-- A joiner is given one image, by a founder, and changes that were made.
use Rattle.std.proofs.Common.{suc, ◌≡◌, ℕ, ◌+◌, ◌≤◌, ◌<◌, List, [], ◌∷◌, Bool, true, false, ◌||◌, ◌==◌, refl, sym, ap, ◌∙◌, subst}
use Rattle.std.proofs.Common.{inl, inr}
use Rattle.std.proofs.Common.{arith, length, if◌then◌else◌}
use Rattle.std.specs.Prelude.{nat_le}
use Rattle.std.proofs.lemmas.Bool.Decides.{nat_tests}
use Rattle.gr_value.specs.Shard.{shard_of}
use Rattle.gr_stamp.specs.declared.change.Change.{Change}
use Rattle.gr_history.specs.declared.image.Image.{Image}
use Rattle.gr_history.specs.declared.image.What.{What}
use Rattle.gr_history.specs.declared.image.What.TheVariants as what
use Rattle.gr_history.specs.declared.deed.Deed.{Deed}
use Rattle.gr_history.specs.declared.deed.Deed.TheVariants.{Gave, Imaged}
use Rattle.gr_history.specs.Asks.{key_of}
use Rattle.gr_history.specs.Calls.{given}
use Rattle.gr_history.specs.Made.{made}
use Rattle.gr_history.specs.Gifts.{own_changes, IsImageOf, image_of}
use Rattle.gr_history.specs.Lawful.{IsLawful}
use Rattle.gr_law.specs.Grids.{Among, Older, at_place}
use Rattle.gr_law.specs.Integrity.{giver_of, IsMade, HasNoImage, IsGift}
use Rattle.gr_law.proofs.Lists.{among_reverse}
use Rattle.gr_law.proofs.Made.{made_member}
use Rattle.gr_script.specs.declared.line.Act.TheVariants as act
use Rattle.gr_script.specs.declared.line.Line.{Line}
use Rattle.gr_script.specs.declared.line.Line.TheVariants.{Step, Deliver, Hear, Sweep, Join, Depart, Leave, Back}
use Rattle.gr_script.specs.declared.line.Line.TheVariants as line
use Rattle.gr_script.specs.Rules.{Heading, IsMember, home_of}
use Rattle.gr_script.specs.Steps.{joins_of, is_join_of, departed, is_gone}
use Rattle.std.proofs.lemmas.List.Sums.{sum_by-cons}
use Rattle.gr_world.specs.Events.{Event, Did, history}
use Rattle.gr_world.specs.Doings.{Doing, Calls, Takes, Gives, Merges, Reports, Hears, Sweeps, Asks, deed_of}
use Rattle.gr_world.specs.Courses.{identity_at, does, takes_all, gives_unless, what_from, joins_at, after, course}
use Rattle.gr_world.specs.Causes.{grid_at, IsCausal}
use Rattle.gr_world.proofs.Events.{equal_numbers, history_here, more_made, no_image, other_shard, Spares}
use Rattle.gr_shard.proofs.Ordered.{standing_in_order}
use Rattle.gr_world.proofs.Whole.{sound_course}
use Rattle.gr_world.proofs.Walks.{IsNoStep, IsOf, rest_keeps}
use Rattle.gr_world.proofs.Causes.{does_causal, each_keeps}

-- what the lines before left at the joiner: all in integrity, and no image from this shard on
pub record IsReady (heading : Heading) (gone : List ℕ) (joiner from : ℕ) (now : List Event) : Type 0 where
  pub causal : IsCausal heading gone now
  pub none : (shard : ℕ) → from ≤ shard → HasNoImage (history joiner shard now)

-- the same between two givers of a shard
pub record IsJoining (heading : Heading) (gone : List ℕ) (joiner provider shard given : ℕ) (now : List Event) : Type 0 where
  pub causal : IsCausal heading gone now
  pub none : given < provider → HasNoImage (history joiner shard now)
  pub later : (t : ℕ) → shard < t → HasNoImage (history joiner t now)

takes_joining : (heading : Heading) (gone : List ℕ) (joiner provider shard given : ℕ) (changes : List Change) (now : List Event)
    → IsMember heading joiner
    → ((change : Change) → Among change changes → IsMade (grid_at heading shard now) change)
    → IsJoining heading gone joiner provider shard given now
    → IsJoining heading gone joiner provider shard given (takes_all heading joiner shard changes now)
takes_joining heading gone joiner provider shard given [] now is made_all h = h
takes_joining heading gone joiner provider shard given (change ∷ rest) now is made_all h =
    takes_joining heading gone joiner provider shard given rest (does heading joiner shard (Takes change) now) is
    (λ one a. more_made one.stamp.member shard one
    (Did joiner shard (deed_of (identity_at heading joiner shard) heading.floor (history joiner shard now) (Takes change))) now
    (made_all one (inr a)))
    (record {
      causal = does_causal heading gone joiner shard (Takes change) now is (made_all change (inl refl)) h.causal;
      none = λ less. no_image heading joiner shard joiner shard (Takes change) now tt (h.none less);
      later = λ t less. no_image heading joiner t joiner shard (Takes change) now tt (h.later t less);
    })

-- the own changes of a member were made
own_made : (heading : Heading) (gone : List ℕ) (giver shard : ℕ) (now : List Event) → heading.members ≤ 8 → IsCausal heading gone now
    → (change : Change) → Among change (own_changes (history giver shard now))
    → IsMade (grid_at heading shard now) change
own_made heading gone giver shard now few h change a =
    let made_is : Among change (made (history giver shard now)) = among_reverse change _ a in
    let who : change.stamp.member ≡ giver =
    member_of_made _ _ (history giver shard now) ((sound_course heading gone now few h shard).lawful giver) made_is in
    subst (λ i. Among change (made (history i shard now))) (sym who) made_is
  where
    member_of_made : (id : _) (opening : ℕ) (past : List Deed) → IsLawful id opening past → Among change (made past)
        → change.stamp.member ≡ id.member
    member_of_made id opening past law a = (made_member id opening change past law a).0

at_end : (past : List Deed) → at_place (length past) past ≡ past
at_end [] = refl
at_end (deed ∷ past) = rw (itself (length past)) refl
  where
    itself : (n : ℕ) → nat_le (suc n) (suc n) ≡ true
    itself n = grind (arith, nat_tests)

before_end : (deed : Deed) (past : List Deed) → at_place (length past) (deed ∷ past) ≡ past
before_end deed past = rw (over (length past)) (at_end past)
  where
    over : (n : ℕ) → nat_le (suc n) n ≡ false
    over n = grind (arith, nat_tests)

-- the image that a founder just gave is its gift
just_given : (heading : Heading) (joiner shard giver : ℕ) (now : List Event) → giver ≤ heading.founders
    → IsGift (grid_at heading shard (does heading giver shard (Gives joiner what.Image) now)) joiner
    (image_of giver heading.floor (history giver shard now))
just_given heading joiner shard giver now founder = record {
  from_founder = founder;
  gave = subst (λ p. Older (Gave joiner what.Image ∷ p) (history giver shard (does heading giver shard (Gives joiner what.Image) now)))
      (sym there)
      (subst (Older (Gave joiner what.Image ∷ past)) (sym here) (inl refl));
  is_image = subst (λ p. IsImageOf giver heading.floor p (image_of giver heading.floor past)) (sym there)
      (record { giver_is = refl; at_is = refl; rows_are = refl; vector_is = refl; floor_is = refl });
}
  where
    past : List Deed
    past = history giver shard now

    here : history giver shard (does heading giver shard (Gives joiner what.Image) now) ≡ Gave joiner what.Image ∷ history giver shard now
    here = history_here giver shard (Gave joiner what.Image) now

    there : giver_of (grid_at heading shard (does heading giver shard (Gives joiner what.Image) now))
        (image_of giver heading.floor (history giver shard now)) ≡ history giver shard now
    there = ap (at_place (length (history giver shard now))) here ∙ before_end (Gave joiner what.Image) (history giver shard now)

gives_joining : (heading : Heading) (gone : List ℕ) (joiner provider shard n : ℕ) (skip : Bool) (now : List Event) → heading.members ≤ 8
    → IsMember heading joiner → heading.founders < joiner
    → provider ≤ heading.founders
    → suc n ≤ heading.members → IsJoining heading gone joiner provider shard n now
    → IsJoining heading gone joiner provider shard (suc n)
    (gives_unless skip heading joiner shard (suc n) (what_from (suc n == provider)) now)
gives_joining heading gone joiner provider shard n skip now few is joins founder within h = at_joiner skip (suc n == provider) refl
  where
    giver : IsMember heading (suc n)
    giver = (omega arith, within)

    given : (gift : What) → IsJoining heading gone joiner provider shard n (does heading (suc n) shard (Gives joiner gift) now)
    given gift = record {
      causal = does_causal heading gone (suc n) shard (Gives joiner gift) now giver tt h.causal;
      none = λ less. no_image heading joiner shard (suc n) shard (Gives joiner gift) now tt (h.none less);
      later = λ t less. no_image heading joiner t (suc n) shard (Gives joiner gift) now tt (h.later t less);
    }

    sooner : (now : List Event) → IsJoining heading gone joiner provider shard n now → IsJoining heading gone joiner provider shard (suc n) now
    sooner now h = record { causal = h.causal; none = λ less. h.none (omega (arith, less)); later = h.later }

    at_joiner : (b image : Bool) → (suc n == provider) ≡ image
        → IsJoining heading gone joiner provider shard (suc n) (gives_unless b heading joiner shard (suc n) (what_from image) now)
    at_joiner true image e = sooner now h
    at_joiner false false e = sooner _
        (takes_joining heading gone joiner provider shard n (own_changes (history (suc n) shard now))
        (does heading (suc n) shard (Gives joiner what.Own) now) is
        (λ change a. more_made change.stamp.member shard change (Did (suc n) shard (Gave joiner what.Own)) now
        (own_made heading gone (suc n) shard now few h.causal change a))
        (given what.Own))
    at_joiner false true e =
        let now_given : List Event = does heading (suc n) shard (Gives joiner what.Image) now in
        let image : Image = image_of (suc n) heading.floor (history (suc n) shard now) in
        let provides : suc n ≡ provider = equal_numbers (suc n) provider e in
        let gift : IsGift (grid_at heading shard now_given) joiner image =
        just_given heading joiner shard (suc n) now (omega (arith, provides, founder)) in
        let first : HasNoImage (history joiner shard now_given) = (given what.Image).none (omega (arith, provides)) in
        record {
          causal = does_causal heading gone joiner shard (Merges image) now_given is
              (joins, gift, first, standing_in_order (history (suc n) shard now)) (given what.Image).causal;
          none = λ less. absurd (omega (arith, provides, less));
          later = λ t less. subst HasNoImage
              (sym (other_shard joiner t joiner shard (Imaged image) now_given (λ same. omega (arith, same, less))))
              ((given what.Image).later t less);
        }

pub joins_ready : (heading : Heading) (gone : List ℕ) (joiner provider : ℕ) (before : List Event) → heading.members ≤ 8
    → IsMember heading joiner → heading.founders < joiner → provider ≤ heading.founders
    → IsReady heading gone joiner 0 before → IsCausal heading gone (after heading gone (Join joiner provider) before)
joins_ready heading gone joiner provider before few is joins founder ready =
    (each_keeps (IsReady heading gone joiner) heading.shards (joins_at heading gone joiner provider) before ready
    (λ shard now within h.
    let first : IsJoining heading gone joiner provider shard 0 now = record {
      causal = h.causal;
      none = λ less. h.none shard (omega arith);
      later = λ t less. h.none t (omega (arith, less));
    } in
    let last = each_keeps (IsJoining heading gone joiner provider shard) heading.members
    (λ n. gives_unless (is_gone gone (suc n) || suc n == joiner) heading joiner shard (suc n) (what_from (suc n == provider))) now first
    (λ n mid less joining. gives_joining heading gone joiner provider shard n (is_gone gone (suc n) || suc n == joiner) mid few is joins
    founder (omega (arith, less)) joining) in
    record { causal = last.causal; none = λ t from. last.later t (omega (arith, from)) })).causal

-- A member that hasn't joined has no image.
abbrev NoImages : ℕ → List Event → Type 0
NoImages joiner now = (shard : ℕ) → HasNoImage (history joiner shard now)

unmerged : (heading : Heading) (j m s : ℕ) (doing : Doing) (now : List Event) → Spares j m doing → NoImages j now
    → NoImages j (does heading m s doing now)
unmerged heading j m s doing now spares none shard = no_image heading j shard m s doing now spares (none shard)

-- the line isn't one at which this member joins
abbrev JoinsNot : ℕ → Line → Type 0
JoinsNot j (Step client number act) = Unit {0}
JoinsNot j (Deliver member client number) = Unit {0}
JoinsNot j (line.Report member) = Unit {0}
JoinsNot j (Hear member of number) = Unit {0}
JoinsNot j (Sweep member moment) = Unit {0}
JoinsNot j (Join joiner provider) = (joiner ≡ j) → ⊥
JoinsNot j (Depart member) = Unit {0}
JoinsNot j (Leave client moment) = Unit {0}
JoinsNot j (Back client moment) = Unit {0}

joins_more : (j : ℕ) (line : Line) (past : List Line)
    → joins_of j (line ∷ past) ≡ (if is_join_of j line then 1 else 0) + joins_of j past
joins_more j line past = sum_by-cons (λ one. if is_join_of j one then 1 else 0) line past

joins_apart : (j : ℕ) (line : Line) (past : List Line) → joins_of j (line ∷ past) ≡ 0 → JoinsNot j line × (joins_of j past ≡ 0)
joins_apart j (Step client number act) past h =
    (tt, omega (arith, h, joins_more j (Step client number act) past))
joins_apart j (Deliver member client number) past h =
    (tt, omega (arith, h, joins_more j (Deliver member client number) past))
joins_apart j (line.Report member) past h =
    (tt, omega (arith, h, joins_more j (line.Report member) past))
joins_apart j (Hear member of number) past h =
    (tt, omega (arith, h, joins_more j (Hear member of number) past))
joins_apart j (Sweep member moment) past h =
    (tt, omega (arith, h, joins_more j (Sweep member moment) past))
joins_apart j (Depart member) past h =
    (tt, omega (arith, h, joins_more j (Depart member) past))
joins_apart j (Leave client moment) past h =
    (tt, omega (arith, h, joins_more j (Leave client moment) past))
joins_apart j (Back client moment) past h =
    (tt, omega (arith, h, joins_more j (Back client moment) past))
joins_apart j (Join joiner provider) past h = at_test (joiner == j) refl
    (sym (joins_more j (Join joiner provider) past) ∙ h)
  where
    at_test : (b : Bool) → (joiner == j) ≡ b → (if b then 1 else 0) + joins_of j past ≡ 0 → ((joiner ≡ j) → ⊥) × (joins_of j past ≡ 0)
    at_test true e h = absurd (omega (arith, h))
    at_test false e h = (λ same. apart joiner j e same, omega (arith, h))
      where
        apart : (one other : ℕ) → (one == other) ≡ false → one ≡ other → ⊥
        apart one other e h = grind (arith, nat_tests)

-- so no image is merged at it
spared : (j : ℕ) (at : Line) → JoinsNot j at → (m : ℕ) (doing : Doing) → IsOf at m doing → Spares j m doing
spared j at other m (Calls client number ask) of = tt
spared j at other m (Takes change) of = tt
spared j at other m (Gives to what) of = tt
spared j (Step client number act) other m (Merges image) of = absurd of
spared j (Deliver member client number) other m (Merges image) of = absurd of
spared j (line.Report member) other m (Merges image) of = absurd of
spared j (Hear member from number) other m (Merges image) of = absurd of
spared j (Sweep member moment) other m (Merges image) of = absurd of
spared j (Depart member) other m (Merges image) of = absurd of
spared j (Leave client moment) other m (Merges image) of = absurd of
spared j (Back client moment) other m (Merges image) of = absurd of
spared j (Join joiner provider) other m (Merges image) of = λ same. other (of ∙ same)
spared j at other m Reports of = tt
spared j at other m (Hears report) of = tt
spared j at other m (Sweeps moment) of = tt
spared j at other m (Asks client number ask) of = tt

rest_unmerged : (heading : Heading) (gone : List ℕ) (j : ℕ) (at : Line) (now : List Event) → IsNoStep at → JoinsNot j at → NoImages j now
    → NoImages j (after heading gone at now)
rest_unmerged heading gone j at now quiet other none =
    rest_keeps heading gone (NoImages j) at
    (λ m s doing of mid h. unmerged heading j m s doing mid (spared j at other m doing of) h) quiet now none

line_unmerged : (heading : Heading) (gone : List ℕ) (j : ℕ) (line : Line) (now : List Event) → JoinsNot j line → NoImages j now
    → NoImages j (after heading gone line now)
line_unmerged heading gone j (Step client number (act.Call ask)) now other none =
    unmerged heading j (home_of heading client) (shard_of (key_of ask) heading.shards) (Calls client number ask) now tt none
line_unmerged heading gone j (Step client number (act.Query ask)) now other none =
    each_keeps (λ n mid. NoImages j mid) heading.shards
    (λ shard. does heading (home_of heading client) shard (Asks client number ask)) now none
    (λ shard mid less h. unmerged heading j (home_of heading client) shard (Asks client number ask) mid tt h)
line_unmerged heading gone j (Step client number (act.Peek key)) now other none = none
line_unmerged heading gone j (Deliver member client number) now other none = rest_unmerged heading gone j (Deliver member client number) now tt other none
line_unmerged heading gone j (line.Report member) now other none = rest_unmerged heading gone j (line.Report member) now tt other none
line_unmerged heading gone j (Hear member of number) now other none = rest_unmerged heading gone j (Hear member of number) now tt other none
line_unmerged heading gone j (Sweep member moment) now other none = rest_unmerged heading gone j (Sweep member moment) now tt other none
line_unmerged heading gone j (Join joiner provider) now other none = rest_unmerged heading gone j (Join joiner provider) now tt other none
line_unmerged heading gone j (Depart member) now other none = rest_unmerged heading gone j (Depart member) now tt other none
line_unmerged heading gone j (Leave client moment) now other none = rest_unmerged heading gone j (Leave client moment) now tt other none
line_unmerged heading gone j (Back client moment) now other none = rest_unmerged heading gone j (Back client moment) now tt other none

pub course_unmerged : (heading : Heading) (j : ℕ) (past : List Line) → joins_of j past ≡ 0 → NoImages j (course heading past)
course_unmerged heading j [] h = λ shard. tt
course_unmerged heading j (line ∷ past) h =
    let apart = joins_apart j line past h in
    line_unmerged heading (departed past) j line (course heading past) apart.0 (course_unmerged heading j past apart.1)
