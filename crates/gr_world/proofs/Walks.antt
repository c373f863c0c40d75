-- What all that is done on a line keeps, the line keeps.
use Rattle.std.proofs.Common.{zero, suc, ◌≡◌, ℕ, ◌<◌, List, [], ◌∷◌, Bool, true, false, ◌||◌, ◌==◌, not, refl, inl, inr, arith, reverse}
use Rattle.std.specs.Prelude.{Option, Some, None}
use Rattle.gr_value.specs.Shard.{shard_of}
use Rattle.gr_stamp.specs.declared.change.Change.{Change}
use Rattle.gr_vector.specs.Ids.{has_id}
use Rattle.gr_vector.specs.declared.report.Report.{Report}
use Rattle.gr_history.specs.declared.image.What.{What}
use Rattle.gr_history.specs.declared.image.What.TheVariants as what
use Rattle.gr_history.specs.Gifts.{own_changes, image_of}
use Rattle.gr_history.specs.Ids.{id_of, ids}
use Rattle.gr_law.specs.Grids.{Among}
use Rattle.gr_script.specs.declared.line.Line.{Line}
use Rattle.gr_script.specs.declared.line.Line.TheVariants.{Step, Deliver, Hear, Sweep, Join, Depart, Leave, Back}
use Rattle.gr_script.specs.declared.line.Line.TheVariants as line
use Rattle.gr_script.specs.Rules.{Heading}
use Rattle.gr_script.specs.Steps.{is_gone}
use Rattle.gr_world.specs.Events.{Event, history}
use Rattle.gr_world.specs.Departures.{taken_of, closing_report}
use Rattle.gr_world.specs.Doings.{Doing, Calls, Takes, Gives, Merges, Reports, Hears, Sweeps, Asks}
use Rattle.gr_world.specs.Named.{made_by, reports, numbered}
use Rattle.gr_world.specs.Courses.{does, for_each, unless, delivers, hears, hears_of, takes_all, gives_unless, what_from, joins_at, after}
use Rattle.gr_world.specs.Courses.{closes, closes_all, sweeps_at, takes_new, takes_new_all, copies, copies_all, hands_over}

-- an act keeps a fact of what was done
abbrev pub Keeps : (List Event → Type 0) → (List Event → List Event) → Type 0
Keeps P act = (now : List Event) → P now → P (act now)

pub unless_keeps : (P : List Event → Type 0) (b : Bool) (act : List Event → List Event) → (b ≡ false → Keeps P act) → Keeps P (unless b act)
unless_keeps P true act keeps now h = h
unless_keeps P false act keeps now h = keeps refl now h

pub each_keep : (P : List Event → Type 0) (n : ℕ) (act : ℕ → List Event → List Event) → ((k : ℕ) → k < n → Keeps P (act k))
    → Keeps P (for_each n act)
each_keep P zero act keeps now h = h
each_keep P (suc n) act keeps now h =
    keeps n (omega arith) (for_each n act now) (each_keep P n act (λ k less. keeps k (omega (arith, less))) now h)

-- whoever takes in a change of these keeps a fact
abbrev pub TakesKeep : Heading → ℕ → ℕ → (List Event → Type 0) → List Change → Type 0
TakesKeep heading member shard P changes = (change : Change) → Among change changes → Keeps P (does heading member shard (Takes change))

pub takes_keep : (heading : Heading) (member shard : ℕ) (P : List Event → Type 0) (changes : List Change)
    → TakesKeep heading member shard P changes → Keeps P (takes_new_all heading member shard changes)
takes_keep heading member shard P [] keeps now h = h
takes_keep heading member shard P (change ∷ rest) keeps now h =
    takes_keep heading member shard P rest (λ one a. keeps one (inr a)) (takes_new heading member shard change now)
    (unless_keeps P (has_id (id_of change) (ids (history member shard now))) (does heading member shard (Takes change))
    (λ e. keeps change (inl refl)) now h)

-- each member hears the closing reports of those that departed
pub closes_keep : (heading : Heading) (gone : List ℕ) (P : List Event → Type 0) (member shard : ℕ)
    → ((of : ℕ) → is_gone gone of ≡ true → Keeps P (closes heading member shard of)) → Keeps P (closes_all heading gone member shard)
closes_keep heading gone P member shard keeps =
    each_keep P heading.members (λ n. unless (not (is_gone gone (suc n))) (closes heading member shard (suc n)))
    (λ n less. unless_keeps P (not (is_gone gone (suc n))) (closes heading member shard (suc n))
    (λ e. keeps (suc n) (not_false (is_gone gone (suc n)) e)))
  where
    not_false : (b : Bool) → not b ≡ false → b ≡ true
    not_false true e = refl
    not_false false e = absurd (cc)

-- each that stays takes in what another one took in
pub hands_keep : (heading : Heading) (gone : List ℕ) (P : List Event → Type 0) (of shard : ℕ)
    → ((taker giver : ℕ) → taker < heading.members → Keeps P (copies heading of shard (suc taker) (suc giver)))
    → Keeps P (hands_over heading gone of shard)
hands_keep heading gone P of shard keeps =
    each_keep P heading.members (λ n. unless (is_gone gone (suc n)) (copies_all heading gone of shard (suc n)))
    (λ n less. unless_keeps P (is_gone gone (suc n)) (copies_all heading gone of shard (suc n))
    (λ e. each_keep P heading.members
    (λ g. unless (suc g == suc n || is_gone gone (suc g)) (copies heading of shard (suc n) (suc g)))
    (λ g within. unless_keeps P (suc g == suc n || is_gone gone (suc g)) (copies heading of shard (suc n) (suc g))
    (λ f. keeps n g less))))

-- ---- lines

abbrev pub IsNoStep : Line → Type 0
IsNoStep (Step client number act) = ⊥
IsNoStep (Deliver member client number) = Unit {0}
IsNoStep (line.Report member) = Unit {0}
IsNoStep (Hear member of number) = Unit {0}
IsNoStep (Sweep member moment) = Unit {0}
IsNoStep (Join joiner provider) = Unit {0}
IsNoStep (Depart member) = Unit {0}
IsNoStep (Leave client moment) = Unit {0}
IsNoStep (Back client moment) = Unit {0}

-- the line at which the member joins
abbrev pub IsJoinOf : ℕ → Line → Type 0
IsJoinOf member (Join joiner provider) = joiner ≡ member
IsJoinOf member _ = ⊥

-- All that is done on a line but a step is one of these. Where the member joins it merges an image.
abbrev pub IsOf : Line → ℕ → Doing → Type 0
IsOf at m (Calls client number ask) = ⊥
IsOf at m (Takes change) = Unit {0}
IsOf at m (Gives to what) = Unit {0}
IsOf at m (Merges image) = IsJoinOf m at
IsOf at m Reports = Unit {0}
IsOf at m (Hears report) = Unit {0}
IsOf at m (Sweeps moment) = Unit {0}
IsOf at m (Asks client number ask) = ⊥

abbrev pub AllKeep : Heading → (List Event → Type 0) → Line → Type 0
AllKeep heading P at = (m s : ℕ) (doing : Doing) → IsOf at m doing → Keeps P (does heading m s doing)

all_taken : (heading : Heading) (P : List Event → Type 0) (at : Line) → AllKeep heading P at → (m s : ℕ) (changes : List Change)
    → Keeps P (takes_all heading m s changes)
all_taken heading P at keeps m s [] now h = h
all_taken heading P at keeps m s (change ∷ rest) now h =
    all_taken heading P at keeps m s rest (does heading m s (Takes change) now) (keeps m s (Takes change) tt now h)

all_given : (heading : Heading) (P : List Event → Type 0) (at : Line) → AllKeep heading P at → (joiner shard giver : ℕ) (skip : Bool)
    (gift : What) → IsJoinOf joiner at → Keeps P (gives_unless skip heading joiner shard giver gift)
all_given heading P at keeps joiner shard giver true gift joins now h = h
all_given heading P at keeps joiner shard giver false what.Image joins now h =
    keeps joiner shard (Merges (image_of giver heading.floor (history giver shard now))) joins
    (does heading giver shard (Gives joiner what.Image) now) (keeps giver shard (Gives joiner what.Image) tt now h)
all_given heading P at keeps joiner shard giver false what.Own joins now h =
    all_taken heading P at keeps joiner shard (own_changes (history giver shard now)) (does heading giver shard (Gives joiner what.Own) now)
    (keeps giver shard (Gives joiner what.Own) tt now h)

-- what each of these keeps, each line but a step keeps
pub rest_keeps : (heading : Heading) (gone : List ℕ) (P : List Event → Type 0) (at : Line) → AllKeep heading P at → IsNoStep at
    → Keeps P (after heading gone at)
rest_keeps heading gone P (Step client number act) keeps quiet now h = absurd quiet
rest_keeps heading gone P (Deliver member client number) keeps quiet now h = at_change (made_by client number now)
  where
    at_change : (o : Option Change) → P (delivers heading gone member o now)
    at_change None = h
    at_change (Some change) = unless_keeps P _ (does heading member (shard_of change.key heading.shards) (Takes change))
        (λ e. keeps member (shard_of change.key heading.shards) (Takes change) tt) now h
rest_keeps heading gone P (line.Report member) keeps quiet now h =
    each_keep P heading.shards (λ shard. does heading member shard Reports) (λ shard less. keeps member shard Reports tt) now h
rest_keeps heading gone P (Hear member of number) keeps quiet now h =
    each_keep P heading.shards (hears_of heading member of number)
    (λ shard less mid k. at_report shard mid k (numbered number (reports (history of shard mid)))) now h
  where
    at_report : (shard : ℕ) (mid : List Event) → P mid → (o : Option Report) → P (hears heading member shard o mid)
    at_report shard mid k None = k
    at_report shard mid k (Some report) = keeps member shard (Hears report) tt mid k
rest_keeps heading gone P (Sweep member moment) keeps quiet now h =
    each_keep P heading.shards (sweeps_at heading gone member moment)
    (λ shard less mid k. keeps member shard (Sweeps moment) tt (closes_all heading gone member shard mid)
    (closes_keep heading gone P member shard
    (λ of e last j. keeps member shard (Hears (closing_report of (history member shard last))) tt last j) mid k)) now h
rest_keeps heading gone P (Join joiner provider) keeps quiet now h =
    each_keep P heading.shards (joins_at heading gone joiner provider)
    (λ shard less. each_keep P heading.members
    (λ n. gives_unless (is_gone gone (suc n) || suc n == joiner) heading joiner shard (suc n) (what_from (suc n == provider)))
    (λ n low. all_given heading P (Join joiner provider) keeps joiner shard (suc n) (is_gone gone (suc n) || suc n == joiner)
    (what_from (suc n == provider)) refl)) now h
rest_keeps heading gone P (Depart member) keeps quiet now h =
    each_keep P heading.shards (hands_over heading (member ∷ gone) member)
    (λ shard less. hands_keep heading (member ∷ gone) P member shard
    (λ taker giver low mid. takes_keep heading (suc taker) shard P (reverse (taken_of member (history (suc giver) shard mid)))
    (λ change a. keeps (suc taker) shard (Takes change) tt) mid)) now h
rest_keeps heading gone P (Leave client moment) keeps quiet now h = h
rest_keeps heading gone P (Back client moment) keeps quiet now h = h
