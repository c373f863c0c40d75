-- What is done on a line is done at members that stay.
use Rattle.std.proofs.Common.{suc, ◌≡◌, ℕ, ◌<◌, List, [], ◌∷◌, ◌++◌, Bool, true, false, ◌||◌, not, ◌==◌, refl, sym, subst}
use Rattle.std.proofs.Common.{arith, reverse}
use Rattle.std.proofs.Math.Nat.{mod-lt}
use Rattle.std.specs.Prelude.{Option, Some, None}
use Rattle.std.specs.List.{cons_option}
use Rattle.gr_value.specs.Shard.{key_hash, shard_of}
use Rattle.gr_stamp.specs.declared.change.Change.{Change}
use Rattle.gr_history.specs.declared.image.What.{What}
use Rattle.gr_history.specs.declared.image.What.TheVariants as what
use Rattle.gr_history.specs.declared.query_reply.QueryReply.{QueryReply}
use Rattle.gr_history.specs.Asks.{key_of}
use Rattle.gr_history.specs.Gifts.{own_changes, image_of}
use Rattle.gr_script.specs.declared.line.Act.TheVariants as act
use Rattle.gr_script.specs.declared.line.Line.{Line}
use Rattle.gr_script.specs.declared.line.Line.TheVariants.{Step, Deliver, Hear, Sweep, Join, Depart, Leave, Back}
use Rattle.gr_script.specs.declared.line.Line.TheVariants as line
use Rattle.gr_script.specs.Rules.{Heading, IsHeading, AllStand, AllNameStaying, NamesStaying, Stays, home_of}
use Rattle.gr_script.specs.Steps.{departs, departed, is_gone, is_join_from}
use Rattle.gr_world.specs.Events.{Event, Peek, Peeked, Gathered, history}
use Rattle.gr_world.specs.Departures.{taken_of}
use Rattle.gr_world.specs.Doings.{Doing, Calls, Takes, Gives, Merges, Reports, Hears, Sweeps, Asks}
use Rattle.gr_world.specs.Named.{made_by}
use Rattle.gr_world.specs.Courses.{does, unless, delivers, hears_of, takes_all, gives, gives_unless, what_from, joins_at}
use Rattle.gr_world.specs.Courses.{closes, closes_all, sweeps_at, copies, copies_all, hands_over, after}
use Rattle.gr_world.specs.Shut.{IsStaying}
use Rattle.gr_world.proofs.Events.{equal_numbers, same_number}
use Rattle.gr_world.proofs.Growing.{or_right, or_second, isnt_true}
use Rattle.gr_world.proofs.Walks.{Keeps, unless_keeps, each_keep, takes_keep}

-- The lines of a script, the last one first.
pub record AreFit (heading : Heading) (past : List Line) : Type 0 where
  pub heading_is : IsHeading heading
  pub stand : AllStand heading past
  pub names : AllNameStaying heading past

pub fit_rest : (heading : Heading) (one : Line) (past : List Line) → AreFit heading (one ∷ past) → AreFit heading past
fit_rest heading one past fit = record { heading_is = fit.heading_is; stand = fit.stand.1; names = fit.names.1 }

pub fit_tail : (heading : Heading) (later past : List Line) → AreFit heading (later ++ past) → AreFit heading past
fit_tail heading [] past fit = fit
fit_tail heading (one ∷ later) past fit = fit_tail heading later past (fit_rest heading one (later ++ past) fit)

-- whoever has departed stays away
pub gone_line : (one : Line) (past : List Line) (m : ℕ) → is_gone (departed past) m ≡ true → is_gone (departed (one ∷ past)) m ≡ true
gone_line one past m left = at_departs (departs one)
  where
    at_departs : (o : Option ℕ) → is_gone (cons_option o (departed past)) m ≡ true
    at_departs None = left
    at_departs (Some of) = or_second (of == m) (is_gone (departed past) m) left

pub gone_later : (later past : List Line) (m : ℕ) → is_gone (departed past) m ≡ true → is_gone (departed (later ++ past)) m ≡ true
gone_later [] past m left = left
gone_later (one ∷ later) past m left = gone_line one (later ++ past) m (gone_later later past m left)

-- what a member does by itself
abbrev pub IsAlone : Doing → Type 0
IsAlone (Calls client number ask) = Unit {0}
IsAlone (Takes change) = ⊥
IsAlone (Gives to gift) = ⊥
IsAlone (Merges image) = ⊥
IsAlone Reports = Unit {0}
IsAlone (Hears report) = ⊥
IsAlone (Sweeps moment) = Unit {0}
IsAlone (Asks client number ask) = Unit {0}

-- What keeps a fact on a line.
pub record IsKeptBy (heading : Heading) (past : List Line) (one : Line) (P : List Event → Type 0) : Type 0 where
  pub done : (m s : ℕ) (doing : Doing) → IsAlone doing → s < heading.shards → Stays past m → Keeps P (does heading m s doing)
  pub peeked : (client number : ℕ) (peek : Peek) → Keeps P (λ now. Peeked client number peek ∷ now)
  pub gathered : (client number : ℕ) (replies : List QueryReply) → Keeps P (λ now. Gathered client number replies ∷ now)
  pub delivered : (m : ℕ) (change : Option Change) → Stays past m → Keeps P (delivers heading (departed past) m change)
  pub given : (joiner s giver : ℕ) (gift : What) → s < heading.shards → Stays past joiner → IsStaying heading (departed past) giver
      → (gift ≡ what.Image → is_join_from giver one ≡ true) → Keeps P (gives heading joiner s giver gift)
  pub heard : (m of number s : ℕ) → s < heading.shards → Stays past m → Keeps P (hears_of heading m of number s)
  pub closed : (m of s : ℕ) → s < heading.shards → Stays past m → is_gone (departed past) of ≡ true → Keeps P (closes heading m s of)
  pub copied : (of s taker giver : ℕ) → s < heading.shards → Stays past taker → IsStaying heading (departed past) giver
      → Keeps P (copies heading of s taker giver)

not_false : (b : Bool) → not b ≡ false → b ≡ true
not_false true e = refl
not_false false e = absurd (isnt_true (sym e))

or_left : (a b : Bool) → (a || b) ≡ false → a ≡ false
or_left false b h = refl
or_left true b h = h

pub at_shard : (heading : Heading) (key : List ℕ) → IsHeading heading → shard_of key heading.shards < heading.shards
at_shard heading key is = let some = is.shards.0 in mod-lt (key_hash key) (omega (arith, some))

staying_at : (heading : Heading) (gone : List ℕ) (n : ℕ) → n < heading.members → is_gone gone (suc n) ≡ false
    → IsStaying heading gone (suc n)
staying_at heading gone n low stays = record { stated = (omega arith, omega (arith, low)); stays = stays }

-- a hand-over keeps what each copying keeps
pub handed_keeps : (heading : Heading) (gone : List ℕ) (P : List Event → Type 0) (of shard : ℕ)
    → ((taker giver : ℕ) → is_gone gone taker ≡ false → IsStaying heading gone giver → Keeps P (copies heading of shard taker giver))
    → Keeps P (hands_over heading gone of shard)
handed_keeps heading gone P of shard keeps =
    each_keep P heading.members (λ n. unless (is_gone gone (suc n)) (copies_all heading gone of shard (suc n)))
    (λ n within. unless_keeps P (is_gone gone (suc n)) (copies_all heading gone of shard (suc n))
    (λ e. each_keep P heading.members (λ g. unless (suc g == suc n || is_gone gone (suc g)) (copies heading of shard (suc n) (suc g)))
    (λ g low. unless_keeps P (suc g == suc n || is_gone gone (suc g)) (copies heading of shard (suc n) (suc g))
    (λ f. keeps (suc n) (suc g) e (staying_at heading gone g low (or_right (suc g == suc n) (is_gone gone (suc g)) f))))))

module _ (heading : Heading) (past : List Line) (P : List Event → Type 0) where
  unless_given : (joiner s giver : ℕ) (skip : Bool) (gift : What) → (skip ≡ false → Keeps P (gives heading joiner s giver gift))
      → Keeps P (gives_unless skip heading joiner s giver gift)
  unless_given joiner s giver true gift keeps now h = h
  unless_given joiner s giver false gift keeps now h = keeps refl now h

  image_from : (provider n : ℕ) (b : Bool) → (suc n == provider) ≡ b → what_from b ≡ what.Image → (provider == suc n) ≡ true
  image_from provider n true e is =
      subst (λ k. (provider == k) ≡ true) (sym (equal_numbers (suc n) provider e)) (same_number provider)
  image_from provider n false e is = absurd (cc)

  -- What is done on a line keeps a fact that all of this keeps.
  pub line_keeps : (one : Line) → IsHeading heading → NamesStaying heading past one → IsKeptBy heading past one P
      → Keeps P (after heading (departed past) one)
  line_keeps (Step client number (act.Call ask)) is stays by now h =
      by.done (home_of heading client) (shard_of (key_of ask) heading.shards) (Calls client number ask) tt
      (at_shard heading (key_of ask) is) stays now h
  line_keeps (Step client number (act.Query ask)) is stays by now h =
      by.gathered client number _ _
      (each_keep P heading.shards (λ shard. does heading (home_of heading client) shard (Asks client number ask))
      (λ shard less. by.done (home_of heading client) shard (Asks client number ask) tt less stays) now h)
  line_keeps (Step client number (act.Peek key)) is stays by now h = by.peeked client number _ now h
  line_keeps (Deliver member client number) is stays by now h = by.delivered member (made_by client number now) stays now h
  line_keeps (line.Report member) is stays by now h =
      each_keep P heading.shards (λ shard. does heading member shard Reports)
      (λ shard less. by.done member shard Reports tt less stays) now h
  line_keeps (Hear member of number) is stays by now h =
      each_keep P heading.shards (hears_of heading member of number) (λ shard less. by.heard member of number shard less stays) now h
  line_keeps (Sweep member moment) is stays by now h =
      each_keep P heading.shards (sweeps_at heading (departed past) member moment)
      (λ shard less mid k. by.done member shard (Sweeps moment) tt less stays (closes_all heading (departed past) member shard mid)
      (each_keep P heading.members (λ n. unless (not (is_gone (departed past) (suc n))) (closes heading member shard (suc n)))
      (λ n low. unless_keeps P (not (is_gone (departed past) (suc n))) (closes heading member shard (suc n))
      (λ e. by.closed member (suc n) shard less stays (not_false (is_gone (departed past) (suc n)) e))) mid k)) now h
  line_keeps (Join joiner provider) is stays by now h =
      each_keep P heading.shards (joins_at heading (departed past) joiner provider)
      (λ shard less. each_keep P heading.members
      (λ n. gives_unless (is_gone (departed past) (suc n) || suc n == joiner) heading joiner shard (suc n)
      (what_from (suc n == provider)))
      (λ n low. unless_given joiner shard (suc n) (is_gone (departed past) (suc n) || suc n == joiner) (what_from (suc n == provider))
      (λ e. by.given joiner shard (suc n) (what_from (suc n == provider)) less stays.0
      (staying_at heading (departed past) n low (or_left (is_gone (departed past) (suc n)) (suc n == joiner) e))
      (image_from provider n (suc n == provider) refl)))) now h
  line_keeps (Depart of) is stays by now h =
      each_keep P heading.shards (hands_over heading (of ∷ departed past) of)
      (λ shard less. handed_keeps heading (of ∷ departed past) P of shard
      (λ taker giver e at_giver. by.copied of shard taker giver less (or_right (of == taker) (is_gone (departed past) taker) e)
      (record { stated = at_giver.stated; stays = or_right (of == giver) (is_gone (departed past) giver) at_giver.stays }))) now h
  line_keeps (Leave client moment) is stays by now h = h
  line_keeps (Back client moment) is stays by now h = h

-- ---- what each deed keeps

-- What may be done at a member on a line, but for what it hears: it gives an image where the line says so.
abbrev pub MayDo : Line → ℕ → Doing → Type 0
MayDo one m (Calls client number ask) = Unit {0}
MayDo one m (Takes change) = Unit {0}
MayDo one m (Gives to gift) = gift ≡ what.Image → is_join_from m one ≡ true
MayDo one m (Merges image) = Unit {0}
MayDo one m Reports = Unit {0}
MayDo one m (Hears report) = ⊥
MayDo one m (Sweeps moment) = Unit {0}
MayDo one m (Asks client number ask) = Unit {0}

pub record IsKeptByDeeds (heading : Heading) (past : List Line) (one : Line) (P : List Event → Type 0) : Type 0 where
  pub done : (m s : ℕ) (doing : Doing) → MayDo one m doing → s < heading.shards → Stays past m → Keeps P (does heading m s doing)
  pub peeked : (client number : ℕ) (peek : Peek) → Keeps P (λ now. Peeked client number peek ∷ now)
  pub gathered : (client number : ℕ) (replies : List QueryReply) → Keeps P (λ now. Gathered client number replies ∷ now)
  pub heard : (m of number s : ℕ) → s < heading.shards → Stays past m → Keeps P (hears_of heading m of number s)
  pub closed : (m of s : ℕ) → s < heading.shards → Stays past m → is_gone (departed past) of ≡ true → Keeps P (closes heading m s of)

alone_may : (one : Line) (m : ℕ) (doing : Doing) → IsAlone doing → MayDo one m doing
alone_may one m (Calls client number ask) alone = tt
alone_may one m (Takes change) alone = tt
alone_may one m (Gives to gift) alone = absurd alone
alone_may one m (Merges image) alone = tt
alone_may one m Reports alone = tt
alone_may one m (Hears report) alone = alone
alone_may one m (Sweeps moment) alone = tt
alone_may one m (Asks client number ask) alone = tt

module _ (heading : Heading) (past : List Line) (one : Line) (P : List Event → Type 0) (is : IsHeading heading)
    (by : IsKeptByDeeds heading past one P) where
  all_taken : (m s : ℕ) (changes : List Change) → s < heading.shards → Stays past m → Keeps P (takes_all heading m s changes)
  all_taken m s [] less stays now h = h
  all_taken m s (change ∷ rest) less stays now h =
      all_taken m s rest less stays (does heading m s (Takes change) now) (by.done m s (Takes change) tt less stays now h)

  one_delivered : (m : ℕ) (change : Option Change) → Stays past m → Keeps P (delivers heading (departed past) m change)
  one_delivered m None stays now h = h
  one_delivered m (Some change) stays now h =
      unless_keeps P _ (does heading m (shard_of change.key heading.shards) (Takes change))
      (λ e. by.done m (shard_of change.key heading.shards) (Takes change) tt (at_shard heading change.key is) stays) now h

  one_given : (joiner s giver : ℕ) (gift : What) → s < heading.shards → Stays past joiner → Stays past giver
      → (gift ≡ what.Image → is_join_from giver one ≡ true) → Keeps P (gives heading joiner s giver gift)
  one_given joiner s giver what.Image less at_joiner at_giver may now h =
      by.done joiner s (Merges (image_of giver heading.floor (history giver s now))) tt less at_joiner
      (does heading giver s (Gives joiner what.Image) now)
      (by.done giver s (Gives joiner what.Image) may less at_giver now h)
  one_given joiner s giver what.Own less at_joiner at_giver may now h =
      all_taken joiner s (own_changes (history giver s now)) less at_joiner
      (does heading giver s (Gives joiner what.Own) now)
      (by.done giver s (Gives joiner what.Own) may less at_giver now h)

  pub kept_by : IsKeptBy heading past one P
  kept_by = record {
    done = λ m s doing alone. by.done m s doing (alone_may one m doing alone);
    peeked = by.peeked;
    gathered = by.gathered;
    delivered = one_delivered;
    given = λ joiner s giver gift less at_joiner at_giver may. one_given joiner s giver gift less at_joiner at_giver.stays may;
    heard = by.heard;
    closed = by.closed;
    copied = λ of s taker giver less stays at_giver now.
        takes_keep heading taker s P (reverse (taken_of of (history giver s now))) (λ change a. by.done taker s (Takes change) tt less stays)
        now;
  }
