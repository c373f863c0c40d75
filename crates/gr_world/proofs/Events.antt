-- What one event changes.
use Rattle.std.proofs.Common.{◌≡◌, ℕ, List, ◌∷◌, Bool, true, false, ◌&&◌, ◌==◌, refl, sym, ap, subst, inr}
use Rattle.std.proofs.Common.{arith, length, if◌then◌else◌}
use Rattle.std.specs.Prelude.{Option, Some, None, nat_le, max}
use Rattle.std.proofs.lemmas.Bool.Decides.{nat_tests}
use Rattle.gr_stamp.specs.declared.change.Change.{Change}
use Rattle.gr_stamp.specs.declared.change.Kind.{Kind}
use Rattle.gr_stamp.specs.declared.stamp.TheConstants.{LIMIT}
use Rattle.gr_vector.specs.Ids.{Id, top}
use Rattle.gr_vector.specs.declared.report.Report.{Report}
use Rattle.gr_history.specs.declared.ask.Ask.{Ask}
use Rattle.gr_history.specs.declared.reply.Reply.{Reply}
use Rattle.gr_history.specs.declared.reply.Reply.TheVariants.{Limit, NotReady}
use Rattle.gr_history.specs.declared.reply.Told.{Told}
use Rattle.gr_history.specs.declared.identity.Identity.{Identity}
use Rattle.gr_history.specs.declared.deed.Deed.{Deed}
use Rattle.gr_history.specs.declared.deed.Deed.TheVariants.{Call, Asked, Taken, Gave, Imaged, Reported, Heard, Swept}
use Rattle.gr_history.specs.Asks.{at_key, key_of, told as table}
use Rattle.gr_history.specs.Calls.{call_gives, given, nothing_made, made_change, reach, last_rv}
use Rattle.gr_history.specs.Recipients.{recipients, is_ready}
use Rattle.gr_history.specs.Ids.{ids, known}
use Rattle.gr_history.specs.Made.{made, made_at}
use Rattle.gr_history.specs.Gifts.{IsReportOf, report_of}
use Rattle.gr_history.specs.Lawful.{IsLawfulDeed}
use Rattle.gr_history.specs.Room.{IsSameDeed, IsSameReport, bare}
use Rattle.gr_history.specs.Standing.{there, present}
use Rattle.gr_law.specs.Grids.{Among}
use Rattle.gr_law.specs.Integrity.{HasNoImage}
use Rattle.gr_law.proofs.Lists.{among_right}
use Rattle.gr_script.specs.Rules.{Heading}
use Rattle.gr_world.specs.Events.{Event, Did, Peeked, Gathered, put_if, history}
use Rattle.gr_shard.specs.Calls.{call_with}
use Rattle.gr_world.specs.Doings.{Doing, Calls, Takes, Gives, Merges, Reports, Hears, Sweeps, Asks, deed_of}
use Rattle.gr_world.specs.Courses.{does}
use Rattle.gr_world.specs.Doings.{Says}

pub same_number : (n : ℕ) → (n == n) ≡ true
same_number n = grind (arith, nat_tests)

pub equal_numbers : (a b : ℕ) → (a == b) ≡ true → a ≡ b
equal_numbers a b h = grind (arith, nat_tests)

-- where the deed is added
pub history_here : (m s : ℕ) (deed : Deed) (before : List Event) → history m s (Did m s deed ∷ before) ≡ deed ∷ history m s before
history_here m s deed before = rw (same_number s, same_number m) refl

-- a fact of a history that the deed keeps holds of each history with it
pub at_put : (P : List Deed → Type 0) (b : Bool) (deed : Deed) (past : List Deed) → P past → (P past → P (deed ∷ past))
    → P (put_if b deed past)
at_put P true deed past h more = more h
at_put P false deed past h more = h

pub more_among : (i t : ℕ) (one : Deed) (event : Event) (before : List Event) → Among one (history i t before)
    → Among one (history i t (event ∷ before))
more_among i t one (Did m s deed) before h = at_put (Among one) (t == s && i == m) deed (history i t before) h (λ a. inr a)
more_among i t one (Peeked client number peek) before h = h
more_among i t one (Gathered client number replies) before h = h

pub more_made : (i t : ℕ) (change : Change) (event : Event) (before : List Event) → Among change (made (history i t before))
    → Among change (made (history i t (event ∷ before)))
more_made i t change (Did m s deed) before h =
    at_put (λ past. Among change (made past)) (t == s && i == m) deed (history i t before) h
    (λ a. among_right change (made_at deed) (made (history i t before)) a)
more_made i t change (Peeked client number peek) before h = h
more_made i t change (Gathered client number replies) before h = h

-- whether an image is merged at the member
abbrev pub Spares : ℕ → ℕ → Doing → Type 0
Spares j m (Calls client number ask) = Unit {0}
Spares j m (Takes change) = Unit {0}
Spares j m (Gives to what) = Unit {0}
Spares j m (Merges image) = (m ≡ j) → ⊥
Spares j m Reports = Unit {0}
Spares j m (Hears report) = Unit {0}
Spares j m (Sweeps moment) = Unit {0}
Spares j m (Asks client number ask) = Unit {0}

pub no_image : (heading : Heading) (j t m s : ℕ) (doing : Doing) (before : List Event) → Spares j m doing → HasNoImage (history j t
    before)
    → HasNoImage (history j t (does heading m s doing before))
no_image heading j t m s (Calls client number ask) before h none =
    at_put HasNoImage (t == s && j == m) _ (history j t before) none (λ a. a)
no_image heading j t m s (Takes change) before h none = at_put HasNoImage (t == s && j == m) _ (history j t before) none (λ a. a)
no_image heading j t m s (Gives to what) before h none = at_put HasNoImage (t == s && j == m) _ (history j t before) none (λ a. a)
no_image heading j t m s (Merges image) before h none = at_test (t == s) (j == m) refl
  where
    at_test : (a b : Bool) → (j == m) ≡ b → HasNoImage (put_if (a && b) (Imaged image) (history j t before))
    at_test true true e = absurd (h (sym (equal_numbers j m e)))
    at_test true false e = none
    at_test false b e = none
no_image heading j t m s Reports before h none = at_put HasNoImage (t == s && j == m) _ (history j t before) none (λ a. a)
no_image heading j t m s (Hears report) before h none = at_put HasNoImage (t == s && j == m) _ (history j t before) none (λ a. a)
no_image heading j t m s (Sweeps moment) before h none = at_put HasNoImage (t == s && j == m) _ (history j t before) none (λ a. a)
no_image heading j t m s (Asks client number ask) before h none =
    at_put HasNoImage (t == s && j == m) _ (history j t before) none (λ a. a)

-- Nothing changes at another shard.
pub other_shard : (i t m s : ℕ) (deed : Deed) (before : List Event) → ((t ≡ s) → ⊥)
    → history i t (Did m s deed ∷ before) ≡ history i t before
other_shard i t m s deed before h = at_test (t == s) refl
  where
    at_test : (a : Bool) → (t == s) ≡ a → put_if (a && i == m) deed (history i t before) ≡ history i t before
    at_test true e = absurd (h (equal_numbers t s e))
    at_test false e = refl

given_key : (id : Identity) (opening : ℕ) (past : List Deed) (key : List ℕ) (reply : Reply) (kind : Option Kind) (change : Change)
    → (given id opening past key reply kind).made ≡ Some change → change.key ≡ key
given_key id opening past key reply None change h = absurd (cc)
given_key id opening past key reply (Some kind) change h = at_test (nat_le LIMIT (max (reach opening key past) (last_rv id past))) h
  where
    same : (one : Change) → Some one ≡ Some change → change.key ≡ one.key
    same one e = cc

    at_test : (b : Bool)
        → (if b then nothing_made Limit else record {
          reply = reply;
          made = Some (made_change id opening past key kind);
          to =
              recipients id past;
        }).made ≡ Some change
        → change.key ≡ key
    at_test true h = absurd (no h)
      where
        no : None ≡ Some change → ⊥
        no e = cc
    at_test false h = same (made_change id opening past key kind) h

-- a change that a call makes is of its key
pub gives_key : (id : Identity) (opening : ℕ) (past : List Deed) (ask : Ask) (change : Change)
    → (call_gives id opening past ask).made ≡ Some change → change.key ≡ key_of ask
gives_key id opening past ask change h = at_test (is_ready id past) h
  where
    answered : Told
    answered = table ask (at_key (there (key_of ask) past) (present (key_of ask) past))

    at_test : (b : Bool)
        → (if b then given id opening past (key_of ask) answered.reply answered.change else nothing_made NotReady).made ≡ Some change
        → change.key ≡ key_of ask
    at_test true h = given_key id opening past (key_of ask) answered.reply answered.change change h
    at_test false h = absurd (no h)
      where
        no : None ≡ Some change → ⊥
        no e = cc

report_is : (id : Identity) (past : List Deed) (report : Report) → IsReportOf id past report → IsSameReport report (report_of id past)
report_is id past report is =
    named report.member id.member report.at (length past) report.own (top id.member (ids past)) report.to (recipients id past)
    report.vector.ids (known past) is.member_is is.at_is is.own_is is.to_is is.vector_is
  where
    told_with : ℕ → ℕ → ℕ → ℕ → List Id → Report
    told_with a b c d v = record { member = a; at = b; own = c; to = d; vector = record { ids = v; spare = 0 } }

    named : (a b c d e f g h : ℕ) (v w : List Id) → a ≡ b → c ≡ d → e ≡ f → g ≡ h → v ≡ w → told_with a c e g v ≡ told_with b d f h w
    named a b c d e f g h v w i j k l m = cc

-- deeds that are the same say the same
same_deed : (one two : Deed) → one ≡ two → IsSameDeed one two
same_deed one two is = ap bare is

-- Each thing that is done has one lawful deed, room to spare apart.
pub one_deed : (id : Identity) (opening : ℕ) (past : List Deed) (deed : Deed) (doing : Doing) → Says deed doing
    → IsLawfulDeed id opening deed past
    → IsSameDeed deed (deed_of id opening past doing)
one_deed id opening past (Call client to number ask reply made) doing says law =
    subst (λ d. IsSameDeed (Call client to number ask reply made) (deed_of id opening past d)) (sym says)
    (same_deed _ _ (ap (call_with client number ask) law))
one_deed id opening past (Asked client number ask reply) doing says law =
    subst (λ d. IsSameDeed (Asked client number ask reply) (deed_of id opening past d)) (sym says)
    (same_deed _ _ (ap (Asked client number ask) law))
one_deed id opening past (Taken change how) doing says law =
    subst (λ d. IsSameDeed (Taken change how) (deed_of id opening past d)) (sym says) (same_deed _ _ (ap (Taken change) law))
one_deed id opening past (Gave to what) doing says law =
    subst (λ d. IsSameDeed (Gave to what) (deed_of id opening past d)) (sym says) refl
one_deed id opening past (Imaged image) doing says law =
    subst (λ d. IsSameDeed (Imaged image) (deed_of id opening past d)) (sym says) refl
one_deed id opening past (Reported report) doing says law =
    subst (λ d. IsSameDeed (Reported report) (deed_of id opening past d)) (sym says)
    (ap Reported (report_is id past report law))
one_deed id opening past (Heard report) doing says law =
    subst (λ d. IsSameDeed (Heard report) (deed_of id opening past d)) (sym says) refl
one_deed id opening past (Swept moment keys) doing says law =
    subst (λ d. IsSameDeed (Swept moment keys) (deed_of id opening past d)) (sym says) (same_deed _ _ (ap (Swept moment) law))
