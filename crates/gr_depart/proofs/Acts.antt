-- What is done for each number, and to what is seen of a shard.
use Rattle.std.proofs.Common.{◌≡◌, ◌∙◌, ap, sym, subst, ℕ, ◌+◌, ◌<◌, List, [], ◌∷◌, length, take, reverse, get_or}
use Rattle.std.proofs.Common.{◌++◌, ◌==◌, Bool, true, false, not, if◌then◌else◌, ◌&&◌, Option, Some}
use Rattle.std.proofs.lemmas.Grind.{reverse_onto}
use Rattle.std.proofs.lemmas.List.{append-nil, length-reverse, reverse-reverse, take_more}
use Rattle.gr_value.specs.Shard.{shard_of}
use Rattle.gr_stamp.specs.declared.change.Change.{Change}
use Rattle.gr_vector.specs.declared.report.Report.{Report}
use Rattle.gr_vector.specs.Ids.{Ids, has_id}
use Rattle.gr_history.specs.declared.deed.Deed.{Deed}
use Rattle.gr_history.specs.declared.deed.Deed.TheVariants.{Call, Asked, Taken, Gave, Imaged, Reported, Heard, Swept}
use Rattle.gr_history.specs.Gifts.{vector_of}
use Rattle.gr_history.specs.Ids.{id_of, ids}
use Rattle.gr_shard.specs.View.{Account}
use Rattle.gr_script.specs.declared.line.Act.{Act}
use Rattle.gr_script.specs.declared.line.Act.TheVariants as act
use Rattle.gr_script.specs.declared.line.Line.TheVariants.{Deliver, Step}
use Rattle.gr_script.specs.Rules.{Heading}
use Rattle.gr_script.specs.Steps.{is_gone}
use Rattle.gr_world.specs.declared.world.World.{World}
use Rattle.gr_world.specs.Courses.{after, closes, copies, delivers, does, takes_new, takes_new_all, unless}
use Rattle.gr_world.specs.Departures.{behind_all, closing_report, taken_of}
use Rattle.gr_world.specs.Doings.{Hears, Takes}
use Rattle.gr_world.specs.Events.{Event, history}
use Rattle.gr_world.specs.Named.{made_by}
use Rattle.gr_world.specs.Worlds.{IsWorld, Plays, account_left}

-- A shard that is seen is the course's.
abbrev pub IsSeen : Heading → World → ℕ → ℕ → Account → Type 0
IsSeen heading world member shard seen = (events : List Event) → IsWorld heading events world → seen ≡ account_left heading events member shard

-- What is told by its history is told by the course's.
pub seen_past : {X : Type 0} (F : List Deed → X) (heading : Heading) (world : World) (member shard : ℕ) (seen : Account)
    → IsSeen heading world member shard seen → (events : List Event) → IsWorld heading events world
    → F (reverse seen.deeds) ≡ F (history member shard events)
seen_past F heading world member shard seen is events left =
    ap (λ (account : Account). F (reverse account.deeds)) (is events left) ∙ ap F (reverse-reverse (history member shard events))

pub close_plays : (heading : Heading) (old new : World) (member shard of : ℕ) (seen : Account) (report : Report)
    → IsSeen heading old member shard seen → report ≡ closing_report of (reverse seen.deeds)
    → Plays heading (does heading member shard (Hears report)) old new
    → Plays heading (closes heading member shard of) old new
close_plays heading old new member shard of seen report is made plays events left =
    subst (λ one. IsWorld heading (does heading member shard (Hears one) events) new)
    (made ∙ seen_past (closing_report of) heading old member shard seen is events left) (plays events left)

-- What one took in another takes in.
pub copies_plays : (heading : Heading) (old new : World) (of shard taker giver : ℕ) (seen : Account) (taken : List Change)
    → IsSeen heading old giver shard seen → taken ≡ reverse (taken_of of (reverse seen.deeds))
    → Plays heading (takes_new_all heading taker shard taken) old new
    → Plays heading (copies heading of shard taker giver) old new
copies_plays heading old new of shard taker giver seen taken is all plays events left =
    subst (λ changes. IsWorld heading (takes_new_all heading taker shard changes events) new)
    (all ∙ seen_past (λ past. reverse (taken_of of past)) heading old giver shard seen is events left) (plays events left)

abbrev report_with : ℕ → ℕ → Ids → Report
report_with of long vector = record { member = of; at = 1152921504606846976 + long; own = 0; to = 0; vector = vector }

-- A report at this place, with this vector, is the closing one.
pub closing_is : (of : ℕ) (deeds : List Deed) (long : ℕ) (vector : Ids) → long ≡ length deeds → vector ≡ vector_of (reverse deeds)
    → report_with of long vector ≡ closing_report of (reverse deeds)
unfolding behind_all
closing_is of deeds long vector is_long is_vector =
    ap (λ n. report_with of n vector) (is_long ∙ sym (length-reverse deeds)) ∙ ap (report_with of (length (reverse deeds))) is_vector

-- A step is done alike, whoever departed.
pub step_plays : (heading : Heading) (gone : List ℕ) (old new : World) (client seq : ℕ) (step : Act)
    → Plays heading (after heading [] (Step client seq step)) old new → Plays heading (after heading gone (Step client seq step)) old new
step_plays heading gone old new client seq (act.Call ask) plays = plays
step_plays heading gone old new client seq (act.Query ask) plays = plays
step_plays heading gone old new client seq (act.Peek key) plays = plays

-- A change is taken in, unless it is known.
pub take_new_plays : (heading : Heading) (old new : World) (member shard : ℕ) (change : Change) (seen : Account) (b : Bool)
    → IsSeen heading old member shard seen → b ≡ has_id (id_of change) (ids (reverse seen.deeds))
    → Plays heading (unless b (does heading member shard (Takes change))) old new
    → Plays heading (takes_new heading member shard change) old new
take_new_plays heading old new member shard change seen b is known plays events left =
    subst (λ one. IsWorld heading (unless one (does heading member shard (Takes change)) events) new)
    (known ∙ seen_past (λ past. has_id (id_of change) (ids past)) heading old member shard seen is events left) (plays events left)

-- A change that is delivered is taken in at its shard, but no new one of a member that departed.
pub delivered : (heading : Heading) (gone : List ℕ) (old new : World) (member shard : ℕ) (change : Change) (seen : Account) (out known : Bool)
    → shard ≡ shard_of change.key heading.shards → IsSeen heading old member shard seen
    → out ≡ is_gone gone change.stamp.member → known ≡ has_id (id_of change) (ids (reverse seen.deeds))
    → Plays heading (unless (out && not known) (does heading member shard (Takes change))) old new
    → Plays heading (delivers heading gone member (Some change)) old new
delivered heading gone old new member shard change seen out known at is departed knows plays events left =
    subst (λ s. IsWorld heading (unless (is_gone gone change.stamp.member && not (has_id (id_of change) (ids (history member s events))))
    (does heading member s (Takes change)) events) new) at
    (subst (λ k. IsWorld heading (unless (is_gone gone change.stamp.member && not k) (does heading member shard (Takes change)) events) new)
    (knows ∙ seen_past (λ past. has_id (id_of change) (ids past)) heading old member shard seen is events left)
    (subst (λ o. IsWorld heading (unless (o && not known) (does heading member shard (Takes change)) events) new) departed
    (plays events left)))

pub deliver_plays : (heading : Heading) (gone : List ℕ) (old new : World) (to client seq : ℕ) (made : Option Change)
    → ((events : List Event) → IsWorld heading events old → made ≡ made_by client seq events)
    → Plays heading (delivers heading gone to made) old new
    → Plays heading (after heading gone (Deliver to client seq)) old new
deliver_plays heading gone old new to client seq made is plays events left =
    subst (λ one. IsWorld heading (delivers heading gone to one events) new) (is events left) (plays events left)

-- ---- what was taken in

-- A deed more that was taken in stands last, where the newest one comes first no more.
taken_last : (of : ℕ) (deed : Deed) (past : List Deed)
    → reverse (taken_of of (deed ∷ past)) ≡ reverse (taken_of of past) ++ taken_of of (deed ∷ [])
taken_last of (Call client to seq ask reply made) past = sym (append-nil (reverse (taken_of of past)))
taken_last of (Asked client seq ask reply) past = sym (append-nil (reverse (taken_of of past)))
taken_last of (Taken change verdict) past = at_test (change.stamp.member == of)
  where
    at_test : (b : Bool) → reverse (if b then change ∷ taken_of of past else taken_of of past)
        ≡ reverse (taken_of of past) ++ (if b then change ∷ [] else [])
    at_test true = reverse_onto (taken_of of past) change []
    at_test false = sym (append-nil (reverse (taken_of of past)))
taken_last of (Gave to what) past = sym (append-nil (reverse (taken_of of past)))
taken_last of (Imaged image) past = sym (append-nil (reverse (taken_of of past)))
taken_last of (Reported report) past = sym (append-nil (reverse (taken_of of past)))
taken_last of (Heard report) past = sym (append-nil (reverse (taken_of of past)))
taken_last of (Swept moment expired) past = sym (append-nil (reverse (taken_of of past)))

pub taken_next : (of : ℕ) (deeds : List Deed) (i : ℕ) (deed : Deed) → i < length deeds → deed ≡ get_or deeds i deed
    → reverse (taken_of of (reverse (take i deeds))) ++ taken_of of (deed ∷ []) ≡ reverse (taken_of of (reverse (take (i + 1) deeds)))
taken_next of deeds i deed less is =
    sym (taken_last of deed (reverse (take i deeds)))
    ∙ ap (λ past. reverse (taken_of of past))
    (sym (ap (λ all. reverse all) (take_more deeds i deed less ∙ ap (λ one. take i deeds ++ one ∷ []) (sym is))
    ∙ reverse_snoc (take i deeds) deed))
  where
    reverse_snoc : (xs : List Deed) (x : Deed) → reverse (xs ++ x ∷ []) ≡ x ∷ reverse xs
    reverse_snoc xs x = ap (λ all. reverse (all ++ x ∷ [])) (sym (reverse-reverse xs))
        ∙ ap (λ all. reverse all) (sym (reverse_onto (reverse xs) x [])) ∙ reverse-reverse (x ∷ reverse xs)
