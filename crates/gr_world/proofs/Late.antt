-- A peek is behind the deeds of the client's earlier steps, and its earlier peeks.
use Rattle.std.proofs.Common.{zero, suc, ◌≡◌, ℕ, ◌≤◌, ◌<◌, List, [], ◌∷◌, Bool, true, false, ◌&&◌, ◌==◌, refl, sym, ap}
use Rattle.std.proofs.Common.{◌∙◌, subst, inl, inr}
use Rattle.std.proofs.Common.{arith, length, if◌then◌else◌}
use Rattle.std.specs.Prelude.{Option, Some, None}
use Rattle.std.proofs.lemmas.Bool.Decides.{nat_tests}
use Rattle.gr_value.specs.Shard.{shard_of}
use Rattle.gr_history.specs.declared.query_ask.QueryAsk.{QueryAsk}
use Rattle.gr_history.specs.declared.record.Answer.TheVariants as answer
use Rattle.gr_history.specs.declared.deed.Deed.{Deed}
use Rattle.gr_history.specs.declared.deed.Deed.TheVariants.{Call, Asked, Taken, Gave, Imaged, Reported, Heard, Swept}
use Rattle.gr_law.specs.Grids.{Among, Older}
use Rattle.gr_script.specs.declared.line.Act.TheVariants as act
use Rattle.gr_script.specs.declared.line.Line.{Line}
use Rattle.gr_script.specs.declared.line.Line.TheVariants.{Step, Deliver, Hear, Sweep, Join, Depart, Leave, Back}
use Rattle.gr_script.specs.declared.line.Line.TheVariants as line
use Rattle.gr_script.specs.Rules.{Heading, IsHeading, home_of, AllStand}
use Rattle.gr_script.specs.Steps.{departed}
use Rattle.gr_world.specs.Events.{Event, Did, Peek, Peeked, Gathered, put_if, history}
use Rattle.gr_world.specs.Courses.{does, asks_at_each, course}
use Rattle.gr_world.specs.Doings.{Doing, Calls, Takes, Gives, Merges, Reports, Hears, Sweeps, Asks}
use Rattle.gr_world.specs.Causes.{IsNextEvent, IsCausal}
use Rattle.gr_world.specs.Clients.{add_some, Numbered, told_by_deed, told_by, told}
use Rattle.gr_world.specs.Served.{number_in}
use Rattle.gr_world.proofs.Causal.{course_causal}
use Rattle.gr_world.proofs.Clients.{IsQuiet, quiet_keeps, counted, answers_stand-holds}
use Rattle.gr_world.proofs.Events.{equal_numbers}
use Rattle.gr_world.proofs.Numbers.{numbers, AllBelow, Descends, numbers_descend-holds}
use Rattle.gr_world.proofs.Peeks.{older_length, seen_at}

among_added : (x : ℕ) (o : Option Numbered) (rest : List Numbered) → Among x (counted rest) → Among x (counted (add_some o rest))
among_added x None rest a = a
among_added x (Some one) rest a = inr a

peek_counted : (client number : ℕ) (peek : Peek) (events : List Event)
    → Among (Peeked client number peek) events → Among number (counted (told client events))
peek_counted client number peek [] a = absurd a
peek_counted client number peek (event ∷ before) (inl is) =
    subst (λ e. Among number (counted (add_some (told_by client e) (told client before)))) is (rw itself (inl refl))
  where
    itself : (client == client) ≡ true
    itself = grind (arith, nat_tests)
peek_counted client number peek (event ∷ before) (inr a) =
    among_added number (told_by client event) (told client before) (peek_counted client number peek before a)

descends_rest : (o : Option Numbered) (rest : List Numbered) → Descends (counted (add_some o rest)) → Descends (counted rest)
descends_rest None rest h = h
descends_rest (Some one) rest h = h.1

below_among : (n x : ℕ) (xs : List ℕ) → AllBelow n xs → Among x xs → x < n
below_among n x [] h a = absurd a
below_among n x (first ∷ rest) h (inl is) = omega (arith, h.0, is)
below_among n x (first ∷ rest) h (inr a) = below_among n x rest h.1 a

-- ---- a step on a query that is newer than a peek has a greater number

abbrev PeeksBelow : ℕ → ℕ → List Event → Type 0
PeeksBelow client number before = (earlier : ℕ) (peek : Peek)
    → Among (Peeked client earlier peek) before → earlier < number

abbrev Follows : Deed → List Event → Type 0
Follows (Asked client number ask reply) before = PeeksBelow client number before
Follows _ before = Unit {0}

abbrev AllFollow : List Event → Type 0
AllFollow [] = Unit {0}
AllFollow (Did m s deed ∷ before) = Follows deed before × AllFollow before
AllFollow (Peeked client number peek ∷ before) = AllFollow before
AllFollow (Gathered client number replies ∷ before) = AllFollow before

quiet_follow : (heading : Heading) (m s : ℕ) (doing : Doing) (now : List Event) → IsQuiet doing → AllFollow now
    → AllFollow (does heading m s doing now)
quiet_follow heading m s (Calls client number ask) now quiet h = absurd quiet
quiet_follow heading m s (Takes change) now quiet h = (tt, h)
quiet_follow heading m s (Gives to what) now quiet h = (tt, h)
quiet_follow heading m s (Merges image) now quiet h = (tt, h)
quiet_follow heading m s Reports now quiet h = (tt, h)
quiet_follow heading m s (Hears report) now quiet h = (tt, h)
quiet_follow heading m s (Sweeps moment) now quiet h = (tt, h)
quiet_follow heading m s (Asks client number ask) now quiet h = absurd quiet

-- a deed is no peek
past_deed : (client earlier : ℕ) (peek : Peek) (m s : ℕ) (deed : Deed) (now : List Event)
    → Among (Peeked client earlier peek) (Did m s deed ∷ now) → Among (Peeked client earlier peek) now
past_deed client earlier peek m s deed now (inl is) = absurd (no is)
  where
    no : Peeked client earlier peek ≡ Did m s deed → ⊥
    no e = cc
past_deed client earlier peek m s deed now (inr a) = a

asks_follow : (heading : Heading) (client number : ℕ) (ask : QueryAsk) (n : ℕ) (before : List Event) → PeeksBelow client number before
    → AllFollow before
    → PeeksBelow client number (asks_at_each heading client number ask n before)
    × AllFollow (asks_at_each heading client number ask n before)
asks_follow heading client number ask zero before below follow = (below, follow)
asks_follow heading client number ask (suc n) before below follow =
    let so_far = asks_follow heading client number ask n before below follow in (
      λ earlier peek a. so_far.0 earlier peek (past_deed client earlier peek _ _ _ _ a),
      so_far,
    )

-- each peek of the client has a number of its steps
peek_number : (heading : Heading) (past : List Line) (client earlier : ℕ) (peek : Peek)
    → Among (Peeked client earlier peek) (course heading past) → Among earlier (numbers client past)
peek_number heading past client earlier peek a =
    subst (Among earlier) (answers_stand-holds heading past client) (peek_counted client earlier peek (course heading past) a)

all_follow : (heading : Heading) (past : List Line) → AllStand heading past → AllFollow (course heading past)
all_follow heading [] stand = tt
all_follow heading (Step client number (act.Call ask) ∷ past) stand = (tt, all_follow heading past stand.1)
all_follow heading (Step client number (act.Peek key) ∷ past) stand = all_follow heading past stand.1
all_follow heading (Step client number (act.Query ask) ∷ past) stand =
    (asks_follow heading client number ask heading.shards (course heading past)
    (λ earlier peek a. below_among number earlier (numbers client past) below
    (peek_number heading past client earlier peek a))
    (all_follow heading past stand.1)).1
  where
    itself : (client == client) ≡ true
    itself = grind (arith, nat_tests)

    at_head : Descends (numbers client (Step client number (act.Query ask) ∷ past)) → AllBelow number (numbers client past)
    at_head d = (rw itself at d).0

    below : AllBelow number (numbers client past)
    below = at_head (numbers_descend-holds heading client (Step client number (act.Query ask) ∷ past) stand)
all_follow heading (Deliver to client number ∷ past) stand =
    quiet_keeps heading (departed past) AllFollow (quiet_follow heading) (Deliver to client number) (course heading past) tt
    (all_follow heading past stand.1)
all_follow heading (line.Report member ∷ past) stand =
    quiet_keeps heading (departed past) AllFollow (quiet_follow heading) (line.Report member) (course heading past) tt (all_follow heading past stand.1)
all_follow heading (Hear by of number ∷ past) stand =
    quiet_keeps heading (departed past) AllFollow (quiet_follow heading) (Hear by of number) (course heading past) tt (all_follow heading past stand.1)
all_follow heading (Sweep member moment ∷ past) stand =
    quiet_keeps heading (departed past) AllFollow (quiet_follow heading) (Sweep member moment) (course heading past) tt (all_follow heading past stand.1)
all_follow heading (Join joiner provider ∷ past) stand =
    quiet_keeps heading (departed past) AllFollow (quiet_follow heading) (Join joiner provider) (course heading past) tt
    (all_follow heading past stand.1)
all_follow heading (Depart member ∷ past) stand =
    quiet_keeps heading (departed past) AllFollow (quiet_follow heading) (Depart member) (course heading past) tt
    (all_follow heading past stand.1)
all_follow heading (Leave client moment ∷ past) stand =
    quiet_keeps heading (departed past) AllFollow (quiet_follow heading) (Leave client moment) (course heading past) tt
    (all_follow heading past stand.1)
all_follow heading (Back client moment ∷ past) stand =
    quiet_keeps heading (departed past) AllFollow (quiet_follow heading) (Back client moment) (course heading past) tt
    (all_follow heading past stand.1)

-- ---- a deed of a client's step that is newer than a peek has a greater number

same_in_some : (one other : ℕ) → Some one ≡ Some other → one ≡ other
same_in_some one other e = cc

none_isnt_some : (one : ℕ) → None ≡ Some one → ⊥
none_isnt_some one e = cc

newer : (client number earlier : ℕ) (peek : Peek) (before : List Event) (deed : Deed)
    → number_in client deed ≡ Some earlier → Follows deed before
    → Descends (counted (add_some (told_by_deed client deed) (told client before)))
    → Among (Peeked client number peek) before → number < earlier
newer client number earlier peek before (Call own to seq wish reply made) is follows desc a = at_test (own == client) is desc
  where
    at_test : (b : Bool) → (if b then Some seq else None) ≡ Some earlier
        → Descends (counted (add_some (if b then Some (record { number = seq; answer = answer.Reply reply }) else None) (told client before)))
        → number < earlier
    at_test true h d =
        subst (λ n. number < n) (same_in_some seq earlier h)
        (below_among seq number (counted (told client before)) d.0 (peek_counted client number peek before a))
    at_test false h d = absurd (none_isnt_some earlier h)
newer client number earlier peek before (Asked own seq wish reply) is follows desc a = at_test (own == client) refl is
  where
    at_test : (b : Bool) → (own == client) ≡ b → (if b then Some seq else None) ≡ Some earlier → number < earlier
    at_test true e h =
        subst (λ n. number < n) (same_in_some seq earlier h)
        (follows number peek (subst (λ c. Among (Peeked c number peek) before) (sym (equal_numbers own client e)) a))
    at_test false e h = absurd (none_isnt_some earlier h)
newer client number earlier peek before (Taken change verdict) is follows desc a = absurd (none_isnt_some earlier is)
newer client number earlier peek before (Gave to what) is follows desc a = absurd (none_isnt_some earlier is)
newer client number earlier peek before (Imaged image) is follows desc a = absurd (none_isnt_some earlier is)
newer client number earlier peek before (Reported report) is follows desc a = absurd (none_isnt_some earlier is)
newer client number earlier peek before (Heard report) is follows desc a = absurd (none_isnt_some earlier is)
newer client number earlier peek before (Swept moment expired) is follows desc a = absurd (none_isnt_some earlier is)

late : (heading : Heading) (gone : List ℕ) (events : List Event) → IsCausal heading gone events → AllFollow events
    → (client number : ℕ) (peek : Peek)
    → Descends (counted (told client events)) → Among (Peeked client number peek) events
    → (earlier : ℕ) (deed : Deed) (past : List Deed) → number_in client deed ≡ Some earlier
    → Older (deed ∷ past) (history (home_of heading client) (shard_of peek.key heading.shards) events)
    → earlier < number → suc (length past) ≤ peek.at
late heading gone [] h follow client number peek desc a earlier deed past is o less = absurd a
late heading gone (Peeked own seq which ∷ before) h follow client number peek desc (inl told) earlier deed past is o less =
    let next : IsNextEvent heading gone (Peeked client number peek) before = subst (λ e. IsNextEvent heading gone e before) (sym told) h.0 in
    let long = older_length (deed ∷ past) (history (home_of heading client) (shard_of peek.key heading.shards) before) o in
    omega (arith, long, next.1)
late heading gone (Peeked own seq which ∷ before) h follow client number peek desc (inr a) earlier deed past is o less =
    late heading gone before h.1 follow client number peek
    (descends_rest (told_by client (Peeked own seq which)) (told client before) desc) a earlier deed past is o less
late heading gone (Gathered own seq replies ∷ before) h follow client number peek desc (inl told) earlier deed past is o less =
    absurd (no told)
  where
    no : Peeked client number peek ≡ Gathered own seq replies → ⊥
    no e = cc
late heading gone (Gathered own seq replies ∷ before) h follow client number peek desc (inr a) earlier deed past is o less =
    late heading gone before h.1 follow client number peek
    (descends_rest (told_by client (Gathered own seq replies)) (told client before) desc) a earlier deed past is o less
late heading gone (Did m s did ∷ before) h follow client number peek desc a earlier deed past is o less =
    at_test (shard_of peek.key heading.shards == s && home_of heading client == m)
    (λ o. late heading gone before h.1 follow.1 client number peek
    (descends_rest (told_by_deed client did) (told client before) desc) earlier_peek earlier deed past is o less) o
  where
    earlier_peek : Among (Peeked client number peek) before
    earlier_peek = past_deed client number peek m s did before a

    head : deed ∷ past ≡ did ∷ history (home_of heading client) (shard_of peek.key heading.shards) before → deed ≡ did
    head e = cc

    at_test : (b : Bool)
        → (Older (deed ∷ past) (history (home_of heading client) (shard_of peek.key heading.shards) before) → suc (length past) ≤ peek.at)
        → Older (deed ∷ past) (put_if b did (history (home_of heading client) (shard_of peek.key heading.shards) before))
        → suc (length past) ≤ peek.at
    at_test true next (inl same) =
        let k = newer client number earlier peek before did (sym (ap (number_in client) (head same)) ∙ is) follow.0 desc earlier_peek in
        absurd (omega (arith, k, less))
    at_test true next (inr o) = next o
    at_test false next o = next o

-- A peek names a place behind each deed of the client's earlier steps at that shard.
pub peeks_late : (heading : Heading) (past : List Line) → IsHeading heading → AllStand heading past
    → (client number : ℕ) (peek : Peek)
    → Among (Peeked client number peek) (course heading past)
    → (earlier : ℕ) (deed : Deed) (before : List Deed) → number_in client deed ≡ Some earlier
    → Older (deed ∷ before) (history (home_of heading client) (shard_of peek.key heading.shards) (course heading past))
    → earlier < number → suc (length before) ≤ peek.at
peeks_late heading past is_heading stand client number peek a earlier deed before is o less =
    late heading (departed past) (course heading past) (course_causal heading past is_heading stand) (all_follow heading past stand) client
    number peek
    (subst Descends (sym (answers_stand-holds heading past client))
    (numbers_descend-holds heading client past stand)) a earlier deed before is o less

grows : (heading : Heading) (gone : List ℕ) (events : List Event) → IsCausal heading gone events
    → (client number earlier : ℕ) (peek other : Peek)
    → Descends (counted (told client events)) → Among (Peeked client number peek) events
    → Among (Peeked client earlier other) events
    → shard_of other.key heading.shards ≡ shard_of peek.key heading.shards → earlier < number → other.at ≤ peek.at
grows heading gone [] h client number earlier peek other desc a b shard less = absurd a
grows heading gone (event ∷ before) h client number earlier peek other desc (inl is) (inl also) shard less =
    let same : number ≡ earlier = numbers_same (is ∙ sym also) in absurd (omega (arith, same, less))
  where
    numbers_same : Peeked client number peek ≡ Peeked client earlier other → number ≡ earlier
    numbers_same e = cc
grows heading gone (event ∷ before) h client number earlier peek other desc (inl is) (inr b) shard less =
    let next : IsNextEvent heading gone (Peeked client number peek) before = subst (λ e. IsNextEvent heading gone e before) (sym is) h.0 in
    let found = seen_at heading gone before h.1 client earlier other b in
    let long = older_length found.0 (history (home_of heading client) (shard_of other.key heading.shards) before) found.1.older in
    let here : length (history (home_of heading client) (shard_of other.key heading.shards) before) ≡ length
    (history (home_of heading client) (shard_of peek.key heading.shards) before) =
    ap (λ s. length (history (home_of heading client) s before)) shard in
    omega (arith, long, found.1.at_is, here, next.1)
grows heading gone (event ∷ before) h client number earlier peek other desc (inr a) (inl also) shard less =
    absurd (late_number (subst (λ e. Descends (counted (add_some (told_by client e) (told client before)))) (sym also) desc))
  where
    itself : (client == client) ≡ true
    itself = grind (arith, nat_tests)

    late_number : Descends (counted (add_some (told_by client (Peeked client earlier other)) (told client before))) → ⊥
    late_number d =
        let all : AllBelow earlier (counted (told client before)) = (rw itself at d).0 in
        let k = below_among earlier number (counted (told client before)) all (peek_counted client number peek before a) in
        omega (arith, k, less)
grows heading gone (event ∷ before) h client number earlier peek other desc (inr a) (inr b) shard less =
    grows heading gone before h.1 client number earlier peek other
    (descends_rest (told_by client event) (told client before) desc) a b shard less

-- Nor does it name one before a place that an earlier peek of the client at that shard named.
pub peeks_grow : (heading : Heading) (past : List Line) → IsHeading heading → AllStand heading past
    → (client number earlier : ℕ) (peek other : Peek)
    → Among (Peeked client number peek) (course heading past) → Among (Peeked client earlier other) (course heading past)
    → shard_of other.key heading.shards ≡ shard_of peek.key heading.shards → earlier < number → other.at ≤ peek.at
peeks_grow heading past is_heading stand client number earlier peek other a b shard less =
    grows heading (departed past) (course heading past) (course_causal heading past is_heading stand) client number earlier peek other
    (subst Descends (sym (answers_stand-holds heading past client)) (numbers_descend-holds heading client past stand)) a b shard less
