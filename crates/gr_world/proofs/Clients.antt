-- Each client's steps stand once and in order, with its answers.
use Rattle.std.proofs.Common.{zero, suc, ◌≡◌, ℕ, List, [], ◌∷◌, Bool, true, false, ◌&&◌, ◌==◌, refl, ap, ◌∙◌, subst}
use Rattle.std.proofs.Common.{arith, map, if◌then◌else◌}
use Rattle.std.specs.Prelude.{Option, Some, None, nat_lt}
use Rattle.std.proofs.lemmas.Bool.Decides.{nat_tests}
use Rattle.gr_value.specs.Shard.{shard_of}
use Rattle.gr_stamp.specs.declared.change.Change.{Change}
use Rattle.gr_history.specs.declared.reply.Reply.{Reply}
use Rattle.gr_history.specs.declared.deed.Deed.TheVariants.{Call, Asked}
use Rattle.gr_history.specs.declared.query_ask.QueryAsk.{QueryAsk}
use Rattle.gr_history.specs.declared.query_reply.QueryReply.{QueryReply}
use Rattle.gr_history.specs.declared.record.Answer.{Answer}
use Rattle.gr_history.specs.Asks.{key_of}
use Rattle.gr_history.specs.Made.{made}
use Rattle.gr_script.specs.declared.line.Act.TheVariants as act
use Rattle.gr_script.specs.declared.line.Line.{Line}
use Rattle.gr_script.specs.declared.line.Line.TheVariants.{Step, Deliver, Hear, Sweep, Join, Depart, Leave, Back}
use Rattle.gr_script.specs.declared.line.Line.TheVariants as line
use Rattle.gr_script.specs.Rules.{Heading, home_of}
use Rattle.gr_script.specs.Steps.{departed}
use Rattle.gr_world.specs.Events.{Event, put_if, history}
use Rattle.gr_world.specs.Doings.{Doing, Calls, Takes, Gives, Merges, Reports, Hears, Sweeps, Asks}
use Rattle.gr_world.specs.Clients.{Asking, OfKey, OfQuery}
use Rattle.gr_world.specs.Courses.{does, asks_at_each, after, course}
use Rattle.gr_world.specs.Clients.{add_some, askings, asked_at, asked, Numbered, told}
use Rattle.gr_world.proofs.Events.{at_put}
use Rattle.gr_world.proofs.Walks.{each_keep, IsNoStep, IsOf, rest_keeps}
use Rattle.gr_world.proofs.Numbers.{number_at, numbers}

-- all but a call and a step on a query
abbrev pub IsQuiet : Doing → Type 0
IsQuiet (Calls client number ask) = ⊥
IsQuiet (Takes change) = Unit {0}
IsQuiet (Gives to what) = Unit {0}
IsQuiet (Merges image) = Unit {0}
IsQuiet Reports = Unit {0}
IsQuiet (Hears report) = Unit {0}
IsQuiet (Sweeps moment) = Unit {0}
IsQuiet (Asks client number ask) = ⊥

abbrev pub QuietKeep : Heading → (List Event → Type 0) → Type 0
QuietKeep heading P = (m s : ℕ) (doing : Doing) (now : List Event) → IsQuiet doing → P now → P (does heading m s doing now)

quiet_of : (at : Line) (m : ℕ) (doing : Doing) → IsOf at m doing → IsQuiet doing
quiet_of at m (Calls client number ask) of = of
quiet_of at m (Takes change) of = tt
quiet_of at m (Gives to what) of = tt
quiet_of at m (Merges image) of = tt
quiet_of at m Reports of = tt
quiet_of at m (Hears report) of = tt
quiet_of at m (Sweeps moment) of = tt
quiet_of at m (Asks client number ask) of = of

-- what each deed but a client's keeps, each line but a step keeps
pub quiet_keeps : (heading : Heading) (gone : List ℕ) (P : List Event → Type 0) → QuietKeep heading P → (line : Line) (before : List Event)
    → IsNoStep line → P before → P (after heading gone line before)
quiet_keeps heading gone P keeps line before quiet h =
    rest_keeps heading gone P line (λ m s doing of now k. keeps m s doing now (quiet_of line m doing of) k) quiet before h

quiet_deed : (heading : Heading) (i t m s : ℕ) (doing : Doing) (now : List Event) → IsQuiet doing
    → askings (history i t (does heading m s doing now)) ≡ askings (history i t now)
quiet_deed heading i t m s (Calls client number ask) now quiet = absurd quiet
quiet_deed heading i t m s (Takes change) now quiet =
    at_put (λ past. askings past ≡ askings (history i t now)) (t == s && i == m) _ (history i t now) refl (λ e. e)
quiet_deed heading i t m s (Gives to what) now quiet =
    at_put (λ past. askings past ≡ askings (history i t now)) (t == s && i == m) _ (history i t now) refl (λ e. e)
quiet_deed heading i t m s (Merges image) now quiet =
    at_put (λ past. askings past ≡ askings (history i t now)) (t == s && i == m) _ (history i t now) refl (λ e. e)
quiet_deed heading i t m s Reports now quiet =
    at_put (λ past. askings past ≡ askings (history i t now)) (t == s && i == m) _ (history i t now) refl (λ e. e)
quiet_deed heading i t m s (Hears report) now quiet =
    at_put (λ past. askings past ≡ askings (history i t now)) (t == s && i == m) _ (history i t now) refl (λ e. e)
quiet_deed heading i t m s (Sweeps moment) now quiet =
    at_put (λ past. askings past ≡ askings (history i t now)) (t == s && i == m) _ (history i t now) refl (λ e. e)
quiet_deed heading i t m s (Asks client number ask) now quiet = absurd quiet

rest_asks : (heading : Heading) (gone : List ℕ) (line : Line) (before : List Event) (i t : ℕ) → IsNoStep line
    → askings (history i t (after heading gone line before)) ≡ askings (history i t before)
rest_asks heading gone line before i t quiet =
    quiet_keeps heading gone (λ now. askings (history i t now) ≡ askings (history i t before))
    (λ m s doing now not e. quiet_deed heading i t m s doing now not ∙ e) line before quiet refl

abbrev asking_for : ℕ → ℕ → QueryAsk → Asking
asking_for client number ask = record { client = client; number = number; ask = OfQuery ask }

drop_if : (a b : Bool) (x : Asking) (xs ys : List Asking) → a ≡ false → xs ≡ add_some (if a && b then Some x else None) ys → xs ≡ ys
drop_if a b x xs ys e h = subst (λ z. xs ≡ add_some (if z && b then Some x else None) ys) e h

-- A step on a query adds one deed at each shard.
query_asks : (heading : Heading) (client number : ℕ) (ask : QueryAsk) (n : ℕ) (before : List Event) (i t : ℕ)
    → askings (history i t (asks_at_each heading client number ask n before))
    ≡ add_some (if nat_lt t n && i == home_of heading client then Some (asking_for client number ask) else None)
    (askings (history i t before))
query_asks heading client number ask zero before i t = rw (none t) refl
  where
    none : (t : ℕ) → nat_lt t 0 ≡ false
    none t = grind (arith, nat_tests)
query_asks heading client number ask (suc n) before i t =
    at_shard (t == n) refl (i == home_of heading client) _ (query_asks heading client number ask n before i t)
  where
    now : List Event
    now = asks_at_each heading client number ask n before

    here : (t n : ℕ) → (t == n) ≡ true → (nat_lt t (suc n) ≡ true) × (nat_lt t n ≡ false)
    here t n e = (grind (arith, nat_tests), grind (arith, nat_tests))

    there : (t n : ℕ) → (t == n) ≡ false → nat_lt t (suc n) ≡ nat_lt t n
    there t n e = grind (arith, nat_tests)

    at_shard : (a : Bool) → (t == n) ≡ a → (b : Bool) (reply : QueryReply)
        → askings (history i t now)
        ≡ add_some (if nat_lt t n && b then Some (asking_for client number ask) else None) (askings (history i t before))
        → askings (put_if (a && b) (Asked client number ask reply) (history i t now))
        ≡ add_some (if nat_lt t (suc n) && b then Some (asking_for client number ask) else None) (askings (history i t before))
    at_shard true e true reply next =
        let lt = here t n e in
        let p = lt.0 in
        rw p (ap (λ xs. asking_for client number ask ∷ xs)
        (drop_if (nat_lt t n) true (asking_for client number ask) _ _ lt.1 next))
    at_shard true e false reply next =
        let lt = here t n e in
        let p = lt.0 in
        rw p (drop_if (nat_lt t n) false (asking_for client number ask) _ _ lt.1 next)
    at_shard false e b reply next = let s = there t n e in rw s next

line_asks : (heading : Heading) (gone : List ℕ) (line : Line) (before : List Event) (i t : ℕ)
    → askings (history i t (after heading gone line before)) ≡ add_some (asked_at heading i t line) (askings (history i t before))
line_asks heading gone (Step client number (act.Call ask)) before i t =
    at_test (t == shard_of (key_of ask) heading.shards && i == home_of heading client) _ _ _
  where
    at_test : (b : Bool) (reply : Reply) (made : Option Change) (to : ℕ)
        → askings (put_if b (Call client to number ask reply made) (history i t before))
        ≡ add_some (if b then Some (record { client = client; number = number; ask = OfKey ask }) else None) (askings (history i t
        before))
    at_test true reply made to = refl
    at_test false reply made to = refl
line_asks heading gone (Step client number (act.Query ask)) before i t = query_asks heading client number ask heading.shards before i t
line_asks heading gone (Step client number (act.Peek key)) before i t = refl
line_asks heading gone (Deliver member client number) before i t = rest_asks heading gone (Deliver member client number) before i t tt
line_asks heading gone (line.Report member) before i t = rest_asks heading gone (line.Report member) before i t tt
line_asks heading gone (Hear member of number) before i t = rest_asks heading gone (Hear member of number) before i t tt
line_asks heading gone (Sweep member moment) before i t = rest_asks heading gone (Sweep member moment) before i t tt
line_asks heading gone (Join joiner provider) before i t = rest_asks heading gone (Join joiner provider) before i t tt
line_asks heading gone (Depart member) before i t = rest_asks heading gone (Depart member) before i t tt
line_asks heading gone (Leave client moment) before i t = rest_asks heading gone (Leave client moment) before i t tt
line_asks heading gone (Back client moment) before i t = rest_asks heading gone (Back client moment) before i t tt

-- The steps of a history are just those that the lines ask there, each once and in order.
pub calls_stand-holds : (heading : Heading) (past : List Line) (i t : ℕ)
    → askings (history i t (course heading past)) ≡ asked heading i t past
calls_stand-holds heading [] i t = refl
calls_stand-holds heading (line ∷ past) i t =
    line_asks heading (departed past) line (course heading past) i t ∙ ap (add_some (asked_at heading i t line)) (calls_stand-holds heading past i t)

quiet_told : (heading : Heading) (client m s : ℕ) (doing : Doing) (now : List Event) → IsQuiet doing
    → told client (does heading m s doing now) ≡ told client now
quiet_told heading client m s (Calls own number ask) now quiet = absurd quiet
quiet_told heading client m s (Takes change) now quiet = refl
quiet_told heading client m s (Gives to what) now quiet = refl
quiet_told heading client m s (Merges image) now quiet = refl
quiet_told heading client m s Reports now quiet = refl
quiet_told heading client m s (Hears report) now quiet = refl
quiet_told heading client m s (Sweeps moment) now quiet = refl
quiet_told heading client m s (Asks own number ask) now quiet = absurd quiet

pub rest_tells : (heading : Heading) (gone : List ℕ) (line : Line) (before : List Event) (client : ℕ) → IsNoStep line
    → told client (after heading gone line before) ≡ told client before
rest_tells heading gone line before client quiet =
    quiet_keeps heading gone (λ now. told client now ≡ told client before)
    (λ m s doing now not e. quiet_told heading client m s doing now not ∙ e) line before quiet refl

abbrev pub counted : List Numbered → List ℕ
counted all = map (λ one. one.number) all

count_one : (b : Bool) (number : ℕ) (answer : Answer) (all : List Numbered)
    → counted (add_some (if b then Some (record { number = number; answer = answer }) else None) all) ≡ add_some
    (if b then Some number else None) (counted all)
count_one true number answer all = refl
count_one false number answer all = refl

pub told_asks : (heading : Heading) (client number : ℕ) (ask : QueryAsk) (n : ℕ) (before : List Event) (who : ℕ)
    → told who (asks_at_each heading client number ask n before) ≡ told who before
told_asks heading client number ask n before who =
    each_keep (λ now. told who now ≡ told who before) n
    (λ shard. does heading (home_of heading client) shard (Asks client number ask)) (λ k less now e. e) before refl

line_tells : (heading : Heading) (gone : List ℕ) (line : Line) (before : List Event) (client : ℕ)
    → counted (told client (after heading gone line before)) ≡ add_some (number_at client line) (counted (told client before))
line_tells heading gone (Step who number (act.Call ask)) before client = count_one (who == client) number _ (told client before)
line_tells heading gone (Step who number (act.Query ask)) before client =
    count_one (who == client) number _ (told client (asks_at_each heading who number ask heading.shards before))
    ∙ ap (λ all. add_some (if who == client then Some number else None) (counted all))
    (told_asks heading who number ask heading.shards before client)
line_tells heading gone (Step who number (act.Peek key)) before client = count_one (who == client) number _ (told client before)
line_tells heading gone (Deliver member of number) before client = ap counted (rest_tells heading gone (Deliver member of number) before client tt)
line_tells heading gone (line.Report member) before client = ap counted (rest_tells heading gone (line.Report member) before client tt)
line_tells heading gone (Hear member of number) before client = ap counted (rest_tells heading gone (Hear member of number) before client tt)
line_tells heading gone (Sweep member moment) before client = ap counted (rest_tells heading gone (Sweep member moment) before client tt)
line_tells heading gone (Join joiner provider) before client = ap counted (rest_tells heading gone (Join joiner provider) before client tt)
line_tells heading gone (Depart member) before client = ap counted (rest_tells heading gone (Depart member) before client tt)
line_tells heading gone (Leave who moment) before client = ap counted (rest_tells heading gone (Leave who moment) before client tt)
line_tells heading gone (Back who moment) before client = ap counted (rest_tells heading gone (Back who moment) before client tt)

-- A client has one answer for each step, in order.
pub answers_stand-holds : (heading : Heading) (past : List Line) (client : ℕ)
    → counted (told client (course heading past)) ≡ numbers client past
answers_stand-holds heading [] client = refl
answers_stand-holds heading (line ∷ past) client =
    line_tells heading (departed past) line (course heading past) client ∙ ap (add_some (number_at client line)) (answers_stand-holds heading past client)
