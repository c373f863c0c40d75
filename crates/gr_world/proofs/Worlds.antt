-- One event more leaves one deed and one answer more.
use Rattle.std.proofs.Common.{zero, suc, ◌≡◌, ◌∙◌, ap, sym, subst, refl, ℕ, ◌+◌, ◌-◌, ◌≤◌, ◌<◌, List, [], ◌∷◌, ◌++◌, length, reverse, map}
use Rattle.std.proofs.Common.{Bool, true, false, ◌&&◌, ◌==◌, add-one, arith, get_or, set, if◌then◌else◌}
use Rattle.std.specs.Prelude.{Option, Some, None, is_some, option_and_then, option_map, slice_get}
use Rattle.std.proofs.lemmas.Bool.Decides.{nat_tests}
use Rattle.std.proofs.lemmas.Grind.{reverse_onto}
use Rattle.std.proofs.lemmas.List.{reverse-reverse, length-reverse}
use Rattle.std.specs.Prelude.{◌%◌}
use Rattle.gr_value.specs.Shard.{key_hash, shard_of}
use Rattle.gr_history.specs.declared.ask.Ask.{Ask}
use Rattle.gr_history.specs.declared.deed.Deed.{Deed}
use Rattle.gr_history.specs.declared.done.Done.{Done}
use Rattle.gr_history.specs.declared.record.Answer.{Answer}
use Rattle.gr_history.specs.declared.record.Answer.TheVariants as answer
use Rattle.gr_history.specs.Asks.{key_of}
use Rattle.gr_history.specs.Standing.{present}
use Rattle.gr_shard.specs.Calls.{call_with}
use Rattle.gr_shard.specs.View.{Account}
use Rattle.gr_script.specs.declared.line.Act.TheVariants as act
use Rattle.gr_script.specs.declared.line.Line.TheVariants.{Step, Deliver}
use Rattle.gr_script.specs.declared.script.Script.{Script}
use Rattle.gr_script.specs.Rules.{Heading, IsMember, IsStated, home_of}
use Rattle.gr_script.specs.Scripts.{heading_of}
use Rattle.gr_world.specs.declared.site.Site.{Site}
use Rattle.gr_world.specs.declared.world.World.{World}
use Rattle.gr_world.specs.Stages.{HasSite}
use Rattle.gr_world.specs.Events.{Event, Did, Peeked, Gathered, put_if, history}
use Rattle.gr_world.specs.Clients.{Numbered, add_some, told, told_by, told_by_deed}
use Rattle.gr_world.specs.Noted.{Notes, place_of}
use Rattle.gr_world.specs.Numbered.{numbers_from}
use Rattle.gr_world.specs.Records.{answers}
use Rattle.gr_world.specs.Doings.{Doing, Calls, Takes, Sweeps, deed_of}
use Rattle.gr_world.specs.Named.{made_by, made_by_deed, numbered, or_else, reports}
use Rattle.gr_world.specs.Tasks.{doing_of}
use Rattle.gr_world.specs.declared.task.Task.{Task}
use Rattle.gr_world.specs.declared.task.Task.TheVariants as task
use Rattle.gr_world.specs.Courses.{identity_at, does, delivers, for_each, hears, hears_of, after, sweeps_at, unless, closes}
use Rattle.gr_world.specs.declared.place.DeedPlace.{DeedPlace}
use Rattle.gr_world.specs.Worlds.{HasMade, IsAtWork, IsCell, IsFound, IsWorld, Plays, StandsAt, account_at, account_in}
use Rattle.gr_world.specs.Worlds.{account_left, deed_at, grid_left, longer, no_account, tellings_left, told_also, with_account}
use Rattle.gr_stamp.specs.declared.change.Change.{Change}
use Rattle.gr_history.specs.declared.identity.Identity.{Identity}
use Rattle.gr_vector.specs.declared.report.Report.{Report}
use Rattle.gr_world.proofs.Events.{at_put, history_here, same_number}
use Rattle.gr_world.proofs.Lists.{kept_get, last_get, numbers_get, numbers_length, numbers_same, numbers_set}
use Rattle.gr_history.specs.Made.{made_in}

-- the accounts of a member's shards
abbrev pub row_left : Heading → List Event → ℕ → List Account
row_left heading events member = numbers_from 0 heading.shards (account_left heading events member)

account_of : Heading → ℕ → ℕ → List Deed → Account
account_of heading member shard past = record { id = identity_at heading member shard; opening = heading.floor; deeds = reverse past; spare = 0 }

-- a member's number is its place and one
place_and_one : (member : ℕ) → 1 ≤ member → 1 + (member - 1) ≡ member
place_and_one member from = omega (arith, from)

row_at : (heading : Heading) (events : List Event) (member : ℕ) → IsMember heading member
    → get_or (grid_left heading events) (member - 1) [] ≡ row_left heading events member
row_at heading events member is =
    numbers_get 1 heading.members (member - 1) (row_left heading events) [] (omega (arith, is.0, is.1))
    ∙ ap (row_left heading events) (place_and_one member is.0)

account_in_row : (heading : Heading) (events : List Event) (member shard : ℕ) → shard < heading.shards
    → account_in (row_left heading events member) shard ≡ account_left heading events member shard
account_in_row heading events member shard within =
    let e : 0 + shard ≡ shard = omega arith in
    numbers_get 0 heading.shards shard (account_left heading events member) no_account within ∙ ap (account_left heading events member) e

-- what a cell has is the course's
pub cell_left : (heading : Heading) (events : List Event) (member shard : ℕ) → IsMember heading member → shard < heading.shards
    → account_at (grid_left heading events) member shard ≡ account_left heading events member shard
cell_left heading events member shard is within =
    ap (λ row. account_in row shard) (row_at heading events member is) ∙ account_in_row heading events member shard within

pub is_cell : (heading : Heading) (events : List Event) (member shard : ℕ) → IsMember heading member → shard < heading.shards
    → IsCell (grid_left heading events) member shard
is_cell heading events member shard is within = record {
  from = is.0;
  stated =
      let long = numbers_length 1 heading.members (row_left heading events) in
      omega (arith, is.1, long);
  within =
      let long = numbers_length 0 heading.shards (account_left heading events member) in
      subst (λ row. shard < length row) (sym (row_at heading events member is)) (omega (arith, within, long));
}

-- elsewhere nothing changes
elsewhere : (a b : Bool) → b ≡ false → (deed : Deed) (past : List Deed) → past ≡ put_if (a && b) deed past
elsewhere true b e deed past = rw e refl
elsewhere false b e deed past = refl

other_shard_here : (a b : Bool) → a ≡ false → (deed : Deed) (past : List Deed) → past ≡ put_if (a && b) deed past
other_shard_here a b e deed past = rw e refl

apart : (a b : ℕ) → (a ≡ b → ⊥) → (a == b) ≡ false
apart a b h = grind (arith, nat_tests)

row_next : (heading : Heading) (events : List Event) (member shard : ℕ) (deed : Deed) → shard < heading.shards
    → set (row_left heading events member) shard (longer (account_left heading events member shard) deed)
    ≡ row_left heading (Did member shard deed ∷ events) member
unfolding account_of
row_next heading events member shard deed within =
    let old = account_left heading events member in
    let new = account_left heading (Did member shard deed ∷ events) member in
    let e : shard ≡ 0 + shard = omega arith in
    let past = history member shard events in
    let here : longer (old shard) deed ≡ new shard =
    ap (λ deeds. record (old shard) { deeds = deeds }) (sym (reverse_onto past deed []))
    ∙ ap (account_of heading member shard) (sym (history_here member shard deed events)) in
    ap (set (row_left heading events member) shard) (here ∙ ap new e)
    ∙ numbers_set 0 heading.shards shard old new within
    (λ k low high other. ap (account_of heading member k)
    (other_shard_here (k == shard) (member == member) (apart k shard (λ is. other (is ∙ e))) deed (history member k events)))

-- One deed more at a member's shard.
pub grid_next : (heading : Heading) (events : List Event) (member shard : ℕ) (deed : Deed) → IsMember heading member
    → shard < heading.shards
    → with_account (grid_left heading events) member shard (longer (account_left heading events member shard) deed)
    ≡ grid_left heading (Did member shard deed ∷ events)
unfolding account_of
grid_next heading events member shard deed is within =
    let old = row_left heading events in
    let new = row_left heading (Did member shard deed ∷ events) in
    let e : member ≡ 1 + (member - 1) = omega (arith, is.0) in
    ap (λ row. set (grid_left heading events) (member - 1) (set row shard (longer (account_left heading events member shard) deed)))
    (row_at heading events member is)
    ∙ ap (set (grid_left heading events) (member - 1)) (row_next heading events member shard deed within ∙ ap new e)
    ∙ numbers_set 1 heading.members (member - 1) old new (omega (arith, is.0, is.1))
    (λ k low high other. numbers_same 0 heading.shards (account_left heading events k)
    (account_left heading (Did member shard deed ∷ events) k)
    (λ s least most. ap (account_of heading k s)
    (elsewhere (s == shard) (k == member) (apart k member (λ same. other (same ∙ e))) deed (history k s events))))

numbered_answers : List Numbered → List Answer
numbered_answers all = reverse (map (λ one. one.answer) all)

-- One answer more for a client.
pub tellings_next : (heading : Heading) (events : List Event) (event : Event) (client number : ℕ) (told_now : Answer)
    → IsStated client heading
    → ((c : ℕ) → told_by c event ≡ (if client == c then Some (record { number = number; answer = told_now }) else None))
    → told_also (tellings_left heading events) client told_now ≡ tellings_left heading (event ∷ events)
unfolding numbered_answers
tellings_next heading events event client number told_now is tells =
    let old : ℕ → List Answer = λ c. answers c events in
    let new : ℕ → List Answer = λ c. answers c (event ∷ events) in
    let n = length heading.clients in
    let e : client ≡ 1 + (client - 1) = omega (arith, is.0) in
    let less : client - 1 < n = omega (arith, is.0, is.1) in
    let one : Numbered = record { number = number; answer = told_now } in
    let had : get_or (tellings_left heading events) (client - 1) [] ≡ old client =
    numbers_get 1 n (client - 1) old [] less ∙ ap old (sym e) in
    let here : old client ++ told_now ∷ [] ≡ new client =
    sym (reverse_onto (map (λ x. x.answer) (told client events)) told_now [])
    ∙ ap (λ o. numbered_answers (add_some o (told client events))) (sym (tells client ∙ if_same (same_number client) one)) in
    ap (λ xs. set (tellings_left heading events) (client - 1) (xs ++ told_now ∷ [])) had
    ∙ ap (set (tellings_left heading events) (client - 1)) (here ∙ ap new e)
    ∙ numbers_set 1 n (client - 1) old new less
    (λ k low high other. ap (λ o. numbered_answers (add_some o (told k events)))
    (sym (tells k ∙ if_other (apart client k (λ same. other (sym same ∙ e))) one)))
  where
    if_same : {b : Bool} → b ≡ true → (one : Numbered) → (if b then Some one else None) ≡ Some one
    if_same h one = rw h refl

    if_other : {b : Bool} → b ≡ false → (one : Numbered) → (if b then Some one else None) ≡ None
    if_other h one = rw h refl

-- A member's shard was lent, and has the one deed more that its history tells.
pub record IsDone (grid : List (List Account)) (member shard : ℕ) (doing : Doing) (deed : Deed) (was now : Account) : Type 0 where
  pub lent : was ≡ account_at grid member shard
  pub deed_is : deed ≡ deed_at was doing
  pub added : now ≡ longer was deed

-- What is done at a shard of the grid is done to its course.
pub done_left : (heading : Heading) (events : List Event) (grid : List (List Account)) (member shard : ℕ) (doing : Doing) (deed : Deed)
    (was now : Account) → IsMember heading member → shard < heading.shards → grid ≡ grid_left heading events
    → IsDone grid member shard doing deed was now
    → (deed ≡ deed_of (identity_at heading member shard) heading.floor (history member shard events) doing)
    × (with_account grid member shard now ≡ grid_left heading (does heading member shard doing events))
done_left heading events grid member shard doing deed was now is within same done =
    let past = history member shard events in
    let left = account_left heading events member shard in
    let was_is : was ≡ left =
    done.lent ∙ ap (λ g. account_at g member shard) same ∙ cell_left heading events member shard is within in
    let deed_is : deed ≡ deed_of (identity_at heading member shard) heading.floor past doing =
    done.deed_is ∙ ap (λ account. deed_at account doing) was_is
    ∙ ap (λ p. deed_of (identity_at heading member shard) heading.floor p doing) (reverse-reverse past) in (
      deed_is,
      ap (λ g. with_account g member shard now) same
          ∙ ap (with_account (grid_left heading events) member shard)
          (done.added ∙ ap (λ account. longer account deed) was_is ∙ ap (longer left) deed_is)
          ∙ grid_next heading events member shard _ is within,
    )

-- ---- where what was made stands

-- What was found is found after one event more.
kept_found : (heading : Heading) (event : Event) (events : List Event) (found : Option DeedPlace) (made : Option Change)
    → IsFound heading events found made → IsFound heading (event ∷ events) found made
kept_found heading event events None made is = is
kept_found heading event events (Some place) made is = record {
  member = is.member;
  shard = is.shard;
  deed = is.deed;
  found = still event;
  made_is = is.made_is;
}
  where
    still : (one : Event)
        → slice_get (reverse (history place.site.member place.site.shard (one ∷ events))) place.at ≡ Some is.deed
    still (Did m s deed) =
        let past = history place.site.member place.site.shard events in
        at_put (λ deeds. slice_get (reverse deeds) place.at ≡ Some is.deed) (place.site.shard == s && place.site.member == m) deed past
        is.found
        (λ h. ap (λ deeds. slice_get deeds place.at) (reverse_onto past deed []) ∙ kept_get (reverse past) deed is.deed place.at h)
    still (Peeked client number peek) = is.found
    still (Gathered client number replies) = is.found

-- An event that makes nothing leaves the table right.
pub kept_made : (heading : Heading) (event : Event) (events : List Event) (table : List (List (Option DeedPlace)))
    → ((client number : ℕ) → made_by client number events ≡ made_by client number (event ∷ events))
    → HasMade heading events table → HasMade heading (event ∷ events) table
kept_made heading event events table same has many client number =
    subst (IsFound heading (event ∷ events) (place_of table client number)) (same client number)
    (kept_found heading event events _ _ (has many client number))

-- What a call made stands behind all that stood in its history.
made_last : (heading : Heading) (events : List Event) (place : DeedPlace) (deed : Deed)
    → IsMember heading place.site.member → place.site.shard < heading.shards
    → place.at ≡ length (history place.site.member place.site.shard events)
    → StandsAt heading (Did place.site.member place.site.shard deed ∷ events) place (made_in deed)
made_last heading events place deed is within at_end =
    let past = history place.site.member place.site.shard events in
    record {
      member = is;
      shard = within;
      deed = deed;
      found =
          ap (λ deeds. slice_get (reverse deeds) place.at) (history_here place.site.member place.site.shard deed events)
          ∙ ap (λ deeds. slice_get deeds place.at) (reverse_onto past deed [])
          ∙ ap (slice_get (reverse past ++ deed ∷ [])) (at_end ∙ sym (length-reverse past))
          ∙ last_get (reverse past) deed;
      made_is = refl;
    }

-- The place of what a call made, told by whether it made something.
pub placed : (place : DeedPlace) (made : Option Change) → (if is_some made then Some place else None) ≡ option_map (λ _. place) made
placed place None = refl
placed place (Some change) = refl

-- A call adds its deed and tells its reply, and where what it made stands is noted.
pub call_plays : (heading : Heading) (old new : World) (member shard at client seq : ℕ) (ask : Ask) (done : Done) (was now : Account)
    → IsMember heading member → IsStated client heading
    → member ≡ home_of heading client → shard ≡ shard_of (key_of ask) heading.shards → shard < heading.shards
    → IsDone old.grid member shard (Calls client seq ask) (call_with client seq ask done) was now
    → new.grid ≡ with_account old.grid member shard now
    → at ≡ length (account_at old.grid member shard).deeds
    → (1 < heading.members
    → Notes client seq (option_map (λ _. record { site = record { member = member; shard = shard }; at = at }) done.made) old.made new.made)
    → new.tellings ≡ told_also old.tellings client (answer.Reply done.reply)
    → Plays heading (after heading [] (Step client seq (act.Call ask))) old new
call_plays heading old new member shard at client seq ask done was now is stated at_home at_shard within called grid_is behind notes tells
    events world =
    let doing = Calls client seq ask in
    let past = history member shard events in
    let made = done_left heading events old.grid member shard doing deed was now is within world.grid_is called in
    let did : List Event = Did member shard deed ∷ events in
    let same : did ≡ does heading member shard doing events = ap (λ one. Did member shard one ∷ events) made.0 in
    let tellings : new.tellings ≡ tellings_left heading did =
    tells ∙ ap (λ lists. told_also lists client (answer.Reply done.reply)) world.tellings_are
    ∙ tellings_next heading events (Did member shard deed) client seq _ stated (λ c. refl) in
    let at_end : at ≡ length past =
    behind ∙ ap (λ grid. length (account_at grid member shard).deeds) world.grid_is
    ∙ ap (λ account. length account.deeds) (cell_left heading events member shard is within) ∙ length-reverse past in
    let here : IsWorld heading (does heading member shard doing events) new = record {
      grid_is = grid_is ∙ made.1;
      tellings_are = tellings ∙ ap (tellings_left heading) same;
      made_are = subst (λ all. HasMade heading all new.made) same
          (λ many own number. subst (λ found. IsFound heading did found (made_by own number did)) (sym (notes many own number))
          (noted at_end (client == own && seq == number) done.made _ _ refl (world.made_are many own number)));
    } in
    subst (λ s. IsWorld heading (does heading (home_of heading client) s doing events) new) at_shard
    (subst (λ m. IsWorld heading (does heading m shard doing events) new) at_home here)
  where
    place : DeedPlace
    place = record { site = record { member = member; shard = shard }; at = at }

    deed : Deed
    deed = call_with client seq ask done

    noted : place.at ≡ length (history member shard events)
        → (b : Bool) (o : Option Change) (found : Option DeedPlace) (before : Option Change)
        → done.made ≡ o → IsFound heading events found before
        → IsFound heading (Did member shard deed ∷ events) (or_else (if b then option_map (λ _. place) o else None) found)
        (or_else (if b then o else None) before)
    noted at_end true (Some change) found before made_is had =
        subst (StandsAt heading (Did member shard deed ∷ events) place) made_is (made_last heading events place deed is within at_end)
    noted at_end true None found before made_is had = kept_found heading (Did member shard deed) events found before had
    noted at_end false o found before made_is had = kept_found heading (Did member shard deed) events found before had

-- A deed that makes nothing, and tells no client anything.
pub record IsQuiet (deed : Deed) : Type 0 where
  pub unmade : (client number : ℕ) → made_by_deed client number deed ≡ None
  pub untold : (client : ℕ) → told_by_deed client deed ≡ None

quiet_task : (id : Identity) (opening : ℕ) (past : List Deed) (task_ : Task) → IsQuiet (deed_of id opening past (doing_of task_))
quiet_task id opening past (task.Take change) = record { unmade = λ client number. refl; untold = λ client. refl }
quiet_task id opening past (task.Merge image) = record { unmade = λ client number. refl; untold = λ client. refl }
quiet_task id opening past task.Report = record { unmade = λ client number. refl; untold = λ client. refl }
quiet_task id opening past (task.Hear report) = record { unmade = λ client number. refl; untold = λ client. refl }
quiet_task id opening past (task.Sweep moment) = record { unmade = λ client number. refl; untold = λ client. refl }

untold_left : (heading : Heading) (events : List Event) (member shard : ℕ) (deed : Deed) → IsQuiet deed
    → tellings_left heading events ≡ tellings_left heading (Did member shard deed ∷ events)
unfolding numbered_answers
untold_left heading events member shard deed quiet =
    numbers_same 1 (length heading.clients) (λ client. answers client events) (λ client. answers client (Did member shard deed ∷ events))
    (λ client low high. ap (λ o. numbered_answers (add_some o (told client events))) (sym (quiet.untold client)))

-- What is done at a shard is all that is done.
abbrev pub Adds : Heading → World → ℕ → ℕ → Doing → Deed → Account → Account → Type 0
Adds heading old member shard doing deed was now =
    IsMember heading member → shard < heading.shards → IsDone old.grid member shard doing deed was now
    → Plays heading (does heading member shard doing) old (record old { grid = with_account old.grid member shard now })

-- What is quiet adds its deed.
pub quiet_plays : (heading : Heading) (old : World) (member shard : ℕ) (doing : Doing) (deed : Deed) (was now : Account)
    → ((id : Identity) (opening : ℕ) (past : List Deed) → IsQuiet (deed_of id opening past doing))
    → Adds heading old member shard doing deed was now
quiet_plays heading old member shard doing deed was now is_quiet is within did events world =
    let past = history member shard events in
    let done = done_left heading events old.grid member shard doing deed was now is within world.grid_is did in
    let added = deed_of (identity_at heading member shard) heading.floor past doing in
    let quiet = is_quiet (identity_at heading member shard) heading.floor past in
    record {
      grid_is = done.1;
      tellings_are = world.tellings_are ∙ untold_left heading events member shard added quiet;
      made_are = kept_made heading (Did member shard added) events old.made
          (λ client number. ap (λ o. or_else o (made_by client number events)) (sym (quiet.unmade client number))) world.made_are;
    }

-- A task adds its deed.
pub task_plays : (heading : Heading) (old : World) (member shard : ℕ) (task_ : Task) (deed : Deed) (was now : Account)
    → Adds heading old member shard (doing_of task_) deed was now
task_plays heading old member shard task_ deed was now =
    quiet_plays heading old member shard (doing_of task_) deed was now (λ id opening past. quiet_task id opening past task_)

-- what a step made, by each course that left the world
abbrev pub IsChangeOf : Heading → World → ℕ → ℕ → Option Change → Type 0
IsChangeOf heading world client seq made = (events : List Event) → IsWorld heading events world → made ≡ made_by client seq events

-- What stands at the place that the table has is what the step made.
pub found_change : (heading : Heading) (world : World) (client seq : ℕ) (place : DeedPlace) → 1 < heading.members
    → place_of world.made client seq ≡ Some place
    → IsChangeOf heading world client seq
    (option_and_then made_in (slice_get (account_at world.grid place.site.member place.site.shard).deeds place.at))
found_change heading world client seq place many is_found events is =
    let stands : StandsAt heading events place (made_by client seq events) =
    subst (λ found. IsFound heading events found (made_by client seq events)) is_found (is.made_are many client seq) in
    ap (λ grid. option_and_then made_in (slice_get (account_at grid place.site.member place.site.shard).deeds place.at)) is.grid_is
    ∙ ap (λ account. option_and_then made_in (slice_get account.deeds place.at))
    (cell_left heading events place.site.member place.site.shard stands.member stands.shard)
    ∙ ap (option_and_then made_in) stands.found ∙ stands.made_is

pub found_cell : (heading : Heading) (world : World) (client seq : ℕ) (place : DeedPlace) → 1 < heading.members
    → place_of world.made client seq ≡ Some place → IsAtWork heading world
    → IsCell world.grid place.site.member place.site.shard
found_cell heading world client seq place many is_found (events, is) =
    let stands : StandsAt heading events place (made_by client seq events) =
    subst (λ found. IsFound heading events found (made_by client seq events)) is_found (is.made_are many client seq) in
    subst (λ grid. IsCell grid place.site.member place.site.shard) (sym is.grid_is)
    (is_cell heading events place.site.member place.site.shard stands.member stands.shard)

-- What was made is taken in, in the shard of its key.
pub deliver_plays : (heading : Heading) (old new : World) (to client seq shard : ℕ) (change : Change)
    → IsChangeOf heading old client seq (Some change)
    → shard ≡ shard_of change.key heading.shards
    → Plays heading (does heading to shard (Takes change)) old new
    → Plays heading (after heading [] (Deliver to client seq)) old new
deliver_plays heading old new to client seq shard change is_made at_shard plays events world =
    subst (λ o. IsWorld heading (delivers heading [] to o events) new) (is_made events world)
    (subst (λ s. IsWorld heading (does heading to s (Takes change) events) new) at_shard (plays events world))

-- The report of the number is heard, where there is one.
pub hear_plays : (heading : Heading) (old new : World) (by of number shard : ℕ) (found : Option Report) → IsMember heading of
    → shard < heading.shards
    → found ≡ numbered number (reports (reverse (account_at old.grid of shard).deeds))
    → Plays heading (hears heading by shard found) old new
    → Plays heading (hears_of heading by of number shard) old new
hear_plays heading old new by of number shard found is within is_found plays events world =
    let past = history of shard events in
    let deeds : (account_at old.grid of shard).deeds ≡ reverse past =
    ap (λ grid. (account_at grid of shard).deeds) world.grid_is
    ∙ ap (λ account. account.deeds) (cell_left heading events of shard is within) in
    let here : found ≡ numbered number (reports past) =
    is_found ∙ ap (λ ds. numbered number (reports (reverse ds))) deeds ∙ ap (λ ds. numbered number (reports ds)) (reverse-reverse past) in
    subst (λ o. IsWorld heading (hears heading by shard o events) new) here (plays events world)

-- A peek tells what is present.
pub peek_plays : (heading : Heading) (old new : World) (member shard client seq : ℕ) (key : List ℕ) (seen : Answer)
    → IsMember heading member → IsStated client heading
    → member ≡ home_of heading client → shard ≡ shard_of key heading.shards → shard < heading.shards
    → seen ≡ answer.Peeked (present key (reverse (account_at old.grid member shard).deeds))
    (length (account_at old.grid member shard).deeds)
    → new.grid ≡ old.grid → new.tellings ≡ told_also old.tellings client seen → new.made ≡ old.made
    → Plays heading (after heading [] (Step client seq (act.Peek key))) old new
peek_plays heading old new member shard client seq key seen is stated at_home at_shard within is_seen grid_is tells made_is events world =
    let past = history member shard events in
    let looked : ℕ → ℕ → List Event =
    λ m s. Peeked client seq (record { key = key; value = present key (history m s events); at = length (history m s events) }) ∷ events in
    let deeds : (account_at old.grid member shard).deeds ≡ reverse past =
    ap (λ grid. (account_at grid member shard).deeds) world.grid_is
    ∙ ap (λ account. account.deeds) (cell_left heading events member shard is within) in
    let seen_is : seen ≡ answer.Peeked (present key past) (length past) =
    is_seen ∙ ap (λ ds. answer.Peeked (present key (reverse ds)) (length ds)) deeds
    ∙ ap (λ ds. answer.Peeked (present key ds) (length (reverse past))) (reverse-reverse past)
    ∙ ap (answer.Peeked (present key past)) (length-reverse past) in
    let tellings : new.tellings ≡ tellings_left heading (looked member shard) =
    tells ∙ ap (λ lists. told_also lists client seen) world.tellings_are ∙ ap (told_also (tellings_left heading events) client) seen_is
    ∙ tellings_next heading events (Peeked client seq (record { key = key; value = present key past; at = length past })) client seq _ stated (λ c. refl) in
    let here : IsWorld heading (looked member shard) new = record {
      grid_is = grid_is ∙ world.grid_is;
      tellings_are = tellings;
      made_are = subst (HasMade heading (looked member shard)) (sym made_is)
          (kept_made heading (Peeked client seq (record { key = key; value = present key past; at = length past })) events old.made (λ c number. refl) world.made_are);
    } in
    subst (λ s. IsWorld heading (looked (home_of heading client) s) new) at_shard
    (subst (λ m. IsWorld heading (looked m shard) new) at_home here)

-- Where nobody departed no closing report is heard at a sweep.
none_close : (heading : Heading) (member shard n : ℕ) (now : List Event)
    → for_each n (λ k. unless true (closes heading member shard (suc k))) now ≡ now
none_close heading member shard zero now = refl
none_close heading member shard (suc n) now = none_close heading member shard n now

pub sweeps_alone : (heading : Heading) (member moment n : ℕ) (now : List Event)
    → for_each n (λ shard. does heading member shard (Sweeps moment)) now ≡ for_each n (sweeps_at heading [] member moment) now
sweeps_alone heading member moment zero now = refl
sweeps_alone heading member moment (suc n) now =
    ap (does heading member n (Sweeps moment))
    (sweeps_alone heading member moment n now
    ∙ sym (none_close heading member n heading.members (for_each n (sweeps_at heading [] member moment) now)))

-- ---- what a world that is at work has

pub shard_within : (key : List ℕ) (shard shards : ℕ) → 1 ≤ shards → shard ≡ shard_of key shards → shard < shards
shard_within key shard shards some is = mod_within (key_hash key) shards some is
  where
    mod_within : (a n : ℕ) → 1 ≤ n → shard ≡ a % n → shard < n
    mod_within a n some is = omega (arith, some, is)

-- there is a cell for each member and shard
pub work_cell : (heading : Heading) (world : World) (site : Site) → HasSite heading world site → IsCell world.grid site.member site.shard
work_cell heading world site has =
    subst (λ grid. IsCell grid site.member site.shard) (sym has.work.1.grid_is)
    (is_cell heading has.work.0 site.member site.shard has.member has.shard)

-- also where the shard is that of a key
pub key_cell : (script : Script) (world : World) (member shard : ℕ) (key : List ℕ) → IsAtWork (heading_of script) world
    → IsMember (heading_of script) member → shard ≡ shard_of key script.shards
    → IsCell world.grid member shard
key_cell script world member shard key work is at_shard =
    work_cell (heading_of script) world (record { member = member; shard = shard }) (record {
      work = work;
      member = is;
      shard = shard_within key shard script.shards script.ruled.heading.shards.0 at_shard;
    })

-- What plays leaves a world that is at work.
pub work_on : (heading : Heading) (act : List Event → List Event) (old new : World) → IsAtWork heading old → Plays heading act old new
    → IsAtWork heading new
work_on heading act old new (events, left) plays = (act events, plays events left)

-- one number more
pub for_each_plays : (heading : Heading) (act : ℕ → List Event → List Event) (n : ℕ) (first now next : World)
    → Plays heading (for_each n act) first now → Plays heading (act n) now next → Plays heading (for_each (n + 1) act) first next
for_each_plays heading act n first now next so_far more events is =
    rw add-one (more (for_each n act events) (so_far events is))

pub work_clients : (heading : Heading) (world : World) → IsAtWork heading world → length world.tellings ≡ length heading.clients
work_clients heading world (events, left) =
    ap (λ lists. length lists) left.tellings_are ∙ numbers_length 1 (length heading.clients) (λ client. answers client events)

-- who is stated has a place among those that are told
pub stated_told : (heading : Heading) (world : World) (client : ℕ) → IsAtWork heading world → IsStated client heading
    → client ≤ length world.tellings
stated_told heading world client work is = let long = work_clients heading world work in omega (arith, long, is.1)

pub work_members : (heading : Heading) (world : World) → IsAtWork heading world → length world.grid ≡ heading.members
work_members heading world (events, left) =
    ap (λ rows. length rows) left.grid_is ∙ numbers_length 1 heading.members (row_left heading events)
