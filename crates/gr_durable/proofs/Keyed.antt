-- What is present in a record's history of a shard has keys of that shard.
use Rattle.std.proofs.Common.{◌≡◌, ◌⊎◌, ℕ, ◌<◌, List, [], ◌∷◌, ◌++◌, Bool, true, false, ◌==◌, refl, sym, ap, ◌∙◌, subst, inl, inr, ⊎_elim, arith}
use Rattle.std.proofs.Common.{bytes_eq, if◌then◌else◌}
use Rattle.std.specs.Prelude.{Option, Some, None, filter, reverse}
use Rattle.std.specs.Option.{option_and_then}
use Rattle.std.proofs.lemmas.Bool.Decides.{nat_tests}
use Rattle.std.proofs.lemmas.List.{reverse-reverse}
use Rattle.std.proofs.lemmas.Slice.Eq.{bytes_eq-Decides}
use Rattle.gr_value.specs.declared.value.Field.{Field}
use Rattle.gr_value.specs.Shard.{shard_of}
use Rattle.gr_stamp.specs.declared.change.Change.{Change}
use Rattle.gr_stamp.specs.Winner.{put_value, winner}
use Rattle.gr_history.specs.declared.ask.Ask.{Ask}
use Rattle.gr_history.specs.declared.reply.Reply.{Reply}
use Rattle.gr_history.specs.declared.deed.Deed.{Deed}
use Rattle.gr_history.specs.declared.deed.Deed.TheVariants.{Call, Asked, Taken, Gave, Imaged, Reported, Heard, Swept}
use Rattle.gr_history.specs.declared.identity.Identity.{Identity}
use Rattle.gr_history.specs.declared.record.ClientRecord.{ClientRecord}
use Rattle.gr_history.specs.Asks.{key_of}
use Rattle.gr_history.specs.Deeds.{is_of_client}
use Rattle.gr_history.specs.Lawful.{IsLawful, IsLawfulDeed}
use Rattle.gr_history.specs.Made.{made, made_at}
use Rattle.gr_history.specs.Standing.{present}
use Rattle.gr_law.specs.Grids.{Among, Older, Grid, identity}
use Rattle.gr_law.specs.Integrity.{IsMade, IsSound}
use Rattle.gr_law.specs.Laws.{law_3, took}
use Rattle.gr_law.proofs.Lists.{among_either, among_reverse, filter_keeps}
use Rattle.gr_law.proofs.Made.{older_genuine, older_lawful}
use Rattle.gr_law.proofs.Took.{took_sound}
use Rattle.gr_law.proofs.Winners.{Best, IsBest, winner-best}
use Rattle.gr_script.specs.declared.line.Line.{Line}
use Rattle.gr_script.specs.Rules.{Heading, home_of}
use Rattle.gr_world.specs.Grids.{Histories, grid_from}
use Rattle.gr_world.specs.Served.{Served, Called, Queried, Looked, AreServed, all_deeds_of, deeds_of, number_in}
use Rattle.gr_world.proofs.Events.{equal_numbers, gives_key, same_number}

-- ---- what is present was made

record IsMadeFor (grid : Grid) (key : List ℕ) : Type 0 where
  change : Change
  of_key : change.key ≡ key
  made_there : IsMade grid change

present_made : (grid : Grid) → IsSound grid → law_3 grid → (member : ℕ) (past : List Deed) → Older past (grid.history member)
    → (key : List ℕ) (value : List Field) → present key past ≡ Some value → IsMadeFor grid key
present_made grid sound held member past older key value is =
    at_winner (winner key (took grid past)) (winner-best key (took grid past))
    (sym (held member past older key).present_is ∙ is)
  where
    at_winner : (o : Option Change) → IsBest key (took grid past) o → option_and_then (λ change. put_value change.kind) o ≡ Some value
        → IsMadeFor grid key
    at_winner None best e = absurd (cc)
    at_winner (Some change) best e = record {
      change = change;
      of_key = (bytes_eq-Decides change.key key).0 best.of_key;
      made_there = (took_sound grid sound member past older
          (older_lawful (identity grid member) (grid.opening member) past (grid.history member) older (sound.lawful member))
          (older_genuine grid member past (grid.history member) older (sound.genuine member)) change best.among).0;
    }

-- ---- what was made was called for

record IsCalledFor (change : Change) (history : List Deed) : Type 0 where
  client : ℕ
  to : ℕ
  seq : ℕ
  ask : Ask
  reply : Reply
  among : Among (Call client to seq ask reply (Some change)) history
  of_key : change.key ≡ key_of ask

earlier : (change : Change) (deed : Deed) (past : List Deed) → IsCalledFor change past → IsCalledFor change (deed ∷ past)
earlier change deed past called = record {
  client = called.client;
  to = called.to;
  seq = called.seq;
  ask = called.ask;
  reply = called.reply;
  among = inr called.among;
  of_key = called.of_key;
}

made_called : (id : Identity) (opening : ℕ) (change : Change) (history : List Deed) → IsLawful id opening history
    → Among change (made history) → IsCalledFor change history
made_called id opening change [] law a = absurd a
made_called id opening change (deed ∷ past) law a =
    ⊎_elim (here deed law.0) (λ there. earlier change deed past (made_called id opening change past law.1 there))
    (among_either change (made_at deed) (made past) a)
  where
    here : (deed : Deed) → IsLawfulDeed id opening deed past → Among change (made_at deed) → IsCalledFor change (deed ∷ past)
    here (Call client to seq ask reply (Some own)) law (inl is) = record {
      client = client;
      to = to;
      seq = seq;
      ask = ask;
      reply = reply;
      among = inl (ap (λ c. Call client to seq ask reply (Some c)) is);
      of_key = gives_key id opening past ask change (sym (ap (λ d. d.made) law) ∙ ap (λ c. Some c) (sym is));
    }
    here (Call client to seq ask reply (Some own)) law (inr a) = absurd a
    here (Call client to seq ask reply None) law a = absurd a
    here (Asked client seq ask reply) law a = absurd a
    here (Taken change verdict) law a = absurd a
    here (Gave to what) law a = absurd a
    here (Imaged image) law a = absurd a
    here (Reported report) law a = absurd a
    here (Heard report) law a = absurd a
    here (Swept moment expired) law a = absurd a

-- ---- a client's call is at the shard of its key

call_there : (client shards shard to seq : ℕ) (ask : Ask) (reply : Reply) (made : Option Change) (served : List Served)
    → Among (Call client to seq ask reply made) (all_deeds_of client shards shard served) → shard ≡ shard_of (key_of ask) shards
call_there client shards shard to seq ask reply made [] a = absurd a
call_there client shards shard to seq ask reply made (Called number own told one there ∷ served) a =
    at_test (shard == shard_of (key_of own) shards) refl (call_there client shards shard to seq ask reply made served) a
  where
    at_test : (t : Bool) → (shard == shard_of (key_of own) shards) ≡ t
        → (Among (Call client to seq ask reply made) (all_deeds_of client shards shard served) → shard ≡ shard_of (key_of ask) shards)
        → Among (Call client to seq ask reply made)
        ((if t then Call client there number own told one ∷ [] else []) ++ all_deeds_of client shards shard served)
        → shard ≡ shard_of (key_of ask) shards
    at_test true e rest (inl is) =
        let same : own ≡ ask = cc in
        equal_numbers shard (shard_of (key_of own) shards) e ∙ ap (λ a. shard_of (key_of a) shards) same
    at_test true e rest (inr a) = rest a
    at_test false e rest a = rest a
call_there client shards shard to seq ask reply made (Queried number own replies ∷ served) (inl is) = absurd (cc)
call_there client shards shard to seq ask reply made (Queried number own replies ∷ served) (inr a) =
    call_there client shards shard to seq ask reply made served a
call_there client shards shard to seq ask reply made (Looked number peek ∷ served) a =
    call_there client shards shard to seq ask reply made served a

among_turned : {A : Type 0} → (x : A) (xs : List A) → Among x xs → Among x (reverse xs)
among_turned x xs a = among_reverse x (reverse xs) (subst (Among x) (sym (reverse-reverse xs)) a)

-- ---- so it is of a record in which clients were served

module _ (heading : Heading) (lines : List Line) (histories : Histories) (clients : List ClientRecord) (served : AreServed heading lines
    histories clients) (shard : ℕ) (within : shard < heading.shards) where
  abbrev grid : Grid
  grid = grid_from heading histories shard

  made_key : IsSound grid → (change : Change) → IsMade grid change → shard ≡ shard_of change.key heading.shards
  made_key sound change made_there =
      let maker = change.stamp.member in
      let called = made_called (identity grid maker) (grid.opening maker) change (grid.history maker) (sound.lawful maker) made_there in
      let deed : Deed = Call called.client called.to called.seq called.ask called.reply (Some change) in
      let placed = served.placed maker shard called.client called.seq deed within called.among
      (ap (λ t. if t then Some called.seq else None) (same_number called.client)) in
      let there : Among deed (histories (home_of heading called.client) shard) =
      subst (λ m. Among deed (histories m shard)) placed.1 called.among in
      let own : Among deed (filter (is_of_client called.client) (reverse (histories (home_of heading called.client) shard))) =
      filter_keeps (is_of_client called.client) deed (reverse (histories (home_of heading called.client) shard))
      (same_number called.client) (among_turned deed (histories (home_of heading called.client) shard) there) in
      call_there called.client heading.shards shard called.to called.seq called.ask called.reply (Some change)
      (served.served called.client)
      (subst (Among deed) ((served.each called.client placed.0).deeds shard within) own)
      ∙ ap (λ key. shard_of key heading.shards) (sym called.of_key)

  pub present_key : IsSound grid → law_3 grid → (member : ℕ) (past : List Deed) → Older past (grid.history member)
      → (key : List ℕ) (value : List Field) → present key past ≡ Some value → shard ≡ shard_of key heading.shards
  present_key sound held member past older key value is =
      let here = present_made grid sound held member past older key value is in
      made_key sound here.change here.made_there ∙ ap (λ k. shard_of k heading.shards) here.of_key
