-- What a shard keeps behind a call and behind a change that was taken in, once its parts were told.
use Rattle.std.proofs.Common.{◌≡◌, ◌∙◌, ap, sym, refl, ℕ, List, [], ◌∷◌, ◌++◌, reverse, false, Option}
use Rattle.std.proofs.lemmas.List.{reverse-append}
use Rattle.gr_value.specs.Shard.{shard_of}
use Rattle.gr_stamp.specs.declared.change.Change.{Change}
use Rattle.gr_vector.specs.Ids.{Id}
use Rattle.gr_vector.specs.Order.{with_id}
use Rattle.gr_cq.specs.Entries.{Entry, noted}
use Rattle.gr_slots.specs.Slots.{Entries}
use Rattle.gr_history.specs.declared.ask.Ask.{Ask}
use Rattle.gr_history.specs.declared.deed.Deed.{Deed}
use Rattle.gr_history.specs.declared.deed.Deed.TheVariants.{Taken}
use Rattle.gr_history.specs.declared.identity.Identity.{Identity}
use Rattle.gr_history.specs.declared.verdict.Verdict.{Verdict}
use Rattle.gr_history.specs.Asks.{key_of}
use Rattle.gr_history.specs.Calls.{call_gives}
use Rattle.gr_history.specs.Ids.{id_of}
use Rattle.gr_history.specs.Made.{made_in}
use Rattle.gr_history.specs.Turned.{turned}
use Rattle.gr_history.specs.Verdicts.{verdict}
use Rattle.gr_shard.specs.Asking.{Hold}
use Rattle.gr_shard.specs.Calls.{call_with}
use Rattle.gr_shard.specs.Entries.{applied, with_change, with_made}
use Rattle.gr_shard.specs.InStep.{opened}
use Rattle.gr_shard.specs.Looked.{IsLooked}
use Rattle.gr_shard.specs.Telling.{turned_by_change}
use Rattle.gr_shard.specs.View.{IsKept, IsStocked, Kept}
use Rattle.gr_shard.proofs.Coming.{opened_made, turned_made}
use Rattle.gr_shard.proofs.Kept.{kept_called, kept_taken}
use Rattle.gr_shard.proofs.Looked.{looked_nothing, looked_on}
use Rattle.gr_shard.proofs.Stocked.{opened_taken, unstocked}

-- what a call turns, by what it made
pub turned_by_call : (id : Identity) (opening client seq : ℕ) (ask : Ask) (deed : Deed) (past : List Deed) (slots : Entries) → Hold slots past
    → deed ≡ call_with client seq ask (call_gives id opening past ask) → turned_by_change slots (made_in deed) ≡ turned deed past
turned_by_call id opening client seq ask deed past slots stands is =
    let done = call_gives id opening past ask in
    rw is (sym (turned_made id opening client seq ask done.reply done.made done.to past slots stands refl))

module _ (id : Identity) (opening looked : ℕ) (was : Kept) (deeds after : List Deed) (history ids_room : ℕ) (room : Option ℕ) (slots : Entries)
    (ids : List Id) (queries : List Entry) (kept : IsKept id opening was (reverse deeds)) (open_are : was.queries ≡ opened (reverse deeds)) where
  pub behind_call : (client seq : ℕ) (ask : Ask) (deed : Deed) → IsLooked id looked (reverse deeds)
      → shard_of (key_of ask) id.shards ≡ id.shard → deed ≡ call_with client seq ask (call_gives id opening (reverse deeds) ask)
      → after ≡ deeds ++ deed ∷ [] → slots ≡ with_change (made_in deed) was.clock was.slots → ids ≡ with_made (made_in deed) was.vector
      → queries ≡ noted (turned_by_change was.slots (made_in deed)) was.queries
      → IsKept id opening (record was { slots = slots; vector = ids; queries = queries }) (reverse after)
      × IsStocked false history ids_room room was.clock queries (reverse after) × IsLooked id looked (reverse after)
  behind_call client seq ask deed is_looked here is pushed entered noted_are told =
      let past = reverse deeds in
      let done = call_gives id opening past ask in
      let behind = kept_called id opening was past client seq ask done.reply done.made done.to kept here refl in
      rw (pushed, reverse-append, entered, noted_are, told, is) (
        behind,
        unstocked _ _ _ _ _ _
            (opened_made id opening client seq ask done.reply done.made done.to past was.slots was.queries kept.stands open_are refl),
        looked_on id opening looked _ (call_with client seq ask done) past behind is_looked,
      )

  pub behind_taken : (change : Change) (told : Verdict) → shard_of change.key id.shards ≡ id.shard → told ≡ verdict (reverse deeds) change
      → after ≡ deeds ++ Taken change told ∷ [] → slots ≡ with_change (applied told change) was.clock was.slots
      → ids ≡ with_id (id_of change) was.vector → queries ≡ noted (turned_by_change was.slots (applied told change)) was.queries
      → IsKept id opening (record was { slots = slots; vector = ids; queries = queries }) (reverse after)
      × IsStocked false history ids_room room was.clock queries (reverse after) × IsLooked id 0 (reverse after)
  behind_taken change told here is pushed entered noted_are heard =
      rw (pushed, reverse-append, entered, noted_are, heard) (
        kept_taken id opening was (reverse deeds) change told kept here is,
        unstocked _ _ _ _ _ _ (opened_taken (reverse deeds) was.slots was.queries change told kept.stands open_are is),
        looked_nothing _ _,
      )
