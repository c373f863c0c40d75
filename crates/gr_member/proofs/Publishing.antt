-- What is published once a deed was added.
use Rattle.std.proofs.Common.{◌≡◌, ℕ, ◌+◌, List, [], ◌∷◌, ◌++◌, length, reverse, refl, sym, ap, ◌∙◌, subst, Bor, Result, Ok, Err, IfOk}
use Rattle.std.specs.List.{AllByRecursion}
use Rattle.std.proofs.lemmas.List.{length-reverse, reverse-append}
use Rattle.gr_oql.specs.declared.event.Turned.{Turned}
use Rattle.gr_stamp.specs.declared.change.Change.{Change}
use Rattle.gr_history.specs.declared.ask.Ask.{Ask}
use Rattle.gr_history.specs.declared.deed.Deed.{Deed}
use Rattle.gr_history.specs.Recipients.{NamesMembers}
use Rattle.gr_history.specs.Turned.{turned}
use Rattle.gr_peek.specs.Views.{Note, Publishing}
use Rattle.gr_peek_law.specs.Turns.{turned_each}
use Rattle.gr_peek_law.proofs.Shown.{count}
use Rattle.gr_history.specs.declared.deed.Deed.TheVariants.{Taken}
use Rattle.gr_history.specs.declared.done.Done.{Done}
use Rattle.gr_history.specs.declared.verdict.Verdict.{Verdict}
use Rattle.gr_history.specs.Calls.{call_gives}
use Rattle.gr_history.specs.Verdicts.{verdict}
use Rattle.gr_shard.specs.Calls.{call_with}
use Rattle.gr_shard.specs.declared.next.Came.{Came}
use Rattle.gr_shard.specs.declared.next.Came.TheVariants as came
use Rattle.gr_shard.specs.declared.next.Next.{Next}
use Rattle.gr_shard.specs.declared.next.Next.TheVariants as next
use Rattle.gr_shard.specs.declared.prepared.Prepared.{Prepared}
use Rattle.gr_shard.specs.Prepared.{Gives, IsPrepared}
use Rattle.gr_shard.specs.View.{Account, after_deed, with_spare}
use Rattle.logbook.specs.Pages.{Book}
use Rattle.gr_member.specs.Replicas.{Does, Serves, Shows, newest_turned, replicated, told_more, told_of}

-- the place of the publication that comes next
pub next_place : (publications : List (List Turned)) (deeds : List Deed) (at : ℕ) → publications ≡ turned_each (reverse deeds)
    → at ≡ length deeds + 1 → at ≡ length publications + 1
next_place publications deeds at p e =
    e ∙ ap (λ (n : ℕ). n + 1) (sym (ap length p ∙ count (reverse deeds) ∙ length-reverse deeds))

-- the turned keys of one deed more are published
pub published_more : (publications more : List (List Turned)) (deeds after : List Deed) (deed : Deed) (turns : List Turned)
    → publications ≡ turned_each (reverse deeds) → turns ≡ turned deed (reverse deeds) → more ≡ publications ++ turns ∷ []
    → after ≡ deeds ++ deed ∷ [] → more ≡ turned_each (reverse after)
published_more publications more deeds after deed turns p t m a =
    m ∙ ap (λ (l : List (List Turned)). l ++ turns ∷ []) p
    ∙ ap (λ (l : List Turned). turned_each (reverse deeds) ++ l ∷ []) t
    ∙ ap turned_each (sym (ap (λ (l : List Deed). reverse l) a ∙ reverse-append deeds (deed ∷ [])))

-- what was prepared was published and added
pub shows_prepared : (before now after : Account) (spare : ℕ) (to_do : Next) (prepared : Prepared) (turns : List Turned) (old new : Publishing)
    → now ≡ with_spare spare before → IsPrepared before to_do prepared → after ≡ after_deed now prepared.deed → turns ≡ prepared.turned.items
    → new ≡ record old { publications = old.publications ++ turns ∷ [] }
    → Shows before to_do prepared.came after (told_of old) (told_of new)
shows_prepared before now after spare to_do prepared turns old new s i a t p = record {
  served = record {
    deed = prepared.deed;
    added = a ∙ ap (λ (w : Account). after_deed w prepared.deed) s;
    gives = i.gives;
  };
  told = ap told_of p ∙ ap (told_more (told_of old)) (t ∙ i.turned_are);
}

-- the call of the name of what was to be done added the deed
pub serves : (old new after : Account) (named to_do : Next) (answer came : Came) (deed : Deed) → named ≡ to_do → answer ≡ came → after ≡ new
    → new ≡ after_deed old deed → Gives old.id old.opening (reverse old.deeds) to_do came deed → Serves old named answer after
serves old new after named to_do answer came deed n r s a g = rw (n, r, s) (record { deed = deed; added = a; gives = g })

-- the deed that was added at once is the one that was to be
pub does_served : (before after : Account) (copy : Book) (to_do : Next) (came : Came) → Serves before to_do came after
    → AllByRecursion (NamesMembers before.id) (reverse after.deeds) → Does (replicated before copy) to_do came (replicated after copy)
does_served before after copy to_do came s n =
    let added = ap (λ (a : Account). a.deeds) s.added in record {
      deed = s.deed;
      added = added;
      gives = s.gives;
      named = (subst (AllByRecursion (NamesMembers before.id))
          (ap (λ (l : List Deed). reverse l) added ∙ reverse-append before.deeds (s.deed ∷ [])) n).0;
    }

-- what it turned is published
pub shown_more : (publications : List (List Turned)) (before after : Account) (to_do : Next) (came : Came) (old new : Note)
    → publications ≡ turned_each (reverse before.deeds) → old.publications ≡ publications → Shows before to_do came after old new
    → new.publications ≡ turned_each (reverse after.deeds)
shown_more publications before after to_do came old new p o s =
    published_more publications new.publications before.deeds after.deeds s.served.deed (turned s.served.deed (reverse before.deeds)) p refl
    (ap (λ (n : Note). n.publications) s.told ∙ ap (λ (l : List (List Turned)). l ++ turned s.served.deed (reverse before.deeds) ∷ []) o)
    (ap (λ (a : Account). a.deeds) s.served.added)

-- what it turned is counted
pub counted_more : (publications more : List (List Turned)) (before after : Account) (to_do : Next) (came : Came)
    → publications ≡ turned_each (reverse before.deeds) → Serves before to_do came after
    → more ≡ publications ++ newest_turned (reverse after.deeds) ∷ [] → more ≡ turned_each (reverse after.deeds)
counted_more publications more before after to_do came p s m =
    let added = ap (λ (a : Account). a.deeds) s.added in
    published_more publications more before.deeds after.deeds s.deed (newest_turned (reverse after.deeds)) p
    (ap newest_turned (ap (λ (l : List Deed). reverse l) added ∙ reverse-append before.deeds (s.deed ∷ []))) m added

-- ---- steps and changes

pub called : (old new : Account) (client seq : ℕ) (ask : Bor Ask) (done : Done)
    → done ≡ call_gives old.id old.opening (reverse old.deeds) ask.now → new ≡ after_deed old (call_with client seq ask.now done)
    → Serves old (next.Call client seq ask) (came.Done done) new
called old new client seq ask done g a = record {
  deed = call_with client seq ask.now done;
  added = a;
  gives = (ap came.Done g, ap (call_with client seq ask.now) g);
}

pub taken : (old new : Account) (change : Bor Change) (told : Verdict) → told ≡ verdict (reverse old.deeds) change.now
    → new ≡ after_deed old (Taken change.now told) → Serves old (next.TakeIn change) (came.Verdict told) new
taken old new change told g a = record { deed = Taken change.now told; added = a; gives = (ap came.Verdict g, ap (Taken change.now) g) }

pub shows_called : {E : Type 0} (r : Result Done E) (old new : Account) (client seq : ℕ) (ask : Bor Ask) (before after : Note)
    → IfOk r (λ done. done ≡ call_gives old.id old.opening (reverse old.deeds) ask.now)
    → IfOk r (λ done. new ≡ after_deed old (call_with client seq ask.now done))
    → IfOk r (λ done. after ≡ told_more before (turned (call_with client seq ask.now done) (reverse old.deeds)))
    → IfOk r (λ done. Shows old (next.Call client seq ask) (came.Done done) new before after)
unfolding called
shows_called (Ok done) old new client seq ask before after g a t = record { served = called old new client seq ask done g a; told = t }
shows_called (Err e) old new client seq ask before after g a t = tt

pub shows_taken : {E : Type 0} (r : Result Verdict E) (old new : Account) (change : Bor Change) (before after : Note)
    → IfOk r (λ told. told ≡ verdict (reverse old.deeds) change.now) → IfOk r (λ told. new ≡ after_deed old (Taken change.now told))
    → IfOk r (λ told. after ≡ told_more before (turned (Taken change.now told) (reverse old.deeds)))
    → IfOk r (λ told. Shows old (next.TakeIn change) (came.Verdict told) new before after)
unfolding taken
shows_taken (Ok told) old new change before after g a t = record { served = taken old new change told g a; told = t }
shows_taken (Err e) old new change before after g a t = tt
