-- Once a member has departed, none of its changes comes in at those that stay.
use Rattle.std.proofs.Common.{◌≡◌, ◌⊎◌, ℕ, ◌<◌, List, [], ◌∷◌, ◌++◌, Bool, true, false, ◌&&◌, ◌||◌, not, ◌==◌, refl, sym, ap, ◌∙◌}
use Rattle.std.proofs.Common.{subst, inl, inr, ⊎_elim, reverse, map}
use Rattle.std.specs.Prelude.{Option, Some, None}
use Rattle.std.specs.Option.{option_to_list}
use Rattle.gr_value.specs.Shard.{shard_of}
use Rattle.gr_stamp.specs.declared.change.Change.{Change}
use Rattle.gr_vector.specs.Ids.{Id, has_id}
use Rattle.gr_vector.proofs.Order.{has_united}
use Rattle.gr_history.specs.declared.ask.Ask.{Ask}
use Rattle.gr_history.specs.declared.done.Done.{Done}
use Rattle.gr_history.specs.declared.image.What.{What}
use Rattle.gr_history.specs.declared.image.What.TheVariants as what
use Rattle.gr_history.specs.declared.deed.Deed.{Deed}
use Rattle.gr_history.specs.declared.deed.Deed.TheVariants.{Call}
use Rattle.gr_history.specs.Calls.{call_gives}
use Rattle.gr_history.specs.Gifts.{own_changes}
use Rattle.gr_history.specs.Ids.{id_of, ids_at, ids}
use Rattle.gr_history.specs.Made.{made}
use Rattle.gr_law.specs.Grids.{Among}
use Rattle.gr_law.proofs.Lists.{among_reverse, has_id-append}
use Rattle.gr_law.proofs.Made.{made_known, made_stamped}
use Rattle.gr_law.proofs.Steps.{true_isnt_false}
use Rattle.gr_script.specs.declared.line.Line.{Line}
use Rattle.gr_script.specs.Rules.{Heading}
use Rattle.gr_script.specs.Steps.{departed, is_gone}
use Rattle.gr_world.specs.Events.{Event, Did, put_if, history}
use Rattle.gr_world.specs.Departures.{taken_of}
use Rattle.gr_world.specs.Doings.{Doing, Calls, Takes, Gives, Merges, Reports, Hears, Sweeps, Asks}
use Rattle.gr_world.specs.Courses.{identity_at, does, unless, delivers, takes_all, gives, copies, course}
use Rattle.gr_world.specs.Shut.{IsStaying, AreOne, AreStill}
use Rattle.gr_world.proofs.Events.{equal_numbers, same_number}
use Rattle.gr_world.proofs.FromTaken.{has_one}
use Rattle.gr_world.proofs.Growing.{isnt_true, is_taken}
use Rattle.gr_world.proofs.Walks.{Keeps, takes_keep}
use Rattle.gr_world.proofs.Lines.{AreFit, fit_rest, gone_later, IsAlone, IsKeptBy, line_keeps}
use Rattle.gr_world.proofs.Providers.{hears_keep}

module _ (heading : Heading) (gone : List ℕ) (of : ℕ) (base : List Event) (left : is_gone gone of ≡ true)
    (one : AreOne heading gone of base) where
  abbrev IsStill : List Event → Type 0
  IsStill now = AreStill heading gone of base now

  -- what a deed makes known of the one was known at its member, if that stays
  abbrev IsHarmless : ℕ → ℕ → Deed → List Event → Type 0
  IsHarmless m s deed now = IsStaying heading gone m → s < heading.shards → (id : Id) → id.member ≡ of
      → has_id id (ids_at deed) ≡ true → has_id id (ids (history m s now)) ≡ true

  still_did : (m s : ℕ) (deed : Deed) (now : List Event) → IsStill now → IsHarmless m s deed now → IsStill (Did m s deed ∷ now)
  still_did m s deed now h harmless shard less j stays id named =
      at_test (shard == s) (j == m) refl refl
    where
      same : shard ≡ s → j ≡ m → has_id id (ids (deed ∷ history j shard now)) ≡ has_id id (ids (history j shard now))
      same at is =
          has_id-append id (ids_at deed) (ids (history j shard now)) ∙ at_known (has_id id (ids_at deed)) refl
        where
          known : has_id id (ids_at deed) ≡ true → has_id id (ids (history j shard now)) ≡ true
          known k =
              subst (λ i. has_id id (ids (history i shard now)) ≡ true) (sym is)
              (subst (λ t. has_id id (ids (history m t now)) ≡ true) (sym at)
              (harmless (subst (IsStaying heading gone) is stays) (subst (λ t. t < heading.shards) at less) id named k))

          at_known : (b : Bool) → has_id id (ids_at deed) ≡ b
              → (b || has_id id (ids (history j shard now))) ≡ has_id id (ids (history j shard now))
          at_known true e = sym (known e)
          at_known false e = refl

      at_test : (b c : Bool) → (shard == s) ≡ b → (j == m) ≡ c
          → has_id id (ids (put_if (b && c) deed (history j shard now))) ≡ has_id id (ids (history j shard base))
      at_test true true e f = same (equal_numbers shard s e) (equal_numbers j m f) ∙ h shard less j stays id named
      at_test true false e f = h shard less j stays id named
      at_test false c e f = h shard less j stays id named

  -- a change that is taken in harms nothing where it was known
  abbrev IsOld : ℕ → ℕ → Change → List Event → Type 0
  IsOld m s change now = IsStaying heading gone m → s < heading.shards → change.stamp.member ≡ of
      → has_id (id_of change) (ids (history m s now)) ≡ true

  still_takes : (m s : ℕ) (change : Change) (now : List Event) → IsStill now → IsOld m s change now
      → IsStill (does heading m s (Takes change) now)
  still_takes m s change now h old = still_did m s _ now h
      (λ stays less id named k.
      let is = has_one id (id_of change) k in
      subst (λ x. has_id x (ids (history m s now)) ≡ true) is (old stays less (ap (λ x. x.member) is ∙ named)))

  -- a call's change is of its member, which stays
  still_calls : (m s client number : ℕ) (ask : Ask) (now : List Event) → IsStill now
      → IsStill (does heading m s (Calls client number ask) now)
  still_calls m s client number ask now h = still_did m s _ now h
      (λ stays less id named k. at_made gives_.made refl stays id named k)
    where
      past : List Deed
      past = history m s now

      gives_ : Done
      gives_ = call_gives (identity_at heading m s) heading.floor past ask

      at_made : (o : Option Change) → gives_.made ≡ o → IsStaying heading gone m → (id : Id) → id.member ≡ of
          → has_id id (map id_of (option_to_list gives_.made)) ≡ true → has_id id (ids past) ≡ true
      at_made None e stays id named k =
          absurd (isnt_true (subst (λ o. has_id id (map id_of (option_to_list o)) ≡ true) e k))
      at_made (Some change) e stays id named k =
          let is : id_of change ≡ id =
          has_one id (id_of change) (subst (λ o. has_id id (map id_of (option_to_list o)) ≡ true) e k) in
          let law : record { reply = gives_.reply; made = Some change; to = gives_.to } ≡ gives_ =
          ap (λ o. record { reply = gives_.reply; made = o; to = gives_.to }) (sym e) in
          let member = (made_stamped (identity_at heading m s) heading.floor change
          (Call client gives_.to number ask gives_.reply (Some change)) past law (inl refl)).member_is in
          let mine : m ≡ of = sym member ∙ ap (λ x. x.member) is ∙ named in
          absurd (true_isnt_false (sym left ∙ subst (λ i. is_gone gone i ≡ false) mine stays.stays))

  still_quiet : (m s : ℕ) (deed : Deed) (now : List Event) → ids_at deed ≡ [] → IsStill now → IsStill (Did m s deed ∷ now)
  still_quiet m s deed now none h = still_did m s deed now h
      (λ stays less id named k. absurd (isnt_true (subst (λ xs. has_id id xs ≡ true) none k)))

  still_alone : (m s : ℕ) (doing : Doing) → IsAlone doing → Keeps IsStill (does heading m s doing)
  still_alone m s (Calls client number ask) alone now h = still_calls m s client number ask now h
  still_alone m s (Takes change) alone now h = absurd alone
  still_alone m s (Gives to gift) alone now h = absurd alone
  still_alone m s (Merges image) alone now h = absurd alone
  still_alone m s Reports alone now h = still_quiet m s _ now refl h
  still_alone m s (Hears report) alone now h = absurd alone
  still_alone m s (Sweeps moment) alone now h = still_quiet m s _ now refl h
  still_alone m s (Asks client number ask) alone now h = still_quiet m s _ now refl h

  -- changes that one of them knows
  still_all : (taker giver s : ℕ) → IsStaying heading gone giver → (changes : List Change) (now : List Event) → IsStill now
      → ((change : Change) → Among change changes → has_id (id_of change) (ids (history giver s base)) ≡ true
      ⊎ ((change.stamp.member ≡ of) → ⊥))
      → IsStill (takes_all heading taker s changes now)
  still_all taker giver s at_giver [] now h known = h
  still_all taker giver s at_giver (change ∷ rest) now h known =
      still_all taker giver s at_giver rest (does heading taker s (Takes change) now)
      (still_takes taker s change now h (λ stays less named. ⊎_elim
      (λ k. h s less taker stays (id_of change) named ∙ sym (one s less giver taker at_giver stays (id_of change) named) ∙ k)
      (λ other. absurd (other named)) (known change (inl refl))))
      (λ c a. known c (inr a))

  still_given : (joiner shard giver : ℕ) (gift : What) → shard < heading.shards → IsStaying heading gone giver
      → Keeps IsStill (gives heading joiner shard giver gift)
  still_given joiner shard giver what.Image less stays now h =
      let given : IsStill (does heading giver shard (Gives joiner what.Image) now) = still_quiet giver shard _ now refl h in
      still_did joiner shard _ (does heading giver shard (Gives joiner what.Image) now) given
      (λ at_joiner less id named k.
      let known : has_id id (ids (history giver shard now)) ≡ true = sym (has_united id [] (ids (history giver shard now))) ∙ k in
      given shard less joiner at_joiner id named ∙ sym (one shard less giver joiner stays at_joiner id named)
      ∙ sym (h shard less giver stays id named) ∙ known)
  still_given joiner shard giver what.Own less stays now h =
      still_all joiner giver shard stays (own_changes (history giver shard now))
      (does heading giver shard (Gives joiner what.Own) now) (still_quiet giver shard _ now refl h)
      (λ change a. at_member change a (change.stamp.member == of) refl)
    where
      apart : (a b : ℕ) → (a == b) ≡ false → a ≡ b → ⊥
      apart a b e is = isnt_true (sym e ∙ subst (λ k. (a == k) ≡ true) is (same_number a))

      at_member : (change : Change) → Among change (own_changes (history giver shard now)) → (b : Bool)
          → (change.stamp.member == of) ≡ b
          → (has_id (id_of change) (ids (history giver shard base)) ≡ true) ⊎ ((change.stamp.member ≡ of) → ⊥)
      at_member change a true e =
          inl (sym (h shard less giver stays (id_of change) (equal_numbers change.stamp.member of e))
          ∙ made_known change (history giver shard now) (among_reverse change (made (history giver shard now)) a))
      at_member change a false e = inr (apart change.stamp.member of e)

  still_copied : (departing shard taker giver : ℕ) → IsStaying heading gone giver → Keeps IsStill (copies heading departing shard taker giver)
  still_copied departing shard taker giver at_giver now h =
      takes_keep heading taker shard IsStill (reverse (taken_of departing (history giver shard now)))
      (λ change a mid k. still_takes taker shard change mid k (λ at_taker low named.
      let t = is_taken departing (history giver shard now) change (among_reverse change _ a) in
      k shard low taker at_taker (id_of change) named
      ∙ sym (one shard low giver taker at_giver at_taker (id_of change) named)
      ∙ sym (h shard low giver at_giver (id_of change) named) ∙ t.known)) now h

  module _ (past : List Line) (more : (m : ℕ) → is_gone gone m ≡ true → is_gone (departed past) m ≡ true) where
    still_delivered : (m : ℕ) (change : Option Change) → Keeps IsStill (delivers heading (departed past) m change)
    still_delivered m None now h = h
    still_delivered m (Some change) now h = at_test
        (is_gone (departed past) change.stamp.member
        && not (has_id (id_of change) (ids (history m (shard_of change.key heading.shards) now)))) refl
      where
        known : (a b : Bool) → (a && not b) ≡ false → a ≡ true → b ≡ true
        known true true e is = refl
        known true false e is = absurd (true_isnt_false e)
        known false b e is = absurd (isnt_true is)

        at_test : (b : Bool)
            → (is_gone (departed past) change.stamp.member
            && not (has_id (id_of change) (ids (history m (shard_of change.key heading.shards) now)))) ≡ b
            → IsStill (unless b (does heading m (shard_of change.key heading.shards) (Takes change)) now)
        at_test true e = h
        at_test false e = still_takes m (shard_of change.key heading.shards) change now h
            (λ stays less named. known _ _ e (more change.stamp.member (subst (λ i. is_gone gone i ≡ true) (sym named) left)))

    stayed : (m : ℕ) → IsStaying heading (departed past) m → IsStaying heading gone m
    stayed m stays = record { stated = stays.stated; stays = at_test (is_gone gone m) refl }
      where
        at_test : (b : Bool) → is_gone gone m ≡ b → is_gone gone m ≡ false
        at_test true e = absurd (true_isnt_false (sym (more m e) ∙ stays.stays))
        at_test false e = e

    pub still_by : (entry : Line) → IsKeptBy heading past entry IsStill
    still_by entry = record {
      done = λ m s doing alone less stays. still_alone m s doing alone;
      peeked = λ client number peek now h. h;
      gathered = λ client number replies now h. h;
      delivered = λ m change stays. still_delivered m change;
      given = λ joiner s giver gift less at_joiner at_giver may. still_given joiner s giver gift less (stayed giver at_giver);
      heard = λ m from number s less stays. hears_keep heading IsStill m from number s (λ report now h. still_quiet m s _ now refl h);
      closed = λ m from s less stays closed now h. still_quiet m s _ now refl h;
      copied = λ departing s taker giver less stays at_giver. still_copied departing s taker giver (stayed giver at_giver);
    }

-- No change of a member that departed comes in at those that stay, whatever the later lines do.
pub still_later : (heading : Heading) (of : ℕ) (past later : List Line) → AreFit heading (later ++ past)
    → is_gone (departed past) of ≡ true → AreOne heading (departed past) of (course heading past)
    → AreStill heading (departed past) of (course heading past) (course heading (later ++ past))
still_later heading of past [] fit left one = λ shard less j stays id named. refl
still_later heading of past (entry ∷ later) fit left one =
    line_keeps heading (later ++ past) (AreStill heading (departed past) of (course heading past)) entry fit.heading_is fit.names.0
    (still_by heading (departed past) of (course heading past) left one (later ++ past) (λ m h. gone_later later past m h) entry)
    (course heading (later ++ past))
    (still_later heading of past later (fit_rest heading entry (later ++ past) fit) left one)
