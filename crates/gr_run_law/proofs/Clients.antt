-- Clients are served.
use Rattle.std.proofs.Common.{◌≡◌, ◌≢◌, ℕ, zero, suc, ◌<◌, ◌≤◌, ◌⊎◌, ◌==◌, Bool, true, false, List, [], ◌∷◌, length, map, Option, Some}
use Rattle.std.proofs.Common.{None}
use Rattle.std.proofs.Common.{refl, sym, ap, ◌∙◌, subst, arith, inl, inr, reverse, filter, if◌then◌else◌, ne_eqb, eqb-true}
use Rattle.std.specs.Prelude.{slice_get, slice_index, ◌-◌, ◌%◌}
use Rattle.std.specs.List.{filter_map, AllByRecursion}
use native.Mathlib.Decide.{ℕ_discrete}
use mathlib.Core.Logic.{dite}
use Rattle.gr_value.specs.Shard.{shard_of, key_hash}
use Rattle.gr_turn.specs.Views.{times}
use Rattle.gr_history.specs.Deeds.{is_of_client}
use Rattle.gr_history.specs.declared.deed.Deed.{Deed}
use Rattle.gr_law.specs.Grids.{Among}
use Rattle.gr_script.specs.declared.line.Line.{Line}
use Rattle.gr_script.specs.Rules.{Heading, IsHeading, IsWithin, AreWithin, IsMember, IsStated, home_of}
use Rattle.gr_script.specs.Rules.{IsScript}
use Rattle.gr_script.specs.Steps.{AreNumbered}
use Rattle.gr_script.proofs.Numbers.{steps_numbered}
use Rattle.gr_world.specs.Grids.{Histories}
use Rattle.gr_world.specs.Events.{Peek}
use Rattle.gr_world.specs.Served.{Served, Looked, all_deeds_of, number_in, step_of, IsPeek, ArePlaced, IsServed}
use Rattle.gr_run_law.specs.Shares.{Stands, Owner, Client, Thread, Giver}
use Rattle.gr_run_law.specs.Threads.{AreLeftByThreads}
use Rattle.gr_run_law.proofs.Peeks.{late_of, in_order}
use Rattle.gr_run_law.proofs.Sharing.{GivesNone, one_owner, entry_at, get_below}
use Rattle.gr_run_law.proofs.Lists.{all_at, all_pass, where_so, filter_as_map, reverse_get, older_get, same_number, none_isnt_some}
use Rattle.gr_run_law.proofs.Lists.{same_in_some}
use Rattle.gr_run_law.proofs.Owners.{OfSteps, steps_all, client_owned, client_all, thread_all, giver_all}

own_steps : (client : ℕ) → OfSteps client (λ d. is_of_client client d ≡ true)
own_steps client = record { calls = λ to number ask reply made. same_number client; asks = λ number ask reply. same_number client }

other_steps : (client other : ℕ) → other ≢ client → OfSteps other (λ d. where_so (is_of_client client) d ≡ None)
other_steps client other ne = record {
  calls = λ to number ask reply made. rw (ne_eqb other client ne) refl;
  asks = λ number ask reply. rw (ne_eqb other client ne) refl;
}

module _ (heading : Heading) (lines : List Line) (histories : Histories) (served : ℕ → List Served)
    (a : AreLeftByThreads heading lines histories served) (shard : ℕ) (within : shard < heading.shards) where
  -- At its member a client's deeds are those of its steps.
  pub client_deeds : (client : ℕ) → IsStated client heading → IsMember heading (home_of heading client)
      → filter (is_of_client client) (reverse (histories (home_of heading client) shard))
      ≡ all_deeds_of client heading.shards shard (served client)
  client_deeds client stated is =
      filter_as_map (is_of_client client) (reverse (histories home shard))
      ∙ one_owner f (reverse (histories home shard)) (a.owned home shard) (a.places home shard) (Client client)
      (a.shared home shard is within) others
      ∙ ap (filter_map f) ((a.sessions client stated).deeds shard within)
      ∙ all_pass (is_of_client client) (all_deeds_of client heading.shards shard (served client))
      (steps_all client heading.shards shard (λ d. is_of_client client d ≡ true) (own_steps client) (served client))
    where
      home : ℕ
      home = home_of heading client

      f : Deed → Option Deed
      f = where_so (is_of_client client)

      none_of : (ds : List Deed) → AllByRecursion (λ d. f d ≡ None) ds → GivesNone f ds
      none_of ds all = all_at (λ d. f d ≡ None) ds all

      others : (other : Owner) → (other ≡ Client client) ⊎ GivesNone f (a.owned home shard other)
      others (Client other) = dite (ℕ_discrete other client) (λ (e : other ≡ client). inl (ap (λ c. Client c) e))
          (λ ne. inr (none_of (a.owned home shard (Client other))
          (client_all heading lines histories served a home shard is within other (λ d. f d ≡ None) (other_steps client other ne))))
      others Thread = inr (none_of (a.owned home shard Thread)
          (thread_all heading lines histories served a home shard is within (λ d. f d ≡ None)
          record { takes = λ c v. refl; hears = λ r. refl; reports = λ r. refl; sweeps = λ m e. refl; merges = λ i. refl }))
      others (Giver joiner) = inr (none_of (a.owned home shard (Giver joiner))
          (giver_all heading lines histories served a home shard is within joiner (λ d. f d ≡ None) (λ what. refl)))

within_at : (least most : ℕ) (numbers : List ℕ) (i : ℕ) → AreWithin least most numbers → i < length numbers
    → IsWithin least most (slice_index numbers i)
within_at least most [] i are less = absurd (omega (arith, less))
within_at least most (number ∷ numbers) zero are less = are.0
within_at least most (number ∷ numbers) (suc i) are less = within_at least most numbers i are.1 (omega (arith, less))

-- a client's member is one
pub home_is_member : (heading : Heading) → IsHeading heading → (client : ℕ) → IsStated client heading
    → IsMember heading (home_of heading client)
home_is_member heading is client stated =
    within_at 1 heading.members heading.clients (client - 1) is.at_members (omega (arith, stated.0, stated.1))

-- Each client's step in a history is one of a stated client at its member.
pub steps_placed : (heading : Heading) (lines : List Line) (histories : Histories) (served : ℕ → List Served)
    → AreLeftByThreads heading lines histories served → ArePlaced heading histories
steps_placed heading lines histories served a member shard client number deed within among is = at_member (a.outside member shard)
  where
    Goal : Type 0
    Goal = IsStated client heading × (member ≡ home_of heading client)

    Leads : Deed → Type 0
    Leads d = number_in client d ≡ Some number → Goal

    no : None ≡ Some number → Goal
    no e = absurd (none_isnt_some number e)

    at_number : (b : Bool) (other own : ℕ) → (other == client) ≡ b → (if b then Some own else None) ≡ Some number → other ≡ client
    at_number true other own e h = eqb-true other client e
    at_number false other own e h = absurd (none_isnt_some number h)

    of_other : (other : ℕ) → IsStated other heading → member ≡ home_of heading other → OfSteps other Leads
    of_other other stated home = record {
      calls = λ to own ask reply made h. moved (at_number (other == client) other own refl h);
      asks = λ own ask reply h. moved (at_number (other == client) other own refl h);
    }
      where
        moved : other ≡ client → Goal
        moved same = (subst (λ c. IsStated c heading) same stated, subst (λ c. member ≡ home_of heading c) same home)

    found : (is_member : IsMember heading member) → Goal
    found is_member =
        let at = reverse_get deed (histories member shard) among in
        let each = (a.shared member shard is_member within).each at.0 (get_below (reverse (histories member shard)) at.0 deed at.1) in
        let entry = entry_at (reverse (histories member shard)) 0 (a.places member shard each.0) (a.owned member shard each.0) at.0 Leads
        ((a.shared member shard is_member within).stands each.0) (all_at Leads (a.owned member shard each.0) (all_of each.0)) each.1 in
        entry.2 (ap (number_in client) (same_in_some entry.0 deed (sym entry.1 ∙ at.1)) ∙ is)
      where
        of_client : (other : ℕ)
            → (IsStated other heading × (member ≡ home_of heading other)
            × (a.owned member shard (Client other) ≡ all_deeds_of other heading.shards shard (served other)))
            ⊎ (a.owned member shard (Client other) ≡ []) → AllByRecursion Leads (a.owned member shard (Client other))
        of_client other (inl (stated, home, owns)) =
            subst (AllByRecursion Leads) (sym owns) (steps_all other heading.shards shard Leads (of_other other stated home) (served other))
        of_client other (inr none) = subst (AllByRecursion Leads) (sym none) tt

        all_of : (owner : Owner) → AllByRecursion Leads (a.owned member shard owner)
        all_of (Client other) = of_client other (client_owned heading lines histories served a member shard is_member within other)
        all_of Thread = thread_all heading lines histories served a member shard is_member within Leads
            record { takes = λ c v. no; hears = λ r. no; reports = λ r. no; sweeps = λ m e. no; merges = λ i. no }
        all_of (Giver joiner) = giver_all heading lines histories served a member shard is_member within joiner Leads (λ what. no)

    at_member : IsMember heading member ⊎ (histories member shard ≡ []) → Goal
    at_member (inl is_member) = found is_member
    at_member (inr none) = absurd (subst (Among deed) none among)

-- ---- peeks

none_steps : (client other : ℕ) → other ≢ client → OfSteps other (λ d. number_in client d ≡ None)
none_steps client other ne = record {
  calls = λ to number ask reply made. rw (ne_eqb other client ne) refl;
  asks = λ number ask reply. rw (ne_eqb other client ne) refl;
}

pub key_within : (key : List ℕ) (shards : ℕ) → 1 ≤ shards → shard_of key shards < shards
key_within key shards some = below (key_hash key) shards some
  where
    below : (a n : ℕ) → 1 ≤ n → a % n < n
    below a n some = omega (arith, some)

module _ (heading : Heading) (lines : List Line) (histories : Histories) (served : ℕ → List Served)
    (a : AreLeftByThreads heading lines histories served) (head : IsScript heading lines) (client : ℕ)
    (stated : IsStated client heading) where
  home : ℕ
  home = home_of heading client

  is_member : IsMember heading (home_of heading client)
  is_member = home_is_member heading head.heading client stated

  numbered : AreNumbered 1 (map step_of (served client))
  numbered = subst (AreNumbered 1) (sym (a.sessions client stated).steps) (steps_numbered heading client lines head.lines_stand)

  -- a deed of the client's stands at one of its places
  own_place : (shard : ℕ) → shard < heading.shards → (p number : ℕ) (deed : Deed)
      → slice_get (reverse (histories (home_of heading client) shard)) p ≡ Some deed → number_in client deed ≡ Some number
      → 0 < times p (a.places (home_of heading client) shard (Client client))
  own_place shard within p number deed get is =
      at_owner ((a.shared (home_of heading client) shard is_member within).each p (get_below list p deed get))
    where
      list : List Deed
      list = reverse (histories (home_of heading client) shard)

      not_other : (owner : Owner) → AllByRecursion (λ d. number_in client d ≡ None) (a.owned (home_of heading client) shard owner)
          → 0 < times p (a.places (home_of heading client) shard owner) → ⊥
      not_other owner all t =
          let entry = entry_at list 0 (a.places (home_of heading client) shard owner) (a.owned (home_of heading client) shard owner) p
          (λ d. number_in client d ≡ None) ((a.shared (home_of heading client) shard is_member within).stands owner)
          (all_at (λ d. number_in client d ≡ None) (a.owned (home_of heading client) shard owner) all) t in
          none_isnt_some number (sym entry.2 ∙ ap (number_in client) (same_in_some entry.0 deed (sym entry.1 ∙ get)) ∙ is)

      at_owner : (owner : Owner) × (0 < times p (a.places (home_of heading client) shard owner))
          → 0 < times p (a.places (home_of heading client) shard (Client client))
      at_owner (Client other, t) = dite (ℕ_discrete other client)
          (λ (e : other ≡ client). subst (λ c. 0 < times p (a.places (home_of heading client) shard (Client c))) e t)
          (λ ne. absurd (not_other (Client other)
          (client_all heading lines histories served a (home_of heading client) shard is_member within other
          (λ d. number_in client d ≡ None)
          (none_steps client other ne)) t))
      at_owner (Thread, t) = absurd (not_other Thread
          (thread_all heading lines histories served a (home_of heading client) shard is_member within (λ d. number_in client d ≡ None)
          record { takes = λ c v. refl; hears = λ r. refl; reports = λ r. refl; sweeps = λ m e. refl; merges = λ i. refl }) t)
      at_owner (Giver joiner, t) = absurd (not_other (Giver joiner)
          (giver_all heading lines histories served a (home_of heading client) shard is_member within joiner
          (λ d. number_in client d ≡ None) (λ what. refl)) t)

  own_stands : (shard : ℕ) → shard < heading.shards
      → Stands (reverse (histories (home_of heading client) shard)) 0 (a.places (home_of heading client) shard (Client client))
      (all_deeds_of client heading.shards shard (served client))
  own_stands shard within =
      subst (Stands (reverse (histories (home_of heading client) shard)) 0 (a.places (home_of heading client) shard (Client client)))
      ((a.sessions client stated).deeds shard within) ((a.shared (home_of heading client) shard is_member within).stands (Client client))

  pub client_served : IsServed heading lines histories client (served client)
  client_served = record {
    steps = (a.sessions client stated).steps;
    replies = (a.sessions client stated).replies;
    deeds = λ shard within. client_deeds heading lines histories served a shard within client stated is_member;
    peeks = peeks;
    growing = growing;
  }
    where
      peeks : (number : ℕ) (peek : Peek) → Among (Looked number peek) (served client)
          → IsPeek client number peek (histories (home_of heading client) (shard_of peek.key heading.shards))
      peeks number peek among =
          let shard = shard_of peek.key heading.shards in
          let within : shard_of peek.key heading.shards < heading.shards = key_within peek.key heading.shards head.heading.shards.0 in
          let fit = (a.sessions client stated).looks shard within in
          let look = (a.sessions client stated).told number peek among in
          record {
            within = look.within;
            value_is = look.value_is;
            late = λ deed past earlier o is less.
                let get = older_get deed past (histories (home_of heading client) shard) o in
                late_of client heading.shards shard number peek refl
                (reverse (histories (home_of heading client) shard)) 0 0 1 (a.places (home_of heading client) shard (Client client))
                (served client)
                (own_stands shard within) fit numbered among (length past)
                (own_place shard within (length past) earlier deed get is) deed earlier get is less;
          }

      growing : (number earlier : ℕ) (peek other : Peek)
          → Among (Looked number peek) (served client) → Among (Looked earlier other) (served client)
          → shard_of other.key heading.shards ≡ shard_of peek.key heading.shards → earlier < number → other.at ≤ peek.at
      growing number earlier peek other among before same less =
          let within : shard_of peek.key heading.shards < heading.shards = key_within peek.key heading.shards head.heading.shards.0 in
          in_order heading.shards (shard_of peek.key heading.shards) 0 1
          (a.places (home_of heading client) (shard_of peek.key heading.shards) (Client client)) (served client)
          ((a.sessions client stated).looks (shard_of peek.key heading.shards) within) numbered number earlier peek other
          refl (sym same) among before less
