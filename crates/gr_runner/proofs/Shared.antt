-- Whose deeds stand in a member's history.
use Rattle.std.proofs.Common.{◌≡◌, ◌≢◌, ◌⊎◌, ℕ, ◌<◌, ◌≤◌, ◌==◌, Bool, true, false, List, [], ◌∷◌, length, map}
use Rattle.std.proofs.Common.{refl, sym, ap, ◌∙◌, subst, arith, inl, inr, reverse, flat_map, if◌then◌else◌, eqb-true}
use native.Mathlib.Decide.{ℕ_discrete}
use mathlib.Core.Logic.{dite}
use Rattle.std.specs.Prelude.{nat_le}
use Rattle.std.specs.List.{filter_map}
use Rattle.std.proofs.lemmas.Bool.Decides.{nat_tests}
use Rattle.gr_turn.specs.Views.{times}
use Rattle.gr_history.specs.declared.deed.Deed.{Deed}
use Rattle.gr_history.specs.declared.deed.Deed.TheVariants.{Gave}
use Rattle.gr_history.specs.declared.image.Gift.{Gift}
use Rattle.gr_history.specs.declared.image.What.{What}
use Rattle.gr_history.specs.declared.record.Record.{Record}
use Rattle.gr_script.specs.declared.line.Line.{Line}
use Rattle.gr_script.specs.Rules.{Heading, IsMember, IsScript, IsStated, home_of}
use Rattle.gr_script.specs.Steps.{joins_of}
use Rattle.gr_world.specs.Served.{all_deeds_of, histories_in}
use Rattle.gr_run_law.specs.Duties.{gift_due}
use Rattle.gr_run_law.specs.Shares.{AreShared, Client, Giver, Owner, Stands, Thread}
use Rattle.gr_run_law.specs.Threads.{IsWrittenBy, work_at}
use Rattle.gr_run_law.proofs.Growing.{stands_on}
use Rattle.gr_run_law.proofs.Lists.{same_number, true_false}
use Rattle.gr_value.specs.Lists.{StartsWith}
use Rattle.gr_member.specs.Seats.{nowhere}
use Rattle.gr_host.specs.Joins.{what_of}
use Rattle.gr_runner.specs.Left.{AreLeft, ClientLeft, HostLeft, at_shard, is_client_at, places_left, visit_at}
use Rattle.gr_runner.proofs.Ended.{IsHistory, history_of, oldest_first}
use Rattle.gr_runner.proofs.Joiners.{joiner_is, none_due, own_due}
use Rattle.gr_runner.proofs.Lists.{and_true, starts_trans}

-- the deeds that an owner added at a shard of the member
abbrev pub owned_left : Heading → List Line → (ℕ → ClientLeft) → (ℕ → HostLeft) → ℕ → ℕ → Owner → List Deed
owned_left heading lines clients hosts member shard (Client client) =
    if is_client_at heading member client then all_deeds_of client heading.shards shard (clients client).served else []
owned_left heading lines clients hosts member shard Thread = flat_map (work_at heading.shards shard) (hosts member).works
owned_left heading lines clients hosts member shard (Giver joiner) =
    map (λ what. Gave joiner what) (filter_map (gift_due member joiner) lines)

pub client_there : (heading : Heading) (member client : ℕ) → IsStated client heading → member ≡ home_of heading client
    → is_client_at heading member client ≡ true
client_there heading member client stated home =
    let low = stated.0 in let high = stated.1 in
    rw (home, same_number (home_of heading client)) (grind (arith, nat_tests))

pub client_here : (heading : Heading) (member client : ℕ) → is_client_at heading member client ≡ true
    → IsStated client heading × (member ≡ home_of heading client)
client_here heading member client e =
    let t = and_true (nat_le 1 client) (nat_le client (length heading.clients)) (home_of heading client == member) e in
    let low = t.0 in let high = t.1 in
    ((grind (arith, nat_tests), grind (arith, nat_tests)), sym (eqb-true (home_of heading client) member t.2))

module _ (heading : Heading) (lines : List Line) (left : Record) (script : IsScript heading lines) (a : AreLeft heading lines left) where
  abbrev pub places : ℕ → ℕ → Owner → List ℕ
  places = places_left heading lines a.clients a.hosts

  abbrev pub owned : ℕ → ℕ → Owner → List Deed
  owned = owned_left heading lines a.clients a.hosts

  -- what a pass had seen begins the history
  pub from_desk : (member shard : ℕ) (is : IsMember heading member) (less : shard < heading.shards) (seen : List Deed)
      → StartsWith (at_shard (a.desks member) shard).view.seen seen
      → StartsWith (history_of heading lines left a member shard is less).one.history.deeds seen
  from_desk member shard is less seen begins =
      let h = history_of heading lines left a member shard is less in
      starts_trans h.one.history.deeds (at_shard (a.desks member) shard).view.seen seen h.left_by.seen begins

  stands_each : (member shard : ℕ) (is : IsMember heading member) (less : shard < heading.shards) (owner : Owner)
      → Stands (history_of heading lines left a member shard is less).one.history.deeds 0
      (places member shard owner) (owned member shard owner)
  stands_each member shard is less (Client client) = at_client (is_client_at heading member client) refl
    where
      list : List Deed
      list = (history_of heading lines left a member shard is less).one.history.deeds

      at_client : (b : Bool) → is_client_at heading member client ≡ b
          → Stands list 0 (if b then (at_shard (a.clients client).pass shard).view.made else [])
          (if b then all_deeds_of client heading.shards shard (a.clients client).served else [])
      at_client true e =
          let here = client_here heading member client e in
          let view = (at_shard (a.clients client).pass shard).view in
          stands_on view.seen list 0 view.made (all_deeds_of client heading.shards shard (a.clients client).served)
          (from_desk member shard is less view.seen ((a.met member shard is less).of_client client here.0 here.1))
          ((a.each_client client here.0).here shard less).deeds
      at_client false e = let k : 0 ≤ length list = omega arith in k
  stands_each member shard is less Thread =
      let view = (at_shard (a.hosts member).pass shard).view in
      stands_on view.seen (history_of heading lines left a member shard is less).one.history.deeds 0 view.made
      (flat_map (work_at heading.shards shard) (a.hosts member).works)
      (from_desk member shard is less view.seen (a.met member shard is less).of_thread)
      ((a.each_host member is).stands shard less)
  stands_each member shard is less (Giver joiner) = at_joiner (joins_of joiner lines == 0) refl
    where
      list : List Deed
      list = (history_of heading lines left a member shard is less).one.history.deeds

      given : List Deed
      given = map (λ (what : What). Gave joiner what) (filter_map (gift_due member joiner) lines)

      none : filter_map (gift_due member joiner) lines ≡ [] → Stands list 0 [] given
      none e = rw e (let k : 0 ≤ length list = omega arith in k)

      some : (joins_of joiner lines == 0) ≡ false → joins_of joiner lines ≢ 0
      some e z = absurd (true_false (ap (λ (n : ℕ). n == 0) (sym z) ∙ e))

      at_joiner : (b : Bool) → (joins_of joiner lines == 0) ≡ b
          → Stands list 0 (if b then [] else (visit_at (a.hosts joiner) member shard).view.made) given
      at_joiner true e = none (none_due member joiner lines (eqb-true (joins_of joiner lines) 0 e))
      at_joiner false e = dite (ℕ_discrete member joiner) own other
        where
          joins : joins_of joiner lines ≢ 0
          joins = some e

          stated : IsMember heading joiner
          stated = (joiner_is heading lines joiner script joins).1.stated

          own : member ≡ joiner → Stands list 0 (visit_at (a.hosts joiner) member shard).view.made given
          own same =
              subst (λ (ps : List ℕ). Stands list 0 ps given)
              (sym (ap (λ (m : ℕ). (visit_at (a.hosts joiner) m shard).view.made) same ∙ (a.each_host joiner stated).spare shard less joins))
              (none (ap (λ (m : ℕ). filter_map (gift_due m joiner) lines) same ∙ own_due joiner lines))

          other : (member ≡ joiner → ⊥) → Stands list 0 (visit_at (a.hosts joiner) member shard).view.made given
          other ne =
              let view = (visit_at (a.hosts joiner) member shard).view in
              let gave = (a.each_host joiner stated).gave member shard (record { stated = is; other = ne }) less joins in
              subst (Stands list 0 view.made) (gifts_are ((a.hosts joiner).gifts member shard)
              ((a.each_host joiner stated).whats member shard (record { stated = is; other = ne }) less))
              (stands_on view.seen list 0 view.made (map (λ (g : Gift). Gave joiner (what_of g)) ((a.hosts joiner).gifts member shard))
              (from_desk member shard is less view.seen ((a.met member shard is less).of_joiner joiner joins)) gave.stands)
            where
              gifts_same : (gifts : List Gift) → map (λ (g : Gift). Gave joiner (what_of g)) gifts
                  ≡ map (λ (what : What). Gave joiner what) (map what_of gifts)
              gifts_same [] = refl
              gifts_same (g ∷ gifts) = ap (λ (l : List Deed). Gave joiner (what_of g) ∷ l) (gifts_same gifts)

              gifts_are : (gifts : List Gift) → map what_of gifts ≡ filter_map (gift_due member joiner) lines
                  → map (λ (g : Gift). Gave joiner (what_of g)) gifts ≡ given
              gifts_are gifts e = gifts_same gifts ∙ ap (map (λ (what : What). Gave joiner what)) e

  pub shared_left : (member shard : ℕ) → IsMember heading member → shard < heading.shards
      → AreShared (reverse (histories_in left member shard)) (owned member shard) (places member shard)
  shared_left member shard is less =
      subst (λ (list : List Deed). AreShared list (owned member shard) (places member shard))
      (sym (oldest_first heading left member shard (at_shard (a.desks member) shard) h))
      (record { stands = stands_each member shard is less; each = made })
    where
      h : IsHistory heading left member shard (at_shard (a.desks member) shard)
      h = history_of heading lines left a member shard is less

      made : (p : ℕ) → p < length h.one.history.deeds → (owner : Owner) × (0 < times p (places member shard owner))
      made p within =
          let met = a.met member shard is less in
          let many = (a.ended member is).many in
          let began = met.began in
          met.made p (h.left_by.made ((a.ended member is).all shard nowhere (omega (arith, less, many))) p (omega (arith, began)) within)

  pub written_left : (member shard : ℕ) → IsMember heading member → shard < heading.shards
      → IsWrittenBy heading lines member (owned member shard)
  written_left member shard is less = record { clients = λ client. at_client client (is_client_at heading member client) refl; givers = λ joiner. refl }
    where
      at_client : (client : ℕ) (b : Bool) → is_client_at heading member client ≡ b
          → (IsStated client heading × (member ≡ home_of heading client)) ⊎ (owned member shard (Client client) ≡ [])
      at_client client true e = inl (client_here heading member client e)
      at_client client false e =
          inr (ap (λ (b : Bool). if b then all_deeds_of client heading.shards shard (a.clients client).served else []) e)
