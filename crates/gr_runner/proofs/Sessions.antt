-- What clients' threads leave is a session each.
use Rattle.std.proofs.Common.{◌≡◌, ◌≢◌, ℕ, ◌<◌, Bool, true, false, ◌||◌, List, []}
use Rattle.std.proofs.Common.{refl, sym, ap, ◌∙◌, subst, arith, reverse, if◌then◌else◌}
use Rattle.std.specs.Prelude.{nat_le}
use Rattle.std.proofs.lemmas.Bool.Decides.{nat_tests}
use Rattle.std.proofs.lemmas.List.{length-reverse, reverse-append}
use mathlib.Core.List.{IsPrefix}
use Rattle.gr_value.specs.Shard.{shard_of}
use Rattle.gr_turn.specs.Views.{times}
use Rattle.gr_oql.specs.declared.event.Turned.{Turned}
use Rattle.gr_history.specs.declared.deed.Deed.{Deed}
use Rattle.gr_history.specs.declared.record.Record.{Record}
use Rattle.gr_history.specs.Recipients.{has_image}
use Rattle.gr_law.specs.Grids.{Among, Older}
use Rattle.gr_peek_law.specs.Turns.{turned_each}
use Rattle.gr_peek_law.proofs.Shown.{grows}
use Rattle.gr_script.specs.declared.line.Line.{Line}
use Rattle.gr_script.specs.Rules.{Heading, IsMember, IsScript, IsStated, home_of}
use Rattle.gr_script.specs.Steps.{joins_of}
use Rattle.gr_world.specs.Events.{Peek}
use Rattle.gr_world.specs.Served.{Looked, all_deeds_of, histories_in}
use Rattle.gr_run_law.specs.Shares.{Client}
use Rattle.gr_run_law.specs.Threads.{IsLook, IsReadyBefore, IsSession, LooksFit}
use Rattle.gr_run_law.proofs.Clients.{home_is_member, key_within}
use Rattle.gr_value.specs.Lists.{StartsWith}
use Rattle.gr_member.specs.Plans.{identity_of}
use Rattle.gr_session.specs.Waiting.{IsReadyFirst}
use Rattle.gr_session.proofs.Seeing.{seen_look}
use Rattle.gr_runner.specs.Left.{AreLeft, LeavesClient, at_shard, is_client_at}
use Rattle.gr_runner.specs.Makings.{plan_of}
use Rattle.gr_runner.proofs.Ended.{history_of}
use Rattle.gr_runner.proofs.Joiners.{joiner_is}
use Rattle.gr_runner.proofs.Lists.{older_front, starts_trans}
use Rattle.gr_runner.proofs.Shared.{client_there, from_desk, owned, places}

by_image : (member founders : ℕ) (past : List Deed) → founders < member → (nat_le member founders || has_image past) ≡ true
    → has_image past ≡ true
by_image member founders past late ready = at_test (nat_le member founders) (grind (arith, nat_tests)) ready
  where
    at_test : (b : Bool) → b ≡ false → (b || has_image past) ≡ true → has_image past ≡ true
    at_test false e r = r
    at_test true e r = absurd (no e)
      where
        no : true ≡ false → ⊥
        no e = cc

-- What was turned at first goes on being the beginning of what was turned.
turned_front : (list seen : List Deed) → StartsWith list seen → IsPrefix (turned_each (reverse seen)) (turned_each (reverse list))
turned_front list seen s =
    subst (λ (l : List Deed). IsPrefix (turned_each (reverse seen)) (turned_each l)) (sym (ap reverse s.1 ∙ reverse-append seen s.0))
    (grows (reverse s.0) (reverse seen))

module _ (heading : Heading) (lines : List Line) (left : Record) (script : IsScript heading lines) (a : AreLeft heading lines left) where
  pub sessions_left : (client : ℕ) → IsStated client heading
      → IsSession heading lines (histories_in left) client (a.clients client).served
      (λ shard. owned heading lines left script a (home_of heading client) shard (Client client))
      (λ shard. places heading lines left script a (home_of heading client) shard (Client client))
  sessions_left client stated = record {
    steps = c.steps;
    replies = c.replies;
    deeds = λ shard less. ap (λ (b : Bool). if b then all_deeds_of client heading.shards shard (a.clients client).served else []) there;
    looks = λ shard less. subst (λ (ps : List ℕ). LooksFit heading.shards shard 0 ps (a.clients client).served) (sym (made_is shard))
        (c.here shard less).looks;
    told = told;
    ready = ready;
  }
    where
      home : ℕ
      home = home_of heading client

      c : LeavesClient heading lines client (a.clients client)
      c = a.each_client client stated

      is : IsMember heading (home_of heading client)
      is = home_is_member heading script.heading client stated

      there : is_client_at heading (home_of heading client) client ≡ true
      there = client_there heading (home_of heading client) client stated refl

      made_is : (shard : ℕ) → places heading lines left script a (home_of heading client) shard (Client client)
          ≡ (at_shard (a.clients client).pass shard).view.made
      made_is shard = ap (λ (b : Bool). if b then (at_shard (a.clients client).pass shard).view.made else []) there

      -- the history begins with what the pass had seen
      begins : (shard : ℕ) (less : shard < heading.shards)
          → StartsWith (history_of heading lines left a (home_of heading client) shard is less).one.history.deeds
          (at_shard (a.clients client).pass shard).view.seen
      begins shard less = from_desk heading lines left script a (home_of heading client) shard is less
          (at_shard (a.clients client).pass shard).view.seen ((a.met (home_of heading client) shard is less).of_client client stated refl)

      told : (number : ℕ) (peek : Peek) → Among (Looked number peek) (a.clients client).served
          → IsLook peek (histories_in left (home_of heading client) (shard_of peek.key heading.shards))
      told number peek among =
          let shard = shard_of peek.key heading.shards in
          let less = key_within peek.key heading.shards script.heading.shards.0 in
          let h = history_of heading lines left a (home_of heading client) shard is less in
          let place = at_shard (a.clients client).pass shard in
          subst (IsLook peek) (sym h.history_is)
          (seen_look peek place.eye.known (reverse h.one.history.deeds) ((c.here shard less).told number peek among refl)
          (subst (λ (known : List (List Turned)). IsPrefix known (turned_each (reverse h.one.history.deeds))) (sym (c.known shard less))
          (turned_front h.one.history.deeds place.view.seen (begins shard less))))

      ready : (shard : ℕ) → shard < heading.shards → joins_of (home_of heading client) lines ≢ 0
          → IsReadyBefore (histories_in left (home_of heading client) shard)
          (places heading lines left script a (home_of heading client) shard (Client client))
      ready shard less joins =
          let h = history_of heading lines left a (home_of heading client) shard is less in
          let place = at_shard (a.clients client).pass shard in
          let r : IsReadyFirst (identity_of (plan_of heading (home_of heading client)) shard) place.view.seen place.view.made =
          c.waited shard less joins in
          let late = (joiner_is heading lines (home_of heading client) script joins).1.behind in
          record {
            past = reverse r.past;
            older = subst (Older (reverse r.past)) (sym h.history_is)
                (older_front h.one.history.deeds r.past
                (starts_trans h.one.history.deeds place.view.seen r.past (begins shard less) r.begins));
            ready = by_image (home_of heading client) heading.founders (reverse r.past) late r.ready;
            later = λ p t.
                let long = length-reverse r.past in
                let at = r.later p (subst (λ (ps : List ℕ). 0 < times p ps) (made_is shard) t) in omega (arith, long, at);
          }
