-- What a step on a query gathers is what its deed at each shard answers.
use Rattle.std.proofs.Common.{zero, suc, ◌≡◌, ◌∙◌, ap, sym, subst, refl, ℕ, ◌+◌, ◌≤◌, ◌<◌, List, ◌∷◌, Bool, true, false, ◌&&◌}
use Rattle.std.proofs.Common.{◌==◌, inl, arith, get_or}
use Rattle.std.proofs.lemmas.Bool.Decides.{nat_tests}
use Rattle.gr_history.specs.declared.deed.Deed.{Deed}
use Rattle.gr_history.specs.declared.deed.Deed.TheVariants.{Asked}
use Rattle.gr_history.specs.declared.query_ask.QueryAsk.{QueryAsk}
use Rattle.gr_history.specs.declared.query_reply.QueryReply.{QueryReply}
use Rattle.gr_history.specs.declared.query_reply.QueryReply.TheVariants.{Unknown}
use Rattle.gr_history.specs.Queries.{query_gives}
use Rattle.gr_law.specs.Grids.{Among}
use Rattle.gr_script.specs.Rules.{Heading, home_of}
use Rattle.gr_world.specs.Events.{Event, put_if, history}
use Rattle.gr_world.specs.Courses.{asks_at_each, replies_to}
use Rattle.gr_world.specs.Causes.{IsGathered}
use Rattle.gr_world.proofs.Lists.{numbers_length, numbers_get}

module _ (heading : Heading) (client number : ℕ) (ask : QueryAsk) (before : List Event) where
  abbrev pub m : ℕ
  m = home_of heading client

  -- what the shard answers after its history
  abbrev pub answer_at : ℕ → QueryReply
  answer_at s = query_gives client ask (history m s before)

  -- Later shards aren't asked yet.
  pub not_yet : (n s : ℕ) → n ≤ s → history m s (asks_at_each heading client number ask n before) ≡ history m s before
  not_yet zero s le = refl
  not_yet (suc n) s le = at_shard (s == n) (apart s n (omega (arith, le))) _ ∙ not_yet n s (omega (arith, le))
    where
      apart : (a b : ℕ) → b < a → (a == b) ≡ false
      apart a b h = grind (arith, nat_tests)

      at_shard : (b : Bool) → b ≡ false → (deed : Deed)
          → put_if (b && m == m) deed (history m s (asks_at_each heading client number ask n before))
          ≡ history m s (asks_at_each heading client number ask n before)
      at_shard b e deed = rw e refl

  -- Each shard has the one deed more.
  pub asked_there : (n s : ℕ) → s < n
      → history m s (asks_at_each heading client number ask n before) ≡ Asked client number ask (answer_at s) ∷ history m s before
  asked_there zero s less = absurd (omega (arith, less))
  asked_there (suc n) s less = at_shard (s == n) refl (asked_there n s)
    where
      itself : (m == m) ≡ true
      itself = grind (arith, nat_tests)

      same : (a b : ℕ) → (a == b) ≡ true → b ≡ a
      same a b h = grind (arith, nat_tests)

      below : (a b : ℕ) → (a == b) ≡ false → a < suc b → a < b
      below a b e h = grind (arith, nat_tests)

      deed_after : List Deed → Deed
      deed_after past = Asked client number ask (query_gives client ask past)

      at_shard : (b : Bool) → (s == n) ≡ b
          → (s < n → history m s (asks_at_each heading client number ask n before)
          ≡ Asked client number ask (answer_at s) ∷ history m s before)
          → put_if (b && m == m) (deed_after (history m n (asks_at_each heading client number ask n before)))
          (history m s (asks_at_each heading client number ask n before))
          ≡ Asked client number ask (answer_at s) ∷ history m s before
      at_shard true e next =
          let is : n ≡ s = same s n e in
          let still = not_yet n s (omega (arith, is)) in
          rw itself
          (ap (λ past. deed_after past ∷ history m s (asks_at_each heading client number ask n before))
          (ap (λ k. history m k (asks_at_each heading client number ask n before)) is ∙ still)
          ∙ ap (λ past. Asked client number ask (answer_at s) ∷ past) still)
      at_shard false e next = next (below s n e less)

  pub gathered : IsGathered heading client number (replies_to heading client ask before)
      (asks_at_each heading client number ask heading.shards before)
  gathered = record {
    one_each = numbers_length 0 heading.shards answer_at;
    told = λ shard less. (ask, there shard less);
  }
    where
      there : (shard : ℕ) → shard < heading.shards
          → Among (Asked client number ask (get_or (replies_to heading client ask before) shard Unknown))
          (history m shard (asks_at_each heading client number ask heading.shards before))
      there shard less =
          let e : 0 + shard ≡ shard = omega arith in
          let reply_is : get_or (replies_to heading client ask before) shard Unknown ≡ answer_at shard =
          numbers_get 0 heading.shards shard answer_at Unknown less ∙ ap answer_at e in
          subst (λ past. Among (Asked client number ask (get_or (replies_to heading client ask before) shard Unknown)) past)
          (sym (asked_there heading.shards shard less)) (inl (ap (Asked client number ask) reply_is))
