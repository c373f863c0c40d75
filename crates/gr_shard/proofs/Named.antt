-- Gifts and changes go to members of 1 to `members` alone.
use Rattle.std.proofs.Common.{◌≡◌, ◌∙◌, ap, sym, subst, refl, ℕ, zero, suc, ◌+◌, ◌^◌, ◌≤◌, ◌<◌, lit<, List, [], ◌∷◌, Bool, true, false, arith}
use Rattle.std.proofs.Common.{◌&&◌, ◌||◌, ◌==◌, nat_le, max, if◌then◌else◌, Option, Some, None}
use Rattle.std.specs.List.{AllByRecursion}
use Rattle.std.specs.Option.{option_to_list}
use Rattle.std.proofs.Math.Nat.{pow-le-pow_right}
use Rattle.std.proofs.lemmas.Bool.Decides.{nat_tests}
use Rattle.gr_value.specs.Shard.{shard_of}
use Rattle.gr_stamp.specs.declared.change.Change.{Change}
use Rattle.gr_stamp.specs.declared.change.Kind.{Kind}
use Rattle.gr_stamp.specs.declared.stamp.TheConstants.{LIMIT}
use Rattle.gr_history.specs.declared.identity.Identity.{Identity}
use Rattle.gr_history.specs.declared.ask.Ask.{Ask}
use Rattle.gr_history.specs.declared.reply.Reply.{Reply}
use Rattle.gr_history.specs.declared.reply.Reply.TheVariants.{Limit, NotReady}
use Rattle.gr_history.specs.declared.deed.Deed.{Deed}
use Rattle.gr_history.specs.declared.deed.Deed.TheVariants.{Call, Asked, Taken, Gave, Imaged, Reported, Heard, Swept}
use Rattle.gr_history.specs.declared.done.Done.{Done}
use Rattle.gr_history.specs.Asks.{at_key, key_of, told}
use Rattle.gr_history.specs.Calls.{reach, last_rv, made_change, given, ready_gives, call_gives, nothing_made}
use Rattle.gr_history.specs.Recipients.{NamesMembers, gave_to, is_ready, is_recipient, member_bits, recipients}
use Rattle.gr_history.specs.Standing.{there, present}
use Rattle.gr_shard.proofs.Made.{made_by_call}

positive : (few : ℕ) → 0 < 2 ^ few
positive few = pow-le-pow_right (lit< tt) {i = 0} {j = few} (omega arith)

-- Where no member above a number passes the test, the bits are below that power of two.
pub bits_below : (test : ℕ → Bool) (n few : ℕ) → ((m : ℕ) → m ≤ n → test m ≡ true → m ≤ few) → member_bits test n < 2 ^ few
bits_below test zero few most = positive few
bits_below test (suc n) few most =
    at_test (test (suc n)) refl (bits_below test n n (λ m less set. less))
    (bits_below test n few (λ m less set. most m (omega (arith, less)) set))
  where
    at_test : (b : Bool) → test (suc n) ≡ b → member_bits test n < 2 ^ n → member_bits test n < 2 ^ few
        → member_bits test n + (if b then 2 ^ n else 0) < 2 ^ few
    at_test true e all rest =
        let twice : 2 ^ suc n ≤ 2 ^ few = pow-le-pow_right (lit< tt) {i = suc n} {j = few} (most (suc n) (omega arith) e) in
        omega (arith, all, twice)
    at_test false e all rest = omega (arith, rest)

-- a member that was given something
gifts_named : (id : Identity) (past : List Deed) → AllByRecursion (NamesMembers id) past → (member : ℕ)
    → gave_to member past ≡ true → member ≤ id.members
gifts_named id [] all member e = absurd cc
gifts_named id (Call client to seq ask reply made ∷ past) all member e = gifts_named id past all.1 member e
gifts_named id (Asked client seq ask reply ∷ past) all member e = gifts_named id past all.1 member e
gifts_named id (Taken change verdict ∷ past) all member e = gifts_named id past all.1 member e
gifts_named id (Gave to what ∷ past) all member e = at_test (to == member) refl e (λ gave. gifts_named id past all.1 member gave)
  where
    same : (to == member) ≡ true → to ≡ member
    same h = grind (arith, nat_tests)

    at_test : (b : Bool) → (to == member) ≡ b → (b || gave_to member past) ≡ true
        → (gave_to member past ≡ true → member ≤ id.members) → member ≤ id.members
    at_test true is e next = subst (λ m. m ≤ id.members) (same is) all.0.1
    at_test false is e next = next e
gifts_named id (Imaged image ∷ past) all member e = gifts_named id past all.1 member e
gifts_named id (Reported report ∷ past) all member e = gifts_named id past all.1 member e
gifts_named id (Heard report ∷ past) all member e = gifts_named id past all.1 member e
gifts_named id (Swept moment expired ∷ past) all member e = gifts_named id past all.1 member e

-- the members that a change goes to
recipients_below : (id : Identity) (past : List Deed) → id.founders ≤ id.members → AllByRecursion (NamesMembers id) past
    → recipients id past < 2 ^ id.members
unfolding recipients
recipients_below id past founded all =
    bits_below (is_recipient id past) 8 id.members
    (λ m most e. stated m (nat_le m id.founders) (gave_to m past) _ refl refl e)
  where
    stated : (m : ℕ) (a b c : Bool) → nat_le m id.founders ≡ a → gave_to m past ≡ b → ((a || b) && c) ≡ true → m ≤ id.members
    stated m true b c low gave e = grind (arith, nat_tests)
    stated m false true c low gave e = gifts_named id past all m gave
    stated m false false c low gave e = absurd cc

module _ (id : Identity) (opening : ℕ) (past : List Deed) where
  given_below : (key : List ℕ) (reply : Reply) (kind : Option Kind) → id.founders ≤ id.members → AllByRecursion (NamesMembers id) past
      → (given id opening past key reply kind).to < 2 ^ id.members
  given_below key reply None founded all = positive id.members
  given_below key reply (Some kind) founded all = at_test (nat_le LIMIT (max (reach opening key past) (last_rv id past)))
    where
      at_test : (b : Bool)
          → (if b then nothing_made Limit else record {
            reply = reply;
            made = Some (made_change id opening past key kind);
            to =
                recipients id past;
          }).to < 2 ^ id.members
      at_test true = positive id.members
      at_test false = recipients_below id past founded all

  gives_below : (ask : Ask) → id.founders ≤ id.members → AllByRecursion (NamesMembers id) past
      → (call_gives id opening past ask).to < 2 ^ id.members
  gives_below ask founded all = at_test (is_ready id past)
    where
      at_test : (b : Bool) → (if b then ready_gives id opening past ask else nothing_made NotReady).to < 2 ^ id.members
      at_test true =
          let answer = told ask (at_key (there (key_of ask) past) (present (key_of ask) past)) in
          given_below (key_of ask) answer.reply answer.change founded all
      at_test false = positive id.members

  -- What a call gives goes to members of 1 to `members`,
  pub call_below : (ask : Ask) → id.founders ≤ id.members → AllByRecursion (NamesMembers id) past
      → (reply : Reply) (made : Option Change) (to : ℕ) → record { reply = reply; made = made; to = to } ≡ call_gives id opening past ask
      → to < 2 ^ id.members
  call_below ask founded all reply made to gives =
      subst (λ (done : Done). done.to < 2 ^ id.members) (sym gives) (gives_below ask founded all)

  -- and what it makes is of this shard.
  pub made_here : (ask : Ask) (done : Done) → done ≡ call_gives id opening past ask → shard_of (key_of ask) id.shards ≡ id.shard
      → AllByRecursion (λ change. shard_of change.key id.shards ≡ id.shard) (option_to_list done.made)
  made_here ask done gives here = at_made done.made refl
    where
      at_made : (made : Option Change) → done.made ≡ made
          → AllByRecursion (λ change. shard_of change.key id.shards ≡ id.shard) (option_to_list made)
      at_made None e = tt
      at_made (Some change) e =
          let is = made_by_call id opening past ask done.reply change done.to
          (ap (λ m. record { reply = done.reply; made = m; to = done.to }) (sym e) ∙ gives) in
          (ap (λ k. shard_of k id.shards) is.key_is ∙ here, tt)
