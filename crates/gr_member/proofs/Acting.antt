-- What was done by its name: the deed that was added, and the answer.
use Rattle.std.proofs.Common.{◌≡◌, ℕ, ◌<◌, ◌^◌, List, length, reverse, sym, ap, ◌∙◌, subst}
use Rattle.std.specs.List.{AllByRecursion}
use Rattle.std.specs.Option.{option_to_list}
use Rattle.gr_value.specs.Shard.{shard_of}
use Rattle.gr_vector.specs.declared.report.Report.{Report}
use Rattle.gr_history.specs.declared.deed.Deed.{Deed}
use Rattle.gr_history.specs.declared.deed.Deed.TheVariants.{Call, Asked, Taken, Imaged, Reported, Heard, Swept}
use Rattle.gr_history.specs.declared.done.Done.{Done}
use Rattle.gr_history.specs.declared.identity.Identity.{Identity}
use Rattle.gr_history.specs.declared.image.Gift.{Gift}
use Rattle.gr_history.specs.declared.image.What.{What}
use Rattle.gr_history.specs.declared.query_reply.QueryReply.{QueryReply}
use Rattle.gr_history.specs.declared.verdict.Verdict.{Verdict}
use Rattle.gr_history.specs.Asks.{key_of}
use Rattle.gr_history.specs.Calls.{call_gives}
use Rattle.gr_history.specs.Gifts.{IsGiftOf}
use Rattle.gr_history.specs.Queries.{query_gives}
use Rattle.gr_history.specs.Recipients.{NamesMembers}
use Rattle.gr_history.specs.Room.{HasNoRoom}
use Rattle.gr_history.specs.Stable.{due}
use Rattle.gr_history.specs.Verdicts.{verdict}
use Rattle.gr_shard.specs.Calls.{call_with}
use Rattle.gr_shard.specs.Merges.{IsGiftFor}
use Rattle.gr_shard.specs.declared.next.Came.{Came}
use Rattle.gr_shard.specs.declared.next.Came.TheVariants as came
use Rattle.gr_shard.specs.declared.next.Next.{Next}
use Rattle.gr_shard.specs.declared.next.Next.TheVariants as next
use Rattle.gr_shard.proofs.Named.{made_here}
use Rattle.gr_member.specs.Replicas.{IsBaseOf}
use Rattle.gr_member.specs.Seats.{Place, AddsBehind, Adds, Acts, Gives}
use Rattle.gr_member.specs.Passes.{At, AddsAt}

pub at_weaker : (R S : Place → Place → Type 0) (k : ℕ) (p q : List Place) → ((s t : Place) → R s t → S s t) → At k R p q → At k S p q
at_weaker R S k p q h a = record { after = a.after; there = a.there; now = a.now; turned = λ s. h _ a.after (a.turned s) }

-- at the shard of that number
pub at_adds : (to_do : Next) (answer : Came) (d : Deed) (k j : ℕ) (p q : List Place) → k ≡ j
    → ((s t : Place) → Acts s to_do answer t → Adds s d t) → At k (λ s t. Acts s to_do answer t) p q → AddsAt j p d q
at_adds to_do answer d k j p q e h a = subst (λ (i : ℕ). AddsAt i p d q) e
    (at_weaker (λ s t. Acts s to_do answer t) (λ s t. Adds s d t) k p q h a)

-- the deed is known
adds : (s t : Place) (before : List Deed) (d e : Deed) → AddsBehind before s d t → d ≡ e → Adds s e t
adds s t before d e a same = (before, subst (λ (x : Deed). AddsBehind before s x t) same a)

-- ---- calls

call_is : (s t : Place) (client seq : ℕ) (ask : _) (answer : Came) (done : Done) (a : Acts s (next.Call client seq ask) answer t)
    → answer ≡ came.Done done → done ≡ call_gives a.origin.id a.origin.opening (reverse a.before) ask.now
call_is s t client seq ask answer done a e = cc (sym e ∙ a.gives.0)

call_deed : (s t : Place) (client seq : ℕ) (ask : _) (answer : Came) (done : Done) (a : Acts s (next.Call client seq ask) answer t)
    → answer ≡ came.Done done → a.deed ≡ Call client done.to seq ask.now done.reply done.made
call_deed s t client seq ask answer done a e =
    a.gives.1 ∙ ap (λ (d : Done). call_with client seq ask.now d) (sym (call_is s t client seq ask answer done a e))

pub acts_call : (s t : Place) (client seq : ℕ) (ask : _) (answer : Came) (done : Done) → Acts s (next.Call client seq ask) answer t
    → answer ≡ came.Done done → Adds s (Call client done.to seq ask.now done.reply done.made) t
acts_call s t client seq ask answer done a e = adds s t a.before a.deed _ a.adds (call_deed s t client seq ask answer done a e)

pub acts_few : (s t : Place) (client seq : ℕ) (ask : _) (answer : Came) (done : Done) (id : Identity) (opening : ℕ)
    → Acts s (next.Call client seq ask) answer t
    → answer ≡ came.Done done → IsBaseOf id opening s.view.base → done.to < 2 ^ id.members
acts_few s t client seq ask answer done id opening a e i =
    subst (λ (q : Identity). done.to < 2 ^ q.members) (i a.origin a.based).0
    (subst (NamesMembers a.origin.id) (call_deed s t client seq ask answer done a e) a.named)

pub acts_here : (s t : Place) (client seq : ℕ) (ask : _) (answer : Came) (done : Done) (id : Identity) (opening : ℕ)
    → Acts s (next.Call client seq ask) answer t
    → answer ≡ came.Done done → IsBaseOf id opening s.view.base → shard_of (key_of ask.now) id.shards ≡ id.shard
    → AllByRecursion (λ change. shard_of change.key id.shards ≡ id.shard) (option_to_list done.made)
acts_here s t client seq ask answer done id opening a e i =
    subst (λ (q : Identity). shard_of (key_of ask.now) q.shards ≡ q.shard
    → AllByRecursion (λ change. shard_of change.key q.shards ≡ q.shard) (option_to_list done.made)) (i a.origin a.based).0
    (made_here a.origin.id a.origin.opening (reverse a.before) ask.now done (call_is s t client seq ask answer done a e))

-- ---- the others at one shard

pub acts_taken : (s t : Place) (change : _) (answer : Came) (told : Verdict) → Acts s (next.TakeIn change) answer t
    → answer ≡ came.Verdict told → Adds s (Taken change.now told) t
acts_taken s t change answer told a e =
    let same : told ≡ verdict (reverse a.before) change.now = cc (sym e ∙ a.gives.0) in
    adds s t a.before a.deed _ a.adds (a.gives.1 ∙ ap (λ (v : Verdict). Taken change.now v) (sym same))

pub acts_heard : (s t : Place) (report : _) (answer : Came) → Acts s (next.Hear report) answer t → Adds s (Heard report.now) t
acts_heard s t report answer a = adds s t a.before a.deed _ a.adds a.gives.1

pub acts_merged : (s t : Place) (image : _) (answer : Came) → Acts s (next.Merge image) answer t → Adds s (Imaged image.now) t
acts_merged s t image answer a = adds s t a.before a.deed _ a.adds a.gives.1

pub acts_given : (s t : Place) (to : ℕ) (what : What) (answer : Came) (gift : Gift) (id : Identity) (opening : ℕ)
    → Acts s (next.Give to what) answer t → answer ≡ came.Gift gift → IsBaseOf id opening s.view.base
    → Gives id opening s to what gift t
acts_given s t to what answer gift id opening a e i =
    let same : a.gives.0.0 ≡ gift = cc (sym a.gives.0.1 ∙ e) in
    let based = i a.origin a.based in
    record {
      before = a.before;
      adds = subst (λ (x : Deed). AddsBehind a.before s x t) a.gives.1 a.adds;
      given = subst (λ (g : Gift). IsGiftOf id.member opening (reverse a.before) what g) same
          (subst (λ (q : Identity). IsGiftOf q.member opening (reverse a.before) what a.gives.0.0) based.0
          (subst (λ (o : ℕ). IsGiftOf a.origin.id.member o (reverse a.before) what a.gives.0.0) based.1 a.gives.0.2));
      fits = subst (IsGiftFor id) same (subst (λ (q : Identity). IsGiftFor q a.gives.0.0) based.0 a.gives.0.3);
      room = subst HasNoRoom same a.gives.0.4;
    }

-- ---- what goes from shard to shard

pub acts_asked : (s t : Place) (client seq : ℕ) (ask : _) (answer : Came) (reply : QueryReply) → Acts s (next.Query client seq ask) answer t
    → answer ≡ came.Reply reply → Adds s (Asked client seq ask.now reply) t
acts_asked s t client seq ask answer reply a e =
    let same : reply ≡ query_gives client ask.now (reverse a.before) = cc (sym e ∙ a.gives.0) in
    adds s t a.before a.deed _ a.adds (a.gives.1 ∙ ap (λ (r : QueryReply). Asked client seq ask.now r) (sym same))

pub acts_reported : (s t : Place) (answer : Came) (report : Report) → Acts s next.Tell answer t → answer ≡ came.Told report
    → Adds s (Reported report) t
acts_reported s t answer report a e =
    let same : a.gives.0 ≡ report = cc (sym a.gives.1 ∙ e) in
    adds s t a.before a.deed _ a.adds (a.gives.4 ∙ ap (λ (r : Report). Reported r) same)

pub acts_swept : (s t : Place) (moment : ℕ) (answer : Came) (count : ℕ) → Acts s (next.Sweep moment) answer t
    → answer ≡ came.Swept count → (expired : List (List ℕ)) × Adds s (Swept moment expired) t × (count ≡ length expired)
acts_swept s t moment answer count a e =
    let same : count ≡ length (due a.origin.id moment (reverse a.before)) = cc (sym e ∙ a.gives.0) in
    (due a.origin.id moment (reverse a.before), adds s t a.before a.deed _ a.adds a.gives.1, same)
