-- What is asked of a query at one shard after the other is played, and the client is told the replies in their order.
use Rattle.std.proofs.Common.{◌≡◌, ◌∙◌, ap, sym, subst, refl, ℕ, ◌+◌, ◌<◌, List, [], ◌∷◌, ◌++◌, arith}
use Rattle.gr_history.specs.declared.deed.Deed.TheVariants.{Asked}
use Rattle.gr_history.specs.declared.query_ask.QueryAsk.{QueryAsk}
use Rattle.gr_history.specs.declared.query_reply.QueryReply.{QueryReply}
use Rattle.gr_history.specs.declared.record.Answer.TheVariants as answer
use Rattle.gr_history.specs.Queries.{query_gives}
use Rattle.gr_script.specs.declared.line.Act.TheVariants as act
use Rattle.gr_script.specs.declared.line.Line.TheVariants.{Step}
use Rattle.gr_script.specs.Rules.{Heading, IsMember, IsStated, home_of}
use Rattle.gr_shard.specs.View.{Account}
use Rattle.gr_world.specs.declared.world.World.{World}
use Rattle.gr_world.specs.Courses.{does, after, asks_at_each}
use Rattle.gr_world.specs.Doings.{Asks}
use Rattle.gr_world.specs.Events.{Event, Gathered, history}
use Rattle.gr_world.specs.Worlds.{AreAsked, HasMade, IsWorld, Plays, told_also, with_account}
use Rattle.gr_world.proofs.Asking.{not_yet}
use Rattle.gr_world.proofs.Lists.{numbers_more}
use Rattle.gr_world.proofs.Worlds.{IsDone, done_left, for_each_plays, kept_made, quiet_plays, tellings_next}

pub asked_none : (heading : Heading) (client seq : ℕ) (ask : QueryAsk) (replies : List QueryReply) (world : World) → replies ≡ []
    → AreAsked heading client seq ask 0 replies world world
asked_none heading client seq ask replies world none = record {
  plays = λ events is. is;
  replies_are = λ events is. none;
}

-- One shard more is asked.
pub asked_next : (heading : Heading) (client seq : ℕ) (ask : QueryAsk) (n : ℕ) (replies : List QueryReply) (reply : QueryReply)
    (first now : World) (member : ℕ) (was longer : Account) → IsMember heading member → n < heading.shards → member ≡ home_of heading client
    → AreAsked heading client seq ask n replies first now
    → IsDone now.grid member n (Asks client seq ask) (Asked client seq ask reply) was longer
    → AreAsked heading client seq ask (n + 1) (replies ++ reply ∷ []) first (record now { grid = with_account now.grid member n longer })
asked_next heading client seq ask n replies reply first now member was longer is within at_home asked done = record {
  plays = for_each_plays heading (λ shard. does heading (home_of heading client) shard (Asks client seq ask)) n first now next asked.plays
      (subst (λ m. Plays heading (does heading m n (Asks client seq ask)) now next) at_home
      (quiet_plays heading now member n (Asks client seq ask) (Asked client seq ask reply) was longer
      (λ id opening past. record { unmade = λ c number. refl; untold = λ c. refl }) is within done));
  replies_are = λ events world. numbers_more 0 n (λ shard. query_gives client ask (history (home_of heading client) shard events))
      replies reply (asked.replies_are events world) (gives events world);
}
  where
    next : World
    next = record now { grid = with_account now.grid member n longer }

    same_reply : (a b : QueryReply) → Asked client seq ask a ≡ Asked client seq ask b → a ≡ b
    same_reply a b e = cc

    gives : (events : List Event) → IsWorld heading events first
        → reply ≡ query_gives client ask (history (home_of heading client) (0 + n) events)
    gives events world =
        let so_far = asks_at_each heading client seq ask n events in
        let one = done_left heading so_far now.grid member n (Asks client seq ask) (Asked client seq ask reply) was longer is within
        (asked.plays events world).grid_is done in
        let e : n ≡ 0 + n = omega arith in
        same_reply reply (query_gives client ask (history member n so_far)) one.0
        ∙ ap (λ m. query_gives client ask (history m n so_far)) at_home
        ∙ ap (query_gives client ask) (not_yet heading client seq ask events n n (omega arith))
        ∙ ap (λ s. query_gives client ask (history (home_of heading client) s events)) e

-- And then the client is told.
pub query_plays : (heading : Heading) (old mid new : World) (client seq : ℕ) (ask : QueryAsk) (replies : List QueryReply)
    → IsStated client heading → AreAsked heading client seq ask heading.shards replies old mid
    → new.grid ≡ mid.grid → new.tellings ≡ told_also mid.tellings client (answer.Asked replies) → new.made ≡ mid.made
    → Plays heading (after heading [] (Step client seq (act.Query ask))) old new
query_plays heading old mid new client seq ask replies stated asked grid_same tells made_same events world =
    let now = asks_at_each heading client seq ask heading.shards events in
    let left = asked.plays events world in
    let told : List Event = Gathered client seq replies ∷ now in
    let here : IsWorld heading told new = record {
      grid_is = grid_same ∙ left.grid_is;
      tellings_are = tells ∙ ap (λ lists. told_also lists client (answer.Asked replies)) left.tellings_are
          ∙ tellings_next heading now (Gathered client seq replies) client seq _ stated (λ c. refl);
      made_are = subst (HasMade heading told) (sym made_same)
          (kept_made heading (Gathered client seq replies) now mid.made (λ c number. refl) left.made_are);
    } in
    subst (λ all. IsWorld heading (Gathered client seq all ∷ now) new) (asked.replies_are events world) here
