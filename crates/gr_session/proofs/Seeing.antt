-- What eyes know, and what peeks tell of it.
use Rattle.std.proofs.Common.{◌≡◌, ℕ, ◌<◌, ◌≤◌, List, length, get_or, take, drop, refl, sym, ap, ◌∙◌, subst, arith}
use Rattle.std.proofs.Common.{length-append}
use Rattle.std.specs.Prelude.{Result, Ok, reverse}
use Rattle.std.proofs.lemmas.List.{take-append-le, take-append-drop, take_all, length-take-le, length-reverse, get_or-set_same}
use mathlib.Core.List.{IsPrefix}
use Rattle.gr_value.specs.Shard.{shard_of}
use Rattle.gr_oql.specs.declared.event.Turned.{Turned}
use Rattle.gr_history.specs.declared.deed.Deed.{Deed}
use Rattle.gr_history.specs.Places.{at_place}
use Rattle.gr_history.specs.Standing.{present}
use Rattle.gr_turn.specs.declared.view.View.{View}
use Rattle.gr_peek.specs.declared.eye.PeekEnd.{PeekEnd}
use Rattle.gr_peek.specs.declared.eye.Seen.{Seen}
use Rattle.gr_peek.specs.Publications.{present_after}
use Rattle.gr_peek.proofs.Prefixes.{prefix_trans}
use Rattle.gr_peek_law.specs.Turns.{turned_each}
use Rattle.gr_peek_law.proofs.Shown.{count, shows}
use Rattle.gr_world.specs.Events.{Peek}
use Rattle.gr_run_law.specs.Threads.{IsLook}
use Rattle.gr_member.specs.declared.replica.Origin.{Origin}
use Rattle.gr_member.specs.Seats.{Place, Stays, Peeks}
use Rattle.gr_member.specs.Passes.{At}
use Rattle.gr_member.proofs.Passing.{at_each, peek_stays, stays_same}
use Rattle.gr_member.proofs.Watching.{follows_trans}
use Rattle.gr_session.specs.Steps.{IsSeen, IsStill, LooksBehind, LooksBehindAt, StandsStill}

prefix_length : {A : Type 0} (xs ys : List A) → IsPrefix xs ys → length xs ≤ length ys
prefix_length xs ys p = omega (arith, sym (ap length p.1) ∙ length-append xs p.0)

-- An eye that knows more tells the same of the first publications.
pub seen_on : (peek : Peek) (known more : List (List Turned)) → IsSeen peek known → IsPrefix known more → IsSeen peek more
seen_on peek known more s p =
    let same : take peek.at more ≡ take peek.at known =
    ap (take peek.at) (sym p.1) ∙ take-append-le peek.at known p.0 s.within in
    let long = prefix_length known more p in
    let w = s.within in
    record {
      within = omega arith;
      value_is = s.value_is ∙ ap (λ (l : List (List Turned)). present_after l peek.key) (sym same);
    }

-- Where all that the eye knows is what a history's deeds turned, the peek looked at that history.
pub seen_look : (peek : Peek) (known : List (List Turned)) (past : List Deed) → IsSeen peek known → IsPrefix known (turned_each past)
    → IsLook peek past
seen_look peek known past s p =
    let long = prefix_length known (turned_each past) p in
    let all = count past in
    let w = s.within in
    let first : IsPrefix (take peek.at known) (turned_each past) =
    prefix_trans (take peek.at known) known (turned_each past) (drop peek.at known, take-append-drop peek.at known) p in
    record {
      within = omega arith;
      value_is = s.value_is ∙ shows past (take peek.at known) peek.key first
          ∙ ap (λ (n : ℕ). present peek.key (at_place n past)) (length-take-le peek.at known s.within);
    }

-- ---- one peek

pub stays_trans : (s t u : Place) → Stays s t → Stays t u → Stays s u
stays_trans s t u a b = record {
  its = b.its ∙ a.its;
  based = b.based ∙ a.based;
  counted = b.counted ∙ a.counted;
  began = b.began ∙ a.began;
  numbers = b.numbers ∙ a.numbers;
  watches = follows_trans s.eye t.eye u.eye a.watches b.watches;
}

still_same : (s : Place) → IsStill s s
still_same s = record { stays = stays_same s; same = refl }

still_peek : (key : List ℕ) (r : Result Seen PeekEnd) (s t : Place) → Peeks key r s t → IsStill s t
still_peek key r s t p = record { stays = peek_stays key r s t p; same = p.same }

still_trans : (s t u : Place) → IsStill s t → IsStill t u → IsStill s u
still_trans s t u a b = record { stays = stays_trans s t u a.stays b.stays; same = b.same ∙ a.same }

pub still_none : (p : List Place) → StandsStill p p
still_none p = record { many = refl; each = λ k s less. still_same (get_or p k s) }

-- one peek more
pub still_more : (key : List ℕ) (r : Result Seen PeekEnd) (k : ℕ) (p m q : List Place) → StandsStill p m → At k (Peeks key r) m q
    → StandsStill p q
still_more key r k p m q still a =
    let one : StandsStill m q = subst (λ (l : List Place). StandsStill m l) (sym a.now)
    (at_each IsStill still_same k m a.after a.there (λ s. still_peek key r (get_or m k s) a.after (a.turned s))) in
    let many = still.many in
    record {
      many = one.many ∙ still.many;
      each = λ n s less. still_trans (get_or p n s) (get_or m n s) (get_or q n s) (still.each n s less) (one.each n s (omega arith));
    }

-- an entering that told something, of an eye that knew as much before at least
looks_one : (key : List ℕ) (seen : Seen) (s t u : Place) → IsStill s t → Peeks key (Ok seen) t u
    → LooksBehind (record { key = key; value = seen.value; at = seen.at }) s u
looks_one key seen s t u still p =
    let at = p.at in
    let known = prefix_length t.eye.known u.eye.known p.entered.knew in
    let knew = prefix_length s.eye.known t.eye.known still.stays.watches.knew in
    let behind = prefix_length (turned_each (reverse u.view.seen)) u.eye.known p.behind in
    let turned = count (reverse u.view.seen) in
    let long = length-reverse u.view.seen in
    let same : length u.view.seen ≡ length s.view.seen = ap (λ (v : View Deed Origin). length v.seen) (p.same ∙ still.same) in
    let all : take seen.at u.eye.known ≡ u.eye.known = take_all seen.at u.eye.known (omega arith) in
    record {
      behind = omega arith;
      later = omega arith;
      seen = record { within = omega arith; value_is = p.value ∙ ap (λ (l : List (List Turned)). present_after l key) (sym all) };
    }

pub looks_behind : (shards : ℕ) (key : List ℕ) (seen : Seen) (p m q : List Place) → StandsStill p m
    → At (shard_of key shards) (Peeks key (Ok seen)) m q
    → LooksBehindAt shards (record { key = key; value = seen.value; at = seen.at }) p q
looks_behind shards key seen p m q still a =
    let k = shard_of key shards in
    let many = still.many in
    let there = a.there in
    let less : shard_of key shards < length p = omega arith in
    record {
      there = less;
      looks = λ s.
          let now : get_or q (shard_of key shards) s ≡ a.after =
          ap (λ (l : List Place). get_or l (shard_of key shards) s) a.now ∙ get_or-set_same m (shard_of key shards) a.after s a.there in
          subst (LooksBehind (record { key = key; value = seen.value; at = seen.at }) (get_or p (shard_of key shards) s)) (sym now)
          (looks_one key seen (get_or p (shard_of key shards) s) (get_or m (shard_of key shards) s) a.after
          (still.each (shard_of key shards) s less) (a.turned s));
    }
