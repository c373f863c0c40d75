-- How a call, a step on a query and a peek are steps.
use Rattle.std.proofs.Common.{◌≡◌, ℕ, ◌++◌, List, get_or, refl, sym, ap, ◌∙◌, subst, append-nil}
use Rattle.gr_value.specs.Shard.{shard_of}
use Rattle.gr_history.specs.Asks.{key_of}
use Rattle.gr_history.specs.declared.ask.Ask.{Ask}
use Rattle.gr_history.specs.declared.deed.Deed.TheVariants.{Call, Asked}
use Rattle.gr_history.specs.declared.done.Done.{Done}
use Rattle.gr_history.specs.declared.query_ask.QueryAsk.{QueryAsk}
use Rattle.gr_history.specs.declared.query_reply.QueryReply.{QueryReply}
use Rattle.gr_history.specs.declared.query_reply.QueryReply.TheVariants.{Unknown}
use Rattle.gr_history.specs.declared.record.Answer.{Answer}
use Rattle.gr_history.specs.declared.record.Answer.TheVariants as answer
use Rattle.gr_peek.specs.declared.eye.Seen.{Seen}
use Rattle.gr_post.specs.declared.mail.Posting.{Posting}
use Rattle.gr_post.specs.Couriers.{Carrying, IsPushed}
use Rattle.gr_script.specs.declared.line.Act.TheVariants as act
use Rattle.gr_script.specs.declared.line.Step.{Step}
use Rattle.gr_world.specs.Served.{Served, Called, Queried, Looked, deeds_of, step_of}
use Rattle.gr_run_law.specs.Plans.{change_posted}
use Rattle.gr_member.specs.Seats.{Place}
use Rattle.gr_member.specs.Passes.{AddsAt, StaysAll, TurnsAll}
use Rattle.gr_session.specs.Steps.{AddsEach, LooksBehindAt, Serves, StandsStill}
use Rattle.gr_session.proofs.Adding.{adds_at}
use Rattle.gr_session.proofs.Mailing.{pushed_posts}

pub serves_call : (client shards seq : ℕ) (ask : Ask) (done : Done) (p q : List Place) (before after : List Posting)
    → AddsAt (shard_of (key_of ask) shards) p (Call client done.to seq ask done.reply done.made) q
    → after ≡ before ++ change_posted shards done.made done.to
    → Serves client shards (record { seq = seq; act = act.Call ask }) (answer.Reply done.reply) p q before after
serves_call client shards seq ask done p q before after a posted = record {
  one = Called seq ask done.reply done.made done.to;
  step_is = refl;
  told_is = refl;
  replies = tt;
  adds = adds_at (shard_of (key_of ask) shards) p q (Call client done.to seq ask done.reply done.made) a;
  looks = tt;
  posted = posted;
}

pub serves_query : (client shards seq : ℕ) (ask : QueryAsk) (replies : List QueryReply) (p q : List Place) (posted : List Posting)
    → TurnsAll (λ reply. Asked client seq ask reply) p replies q
    → Serves client shards (record { seq = seq; act = act.Query ask }) (answer.Asked replies) p q posted posted
serves_query client shards seq ask replies p q posted turns = record {
  one = Queried seq ask replies;
  step_is = refl;
  told_is = refl;
  replies = turns.told_each;
  adds = λ shard s less. (get_or q shard s, turns.each shard Unknown s less, refl);
  looks = tt;
  posted = sym (append-nil posted);
}

pub serves_peek : (client shards seq : ℕ) (key : List ℕ) (seen : Seen) (p q : List Place) (posted : List Posting) → StandsStill p q
    → LooksBehindAt shards (record { key = key; value = seen.value; at = seen.at }) p q
    → Serves client shards (record { seq = seq; act = act.Peek key }) (answer.Peeked seen.value seen.at) p q posted posted
serves_peek client shards seq key seen p q posted still looks = record {
  one = Looked seq (record { key = key; value = seen.value; at = seen.at });
  step_is = refl;
  told_is = refl;
  replies = tt;
  adds = λ shard s less. (still.each shard s less).same;
  looks = looks;
  posted = sym (append-nil posted);
}

pub still_stays : (p q : List Place) → StandsStill p q → StaysAll p q
still_stays p q still = record { many = still.many; each = λ k s less. (still.each k s less).stays }

call_or_peek : (ask : Ask) (key : List ℕ) → act.Call ask ≡ act.Peek key → ⊥
call_or_peek ask key e = cc

query_or_peek : (ask : QueryAsk) (key : List ℕ) → act.Query ask ≡ act.Peek key → ⊥
query_or_peek ask key e = cc

still_of : (client shards shard : ℕ) (s t : Place) (key : List ℕ) (one : Served) → (step_of one).act ≡ act.Peek key
    → AddsEach s (deeds_of client shards shard one) t → t.view ≡ s.view
still_of client shards shard s t key (Called number ask reply made to) e adds = absurd (call_or_peek ask key e)
still_of client shards shard s t key (Queried number ask replies) e adds = absurd (query_or_peek ask key e)
still_of client shards shard s t key (Looked number peek) e adds = adds

-- A peek takes no turn.
pub peeks_still : (client shards : ℕ) (step : Step) (told : Answer) (p q : List Place) (before after : List Posting) (key : List ℕ)
    → StaysAll p q → Serves client shards step told p q before after → step.act ≡ act.Peek key → StandsStill p q
peeks_still client shards step told p q before after key stays v e = record {
  many = stays.many;
  each = λ k s less. record {
    stays = stays.each k s less;
    same = still_of client shards k (get_or p k s) (get_or q k s) key v.one (ap (λ (x : Step). x.act) v.step_is ∙ e) (v.adds k s less);
  };
}

-- A push changes nothing of what was posted.
pub serves_pushed : (client shards : ℕ) (step : Step) (told : Answer) (p q : List Place) (before : List Posting) (c d : Carrying)
    → IsPushed c d → Serves client shards step told p q before c.posted → Serves client shards step told p q before d.posted
serves_pushed client shards step told p q before c d pushed v =
    subst (λ (l : List Posting). Serves client shards step told p q before l) (sym (pushed_posts c d pushed)) v
