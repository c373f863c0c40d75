-- What a client's thread leaves.
use Rattle.std.proofs.Common.{◌≡◌, ℕ, ◌<◌, ◌≤◌, Bool, true, List, [], ◌∷◌, ◌++◌, length, get_or, map}
use Rattle.std.proofs.Common.{refl, sym, ap, ◌∙◌, subst, arith, append-nil, append_assoc}
use Rattle.std.specs.Prelude.{reverse, Option, Some, None, IfSome}
use Rattle.std.specs.List.{AllByRecursion}
use Rattle.std.proofs.lemmas.List.{length-map, take_all}
use Rattle.gr_turn.specs.Views.{times}
use Rattle.gr_history.specs.declared.record.Answer.{Answer}
use Rattle.gr_history.specs.declared.record.ClientRecord.{ClientRecord}
use Rattle.gr_post.specs.declared.mail.Posting.{Posting}
use Rattle.gr_post.specs.Couriers.{Carrying, Line}
use Rattle.gr_post.specs.Passes.{Ring, Sending}
use Rattle.gr_post.specs.Plan.{delivered, draws}
use Rattle.gr_world.specs.Served.{Served, answer_of, HasReplies}
use Rattle.gr_run_law.specs.Plans.{changes_posted}
use Rattle.gr_member.specs.declared.plan.Plan.{Plan}
use Rattle.gr_member.specs.Seats.{Place, Looks}
use Rattle.gr_member.specs.Passes.{House, LooksAll, LooksUpAll, StaysAll}
use Rattle.gr_member.proofs.Passing.{looks_same, looks_stay}
use Rattle.gr_session.specs.declared.session.Session.{Session}
use Rattle.gr_session.specs.Clients.{DoesMore, IsAttended, Leaves, OnlyLooks}
use Rattle.gr_session.specs.Mailing.{CarriesOn, HasSent, HaveDelivered}
use Rattle.gr_session.specs.Sessions.{GoesOn, HasServed, IsServedAt, IsSessionAt, ServesOneMore}
use Rattle.gr_session.specs.Waiting.{HasMadeNothing, WaitedFor}
use Rattle.gr_session.proofs.Adding.{starts_trans}
use Rattle.gr_session.proofs.Growing.{keeps_served, looks_on, stays_at}
use Rattle.gr_session.proofs.Mailing.{carries_same, carries_trans}
use Rattle.gr_session.proofs.Seeing.{stays_trans}

-- ---- passes

pub stays_all_trans : (p q r : List Place) → StaysAll p q → StaysAll q r → StaysAll p r
stays_all_trans p q r a b =
    let many = a.many in
    record {
      many = b.many ∙ a.many;
      each = λ k s less. stays_trans (get_or p k s) (get_or q k s) (get_or r k s) (a.each k s less) (b.each k s (omega arith));
    }

looks_trans : (s t u : Place) → Looks s t → Looks t u → Looks s u
looks_trans s t u a b =
    let won = a.won in
    let more = b.won in
    record {
      stays = stays_trans s t u a.stays b.stays;
      seen = starts_trans u.view.seen t.view.seen s.view.seen b.seen a.seen;
      made = b.made ∙ a.made;
      won = omega arith;
    }

looks_all_trans : (p q r : List Place) → LooksAll p q → LooksAll q r → LooksAll p r
looks_all_trans p q r a b =
    let many = a.many in
    record {
      many = b.many ∙ a.many;
      each = λ k s less. looks_trans (get_or p k s) (get_or q k s) (get_or r k s) (a.each k s less) (b.each k s (omega arith));
    }

look_up_looks : (p q : List Place) → LooksUpAll p q → LooksAll p q
look_up_looks p q l = record { many = l.many; each = λ k s less. (l.each k s less).looks }

-- What was behind a ready history stays so, since nothing is made.
waited_looks : (plan : Plan) (p q : List Place) → LooksAll p q → WaitedFor plan p → WaitedFor plan q
waited_looks plan p q looks w shard d less =
    let many = looks.many in
    let less : shard < length p = omega arith in
    let r = w shard d less in
    let l = looks.each shard d less in
    record {
      past = r.past;
      begins = starts_trans (get_or q shard d).view.seen (get_or p shard d).view.seen r.past l.seen r.begins;
      ready = r.ready;
      later = λ place t. r.later place (subst (λ (m : List ℕ). 0 < times place m) l.made t);
    }

made_none : (p q : List Place) → LooksAll p q → HasMadeNothing p → HasMadeNothing q
made_none p q looks none shard d less =
    let many = looks.many in
    let less : shard < length p = omega arith in
    (looks.each shard d less).made ∙ none shard d less

-- ---- looking alone

pub only_none : (s : Session) → OnlyLooks s s
only_none s = record {
  same = refl;
  looks = record { many = refl; each = λ k d less. looks_same (get_or s.pass k d) };
}

pub only_more : (s t u : Session) → OnlyLooks s t → u ≡ record t { pass = u.pass } → LooksAll t.pass u.pass → OnlyLooks s u
only_more s t u a same looks = record {
  same = same ∙ ap (λ (x : Session). let y : Session = record x { pass = u.pass } in y) a.same;
  looks = looks_all_trans s.pass t.pass u.pass a.looks looks;
}

pub only_stays : (s t : Session) → OnlyLooks s t → StaysAll s.pass t.pass
only_stays s t a = looks_stay s.pass t.pass a.looks

pub only_made : (s t : Session) → OnlyLooks s t → HasMadeNothing s.pass → HasMadeNothing t.pass
only_made s t a = made_none s.pass t.pass a.looks

only_goes : (s t : Session) → OnlyLooks s t → GoesOn s t
only_goes s t a = record {
  client = ap (λ (x : Session). x.client) a.same;
  plan = ap (λ (x : Session). x.plan) a.same;
  steps = ap (λ (x : Session). x.steps) a.same;
  stays = only_stays s t a;
  carries = subst (CarriesOn s.courier) (sym (ap (λ (x : Session). x.courier) a.same)) (carries_same s.courier);
}

only_served : (s t : Session) (served : List Served) → OnlyLooks s t → HasServed s served → HasServed t served
only_served s t served a h = subst (λ (x : Session). HasServed x served) (sym a.same) (keeps_served s t.pass a.looks served h)

pub goes_at : (house : House) (rings : List Ring) (s t : Session) → GoesOn s t → IsSessionAt house rings s → IsSessionAt house rings t
goes_at house rings s t g at = stays_at house rings s t at g.plan g.stays g.carries

pub only_at : (house : House) (rings : List Ring) (s t : Session) → OnlyLooks s t → IsSessionAt house rings s → IsSessionAt house rings t
only_at house rings s t a = goes_at house rings s t (only_goes s t a)

-- ---- steps

goes_same : (s : Session) → GoesOn s s
goes_same s = only_goes s s (only_none s)

pub goes_trans : (s t u : Session) → GoesOn s t → GoesOn t u → GoesOn s u
goes_trans s t u a b = record {
  client = b.client ∙ a.client;
  plan = b.plan ∙ a.plan;
  steps = b.steps ∙ a.steps;
  stays = stays_all_trans s.pass t.pass u.pass a.stays b.stays;
  carries = carries_trans s.courier t.courier u.courier a.carries b.carries;
}

pub more_none : (s : Session) → DoesMore s s
more_none s = record {
  goes = goes_same s;
  served = λ served h. ([], subst (HasServed s) (sym (append-nil served)) h);
  waited = λ w. w;
}

pub more_one : (s t u : Session) → DoesMore s t → GoesOn t u → ServesOneMore t u → (WaitedFor t.plan t.pass → WaitedFor u.plan u.pass)
    → DoesMore s u
more_one s t u d goes serves waited = record {
  goes = goes_trans s t u d.goes goes;
  served = λ served h.
      let first = d.served served h in
      let one = serves (served ++ first.0) first.1 in
      (first.0 ++ one.0 ∷ [], subst (HasServed u) (append_assoc served first.0 (one.0 ∷ [])) one.1);
  waited = λ w. waited (d.waited w);
}

-- ---- the end

sent_on : (c d : Carrying) (posted : List Posting) (sends : List Sending) → CarriesOn c d → d.posted ≡ posted → HaveDelivered d sends
    → HasSent c posted sends
sent_on c d posted sends on is h =
    let long : length d.lines ≡ length c.lines =
    sym (length-map d.lines (λ (l : Line). l.pass)) ∙ on.many ∙ length-map c.lines (λ (l : Line). l.pass) in
    record {
      many = h.many ∙ long;
      tables = h.tables ∙ on.tables;
      numbers = h.numbers ∙ on.numbers;
      sent = λ k e less. h.sent k e (omega arith)
          ∙ ap delivered (ap (λ (n : ℕ). draws n d.first k (reverse d.posted)) long
          ∙ ap (λ (n : ℕ). draws (length c.lines) n k (reverse d.posted)) on.first
          ∙ ap (λ (l : List Posting). draws (length c.lines) c.first k (reverse l)) is);
    }

told_same : (c d : ℕ) (p q : Plan) (a b : List Answer) (told : ClientRecord) → c ≡ d → p ≡ q → a ≡ b
    → told ≡ record { client = c; member = p.member; answers = a } → told ≡ record { client = d; member = q.member; answers = b }
told_same c d p q a b told client plan answers is = cc

-- The session s looked and was t, did all its steps and was u, and left these.
pub attended : (plan : Plan) (s t u : Session) (waits : Bool) (pass : List Place) (told : ClientRecord) (sends : List Sending)
    → s.plan ≡ plan → HasServed s [] → HasMadeNothing s.pass → OnlyLooks s t
    → (waits ≡ true → HasMadeNothing s.pass → WaitedFor plan t.pass) → DoesMore t u → length u.steps ≤ length u.answers
    → Leaves u pass told sends → IsAttended s waits pass told sends
attended plan s t u waits pass told sends planned none fresh only waited more all leaves =
    let done = more.served [] (only_served s t [] only none) in
    let served : List Served = done.0 in
    let h : HasServed u served = done.1 in
    let g = goes_trans s t u (only_goes s t only) more.goes in
    let many = leaves.looks.many in
    let answered : length u.answers ≡ length served = ap length h.answers ∙ length-map served answer_of in
    record {
      served = served;
      steps = h.steps ∙ take_all (length served) u.steps (omega arith) ∙ g.steps;
      told_is = told_same u.client s.client u.plan s.plan u.answers (map answer_of served) told g.client g.plan h.answers leaves.told_is;
      replies = subst (λ (n : ℕ). AllByRecursion (HasReplies n) served) (sym many) h.replies;
      here = λ shard d less.
          let less : shard < length u.pass = omega arith in
          subst (λ (c : ℕ). IsServedAt c s.plan.shards shard (get_or pass shard d) served) g.client
          (subst (λ (p : Plan). IsServedAt u.client p.shards shard (get_or pass shard d) served) g.plan
          (looks_on u.client u.plan.shards shard (get_or u.pass shard d) (get_or pass shard d) served (h.here shard d less)
          (leaves.looks.each shard d less).looks));
      known = λ shard d less. (leaves.looks.each shard d (omega arith)).known;
      waited = λ e.
          subst (λ (p : Plan). WaitedFor p pass) g.plan
          (waited_looks u.plan u.pass pass (look_up_looks u.pass pass leaves.looks)
          (more.waited
          (subst (λ (p : Plan). WaitedFor p t.pass) (sym planned ∙ sym (ap (λ (x : Session). x.plan) only.same)) (waited e fresh))));
      sent = sent_on s.courier u.courier (changes_posted s.plan.shards served) sends g.carries
          (h.posted ∙ ap (λ (p : Plan). changes_posted p.shards served) g.plan) leaves.sent;
    }

-- the same where it may have given up
pub attended_if : (plan : Plan) (s t u : Session) (waits : Bool) (pass : List Place) (left : Option (ClientRecord × List Sending))
    → s.plan ≡ plan → HasServed s [] → HasMadeNothing s.pass → OnlyLooks s t
    → (waits ≡ true → HasMadeNothing s.pass → WaitedFor plan t.pass) → DoesMore t u → length u.steps ≤ length u.answers
    → IfSome left (λ told. Leaves u pass told.0 told.1) → IfSome left (λ told. IsAttended s waits pass told.0 told.1)
attended_if plan s t u waits pass None planned none fresh only waited more all leaves = tt
attended_if plan s t u waits pass (Some told) planned none fresh only waited more all leaves =
    attended plan s t u waits pass told.0 told.1 planned none fresh only waited more all leaves
