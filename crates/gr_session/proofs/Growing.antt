-- How what a client did grows, step by step.
use Rattle.std.proofs.Common.{◌≡◌, ◌⊎◌, ℕ, zero, suc, ◌<◌, ◌≤◌, List, [], ◌∷◌, ◌++◌, length, get_or, map, take}
use Rattle.std.proofs.Common.{Option, Some, inl, inr, ⊎_elim}
use Rattle.std.proofs.Common.{refl, sym, ap, ◌∙◌, subst, arith, append-nil, length-append}
use Rattle.std.specs.Prelude.{slice_get}
use Rattle.std.specs.List.{AllByRecursion}
use Rattle.std.proofs.lemmas.Grind.{flat_map-append}
use Rattle.std.proofs.lemmas.List.{length-map, map-append}
use mathlib.Core.List.{IsPrefix}
use Rattle.gr_value.specs.Shard.{shard_of}
use Rattle.gr_turn.specs.declared.view.View.{View}
use Rattle.gr_history.specs.declared.ask.Ask.{Ask}
use Rattle.gr_history.specs.declared.deed.Deed.{Deed}
use Rattle.gr_history.specs.declared.query_ask.QueryAsk.{QueryAsk}
use Rattle.gr_history.specs.declared.query_reply.QueryReply.{QueryReply}
use Rattle.gr_history.specs.declared.record.Answer.{Answer}
use Rattle.gr_history.specs.declared.reply.Reply.{Reply}
use Rattle.gr_stamp.specs.declared.change.Change.{Change}
use Rattle.gr_law.specs.Grids.{Among}
use Rattle.gr_post.specs.declared.mail.Posting.{Posting}
use Rattle.gr_script.specs.declared.line.Step.{Step}
use Rattle.gr_world.specs.Events.{Peek}
use Rattle.gr_world.specs.Served.{Served, Called, Queried, Looked, step_of, answer_of, deeds_of, all_deeds_of, HasReplies}
use Rattle.gr_run_law.specs.Plans.{posted_by, changes_posted}
use Rattle.gr_run_law.specs.Shares.{Stands}
use Rattle.gr_run_law.specs.Threads.{LooksFit}
use Rattle.gr_run_law.proofs.Growing.{deeds_more, looks_deed, looks_peek, stands_on}
use Rattle.gr_run_law.proofs.Lists.{all_append, none_isnt_some, same_in_some}
use Rattle.gr_post.specs.Couriers.{Carrying, IsPushed}
use Rattle.gr_member.specs.declared.plan.Plan.{Plan}
use Rattle.gr_member.specs.declared.replica.Origin.{Origin}
use Rattle.gr_member.specs.Plans.{IsPlan, identity_of}
use Rattle.gr_member.specs.Seats.{Place, Looks}
use Rattle.gr_member.specs.Passes.{House, StaysAll, LooksAll}
use Rattle.gr_member.proofs.Passing.{pass_stays}
use Rattle.gr_post.specs.Passes.{Ring}
use Rattle.gr_session.specs.declared.session.Session.{Session}
use Rattle.gr_session.specs.Steps.{AddsEach, IsSeen, LooksBehind, LooksWell, Serves}
use Rattle.gr_session.specs.Mailing.{CanPost, CarriesOn}
use Rattle.gr_session.specs.Sessions.{GoesOn, HasServed, IsServedAt, IsSessionAt, KeepsServed, ServesOneMore}
use Rattle.gr_session.specs.Waiting.{HasMadeNothing, WaitedFor}
use Rattle.gr_session.proofs.Adding.{ready_each, stands_below, stands_each}
use Rattle.gr_session.proofs.Mailing.{can_post, carries_trans, pushed_carries}
use Rattle.gr_session.proofs.Seeing.{seen_on}

among_last : {A : Type 0} (x : A) (xs : List A) (y : A) → Among x (xs ++ y ∷ []) → Among x xs ⊎ (x ≡ y)
among_last x [] y (inl is) = inr is
among_last x [] y (inr a) = absurd a
among_last x (first ∷ xs) y (inl is) = inl (inl is)
among_last x (first ∷ xs) y (inr a) = ⊎_elim (λ b. inl (inr b)) (λ e. inr e) (among_last x xs y a)

take_get : {A : Type 0} (xs : List A) (n : ℕ) (x : A) → slice_get xs n ≡ Some x → take (suc n) xs ≡ take n xs ++ x ∷ []
take_get [] n x e = absurd (none_isnt_some x e)
take_get (y ∷ xs) zero x e = ap (λ z. z ∷ []) (same_in_some y x e)
take_get (y ∷ xs) (suc n) x e = ap (λ l. y ∷ l) (take_get xs n x e)

pub get_less : {A : Type 0} (xs : List A) (n : ℕ) (x : A) → slice_get xs n ≡ Some x → n < length xs
get_less [] n x e = absurd (none_isnt_some x e)
get_less (y ∷ xs) zero x e = omega arith
get_less (y ∷ xs) (suc n) x e = let k = get_less xs n x e in omega arith

pub step_there : {A : Type 0} (xs : List A) (m n : ℕ) (x : A) → m ≡ n → Some x ≡ slice_get xs m → slice_get xs n ≡ Some x
step_there xs m n x e is = ap (slice_get xs) (sym e) ∙ sym is

pub same_act : (steps : List Step) (n : ℕ) (one two : Step) → slice_get steps n ≡ Some one → slice_get steps n ≡ Some two
    → one.act ≡ two.act
same_act steps n one two a b = ap (λ (x : Step). x.act) (same_in_some one two (sym a ∙ b))

-- ---- at one shard

no_call : (n : ℕ) (peek : Peek) (number : ℕ) (ask : Ask) (reply : Reply) (made : Option Change) (to : ℕ)
    → Looked n peek ≡ Called number ask reply made to → ⊥
no_call n peek number ask reply made to e = cc

no_query : (n : ℕ) (peek : Peek) (number : ℕ) (ask : QueryAsk) (replies : List QueryReply)
    → Looked n peek ≡ Queried number ask replies → ⊥
no_query n peek number ask replies e = cc

same_peek : (n number : ℕ) (one two : Peek) → Looked n one ≡ Looked number two → two ≡ one
same_peek n number one two e = cc

module _ (client shards shard : ℕ) (s t : Place) (served : List Served) where
  -- a step that isn't a peek
  with_deeds : (one : Served) → ((n : ℕ) (peek : Peek) → Looked n peek ≡ one → ⊥)
      → ((l : ℕ) (qs : List ℕ) → LooksFit shards shard l qs (one ∷ []))
      → IsServedAt client shards shard s served → AddsEach s (deeds_of client shards shard one) t → IsPrefix s.eye.known t.eye.known
      → IsServedAt client shards shard t (served ++ one ∷ [])
  with_deeds one never fit h adds knew =
      let g = stands_each s t (all_deeds_of client shards shard served) (deeds_of client shards shard one) h.deeds adds in
      record {
        deeds = subst (λ (l : List Deed). Stands t.view.seen 0 t.view.made l) (sym (deeds_more client shards shard served one)) g.stands;
        looks = subst (λ (l : List ℕ). LooksFit shards shard 0 l (served ++ one ∷ [])) (sym g.made)
            (looks_deed client shards shard s.view.seen 0 0 s.view.made g.places served one h.deeds h.looks (λ l. fit l g.places));
        told = λ n peek a here. ⊎_elim (λ b. seen_on peek s.eye.known t.eye.known (h.told n peek b here) knew)
            (λ e. absurd (never n peek e)) (among_last (Looked n peek) served one a);
      }

  with_peek : (number : ℕ) (peek : Peek) → IsServedAt client shards shard s served → t.view ≡ s.view → IsPrefix s.eye.known t.eye.known
      → (shard ≡ shard_of peek.key shards → LooksBehind peek s t)
      → IsServedAt client shards shard t (served ++ Looked number peek ∷ [])
  with_peek number peek h same knew late = record {
    deeds = subst (λ (v : View Deed Origin). Stands v.seen 0 v.made (all_deeds_of client shards shard (served ++ Looked number peek ∷ [])))
        (sym same)
        (subst (λ (l : List Deed). Stands s.view.seen 0 s.view.made l)
        (sym (deeds_more client shards shard served (Looked number peek) ∙ append-nil (all_deeds_of client shards shard served))) h.deeds);
    looks = subst (λ (v : View Deed Origin). LooksFit shards shard 0 v.made (served ++ Looked number peek ∷ [])) (sym same)
        (looks_peek shards shard 0 s.view.made served number peek h.looks (λ here.
        let l = late here in
        let behind = l.behind in
        let later = l.later in (
          omega arith,
          λ p t. (let k = stands_below s.view.seen 0 s.view.made (all_deeds_of client shards shard served) h.deeds p t in omega arith),
          λ n other a there. (let w = (h.told n other a there).within in omega arith),
        )));
    told = λ n one a here. ⊎_elim (λ b. seen_on one s.eye.known t.eye.known (h.told n one b here) knew)
        (λ e. at_this n one here (same_peek n number one peek e)) (among_last (Looked n one) served (Looked number peek) a);
  }
    where
      at_this : (n : ℕ) (one : Peek) → shard ≡ shard_of one.key shards → peek ≡ one → IsSeen one t.eye.known
      at_this n one here e = subst (λ (x : Peek). IsSeen x t.eye.known) e
          (late (subst (λ (x : Peek). shard ≡ shard_of x.key shards) (sym e) here)).seen

  -- a look of the seat
  pub looks_on : IsServedAt client shards shard s served → Looks s t → IsServedAt client shards shard t served
  looks_on h l = record {
    deeds = subst (λ (m : List ℕ). Stands t.view.seen 0 m (all_deeds_of client shards shard served)) (sym l.made)
        (stands_on s.view.seen t.view.seen 0 s.view.made (all_deeds_of client shards shard served) l.seen h.deeds);
    looks = subst (λ (m : List ℕ). LooksFit shards shard 0 m served) (sym l.made) h.looks;
    told = λ n peek a here. seen_on peek s.eye.known t.eye.known (h.told n peek a here) l.stays.watches.knew;
  }

serve_at : (client shards shard : ℕ) (p q : List Place) (d : Place) (served : List Served) (one : Served)
    → IsServedAt client shards shard (get_or p shard d) served
    → AddsEach (get_or p shard d) (deeds_of client shards shard one) (get_or q shard d)
    → IsPrefix (get_or p shard d).eye.known (get_or q shard d).eye.known → LooksWell shards one p q
    → IsServedAt client shards shard (get_or q shard d) (served ++ one ∷ [])
serve_at client shards shard p q d served (Called number ask reply made to) h adds knew looks =
    with_deeds client shards shard (get_or p shard d) (get_or q shard d) served (Called number ask reply made to)
    (λ n peek e. no_call n peek number ask reply made to e) (λ l qs. tt) h adds knew
serve_at client shards shard p q d served (Queried number ask replies) h adds knew looks =
    with_deeds client shards shard (get_or p shard d) (get_or q shard d) served (Queried number ask replies)
    (λ n peek e. no_query n peek number ask replies e) (λ l qs. tt) h adds knew
serve_at client shards shard p q d served (Looked number peek) h adds knew looks =
    with_peek client shards shard (get_or p shard d) (get_or q shard d) served number peek h adds knew
    (λ here. subst (λ (k : ℕ). LooksBehind peek (get_or p k d) (get_or q k d)) (sym here) (looks.looks d))

-- ---- the session

-- It is the same client, of the same plan, with the same steps.
pub record SameClient (s t : Session) : Type 0 where
  pub client : t.client ≡ s.client
  pub plan : t.plan ≡ s.plan
  pub steps : t.steps ≡ s.steps

pub serves_more : (s t : Session) (step : Step) (told : Answer) → SameClient s t
    → Serves s.client s.plan.shards step told s.pass t.pass s.courier.posted t.courier.posted
    → t.answers ≡ s.answers ++ told ∷ [] → slice_get s.steps (length s.answers) ≡ Some step → StaysAll s.pass t.pass → ServesOneMore s t
serves_more s t step told same v answers next stays served h =
    let many : length s.answers ≡ length served = ap length h.answers ∙ length-map served answer_of in
    let here : slice_get s.steps (length served) ≡ Some step = ap (slice_get s.steps) (sym many) ∙ next in
    let long : length (served ++ v.one ∷ []) ≡ suc (length served) =
    (let k = length-append served (v.one ∷ []) in omega arith) in
    let wide = stays.many in (
      v.one,
      record {
        steps = map-append step_of served (v.one ∷ []) ∙ ap (λ (l : List Step). l ++ step_of v.one ∷ []) h.steps
            ∙ ap (λ (x : Step). take (length served) s.steps ++ x ∷ []) v.step_is ∙ sym (take_get s.steps (length served) step here)
            ∙ ap (λ (n : ℕ). take n s.steps) (sym long) ∙ ap (take (length (served ++ v.one ∷ []))) (sym same.steps);
        answers = answers ∙ ap (λ (l : List Answer). l ++ told ∷ []) h.answers
            ∙ ap (λ (x : Answer). map answer_of served ++ x ∷ []) (sym v.told_is) ∙ sym (map-append answer_of served (v.one ∷ []));
        replies = subst (λ (n : ℕ). AllByRecursion (HasReplies n) (served ++ v.one ∷ [])) (sym stays.many)
            (all_append (HasReplies (length s.pass)) served (v.one ∷ []) h.replies (v.replies, tt));
        posted = v.posted ∙ ap (λ (l : List Posting). l ++ posted_by s.plan.shards v.one) h.posted
            ∙ ap (λ (l : List Posting). changes_posted s.plan.shards served ++ l) (sym (append-nil (posted_by s.plan.shards v.one)))
            ∙ sym (flat_map-append (posted_by s.plan.shards) served (v.one ∷ []))
            ∙ ap (λ (p : Plan). changes_posted p.shards (served ++ v.one ∷ [])) (sym same.plan);
        here = λ shard d less.
            let less : shard < length s.pass = omega arith in
            subst (λ (c : ℕ). IsServedAt c t.plan.shards shard (get_or t.pass shard d) (served ++ v.one ∷ [])) (sym same.client)
            (subst (λ (p : Plan). IsServedAt s.client p.shards shard (get_or t.pass shard d) (served ++ v.one ∷ [])) (sym same.plan)
            (serve_at s.client s.plan.shards shard s.pass t.pass d served v.one (h.here shard d less) (v.adds shard d less)
            (stays.each shard d less).watches.knew v.looks));
      },
    )

pub keeps_served : (s : Session) (q : List Place) → LooksAll s.pass q → KeepsServed s (record s { pass = q })
keeps_served s q l served h =
    let many = l.many in
    record {
      steps = h.steps;
      answers = h.answers;
      replies = subst (λ (n : ℕ). AllByRecursion (HasReplies n) served) (sym l.many) h.replies;
      posted = h.posted;
      here = λ shard d less.
          let less : shard < length s.pass = omega arith in
          looks_on s.client s.plan.shards shard (get_or s.pass shard d) (get_or q shard d) served (h.here shard d less)
          (l.each shard d less);
    }

pub served_none : (s : Session) → s.answers ≡ [] → s.courier.posted ≡ [] → HasMadeNothing s.pass → HasServed s []
served_none s answers posted none = record {
  steps = refl;
  answers = answers;
  replies = tt;
  posted = posted;
  here = λ shard d less. record {
    deeds = subst (λ (l : List ℕ). Stands (get_or s.pass shard d).view.seen 0 l []) (sym (none shard d less))
        (let k : 0 ≤ length (get_or s.pass shard d).view.seen = omega arith in k);
    looks = tt;
    told = λ n peek a here. absurd a;
  };
}

-- A step keeps what its client waited for.
pub waits_on : (plan : Plan) (client shards : ℕ) (step : Step) (told : Answer) (p q : List Place) (before after : List Posting)
    → length q ≡ length p → Serves client shards step told p q before after → WaitedFor plan p → WaitedFor plan q
waits_on plan client shards step told p q before after many v w shard d less =
    let less : shard < length p = omega arith in
    ready_each (identity_of plan shard) (get_or p shard d) (get_or q shard d) (deeds_of client shards shard v.one) (w shard d less)
    (v.adds shard d less)

-- The session stays at its member.
pub stays_at : (house : House) (rings : List Ring) (s t : Session) → IsSessionAt house rings s → t.plan ≡ s.plan → StaysAll s.pass t.pass
    → CarriesOn s.courier t.courier → IsSessionAt house rings t
stays_at house rings s t at plan stays on = record {
  planned = subst IsPlan (sym plan) at.planned;
  plan_is = plan ∙ at.plan_is;
  its = pass_stays house s.pass t.pass at.its stays;
  posts = subst (λ (p : Plan). CanPost rings p.members t.courier) (sym plan)
      (can_post rings s.plan.members s.courier t.courier on at.posts);
}

-- ---- a step whose mail was pushed

-- A step left this pass and the courier c, of which what could be sent was sent.
pub goes_pushed : (s : Session) (answers : List Answer) (pass : List Place) (c d : Carrying) → StaysAll s.pass pass
    → CarriesOn s.courier c → IsPushed c d → GoesOn s (record s { answers = answers; pass = pass; courier = d })
goes_pushed s answers pass c d stays on pushed = record {
  client = refl;
  plan = refl;
  steps = refl;
  stays = stays;
  carries = carries_trans s.courier c d on (pushed_carries c d pushed);
}

pub at_pushed : (house : House) (rings : List Ring) (s : Session) (answers : List Answer) (pass : List Place) (c d : Carrying)
    → IsSessionAt house rings s → StaysAll s.pass pass → CarriesOn s.courier c → IsPushed c d
    → IsSessionAt house rings (record s { answers = answers; pass = pass; courier = d })
at_pushed house rings s answers pass c d at stays on pushed =
    stays_at house rings s (record s { answers = answers; pass = pass; courier = d }) at refl stays
    (carries_trans s.courier c d on (pushed_carries c d pushed))
