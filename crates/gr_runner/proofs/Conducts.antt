-- What is known of a run once its threads have ended.
use Rattle.std.proofs.Common.{◌≡◌, ◌≢◌, ◌⊎◌, ℕ, zero, suc, ◌+◌, ◌-◌, ◌<◌, ◌≤◌, true, false, leb, List, [], ◌∷◌, ◌++◌, length, map, Option, Some, None}
use Rattle.std.proofs.Common.{refl, sym, ap, ◌∙◌, subst, arith, inl, inr, reverse, get_or, length-append, take, drop}
use Rattle.std.specs.Prelude.{IfSome, slice_get}
use Rattle.std.specs.List.{AllByRecursion, cons_option, filter_map}
use Rattle.std.proofs.lemmas.Bool.Decides.{leb_tells}
use Rattle.std.proofs.lemmas.Grind.{reverse_onto}
use Rattle.std.proofs.lemmas.List.{map-append, reverse-reverse}
use Rattle.std.proofs.lemmas.Option.{get_or_from_slice_get, slice_get_within}
use Rattle.gr_post.specs.Passes.{Ring, Sending, Taking}
use Rattle.gr_post.specs.Plan.{first_number}
use Rattle.gr_script.specs.declared.line.Line.{Line}
use Rattle.gr_script.specs.Rules.{Heading, IsScript}
use Rattle.gr_run_law.specs.Plans.{courier_of}
use Rattle.gr_run_law.specs.Threads.{client_place, member_place}
use Rattle.gr_run_law.proofs.Lists.{get_some, same_in_some}
use Rattle.gr_member.specs.Passes.{House, IsPassOf}
use Rattle.gr_member.specs.Seats.{Place}
use Rattle.gr_member.proofs.Leaving.{empty_of}
use Rattle.gr_member.proofs.Passing.{pass_stays}
use Rattle.gr_runner.specs.declared.dealing.Dealt.{Dealt}
use Rattle.gr_runner.specs.declared.gathering.Left.{Left}
use Rattle.gr_runner.specs.declared.gathering.News.{News}
use Rattle.gr_runner.specs.declared.gathering.News.TheVariants as news_of
use Rattle.gr_runner.specs.declared.slots.Slot.{Slot}
use Rattle.gr_runner.specs.declared.slots.Worker.{Worker}
use Rattle.gr_runner.specs.declared.slots.Worker.TheVariants as worker
use Rattle.gr_runner.specs.Gathering.{AreVisits, DesksKnow, IsLeftAt}
use Rattle.gr_runner.specs.Going.{IsReady}
use Rattle.gr_runner.specs.Gone.{HasPlayed}
use Rattle.gr_runner.specs.Receipts.{ring_tables, send_tables, take_tables}
use Rattle.gr_runner.specs.Slots.{HasRun, IsWorkerAt, LeavesOf}
use Rattle.gr_runner.specs.Sorting.{sends_in, take_in}
use Rattle.gr_runner.proofs.Found.{same_there}
use Rattle.gr_runner.proofs.Lists.{all_places}
use Rattle.gr_runner.proofs.Mailed.{sent_tables}
use Rattle.gr_runner.proofs.Ran.{client_ran, member_ran}
use Rattle.gr_runner.proofs.Readying.{VisitsFit, slot_ready}
use Rattle.gr_runner.proofs.Told.{same_many}

pub take_front : {E : Type 0} (xs ys : List E) → take (length xs) (xs ++ ys) ≡ xs
take_front [] ys = refl
take_front {E} (x ∷ xs) ys = ap (λ (l : List E). x ∷ l) (take_front xs ys)

-- what a lent list has been written back
pub written_back : {E : Type 0} (new old : List E) (len : ℕ) → len ≡ length new → take len (new ++ drop (length new) old) ≡ new
written_back new old len e = ap (λ (n : ℕ). take n (new ++ drop (length new) old)) e ∙ take_front new (drop (length new) old)

pub some_weaker : {X : Type 0} (P Q : X → Type 0) → ((x : X) → P x → Q x) → (o : Option X) → IfSome o P → IfSome o Q
some_weaker P Q weaker None h = h
some_weaker P Q weaker (Some x) h = weaker x h

map_turned : {A B : Type 0} (f : A → B) (xs : List A) → map f (reverse xs) ≡ reverse (map f xs)
map_turned f [] = refl
map_turned f (x ∷ xs) =
    ap (map f) (reverse_onto xs x []) ∙ map-append f (reverse xs) (x ∷ []) ∙ ap (λ l. l ++ f x ∷ []) (map_turned f xs)
    ∙ sym (reverse_onto (map f xs) (f x) [])

-- Where f of the one list is g of the other turned round, f of the first turned round is g of the other.
pub turned_maps : {A B C : Type 0} (f : A → C) (g : B → C) (xs : List A) (ys : List B) → map f xs ≡ map g (reverse ys)
    → map f (reverse xs) ≡ map g ys
turned_maps f g xs ys e =
    map_turned f xs ∙ ap reverse (e ∙ map_turned g ys) ∙ reverse-reverse (map g ys)

-- What f gives of the first items, and it gives nothing of the others.
front_same : {A B C D : Type 0} (f : A → Option B) (t : B → C) (u : D → C) (xs : List A) (ys : List D) → length ys ≤ length xs
    → ((k : ℕ) (x : A) (y : D) → slice_get xs k ≡ Some x → slice_get ys k ≡ Some y → (b : B) × (f x ≡ Some b) × (t b ≡ u y))
    → ((k : ℕ) (x : A) → length ys ≤ k → slice_get xs k ≡ Some x → f x ≡ None) → map t (filter_map f xs) ≡ map u ys
front_same f t u [] [] l each none = refl
front_same f t u [] (y ∷ ys) l each none = absurd (omega (arith, l))
front_same {B = B} f t u (x ∷ xs) [] l each none =
    ap (λ (o : Option B). map t (cons_option o (filter_map f xs))) (none zero x (omega arith) refl)
    ∙ front_same f t u xs [] (omega arith) (λ k x' y' e e'. each (suc k) x' y' e e') (λ k z low e. none (suc k) z (omega arith) e)
front_same {B = B} {C = C} f t u (x ∷ xs) (y ∷ ys) l each none =
    let b = each zero x y refl refl in
    ap (λ (o : Option B). map t (cons_option o (filter_map f xs))) b.1
    ∙ ap (λ (c : C). c ∷ map t (filter_map f xs)) b.2
    ∙ ap (λ (cs : List C). u y ∷ cs) (front_same f t u xs ys (omega (arith, l)) (λ k x' y' e e'. each (suc k) x' y' e e')
    (λ k z low e. none (suc k) z (omega (arith, low)) e))

all_mapped : {A B : Type 0} (P : B → Type 0) (f : A → B) (xs : List A) → AllByRecursion (λ (x : A). P (f x)) xs
    → AllByRecursion P (map f xs)
all_mapped P f [] all = tt
all_mapped P f (x ∷ xs) all = (all.0, all_mapped P f xs all.1)

-- ---- what each left

left_some : (home : ℕ) (w : Option Worker) (l : Option Left) → LeavesOf home w l → l ≡ None → ⊥
left_some home None l x e = x
left_some home (Some (worker.Client client)) None x e = x
left_some home (Some (worker.Member host)) None x e = x
left_some home (Some w) (Some l) x e = no e
  where
    no : Some l ≡ None → ⊥
    no e = cc

module _ (h : Heading) (lines : List Line) (houses : List House) (rings : List Ring) (dealt : Dealt)
    (g : IsReady h lines houses rings dealt) (ran : List Slot) (all_ran : length ran ≡ length dealt.slots.items)
    (each_ran : (k : ℕ) (s : Slot) → k < length dealt.slots.items → HasRun (get_or dealt.slots.items k s) (get_or ran k s)) where
  record RanAt (k : ℕ) (new : Slot) : Type 0 where
    old : Slot
    there : slice_get dealt.slots.items k ≡ Some old
    run : HasRun old new

  ran_at : (k : ℕ) (new : Slot) → slice_get ran k ≡ Some new → RanAt k new
  ran_at k new there =
      let within = slice_get_within ran k new there in
      let all = all_ran in
      let old = get_some dealt.slots.items k (omega (arith, within, all)) in
      record {
        old = old.0;
        there = old.1;
        run = subst (λ (s : Slot). HasRun s new) (get_or_from_slice_get dealt.slots.items k old.0 new old.1)
            (subst (HasRun (get_or dealt.slots.items k new)) (get_or_from_slice_get ran k new new there)
            (each_ran k new (omega (arith, within, all))));
      }

  pub all_left : AllByRecursion (λ (s : Slot). s.left ≢ None) ran
  all_left = all_places (λ (s : Slot). s.left ≢ None) ran
      (λ k s there. (let r = ran_at k s there in left_some r.old.home r.old.worker s.left r.run))

  right : (home : ℕ) (w : Option Worker) (left : Left) → IsWorkerAt houses rings home w → VisitsFit h lines houses rings dealt g w
      → LeavesOf home w (Some left) → IsLeftAt houses left
  right home None left at fit leaves = absurd at
  right home (Some (worker.Client client)) left at fit leaves = record {
    there = subst (λ (n : ℕ). n < length houses) (sym leaves.there) at.there;
    its = λ house.
        subst (λ (n : ℕ). IsPassOf (get_or houses n house) left.pass) (sym leaves.there)
        (pass_stays (get_or houses home house) client.session.pass left.pass (at.at house).its leaves.stays);
    visits = inl leaves.none;
  }
  right home (Some (worker.Member host)) left at fit leaves = record {
    there = subst (λ (n : ℕ). n < length houses) (sym leaves.there) at.there;
    its = λ house.
        subst (λ (n : ℕ). IsPassOf (get_or houses n house) left.pass) (sym leaves.there)
        (pass_stays (get_or houses home house) host.pass left.pass
        (subst (λ (n : ℕ). IsPassOf (get_or houses n house) host.pass) spot (at.at.its house)) leaves.stays);
    visits = visits fit;
  }
    where
      spot : host.plan.member - 1 ≡ home
      spot = let e = at.its in omega (arith, e)

      visits : AreVisits houses host.visits.items → AreVisits houses left.visits.items
      visits (inl none) = inl (empty_of left.visits.items (leaves.visits.many ∙ ap length none))
      visits (inr are) = inr (record {
        many = leaves.visits.many ∙ are.many;
        each = λ k house p l.
            let many = are.many in
            pass_stays (get_or houses k house) (get_or host.visits.items k p) (get_or left.visits.items k p) (are.each k house p l)
            (leaves.visits.each k p (omega (arith, l, many)));
      })

  module _ (lefts : List Left) (left_by : map (λ (l : Left). Some l) lefts ≡ map (λ (s : Slot). s.left) ran) where
    pub lefts_right : AllByRecursion (IsLeftAt houses) lefts
    lefts_right = all_places (IsLeftAt houses) lefts at
      where
        at : (k : ℕ) (left : Left) → slice_get lefts k ≡ Some left → IsLeftAt houses left
        at k left there =
            let new = same_there (λ (l : Left). Some l) (λ (s : Slot). s.left) lefts ran k left left_by there in
            let r = ran_at k new.0 new.1 in
            let ready = slot_ready h lines houses rings dealt g k r.old r.there in
            right r.old.home r.old.worker left ready.ready ready.visits
            (subst (LeavesOf r.old.home r.old.worker) (sym new.2) r.run)

    pub lefts_many : length lefts ≡ length dealt.slots.items
    lefts_many = same_many (λ (l : Left). Some l) (λ (s : Slot). s.left) lefts ran left_by ∙ all_ran

    pub has_played : (desks : List (List Place)) (news : List News) → DesksKnow dealt.desks.items desks lefts
        → map (λ (n : News). Some n) news ≡ map (λ (l : Left). l.news) (reverse lefts) → HasPlayed h lines houses rings desks (reverse news)
    has_played desks news known told = record {
      passes = g.passes;
      made = g.made;
      many = g.many;
      kits = g.kits;
      kits_are = g.kits_are;
      dealt = dealt;
      dealt_are = g.dealt_are;
      ran = ran;
      all_ran = all_ran;
      each_ran = each_ran;
      lefts = lefts;
      left_by = left_by;
      known = known;
      told = turned_maps (λ (n : News). Some n) (λ (l : Left). l.news) news lefts told;
    }

-- ---- what takers and senders are of

module _ (h : Heading) (lines : List Line) (script : IsScript h lines) (houses : List House) (rings : List Ring)
    (desks : List (List Place)) (news : List News) (p : HasPlayed h lines houses rings desks news) where
  news_many : length news ≡ h.members + length h.clients
  news_many =
      let a = same_many (λ (x : News). Some x) (λ (x : Left). x.news) news p.lefts p.told in
      let b = same_many (λ (x : Left). Some x) (λ (x : Slot). x.left) p.lefts p.ran p.left_by in
      let c = p.all_ran in
      let d = ap length p.dealt_are.slots in
      let e = length-append p.dealt_are.of_members p.dealt_are.of_clients in
      let f = p.dealt_are.members_are.many in
      let f' = p.kits_are.members_many in
      let k = p.dealt_are.clients_are.many in
      let k' = p.kits_are.clients_many in
      omega (arith, a, b, c, d, e, f, f', k, k')

  pub takes_of_rings : take_tables (filter_map take_in news) ≡ ring_tables rings
  takes_of_rings = front_same take_in (λ (t : Taking). t.table) (λ (r : Ring). r.table) news rings
      (let all = news_many in let many = p.many in omega (arith, all, many)) each none
    where
      each : (k : ℕ) (x : News) (y : Ring) → slice_get news k ≡ Some x → slice_get rings k ≡ Some y
          → (t : Taking) × (take_in x ≡ Some t) × (t.table ≡ y.table)
      each k x y there ring =
          let within = slice_get_within rings k y ring in
          let many = p.many in
          let r = member_ran h lines script houses rings desks news p k (omega (arith, within, many)) in (
            r.take,
            ap take_in (same_in_some x (news_of.Member r.take r.sends) (sym there ∙ r.ran.news_there ∙ ap (λ (n : News). Some n) r.one_is)),
            r.hosted.table ∙ r.table y ∙ ap (λ (z : Ring). z.table) (get_or_from_slice_get rings k y y ring),
          )

      none : (k : ℕ) (x : News) → length rings ≤ k → slice_get news k ≡ Some x → take_in x ≡ None
      none k x low there =
          let many = p.many in
          let all = news_many in
          let within = slice_get_within news k x there in
          let r = client_ran h lines script houses rings desks news p (k - h.members) (omega (arith, low, many, all, within)) in
          let spot : h.members + (k - h.members) ≡ k = omega (arith, low, many) in
          ap take_in (same_in_some x (news_of.Client r.told r.sends)
          (sym there ∙ ap (slice_get news) (sym spot) ∙ r.ran.news_there ∙ ap (λ (n : News). Some n) r.one_is))

  pub sends_of_rings : AllByRecursion (λ (s : List Sending). send_tables s ≡ ring_tables rings) (map sends_in news)
  sends_of_rings = all_mapped (λ (s : List Sending). send_tables s ≡ ring_tables rings) sends_in news
      (all_places (λ (x : News). send_tables (sends_in x) ≡ ring_tables rings) news (λ k x there. at k x there (leb_tells (suc k) h.members)))
    where
      at : (k : ℕ) (x : News) → slice_get news k ≡ Some x
          → ((leb (suc k) h.members ≡ true) × (suc k ≤ h.members)) ⊎ ((leb (suc k) h.members ≡ false) × (h.members < suc k))
          → send_tables (sends_in x) ≡ ring_tables rings
      at k x there (inl few) =
          let r = member_ran h lines script houses rings desks news p k few.1 in
          ap (λ (n : News). send_tables (sends_in n)) (same_in_some x (news_of.Member r.take r.sends)
          (sym there ∙ r.ran.news_there ∙ ap (λ (n : News). Some n) r.one_is))
          ∙ sent_tables rings (member_place h (suc k)) (first_number h.trouble (courier_of (suc k))) r.host.courier _ r.sends r.courier
          r.hosted.sent
      at k x there (inr many) =
          let more = many.1 in
          let all = news_many in
          let within = slice_get_within news k x there in
          let c : ℕ = k - h.members in
          let r = client_ran h lines script houses rings desks news p c (omega (arith, more, all, within)) in
          let spot : h.members + (k - h.members) ≡ k = omega (arith, more) in
          ap (λ (n : News). send_tables (sends_in n)) (same_in_some x (news_of.Client r.told r.sends)
          (sym there ∙ ap (slice_get news) (sym spot) ∙ r.ran.news_there ∙ ap (λ (n : News). Some n) r.one_is))
          ∙ sent_tables rings (client_place (suc c)) (first_number h.trouble (suc c)) r.client.session.courier _ r.sends r.courier
          r.attended.sent
