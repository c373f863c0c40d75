-- Each step keeps what holds of an inbox.
use Rattle.std.proofs.Common.{◌≡◌, ◌≢◌, ◌+◌, ◌<◌, ◌≤◌, ℕ, Bool, true, true≢false, cond, List, [], ◌∷◌, ◌++◌, length}
use Rattle.std.proofs.Common.{set, Option, Some, None}
use Rattle.std.proofs.Common.{sym, refl, ap, ◌∙◌, subst, ⊎_elim, append_assoc, arith, length-append, eq-eqb}
use mathlib.Core.Option.{some, some-ne-none}
use lib.ListN.{get_elem?}
use Rattle.crossbeam_queue.specs.Fifo.{Pushes, Pops, Forks, Merges, Learns}
use Rattle.crossbeam_queue.proofs.Lists.{at_set, at_snoc}
use Rattle.gr_post.specs.declared.mail.Mail.{Mail}
use Rattle.gr_post.specs.declared.mail.Posted.{Posted}
use Rattle.gr_post.specs.declared.view.View.{View}
use Rattle.gr_post.specs.declared.view.Met.{Met}
use Rattle.gr_post.specs.Mails.{of}
use Rattle.gr_post.specs.Views.{taker, sender, spent, enlisting, meeting, met_of, Balances, Sends, Trails, Takes}
use Rattle.gr_post.specs.Rule.{FitsSender, FitsMet, FitsTaker, Delivers}
use Rattle.gr_post.proofs.Lists.{
  put,
  put_same,
  put_other,
  put_none,
  of-append,
  of_here,
  quiet,
  at_end,
  only,
  clash,
  no_seat,
  lt_or_le,
  All,
  all_set,
}

-- what holds of the taker's view
abbrev Taker : ℕ → (ℕ → Option ℕ) → (ℕ → List Mail) → List Posted → ℕ → View → Type 0
Taker reader seat sent taken port v = v.takes ≡ true → FitsTaker reader seat sent taken port v

pub begins : Delivers [] (taker ∷ [])
begins = record {
  reader = 0;
  seat = λ _. None;
  sent = λ _. [];
  taken = [];
  whole = λ p. refl;
  senders = λ j v e s. absurd (true≢false (sym s ∙ ap (λ (y : View). y.sends) (sym (only taker v j e).1)));
  taker = λ j v e t. subst (λ (y : ℕ × View). FitsTaker 0 (λ _. None) (λ _. []) [] y.0 y.1)
      (λ i. (sym (only taker v j e).0 i, (only taker v j e).1 i))
      (record { place = refl; same = refl; later = λ p _. (refl, refl); fits = λ i m x. absurd (some-ne-none m (sym x)) });
}

-- after one more mail of a sender that has a pass, the taker knows what it knew
still : (reader port : ℕ) (seat : ℕ → Option ℕ) (sent : ℕ → List Mail) (taken : List Posted) (x : Posted) (pass : ℕ) (v w : View)
    → (w.taken ≡ v.taken) → (w.made ≡ v.made) → (w.met ≡ v.met)
    → seat x.from ≡ Some port → FitsTaker reader seat sent taken pass v
    → FitsTaker reader seat (λ q. sent q ++ of q (x ∷ [])) taken pass w
still reader port seat sent taken x pass v w took made met has f =
    let away : (p : ℕ) → seat p ≡ None → x.from ≢ p = λ p none same. no_seat (seat p) port (ap seat (sym same) ∙ has) none in
    record {
      place = f.place;
      same = took ∙ f.same;
      later = λ p h. let l = f.later p (subst (λ (n : ℕ). n ≤ p) made h) in (l.0, quiet (sent p) p x (away p l.0) ∙ l.1);
      fits = λ i m e. let g = f.fits i m (ap (λ (l : List Met). get_elem? l i) (sym met) ∙ e) in
          (subst (λ (n : ℕ). m.from < n) (sym made) g.0, g.1, g.2 ∙ sym (quiet (sent m.from) m.from x (away m.from g.1)));
    }

pub sends : (n port : ℕ) (v : View) (x : Posted) → v.sends ≡ true → x.from ≡ v.from → Pushes Delivers n port v x (Sends v x)
sends n port v x may its items views _ d at =
    let w : View = record v { sent = v.sent ++ x.mail ∷ [] } in
    let mine = d.senders port v at may in
    let has : d.seat x.from ≡ Some port = ap d.seat its ∙ mine.0 in
    let sent : ℕ → List Mail = λ q. d.sent q ++ of q (x ∷ []) in
    let F : ℕ → View → Type 0 = FitsSender d.seat sent in
    let G : ℕ → View → Type 0 = Taker d.reader d.seat sent d.taken in (
      w,
      record {
        reader = d.reader;
        seat = d.seat;
        sent = sent;
        taken = d.taken;
        whole = λ p. ap (of p) (sym (append_assoc d.taken items (x ∷ []))) ∙ of-append p (d.taken ++ items) (x ∷ [])
            ∙ ap (λ l. l ++ of p (x ∷ [])) (d.whole p);
        senders = all_set F views port w
            (λ _. (mine.0, ap (λ l. l ++ x.mail ∷ []) mine.1 ∙ ap (λ l. d.sent v.from ++ l) (sym (of_here v.from x its))))
            (λ j u other e s. let theirs = d.senders j u e s in (
              theirs.0,
              theirs.1 ∙ sym (quiet (d.sent u.from) u.from x (λ same. other
                  (clash j port (sym theirs.0 ∙ ap d.seat (sym same) ∙ has)))),
            ));
        taker = all_set G views port w
            (λ t. still d.reader port d.seat d.sent d.taken x port v w refl refl refl has (d.taker port v at t))
            (λ j u other e t. still d.reader port d.seat d.sent d.taken x j u u refl refl refl has (d.taker j u e t));
      },
      refl,
    )

-- a sender of which a mail stands first was made
known_sender : (made : ℕ) (taken : List Posted) (x : Posted) (items : List Posted) (sent : List Mail) → of x.from (taken ++ x ∷ items) ≡
    sent
    → (made ≤ x.from → sent ≡ []) → x.from < made
known_sender made taken x items sent whole late = ⊎_elim (λ k. k) (λ (k : made ≤ x.from).
    let here : of x.from (x ∷ items) ≡ x.mail ∷ of x.from items =
    ap (λ (b : Bool). cond b (x.mail ∷ of x.from items) (of x.from items)) (eq-eqb x.from x.from refl) in
    let none : of x.from taken ++ x.mail ∷ of x.from items ≡ [] =
    ap (λ (l : List Mail). of x.from taken ++ l) (sym here) ∙ sym (of-append x.from taken (x ∷ items)) ∙ whole ∙ late k in
    let a = ap length none in
    let b = length-append (of x.from taken) (x.mail ∷ of x.from items) in
    absurd (omega arith)) (lt_or_le x.from made)

pub takes : (port : ℕ) (v : View) → v.takes ≡ true → Pops Delivers port v (Takes v)
takes port v may x items views d at =
    let w : View = record v { taken = v.taken ++ x ∷ [] } in
    let mine = d.taker port v at may in
    let taken = d.taken ++ x ∷ [] in
    let whole : (p : ℕ) → of p (taken ++ items) ≡ d.sent p = λ p. ap (of p) (append_assoc d.taken (x ∷ []) items) ∙ d.whole p in
    let same : v.taken ++ x ∷ [] ≡ taken = ap (λ l. l ++ x ∷ []) mine.same in
    let F : ℕ → View → Type 0 = FitsSender d.seat d.sent in
    let G : ℕ → View → Type 0 = Taker d.reader d.seat d.sent taken in (
      w,
      record {
        reader = d.reader;
        seat = d.seat;
        sent = d.sent;
        taken = taken;
        whole = whole;
        senders = all_set F views port w (d.senders port v at) (λ j u _ e. d.senders j u e);
        taker = all_set G views port w
            (λ _. record { place = mine.place; same = same; later = mine.later; fits = mine.fits })
            (λ j u other e t. absurd (other ((d.taker j u e t).place ∙ sym mine.place)));
      },
      (
        refl,
        λ i m e. (
          of m.from items,
          (mine.fits i m e).2 ∙ sym (whole m.from) ∙ ap (λ l. of m.from (l ++ items)) (sym same)
              ∙ of-append m.from (v.taken ++ x ∷ []) items,
        ),
        known_sender v.made d.taken x items (d.sent x.from) (d.whole x.from) (λ late. (mine.later x.from late).1),
      ),
    )

-- the same mails, where other passes have other seats
reseated : (items : List Posted) (views after : List View) (d : Delivers items views) (seat : ℕ → Option ℕ)
    → All (FitsSender seat d.sent) after → All (Taker d.reader seat d.sent d.taken) after → Delivers items after
reseated items views after d seat senders taker = record {
  reader = d.reader;
  seat = seat;
  sent = d.sent;
  taken = d.taken;
  whole = d.whole;
  senders = senders;
  taker = taker;
}

pub forks : (port : ℕ) (v : View) → v.takes ≡ true → Forks Delivers port v (enlisting v) (sender v.made)
forks port v may items views d at =
    let l : View = enlisting v in
    let r : View = sender v.made in
    let vs : List View = set views port l in
    let mine = d.taker port v at may in
    let free = mine.later v.made (omega arith) in
    let seat : ℕ → Option ℕ = put d.seat v.made (Some (length vs)) in
    let keeps : (p a : ℕ) → d.seat p ≡ Some a → seat p ≡ Some a = λ p a e.
    put_other d.seat v.made (Some (length vs)) p (λ same. no_seat (d.seat p) a e (ap d.seat (sym same) ∙ free.0)) ∙ e in
    let F : ℕ → View → Type 0 = FitsSender seat d.sent in
    let G : ℕ → View → Type 0 = Taker d.reader seat d.sent d.taken in
    let old_f : All F vs = all_set F views port l (λ s. let g = d.senders port v at s in (keeps v.from port g.0, g.1))
    (λ j u _ e s. let g = d.senders j u e s in (keeps u.from j g.0, g.1)) in
    let old_g : All G vs = all_set G views port l
    (λ _. record {
      place = mine.place;
      same = mine.same;
      later = λ p h. let a : v.made ≤ p = omega arith in
          let b : v.made ≢ p = (λ same. let z : v.made + 1 ≤ v.made = subst (λ (k : ℕ). v.made + 1 ≤ k) (sym same) h in omega arith) in
          (put_other d.seat v.made (Some (length vs)) p b ∙ (mine.later p a).0, (mine.later p a).1);
      fits = λ i m e. let g = mine.fits i m e in let lt : m.from < v.made = g.0 in
          let b : v.made ≢ m.from = (λ same. let z : m.from < m.from = subst (λ (k : ℕ). m.from < k) same lt in omega arith) in
          (omega arith, put_other d.seat v.made (Some (length vs)) m.from b ∙ g.1, g.2);
    })
    (λ j u other e t. absurd (other ((d.taker j u e t).place ∙ sym mine.place))) in
    reseated items views (vs ++ r ∷ []) d seat
    (λ j u e. ⊎_elim (λ x. old_f j u x)
    (λ (x : (j ≡ length vs) × (r ≡ u)). subst (λ (y : ℕ × View). F y.0 y.1) (λ i. (sym x.0 i, x.1 i))
    (λ _. (put_same d.seat v.made (Some (length vs)), sym free.1))) (at_end vs r u j e))
    (λ j u e. ⊎_elim (λ x. old_g j u x)
    (λ (x : (j ≡ length vs) × (r ≡ u)). λ t. absurd (true≢false (sym t ∙ ap (λ (y : View). y.takes) (sym x.1)))) (at_end vs r u j e))

pub merges : (port : ℕ) (v : View) (other : ℕ) (u : View) → v.takes ≡ true → u.sends ≡ true → Merges Delivers port v other u
    (meeting v u) spent
merges port v other u may sent items views d at two at' =
    let both : View = meeting v u in
    let vs : List View = set views port both in
    let mine = d.taker port v at may in
    let was : get_elem? views other ≡ some u = ⊎_elim (λ (x : (other ≡ port) × (both ≡ u)). absurd (two x.0))
    (λ (x : (other ≢ port) × (get_elem? views other ≡ some u)). x.1) (at_set views port other both u at') in
    let theirs = d.senders other u was sent in
    let seat : ℕ → Option ℕ = put d.seat u.from None in
    let keeps : (p a : ℕ) → a ≢ other → d.seat p ≡ Some a → seat p ≡ Some a =
    λ p a ne e. put_other d.seat u.from None p (λ same. ne (clash a other (sym e ∙ ap d.seat (sym same) ∙ theirs.0))) ∙ e in
    let below : u.from < v.made = ⊎_elim (λ x. x)
    (λ (x : v.made ≤ u.from). absurd (no_seat (d.seat u.from) other theirs.0 (mine.later u.from x).0)) (lt_or_le u.from v.made) in
    let F : ℕ → View → Type 0 = FitsSender seat d.sent in
    let G : ℕ → View → Type 0 = Taker d.reader seat d.sent d.taken in
    let Fx : ℕ → View → Type 0 = λ j y. j ≢ other → F j y in
    let Gx : ℕ → View → Type 0 = λ j y. j ≢ other → G j y in
    let fits : (i : ℕ) (m : Met) → get_elem? both.met i ≡ some m → FitsMet seat d.sent v.made m =
    λ i m e. ⊎_elim (λ x. let g = mine.fits i m x in (g.0, put_none d.seat u.from m.from g.1, g.2))
    (λ (same : met_of u ≡ m). subst (λ (y : Met). FitsMet seat d.sent v.made y) same (below, put_same d.seat u.from None, theirs.1))
    (at_snoc v.met (met_of u) m i e) in
    let now_f : All Fx vs = all_set Fx views port both (λ ne s. let g = d.senders port v at s in (keeps v.from port ne g.0, g.1))
    (λ j y _ e ne s. let g = d.senders j y e s in (keeps y.from j ne g.0, g.1)) in
    let now_g : All Gx vs = all_set Gx views port both
    (λ _ _. record {
      place = mine.place;
      same = mine.same;
      later = λ p h. (put_none d.seat u.from p (mine.later p h).0, (mine.later p h).1);
      fits = fits;
    })
    (λ j y apart e _ t. absurd (apart ((d.taker j y e t).place ∙ sym mine.place))) in
    reseated items views (set vs other spent) d seat
    (all_set F vs other spent (λ s. absurd (true≢false (sym s))) (λ j y ne e. now_f j y e ne))
    (all_set G vs other spent (λ t. absurd (true≢false (sym t))) (λ j y ne e. now_g j y e ne))

pub trails : (port : ℕ) (v : View) → v.sends ≡ true → Learns Delivers port v (Trails v)
trails port v may items views d at =
    (of v.from d.taken, (d.senders port v at may).1 ∙ sym (d.whole v.from) ∙ of-append v.from d.taken items)

pub balances : (port : ℕ) (v : View) → v.takes ≡ true → Learns Delivers port v (Balances v)
balances port v may items views d at i m e =
    let mine = d.taker port v at may in
    (mine.fits i m e).2 ∙ sym (d.whole m.from) ∙ ap (λ l. of m.from (l ++ items)) (sym mine.same) ∙ of-append m.from v.taken items
