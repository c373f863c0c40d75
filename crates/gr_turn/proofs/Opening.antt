-- The first seat opens the lock, and gives each seat its number.
use Rattle.std.proofs.Common.{◌≡◌, ℕ, zero, suc, ◌+◌, ◌-◌, ◌*◌, ◌<◌, true, false, true≢false, List, [], ◌∷◌, length, set, get_or, Option}
use Rattle.std.proofs.Common.{Some, None, refl, sym, ap, ◌∙◌, subst, arith, length-set, inl, inr, ⊎_elim}
use mathlib.Core.Option.{some, some-injective, some-ne-none}
use lib.ListN.{get_elem?}
use Rattle.atomic_table.specs.Table.{State, Me, takes, gives, Allows, Splits}
use Rattle.atomic_table.proofs.Lists.{at_snoc, set_here, at_longer}
use Rattle.gr_turn.specs.declared.view.View.{View}
use Rattle.gr_turn.specs.Views.{IsRoot, times, total, count_from, is_out, fresh, claimed, root_view, deal_left, deal_right, dealt_of}
use Rattle.gr_turn.specs.Rule.{Fits, IsSound, Opened, Shut, Holds, Claimed, Opens}
use Rattle.gr_turn.proofs.Counts.{total_same, times-append, count_split, starts_self, total_snoc}
use Rattle.gr_turn.proofs.Opened.{refit_near, none_some, some_same, cons_none, each_set, sound_set, refit, opened_by, keeps_taken, gone_on}
use Rattle.gr_turn.proofs.Releasing.{slot_same}

module _ {T E B : Type 0} (entries : T → List E) (base_of : T → B) where
  one_view : (w : View E B) (by : ℕ) (v : View E B) → get_elem? (w ∷ []) by ≡ some v → (by ≡ 0) × (w ≡ v)
  one_view w zero v e = (refl, some-injective w v e)
  one_view w (suc by) v e = absurd (some-ne-none v (sym e))

  shut_at : (s : State (Option T) (View E B)) (u : Shut entries base_of s) (id : ℕ) (v : View E B) → get_elem? s.views id ≡ some v
      → (id ≡ 0) × (u.view ≡ v)
  shut_at s u id v at = one_view u.view id v (subst (λ (l : List (View E B)). get_elem? l id ≡ some v) u.alone at)

  shut_set : (s : State (Option T) (View E B)) (u : Shut entries base_of s) (id : ℕ) (w : View E B) → id ≡ 0 → set s.views id w ≡ w ∷ []
  shut_set s u id w e = subst (λ (i : ℕ). set s.views i w ≡ w ∷ []) (sym e) (ap (λ (l : List (View E B)). set l 0 w) u.alone)

  -- the first seat takes the empty slot
  pub claims : (id seats : ℕ)
      → Allows (Holds entries base_of) 1 id (fresh seats, []) 0 (λ n. n) (Claimed entries base_of (fresh seats, []))
  claims id seats s law slots at fits =
      ⊎_elim
      (λ (u : Shut entries base_of s). let v : View E B = fresh seats in let h = shut_at s u id v at in let w : View E B = claimed v in (
        w,
        takes 0 None,
        u.home (ap (λ (x : View E B). x.won) h.1),
        inl (record {
          view = w;
          alone = shut_set s u id w h.0;
          closed = refl;
          word = ap (λ (ws : List ℕ). set ws 0 (get_or ws 0 0)) u.word;
          slot = length-set s.homes 0 _ ∙ u.slot;
          home = λ (e : 1 ≡ 0). absurd (omega arith);
        }),
        (refl, refl),
      ))
      (λ (o : Opened entries base_of s). absurd (none_some 0 (sym ((o.sound id (fresh seats) at).1 refl).0)))
      law

  -- the first value goes home
  pub opens : (id seats : ℕ) (x : T) (new : ℕ) → new ≡ length (entries x) * 2
      → Allows (Holds entries base_of) 1 id (
        claimed (fresh seats),
        (0, Some x) ∷ [],
      ) 0 (λ _. new) (Opens entries base_of (claimed (fresh seats), (0, Some x) ∷ []))
  opens id seats x new is s law slots at fits =
      ⊎_elim
      (λ (u : Shut entries base_of s).
      let v : View E B = claimed (fresh seats) in
      let h = shut_at s u id v at in
      let list = entries x in
      let w : View E B = root_view (base_of x) seats list 0 in
      let alone : set s.views id w ≡ w ∷ [] = shut_set s u id w h.0 in
      let there = λ (by : ℕ) (y : View E B) (e : get_elem? (set s.views id w) by ≡ some y). one_view w by y
      (subst (λ (l : List (View E B)). get_elem? l by ≡ some y) alone e) in (
        w,
        gives,
        tt,
        inr (record {
          list = list;
          base = base_of x;
          seats = seats;
          opening = length list;
          dealt = 0;
          out = false;
          holder = 0;
          root = 0;
          word = ap (λ (ws : List ℕ). set ws 0 new) u.word ∙ ap (λ (n : ℕ). n ∷ []) (is ∙ omega arith);
          slot = length-set s.homes 0 _ ∙ u.slot;
          home = λ _. (x, set_here s.homes 0 (some (Some x)) (let k = u.slot in omega arith), refl, refl);
          taken = λ e. absurd (true≢false (sym e));
          started = omega arith;
          few = omega arith;
          sound = λ by y e. subst (λ (z : View E B). IsSound z) (there by y e).1 (
            (λ _. (refl, refl)),
            (λ shut. absurd (true≢false shut)),
          );
          each = λ by y e _. subst (λ (z : ℕ
              × View E B). Fits list (base_of x) seats (length list) 0 false 0 0 z.0 z.1) (λ i. (
                sym (there by y e).0 i,
                (there by y e).1 i,
              )) (record {
                based = refl;
                counted = refl;
                began = refl;
                saw = starts_self list;
                near = (list, refl);
                long = omega arith;
                held = λ l e. absurd (none_some l e);
                deals = λ n e. (refl, sym (some_same 0 n e));
                own = λ p (e : 0 < 0). absurd (omega arith);
              });
          places = λ p. ap (total (λ (y : View E B). times p y.made)) alone
              ∙ sym (ap (λ (k : ℕ). times p (count_from (length list) k)) (let k : length list - length list ≡ 0 = omega arith in k));
          numbers = λ p. ap (total (λ (y : View E B). times p y.parts)) alone;
        }),
        λ y e. (ap (λ (z : T). root_view (base_of z) seats (entries z) 0) (slot_same entries base_of x y e), refl),
      ))
      (λ (o : Opened entries base_of s). absurd (none_some 0 (sym ((o.sound id (claimed (fresh seats)) at).1 refl).0)))
      law

  -- the root deals a number
  pub deals : (id : ℕ) (v : View E B) (k : ℕ) → v.opened ≡ true → v.turn ≡ None → v.parts ≡ [] → v.next ≡ Some k → k < v.seats
      → Splits (Holds entries base_of) id v (deal_left v) (deal_right v)
  deals id v k op none bare next room s law at =
      let o = opened_by entries base_of s id v law at op in
      let f = o.each id v at op in
      let d = f.deals k next in
      let clean = ((o.sound id v at).0 bare).0 in
      let left : View E B = deal_left v in
      let right : View E B = deal_right v in
      let is : dealt_of v.next ≡ k = ap dealt_of next in
      let no_made : (p : ℕ) → times p v.made ≡ 0 = λ p. ap (times p) clean in
      inr (gone_on entries base_of o o.list (suc o.dealt) o.out o.holder (record {
        word = o.word;
        slot = o.slot;
        home = o.home;
        taken = λ out. let t = keeps_taken entries base_of s o id v left at none out in
            (t.0, at_longer (set s.views id left) (right ∷ []) o.holder t.0 t.1, t.2);
        started = o.started;
        few = let a = d.1 in let b = f.counted in omega arith;
        sound = λ by u e. ⊎_elim
            (λ was. sound_set s.views id left o.sound ((λ _. (clean, none)), (λ shut. absurd (true≢false (sym op ∙ shut)))) by u was)
            (λ (same : right ≡ u). subst (λ (z : View E B). IsSound z) same (
              (λ e'. absurd (cons_none _ [] e')),
              (λ shut. absurd (true≢false (sym op ∙ shut))),
            ))
            (at_snoc (set s.views id left) right u by e);
        each = λ by u e op'. ⊎_elim
            (λ was. each_set s.views id left
            (λ j y apart at' op''. let g = o.each j y at' op'' in
            refit g g.saw g.held (λ n e'. absurd (apart ((g.deals n e').0 ∙ sym d.0))))
            (λ _. refit_near f (refl, refl, refl, refl, refl, refl) f.saw (λ l e'. absurd (none_some l (sym none ∙ e')))
            (λ n e'. (d.0, sym (some_same _ n e') ∙ ap suc (is ∙ d.1))))
            by u was op')
            (λ (same : right ≡ u). subst
            (λ (z : View E B). Fits o.list o.base o.seats o.opening (suc o.dealt) o.out o.holder o.root by z) same
            (refit_near f (refl, refl, refl, refl, refl, refl) f.saw (λ l e'. absurd (none_some l (sym none ∙ e')))
            (λ n e'. absurd (none_some n e'))))
            (at_snoc (set s.views id left) right u by e);
        places = λ p.
            let a = total_snoc (λ (u : View E B). times p u.made) (set s.views id left) right in
            let b = total_same (λ (u : View E B). times p u.made) s.views id v left at refl in
            let c = no_made p in
            let q = o.places p in
            omega arith;
        numbers = λ p.
            let a = total_snoc (λ (u : View E B). times p u.parts) (set s.views id left) right in
            let b = total_same (λ (u : View E B). times p u.parts) s.views id v left at refl in
            let q = o.numbers p in
            let e : suc o.dealt ≡ o.dealt + 1 = omega arith in
            let z : 0 + o.dealt ≡ dealt_of v.next = omega arith ∙ sym d.1 ∙ sym is in
            let r : times p (count_from 0 (suc o.dealt)) ≡ times p (count_from 0 o.dealt) + times p (dealt_of v.next ∷ []) =
            ap (λ (n : ℕ). times p (count_from 0 n)) e ∙ ap (times p) (count_split 0 o.dealt 1) ∙ times-append p _ _
            ∙ ap (λ (n : ℕ). times p (count_from 0 o.dealt) + times p (n ∷ [])) z in
            omega arith;
      }))

  -- the steps, at what a seat is known to be
  abbrev Token : Type 0
  Token = Me (Option T) (View E B)

  pub claims_as : (id seats : ℕ) (m : Token) → m ≡ (fresh seats, [])
      → Allows (Holds entries base_of) 1 id m 0 (λ n. n) (Claimed entries base_of m)
  claims_as id seats m e = subst (λ (n : Token). Allows (Holds entries base_of) 1 id n 0 (λ k. k) (Claimed entries base_of n))
      (sym e) (claims id seats)

  pub opens_as : (id seats : ℕ) (x : T) (new : ℕ) (m : Token) → m ≡ (claimed (fresh seats), (0, Some x) ∷ [])
      → new ≡ length (entries x) * 2 → Allows (Holds entries base_of) 1 id m 0 (λ _. new) (Opens entries base_of m)
  opens_as id seats x new m e is = subst
      (λ (n : Token). Allows (Holds entries base_of) 1 id n 0 (λ _. new) (Opens entries base_of n)) (sym e) (opens id seats x new is)

  next_is : (o : Option ℕ) → is_out o ≡ true → o ≡ Some (dealt_of o)
  next_is (Some k) e = refl
  next_is None e = absurd (true≢false (sym e))

  pub deals_as : (id : ℕ) (m : Token) → IsRoot m → Splits (Holds entries base_of) id m.0 (deal_left m.0) (deal_right m.0)
  deals_as id m i = deals id m.0 (dealt_of m.0.next) i.1 i.2 i.3 (next_is m.0.next i.4) i.5
