-- What a seat gives back becomes the list of the lock.
use Rattle.std.proofs.Common.{◌≡◌, ◌≢◌, ℕ, ◌+◌, ◌-◌, ◌*◌, ◌≤◌, true, false, true≢false, List, [], ◌∷◌, length, set, Option, Some, None}
use Rattle.std.proofs.Common.{refl, sym, ap, ◌∙◌, subst, arith, length-set, inr}
use mathlib.Core.Option.{some}
use Rattle.atomic_table.specs.Table.{gives, Allows}
use Rattle.atomic_table.proofs.Lists.{set_here}
use Rattle.gr_turn.specs.declared.view.View.{View}
use Rattle.gr_turn.specs.Views.{times, count_from, left_by, found, is_out, list_in}
use Rattle.gr_turn.specs.Rule.{Holds, Released}
use Rattle.gr_turn.proofs.Counts.{total_set, total_same, times-append, starts_long, starts_trans, starts_self, places_split, below_both}
use Rattle.gr_turn.proofs.Opened.{none_some, some_same, each_set, sound_set, mine_sound, refit, opened_by, gone_on}
use Rattle.gr_value.specs.Lists.{StartsWith}

module _ {T E B : Type 0} (entries : T → List E) (base_of : T → B) where
  abbrev slot : T → List (ℕ × Option T)
  slot x = (0, Some x) ∷ []

  abbrev first_value : List (ℕ × Option T) → Option T
  first_value [] = None
  first_value (x ∷ xs) = x.1

  pub slot_same : (x y : T) → slot x ≡ slot y → x ≡ y
  slot_same x y e = some_same x y (ap first_value e)

  out_is : (o : Option (List E)) → is_out o ≡ true → o ≡ Some (list_in o)
  out_is (Some l) e = refl
  out_is None e = absurd (true≢false (sym e))

  pub releases : (id : ℕ) (v : View E B) (x : T) (new : ℕ) → v.opened ≡ true → v.parts ≢ [] → is_out v.turn ≡ true
      → v.base ≡ Some (base_of x) → StartsWith (entries x) (found v) → new ≡ length (entries x) * 2
      → Allows (Holds entries base_of) 1 id (v, (0, Some x) ∷ []) 0 (λ _. new) (Released entries base_of (v, (0, Some x) ∷ []))
  releases id v x new op numbered outside based starts is s law slots at fits =
      let l = found v in
      let turn : v.turn ≡ Some l = out_is v.turn outside in
      let o = opened_by entries base_of s id v law at op in
      let f = o.each id v at op in
      let h = f.held l turn in
      let now = entries x in
      let w : View E B = left_by v now in
      let grown : StartsWith now o.list = subst (λ (k : List E). StartsWith now k) h.2 starts in
      let longer : length o.list ≤ length now = starts_long now o.list grown in
      let same : length l ≡ length o.list = ap length h.2 in
      let seen_long : length v.seen ≤ length o.list = starts_long o.list v.seen f.saw in
      let made : (p : ℕ) → times p w.made ≡ times p v.made + times p (count_from (length o.list) (length now - length o.list)) =
      λ p. times-append p v.made _ ∙ ap (λ (k : ℕ). times p v.made + times p (count_from k (length now - k))) same in (
        w,
        gives,
        tt,
        inr (gone_on entries base_of o now o.dealt false o.holder (record {
          word = ap (λ (ws : List ℕ). set ws 0 new) o.word ∙ ap (λ (n : ℕ). n ∷ []) (is ∙ omega arith);
          slot = length-set s.homes 0 _ ∙ o.slot;
          home = λ _. (
            x,
            set_here s.homes 0 (some (Some x)) (let k = o.slot in omega arith),
            refl,
            some_same (base_of x) o.base (sym based ∙ f.based),
          );
          taken = λ e. absurd (true≢false (sym e));
          started = let k = o.started in omega arith;
          few = o.few;
          sound = sound_set s.views id w o.sound (mine_sound v w op numbered refl refl);
          each = each_set s.views id w
              (λ by u apart at' op'. let g = o.each by u at' op' in
              refit g (starts_trans now o.list u.seen grown g.saw) (λ l' e. absurd (apart ((g.held l' e).1 ∙ sym h.1))) g.deals)
              (λ _. record {
                based = f.based;
                counted = f.counted;
                began = f.began;
                saw = starts_self now;
                near = starts_trans now v.seen v.met (starts_trans now o.list v.seen grown f.saw) f.near;
                long = let k = o.started in omega arith;
                held = λ l' e. absurd (none_some l' e);
                deals = f.deals;
                own = λ p e. below_both p (length now) (length l) (length now - length l) v.made (λ i. let k = f.own p i in
                    omega arith) (omega arith) e;
              });
          places = λ p.
              let t = total_set (λ (u : View E B). times p u.made) s.views id v w at in
              let k = o.places p in
              let m = made p in
              let q = places_split p o.opening (length o.list) (length now) o.started longer in
              omega arith;
          numbers = λ p. total_same (λ (u : View E B). times p u.parts) s.views id v w at refl ∙ o.numbers p;
        })),
        λ x' e. (ap (λ (y : T). left_by v (entries y)) (slot_same x x' e), refl),
      )
