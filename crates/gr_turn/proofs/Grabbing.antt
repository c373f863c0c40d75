-- A grab keeps the rule: it wins where the word is even, and changes nothing where it is odd.
use Rattle.std.proofs.Common.{◌≡◌, ◌≢◌, ℕ, ◌+◌, ◌*◌, ◌%◌, Bool, true, false, true≢false, List, [], ◌∷◌, length, set, get_or, Option, Some}
use Rattle.std.proofs.Common.{None, refl, sym, ap, ◌∙◌, subst, arith, length-set, inr}
use Rattle.std.specs.Prelude.{bit_or}
use mathlib.Core.Option.{some}
use lib.ListN.{get_elem?}
use Rattle.atomic_table.specs.Table.{State, Me, Act, keeps, takes, Valid, carried_after, Allows, stepped}
use Rattle.gr_turn.specs.declared.view.View.{View}
use Rattle.gr_turn.specs.Views.{IsIdle, times, bit, won_by, lost_by}
use Rattle.gr_turn.specs.Rule.{Opened, Holds, Grabbed}
use Rattle.gr_turn.proofs.Counts.{total_same, even_or, odd_or}
use Rattle.gr_turn.proofs.Opened.{refit_near, some_same, each_set, sound_set, mine_sound, set_at, refit, opened_by, keeps_taken, gone_on}
use Rattle.gr_value.specs.Lists.{StartsWith}

module _ {T E B : Type 0} (entries : T → List E) (base_of : T → B) where
  abbrev CanGrab : ℕ → View E B → State (Option T) (View E B) → Type 0
  CanGrab id v s = (w : View E B) × (a : Act (Option T)) × Valid s.homes [] a
      × Holds entries base_of (stepped s 0 (bit_or (get_or s.words 0 0) 1) id [] w a)
      × Grabbed entries base_of (v, []) (get_or s.words 0 0) (w, carried_after [] a)

  grabs_even : (id : ℕ) (v : View E B) → v.opened ≡ true → v.parts ≢ []
      → (s : State (Option T) (View E B)) (o : Opened entries base_of s) → o.out ≡ false → get_elem? s.views id ≡ some v
      → CanGrab id v s
  grabs_even id v op numbered s o free at =
      let h = o.home free in
      let w : View E B = won_by v o.list in
      let found : get_or s.words 0 0 ≡ length o.list * 2 + 0 = ap (λ (ws : List ℕ). get_or ws 0 0) o.word
      ∙ ap (λ (b : Bool). length o.list * 2 + bit b) free in
      let f = o.each id v at op in (
        w,
        takes 0 (Some h.0),
        h.1,
        inr (gone_on entries base_of o o.list o.dealt true id (record {
          word = ap (λ (ws : List ℕ). set ws 0 (bit_or (get_or s.words 0 0) 1)) o.word
              ∙ ap (λ (n : ℕ). n ∷ []) (ap (λ (n : ℕ). bit_or n 1) found ∙ even_or (length o.list));
          slot = length-set s.homes 0 _ ∙ o.slot;
          home = λ e. absurd (true≢false e);
          taken = λ _. (w, set_at s.views id v w at, refl);
          started = o.started;
          few = o.few;
          sound = sound_set s.views id w o.sound (mine_sound v w op numbered refl refl);
          each = each_set s.views id w
              (λ by u apart at' op'. let g = o.each by u at' op' in
              refit g g.saw (λ l e. absurd (true≢false (sym (g.held l e).0 ∙ free))) g.deals)
              (λ _. refit_near f (refl, refl, refl, refl, refl, refl) f.saw (λ l e. (refl, refl, sym (some_same o.list l e))) f.deals);
          places = λ p. total_same (λ (u : View E B). times p u.made) s.views id v w at refl ∙ o.places p;
          numbers = λ p. total_same (λ (u : View E B). times p u.parts) s.views id v w at refl ∙ o.numbers p;
        })),
        (
          (λ _. (
            h.0,
            (
              ap (won_by v) (sym h.2),
              refl,
              f.based
                  ∙ ap Some (sym h.3),
              subst (λ (l : List E). StartsWith l v.seen) (sym h.2) f.saw,
            ),
          )),
          (λ odd. absurd (odd (rw found (omega arith)))),
        ),
      )

  grabs_odd : (id : ℕ) (v : View E B) → v.opened ≡ true → v.turn ≡ None → v.parts ≢ []
      → (s : State (Option T) (View E B)) (o : Opened entries base_of s) → o.out ≡ true → get_elem? s.views id ≡ some v
      → CanGrab id v s
  grabs_odd id v op none numbered s o busy at =
      let w : View E B = lost_by v (get_or s.words 0 0) in
      let found : get_or s.words 0 0 ≡ length o.list * 2 + 1 = ap (λ (ws : List ℕ). get_or ws 0 0) o.word
      ∙ ap (λ (b : Bool). length o.list * 2 + bit b) busy in
      let f = o.each id v at op in (
        w,
        keeps,
        tt,
        inr (gone_on entries base_of o o.list o.dealt true o.holder (record {
          word = ap (λ (ws : List ℕ). set ws 0 (bit_or (get_or s.words 0 0) 1)) o.word
              ∙ ap (λ (n : ℕ). n ∷ []) (ap (λ (n : ℕ). bit_or n 1) found ∙ odd_or (length o.list));
          slot = o.slot;
          home = λ e. absurd (true≢false e);
          taken = λ _. keeps_taken entries base_of s o id v w at none busy;
          started = o.started;
          few = o.few;
          sound = sound_set s.views id w o.sound (mine_sound v w op numbered refl refl);
          each = each_set s.views id w
              (λ by u apart at' op'. let g = o.each by u at' op' in refit g g.saw (λ l e. (refl, (g.held l e).1, (g.held l e).2)) g.deals)
              (λ _. refit_near f (refl, refl, refl, refl, refl, refl) f.saw (λ l e. (refl, (f.held l e).1, (f.held l e).2)) f.deals);
          places = λ p. total_same (λ (u : View E B). times p u.made) s.views id v w at refl ∙ o.places p;
          numbers = λ p. total_same (λ (u : View E B). times p u.parts) s.views id v w at refl ∙ o.numbers p;
        })),
        (
          (λ even. absurd (let e : (length o.list * 2 + 1) % 2 ≡ 0 = rw found at even in omega arith)),
          (λ _. (refl, refl)),
        ),
      )

  pub grabs : (id : ℕ) (v : View E B) → v.opened ≡ true → v.turn ≡ None → v.parts ≢ []
      → Allows (Holds entries base_of) 1 id (v, []) 0 (λ n. bit_or n 1) (Grabbed entries base_of (v, []))
  grabs id v op none numbered s law slots at fits =
      let o = opened_by entries base_of s id v law at op in by_out o o.out refl
    where
      by_out : (o : Opened entries base_of s) (b : Bool) → o.out ≡ b → CanGrab id v s
      by_out o true e = grabs_odd id v op none numbered s o e at
      by_out o false e = grabs_even id v op numbered s o e at

  -- the steps, at what a seat is known to be
  abbrev Token : Type 0
  Token = Me (Option T) (View E B)

  pub grabs_as : (id : ℕ) (m : Token) → IsIdle m → Allows (Holds entries base_of) 1 id m 0 (λ n. bit_or n 1) (Grabbed entries base_of m)
  grabs_as id m i = subst (λ (l : List (ℕ × Option T)). Allows (Holds entries base_of) 1 id (
    m.0,
    l,
  ) 0 (λ n. bit_or n 1) (Grabbed entries base_of (m.0, l))) (sym i.0) (grabs id m.0 i.1 i.2 i.4)
