-- A join keeps the rule: each place and each number stays where one view has it.
use Rattle.std.proofs.Common.{◌≡◌, ◌≢◌, ℕ, zero, suc, ◌+◌, ◌<◌, ◌≤◌, true, true≢false, List, [], ◌++◌, length, set, Option, None, refl}
use Rattle.std.proofs.Common.{sym, ap, ◌∙◌, subst, arith, inr}
use mathlib.Core.Option.{some, some-injective}
use lib.ListN.{get_elem?}
use Rattle.atomic_table.specs.Table.{Me, Joins}
use Rattle.atomic_table.proofs.Lists.{set_else}
use Rattle.gr_turn.specs.declared.view.View.{View}
use Rattle.gr_turn.specs.Views.{IsIdle, times, total, both, longer, unopened}
use Rattle.gr_turn.specs.Rule.{Holds}
use Rattle.gr_turn.proofs.Counts.{total_set, times-append, longer_starts, longer_length, longer_shorter}
use Rattle.gr_turn.proofs.Opened.{none_some, append_none, each_set, sound_set, opened_by, keeps_taken, gone_on}

module _ {T E B : Type 0} (entries : T → List E) (base_of : T → B) where
  -- a seat takes in what another knows
  pub joins : (id : ℕ) (v : View E B) (other : ℕ) (w : View E B) → v.opened ≡ true → v.turn ≡ None → v.next ≡ None → v.parts ≢ []
      → w.opened ≡ true → w.turn ≡ None
      → Joins (Holds entries base_of) id v other w (both v w) (unopened 0)
  joins id v other w op none last numbered op' none' s law at apart there =
      let o = opened_by entries base_of s id v law at op in
      let f = o.each id v at op in
      let b : View E B = both v w in
      let spent : View E B = unopened 0 in
      let at' : get_elem? s.views other ≡ some w = sym (set_else s.views id other b apart) ∙ there in
      let f' = o.each other w at' op' in
      let views' = set s.views id b in
      let alive : b.parts ≢ [] = λ e. numbered (append_none v.parts w.parts e) in
      let longs = longer_length v.seen w.seen in
      let totals = λ (h : View E B → ℕ) (sum : h b ≡ h v + h w) (zero : h spent ≡ 0).
      (let x = total_set h s.views id v b at in
      let y = total_set h views' other w spent there in
      let z : total h (set views' other spent) ≡ total h s.views = omega arith in z) in
      inr (gone_on entries base_of o o.list o.dealt o.out o.holder (record {
        word = o.word;
        slot = o.slot;
        home = o.home;
        taken = λ out.
            let t = keeps_taken entries base_of s o id v b at none out in
            let apart' : o.holder ≢ other = λ e. none_some o.list (sym none'
            ∙ ap (λ (u : View E B). u.turn) (some-injective w t.0 (sym there
            ∙ subst (λ (i : ℕ). get_elem? views' i ≡ some t.0) e t.1)) ∙ t.2) in
            (t.0, set_else views' other o.holder spent apart' ∙ t.1, t.2);
        started = o.started;
        few = o.few;
        sound = sound_set views' other spent (sound_set s.views id b o.sound (
          (λ e. absurd (alive e)),
          (λ shut. absurd (true≢false (sym op ∙ shut))),
        )) ((λ _. (refl, refl)), (λ _. (refl, refl)));
        each = each_set views' other spent
            (λ by u far. each_set s.views id b (λ j y apart' at'' op''. o.each j y at'' op'')
            (λ _. record {
              based = f.based;
              counted = f.counted;
              began = f.began;
              saw = longer_starts o.list v.seen w.seen f.saw f'.saw;
              near = longer_shorter o.list v.seen w.seen f.saw f'.saw;
              long = let k = f.long in let l = longs.0 in omega arith;
              held = λ l e. absurd (none_some l (sym none ∙ e));
              deals = λ n e. absurd (none_some n (sym last ∙ e));
              own = λ p e. joined_own p e (f.own p) (f'.own p) longs;
            })
            by u)
            (λ shut. absurd (true≢false (sym shut)));
        places = λ p. totals (λ (u : View E B). times p u.made) (times-append p v.made w.made) refl ∙ o.places p;
        numbers = λ p. totals (λ (u : View E B). times p u.parts) (times-append p v.parts w.parts) refl ∙ o.numbers p;
      }))
    where
      joined_own : (p : ℕ) → 0 < times p (v.made ++ w.made) → (0 < times p v.made → p < length v.seen)
          → (0 < times p w.made → p < length w.seen)
          → (length v.seen ≤ length (longer v.seen w.seen)) × (length w.seen ≤ length (longer v.seen w.seen))
          → p < length (longer v.seen w.seen)
      joined_own p e mine theirs longs = go (times p v.made) refl
        where
          go : (m : ℕ) → times p v.made ≡ m → p < length (longer v.seen w.seen)
          go (suc m) q = let k : p < length v.seen = mine (omega arith) in let l = longs.0 in omega arith
          go zero q = let t = times-append p v.made w.made in let k : p < length w.seen = theirs (omega arith) in let l = longs.1 in
              omega arith

  -- the steps, at what a seat is known to be
  abbrev Token : Type 0
  Token = Me (Option T) (View E B)

  pub joined_idle : (m n : Token) (k : Token) → IsIdle m → k ≡ (both m.0 n.0, m.1) → IsIdle k
  joined_idle m n k i e = subst (λ (y : Token). IsIdle y) (sym e) (i.0, i.1, i.2, i.3, λ q. i.4 (append_none m.0.parts n.0.parts q))

  pub same_idle : (m n : Token) → IsIdle m → n.0 ≡ m.0 → n.1 ≡ m.1 → IsIdle n
  same_idle m n i e f = subst (λ (y : View E B × List (ℕ × Option T)). IsIdle y) (λ k. (sym e k, sym f k)) i
