-- What all numbers together have made, and what is at home at the end.
use Rattle.std.proofs.Common.{◌≡◌, ◌≢◌, ℕ, ◌+◌, ◌-◌, ◌*◌, ◌%◌, ◌<◌, Bool, true, false, List, [], ◌∷◌, length, set, get_or, Option, Some}
use Rattle.std.proofs.Common.{None, refl, sym, ap, ◌∙◌, subst, arith, inr}
use mathlib.Core.Option.{some, some-injective}
use lib.ListN.{get_elem?}
use mathlib.Core.Logic.{dite}
use native.Mathlib.Decide.{ℕ_discrete}
use Rattle.atomic_table.specs.Table.{State, Me, keeps, Allows, Final, Seen}
use Rattle.atomic_table.proofs.Lists.{set_again}
use Rattle.gr_turn.specs.declared.view.View.{View}
use Rattle.gr_turn.specs.Views.{times, bit, HasAll, MadeAll, IsAccounted}
use Rattle.gr_turn.specs.Rule.{Opened, Holds, Looked}
use Rattle.gr_turn.proofs.Counts.{starts_long, total_at, total_only, total_two, count_once, count_has, count_first, count_below}
use Rattle.gr_turn.proofs.Opened.{none_some, some_same, opened_by}
use Rattle.gr_value.specs.Lists.{StartsWith}

module _ {T E B : Type 0} (entries : T → List E) (base_of : T → B) where
  -- of a view with all numbers, each other one has none
  others_bare : (s : State (Option T) (View E B)) (o : Opened entries base_of s) (id : ℕ) (v : View E B)
      → get_elem? s.views id ≡ some v → v.opened ≡ true → HasAll v → (j : ℕ) (u : View E B) → j ≢ id → get_elem? s.views j ≡ some u
      → u.parts ≡ []
  others_bare s o id v at op all j u ne there = go u.parts refl
    where
      go : (l : List ℕ) → u.parts ≡ l → u.parts ≡ []
      go [] e = e
      go (n ∷ ns) e =
          let mine : 0 < times n u.parts = rw e (count_first n ns) in
          let t = total_two (λ (y : View E B). times n y.parts) s.views id j v u (λ q. ne (sym q)) at there in
          let q = o.numbers n in
          let once = count_once n 0 o.dealt in
          let below : n < 0 + o.dealt = count_below n 0 o.dealt (omega arith) in
          let f = (o.each id v at op).counted in
          let few = o.few in
          let has = all n (omega arith) in
          absurd (omega arith)

  -- what follows from the last state, whether a turn is out or not
  at_last : {G : Type 0} (id : ℕ) (v : View E B) (ws : List ℕ) (xs : List (Option T)) (word : ℕ)
      (final : Final (Seen (Holds entries base_of) id v) ws xs)
      → v.opened ≡ true → get_elem? ws 0 ≡ some word
      → ((o : Opened entries base_of final.0) → o.out ≡ false → word ≡ length o.list * 2 + 0 → G)
      → ((o : Opened entries base_of final.0) → o.out ≡ true → word ≡ length o.list * 2 + 1 → G) → G
  at_last {G = G} id v ws xs word final op at home away = go o.out refl
    where
      o : Opened entries base_of final.0
      o = opened_by entries base_of final.0 id v final.1.0 final.1.1 op

      found_word : word ≡ length o.list * 2 + bit o.out
      found_word = some-injective _ _ (sym at ∙ ap (λ (l : List ℕ). get_elem? l 0) (sym final.2 ∙ o.word))

      go : (b : Bool) → o.out ≡ b → G
      go false e = home o e (found_word ∙ ap (λ (b : Bool). length o.list * 2 + bit b) e)
      go true e = away o e (found_word ∙ ap (λ (b : Bool). length o.list * 2 + bit b) e)

  -- where all numbers are with a seat that has no turn, no turn is out
  pub all_home : (id : ℕ) (v : View E B) (ws : List ℕ) (xs : List (Option T)) (word : ℕ)
      → Final (Seen (Holds entries base_of) id v) ws xs → v.opened ≡ true → v.turn ≡ None → HasAll v → get_elem? ws 0 ≡ some word
      → word % 2 ≡ 1 → ⊥
  all_home id v ws xs word final op none all at odd = at_last id v ws xs word final op at
      (λ o e w. omega arith)
      (λ o e w.
      let t = o.taken e in
      dite (ℕ_discrete o.holder id)
      (λ (same : o.holder ≡ id). none_some o.list (sym none
      ∙ ap (λ (u : View E B). u.turn) (some-injective v t.0 (sym final.1.1
      ∙ subst (λ (i : ℕ). get_elem? final.0.views i ≡ some t.0) same t.1)) ∙ t.2))
      (λ ne. none_some o.list (sym ((o.sound o.holder t.0 t.1).0 (others_bare final.0 o id v final.1.1 op all o.holder t.0 ne t.1)).1
      ∙ t.2)))

  made_all : (s : State (Option T) (View E B)) (o : Opened entries base_of s) (id : ℕ) (v : View E B)
      → get_elem? s.views id ≡ some v → v.opened ≡ true → MadeAll v (length o.list)
  made_all s o id v at op all p lo hi =
      let f = o.each id v at op in
      let others = λ (j : ℕ) (u : View E B) (ne : j ≢ id) (there : get_elem? s.views j ≡ some u). ap (times p)
      ((o.sound j u there).0 (others_bare s o id v at op all j u ne there)).0 in
      let a = total_only (λ (u : View E B). times p u.made) s.views id v at others in
      let b = o.places p in
      let c = f.began in
      let e = o.started in
      let h = count_has p o.opening (length o.list - o.opening) (omega arith) (omega arith) in
      omega arith

  -- no place was made twice, and all numbers have made each place
  accounted : (s : State (Option T) (View E B)) (o : Opened entries base_of s) (id : ℕ) (v : View E B)
      → get_elem? s.views id ≡ some v → v.opened ≡ true → IsAccounted v
  accounted s o id v at op =
      let f = o.each id v at op in (
        (λ p. let a = total_at (λ (u : View E B). times p u.made) s.views id v at in let b = o.places p in
            let c = count_once p o.opening (length o.list - o.opening) in omega arith),
        (λ all p lo hi. let d = starts_long o.list v.seen f.saw in made_all s o id v at op all p lo (omega arith)),
        f.near,
      )

  pub looks : (id : ℕ) (v : View E B) → v.opened ≡ true
      → Allows (Holds entries base_of) 1 id (v, []) 0 (λ n. n) (Looked entries base_of (v, []))
  looks id v op s law slots at fits =
      let o = opened_by entries base_of s id v law at op in
      let e : set s.views id v ≡ s.views = set_again s.views id v at in
      let f : set s.words 0 (get_or s.words 0 0) ≡ s.words = ap (λ (ws : List ℕ). set ws 0 (get_or ws 0 0)) o.word ∙ sym o.word in (
        v,
        keeps,
        tt,
        subst (λ (y : List ℕ
            × List (View E B)). Holds entries base_of (record { words = y.0; homes = s.homes; views = y.1 })) (λ i. (
              sym f i,
              sym e i,
            )) (inr o),
        (refl, refl, accounted s o id v at op),
      )

  -- the steps, at what a seat is known to be
  abbrev Token : Type 0
  Token = Me (Option T) (View E B)

  pub looks_as : (id : ℕ) (m : Token) → m.1 ≡ [] → m.0.opened ≡ true
      → Allows (Holds entries base_of) 1 id m 0 (λ n. n) (Looked entries base_of m)
  looks_as id m none op = subst (λ (l : List (ℕ × Option T)). Allows (Holds entries base_of) 1 id (
    m.0,
    l,
  ) 0 (λ n. n) (Looked entries base_of (m.0, l))) (sym none) (looks id m.0 op)

  -- the last state, where the word is even
  pub ended : (id : ℕ) (v : View E B) (ws : List ℕ) (xs : List (Option T)) (word : ℕ) (x : T)
      → Final (Seen (Holds entries base_of) id v) ws xs → v.opened ≡ true → get_elem? ws 0 ≡ some word → word % 2 ≢ 1
      → get_elem? xs 0 ≡ some (Some x)
      → (v.base ≡ Some (base_of x)) × StartsWith (entries x) v.seen × MadeAll v (length (entries x))
  ended id v ws xs word x final op at even there = at_last id v ws xs word final op at
      (λ o e w.
      let h = o.home e in
      let same : h.0 ≡ x = some_same h.0 x (some-injective _ _ (sym (final.4 0 (Some h.0) h.1) ∙ there)) in
      let f = o.each id v final.1.1 op in
      let P : T → Type 0 = λ y. (v.base ≡ Some (base_of y)) × StartsWith (entries y) v.seen × MadeAll v (length (entries y)) in
      subst P same (
        f.based
            ∙ ap Some (sym h.3),
        subst (λ (l : List E). StartsWith l v.seen) (sym h.2) f.saw,
        subst (λ (l : List E). MadeAll v (length l)) (sym h.2) (made_all final.0 o id v final.1.1 op),
      ))
      (λ o e w. absurd (even (omega arith)))
