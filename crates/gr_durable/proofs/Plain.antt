-- Lines on which no client leaves or comes back are played as they are.
use Rattle.std.proofs.Common.{◌≡◌, ◌∙◌, ℕ, ◌+◌, List, [], ◌∷◌, Bool, true, false, cond, eqb, ◌&&◌, refl, ap, arith, reverse}
use Rattle.std.specs.List.{list_any}
use Rattle.std.proofs.lemmas.Bool.{or_parts}
use Rattle.std.proofs.lemmas.List.{reverse-reverse}
use Rattle.gr_script.specs.declared.line.Line.{Line}
use Rattle.gr_script.specs.declared.line.Line.TheVariants as line
use Rattle.gr_script.specs.Expanded.{added, expanded, expansion, new_number}
use Rattle.gr_durable.specs.Expanding.{is_absence}

abbrev pub ArePlain : List Line → Type 0
ArePlain past = list_any is_absence past ≡ false

parts : (l : Line) (past : List Line) → ArePlain (l ∷ past) → (is_absence l ≡ false) × ArePlain past
parts l past plain = or_parts (is_absence l) (list_any is_absence past) plain

none_added : (client : ℕ) (past : List Line) → ArePlain past → added client past ≡ 0
none_added client [] plain = refl
none_added client (line.Back own moment ∷ past) plain = let isnt = (parts (line.Back own moment) past plain).0 in absurd cc
none_added client (line.Leave own moment ∷ past) plain = let isnt = (parts (line.Leave own moment) past plain).0 in absurd cc
none_added client (line.Step own seq act ∷ past) plain = none_added client past (parts (line.Step own seq act) past plain).1
none_added client (line.Deliver to own seq ∷ past) plain = none_added client past (parts (line.Deliver to own seq) past plain).1
none_added client (line.Report member ∷ past) plain = none_added client past (parts (line.Report member) past plain).1
none_added client (line.Hear by of number ∷ past) plain = none_added client past (parts (line.Hear by of number) past plain).1
none_added client (line.Sweep member moment ∷ past) plain = none_added client past (parts (line.Sweep member moment) past plain).1
none_added client (line.Join member from ∷ past) plain = none_added client past (parts (line.Join member from) past plain).1
none_added client (line.Depart member ∷ past) plain = none_added client past (parts (line.Depart member) past plain).1

same_number : (client number : ℕ) (past : List Line) → ArePlain past → new_number client number past ≡ number
same_number client number [] plain = refl
same_number client number (line.Step own seq act ∷ past) plain =
    let plain' = (parts (line.Step own seq act) past plain).1 in
    either (eqb own client && eqb seq number) (none_added client past plain') (same_number client number past plain')
  where
    either : (test : Bool) → added client past ≡ 0 → new_number client number past ≡ number
        → cond test (number + added client past) (new_number client number past) ≡ number
    either true none same = omega (arith, none)
    either false none same = same
same_number client number (line.Back own moment ∷ past) plain = let isnt = (parts (line.Back own moment) past plain).0 in absurd cc
same_number client number (line.Leave own moment ∷ past) plain = let isnt = (parts (line.Leave own moment) past plain).0 in absurd cc
same_number client number (line.Deliver to own seq ∷ past) plain = same_number client number past (parts (line.Deliver to own seq) past plain).1
same_number client number (line.Report member ∷ past) plain = same_number client number past (parts (line.Report member) past plain).1
same_number client number (line.Hear by of n ∷ past) plain = same_number client number past (parts (line.Hear by of n) past plain).1
same_number client number (line.Sweep member moment ∷ past) plain = same_number client number past (parts (line.Sweep member moment) past plain).1
same_number client number (line.Join member from ∷ past) plain = same_number client number past (parts (line.Join member from) past plain).1
same_number client number (line.Depart member ∷ past) plain = same_number client number past (parts (line.Depart member) past plain).1

same_past : (past : List Line) → ArePlain past → expanded past ≡ past
same_past [] plain = refl
same_past (line.Step client seq act ∷ past) plain =
    let plain' = (parts (line.Step client seq act) past plain).1 in
    let none = none_added client past plain' in
    let seq_is : seq + added client past ≡ seq = omega (arith, none) in
    λ i. line.Step client (seq_is i) act ∷ same_past past plain' i
same_past (line.Deliver to client number ∷ past) plain =
    let plain' = (parts (line.Deliver to client number) past plain).1 in
    λ i. line.Deliver to client (same_number client number past plain' i) ∷ same_past past plain' i
same_past (line.Back own moment ∷ past) plain = let isnt = (parts (line.Back own moment) past plain).0 in absurd cc
same_past (line.Leave own moment ∷ past) plain = let isnt = (parts (line.Leave own moment) past plain).0 in absurd cc
same_past (line.Report member ∷ past) plain = ap (λ (ls : List Line). line.Report member ∷ ls) (same_past past (parts (line.Report member) past plain).1)
same_past (line.Hear by of number ∷ past) plain =
    ap (λ (ls : List Line). line.Hear by of number ∷ ls) (same_past past (parts (line.Hear by of number) past plain).1)
same_past (line.Sweep member moment ∷ past) plain =
    ap (λ (ls : List Line). line.Sweep member moment ∷ ls) (same_past past (parts (line.Sweep member moment) past plain).1)
same_past (line.Join member from ∷ past) plain =
    ap (λ (ls : List Line). line.Join member from ∷ ls) (same_past past (parts (line.Join member from) past plain).1)
same_past (line.Depart member ∷ past) plain = ap (λ (ls : List Line). line.Depart member ∷ ls) (same_past past (parts (line.Depart member) past plain).1)

pub same_lines : (lines : List Line) → ArePlain (reverse lines) → expansion lines ≡ lines
same_lines lines plain = ap reverse (same_past (reverse lines) plain) ∙ reverse-reverse lines
