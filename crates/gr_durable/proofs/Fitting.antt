-- A line of a script fits behind the lines before it.
use Rattle.std.proofs.Common.{◌≡◌, ◌∙◌, ℕ, List, [], ◌∷◌, ◌++◌, length, reverse, sym, ap, subst, append_assoc}
use Rattle.std.proofs.lemmas.Grind.{reverse_onto}
use Rattle.std.proofs.lemmas.List.{reverse-append, reverse-reverse}
use Rattle.gr_script.specs.declared.line.Line.{Line}
use Rattle.gr_script.specs.declared.line.Line.TheVariants as line
use Rattle.gr_script.specs.Expanded.{expanded}
use Rattle.gr_script.specs.Rules.{Heading, StandsAfter, AllBehind, IsScript}
use Rattle.gr_durable.specs.Expanding.{Fits}

rest_behind : (Each : List Line → Line → Type 0) (front past : List Line) → AllBehind Each (front ++ past) → AllBehind Each past
rest_behind Each [] past all = all
rest_behind Each (line ∷ front) past all = rest_behind Each front past all.1

pub line_fits : (h : Heading) (past : List Line) (l : Line) → StandsAfter h past l → Fits (length h.clients) past l
line_fits h past (line.Step client seq act) stands = (stands.0.1, stands.1)
line_fits h past (line.Deliver to client number) stands = (stands.1.1, stands.2)
line_fits h past (line.Back client moment) stands = stands.0.1
line_fits h past (line.Leave client moment) stands = tt
line_fits h past (line.Report member) stands = tt
line_fits h past (line.Hear by of number) stands = tt
line_fits h past (line.Sweep member moment) stands = tt
line_fits h past (line.Join member from) stands = tt
line_fits h past (line.Depart member) stands = tt

pub fits_behind : (h : Heading) (clients : ℕ) (lines before rest : List Line) (l : Line) → length h.clients ≡ clients → IsScript h lines
    → lines ≡ before ++ l ∷ rest → Fits clients (reverse before) l
fits_behind h clients lines before rest l many is at =
    let turned : reverse lines ≡ reverse rest ++ l ∷ reverse before =
    ap (λ (ls : List Line). reverse ls) at ∙ reverse-append before (l ∷ rest)
    ∙ ap (λ (ls : List Line). ls ++ reverse before) (reverse_onto rest l []) ∙ append_assoc (reverse rest) (l ∷ []) (reverse before) in
    let stand = rest_behind (StandsAfter h) (reverse rest) (l ∷ reverse before) (subst (AllBehind (StandsAfter h)) turned is.lines_stand) in
    subst (λ (n : ℕ). Fits n (reverse before) l) many (line_fits h (reverse before) l stand.0)

-- what was put last, behind the lines so far
pub one_turn : (before : List Line) (more past next : List Line) → before ≡ reverse (expanded past) → expanded next ≡ reverse more ++ expanded past
    → before ++ more ≡ reverse (expanded next)
one_turn before more past next is turned =
    ap (λ (ls : List Line). ls ++ more) is
    ∙ sym (ap (λ (ls : List Line). reverse ls) turned ∙ reverse-append (reverse more) (expanded past)
    ∙ ap (λ (ls : List Line). reverse (expanded past) ++ ls) (reverse-reverse more))
