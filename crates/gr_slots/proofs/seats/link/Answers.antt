use Rattle.std.proofs.Common.{◌≡◌, ◌∙◌, ◌==◌, ◌+◌, ap, sym, subst, refl, ℕ, suc, arith, Option, Some, None, if◌then◌else◌, cond, List, length}
use Rattle.gr_slots.specs.Links.{seat_of, next_in, AreLinked}
use Rattle.std.specs.List.{slice_set}
use Rattle.std.specs.Option.{option_and_then, unwrap_or}
use Rattle.std.proofs.lemmas.Option.{slice_get_read}
use Rattle.gr_slots.specs.declared.cell.Cell.{Cell}
use Rattle.gr_slots.specs.Cells.{near_in, near_key, standing}
use Rattle.gr_slots.proofs.Lists.{read-set, read-set-if, read-set-to}
use Rattle.gr_slots.proofs.Links.{linked_more, linked_past, linked_same}
use Rattle.gr_slots.proofs.seats.link.Goals as goal

pub returns-clause-linked : goal.returns-clause-linked
returns-clause-linked c linked =
    let next : suc c.args.place ≡ c.args.place + 1 = omega arith in
    let was : Cell = c.index_mut-cell.result.now in
    let cell : Cell = record { key = was.key; slot = was.slot; far = was.far; live = was.live; next = c.unwrap_or-cell.result } in
    let cells : List Cell = slice_set c.args.cells.now.items c.args.place cell in
    subst (λ n. AreLinked c.set_head.new.self cells n) next
    (linked_more c.args.seats.now c.set_head.new.self c.args.cells.now.items cells c.args.place was.key
    (ap (option_and_then near_key) (slice_get_read c.args.cells.now.items (length c.args.cells.now.items) c.args.place was
    refl c.requires.within c.index_mut-cell.ensures.value)
    ∙ ap (λ b. if b then None else Some was.key) c.if-cell.false) c.set_head.ensures.size
    (c.set_head.ensures.heads ∙ ap (slice_set c.args.seats.now.heads.items (seat_of c.args.seats.now.size was.key)) (sym next))
    (λ p. read-set-if near_key c.args.cells.now.items c.args.place was cell p c.requires.within c.index_mut-cell.ensures.value refl)
    (λ p. read-set-to (λ (cell : Cell). cell.next) c.args.cells.now.items c.args.place cell p c.requires.within
    ∙ ap (λ n. cond (p == c.args.place) (Some n) (next_in c.args.cells.now.items p))
    (c.unwrap_or-cell.ensures ∙ ap (λ (o : Option ℕ). unwrap_or o 0) c.head.ensures))
    linked)

pub returns-then-cell-clause-linked : goal.returns-then-cell-clause-linked
returns-then-cell-clause-linked c linked =
    let next : suc c.args.place ≡ c.args.place + 1 = omega arith in
    let was : Cell = c.index_mut-cell.result.now in
    let items : List Cell = c.args.cells.now.items in
    let cells : List Cell = slice_set items c.args.place was in
    let nears : (p : ℕ) → near_in cells p ≡ near_in items p =
    λ p. read-set-if near_key items c.args.place was was p c.requires.within c.index_mut-cell.ensures.value refl in
    let none : near_in items c.args.place ≡ None =
    ap (option_and_then near_key) (slice_get_read items (length items) c.args.place was refl c.requires.within
    c.index_mut-cell.ensures.value) ∙ ap (λ b. if b then None else Some was.key) c.if-cell.true in
    subst (λ n. AreLinked c.args.seats.now cells n) next
    (linked_past c.args.seats.now cells c.args.place (nears c.args.place ∙ none)
    (linked_same c.args.seats.now items cells c.args.place (λ p less. nears p)
    (λ p less. read-set (λ (cell : Cell). cell.next) items c.args.place was was p c.requires.within c.index_mut-cell.ensures.value refl)
    linked))

pub returns-clause-keys : goal.returns-clause-keys
returns-clause-keys c other =
    read-set (λ (cell : Cell). cell.key) c.args.cells.now.items c.args.place c.index_mut-cell.result.now _ other c.requires.within
    c.index_mut-cell.ensures.value refl

pub returns-clause-nears : goal.returns-clause-nears
returns-clause-nears c other =
    read-set-if near_key c.args.cells.now.items c.args.place c.index_mut-cell.result.now _ other c.requires.within
    c.index_mut-cell.ensures.value refl

pub returns-clause-slots : goal.returns-clause-slots
returns-clause-slots c other =
    read-set-if standing c.args.cells.now.items c.args.place c.index_mut-cell.result.now _ other c.requires.within
    c.index_mut-cell.ensures.value refl
