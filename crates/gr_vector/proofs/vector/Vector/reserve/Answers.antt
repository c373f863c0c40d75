use Rattle.std.proofs.Common.{◌≡◌, ℕ, ap, ◌∙◌, ◌++◌, List, take, drop, length, arith}
use Rattle.std.proofs.lemmas.List.{take_all, drop_all, append-nil}
use Rattle.std.proofs.lemmas.Result.{err_from_is_err_and}
use Rattle.gr_vector.specs.Blocks.{Numbers}
use Rattle.gr_vector.specs.Views.{is_held, view_of}
use Rattle.gr_vector.proofs.Views.{same_ids}
use Rattle.gr_vector.proofs.vector.Vector.reserve.Goals as goal

-- a slice of all that was lent
lent : (n : ℕ) (new old : List Numbers) → length new ≡ length old → n ≡ length old → take n (new ++ drop (length new) old) ≡ new
lent n new old same is =
    ap (λ xs. take n (new ++ xs)) (drop_all (length new) old (omega (arith, same))) ∙ ap (take n) (append-nil new)
    ∙ take_all n new (omega (arith, same, is))

pub returns-in_ok-reserve_each-clause-room : goal.returns-in_ok-reserve_each-clause-room
returns-in_ok-reserve_each-clause-room c =
    rw (← c.self.view_is) (ap (λ xs. view_of xs 1)
    (lent c.self.inside.members.len c.reserve_each.new.members c.self.inside.members.items
    (omega (arith, c.reserve_each.auto.members, ap length c.deref_mut.ensures.value)) c.self.inside.members.ok.0)
    ∙ ap (λ ids. record { ids = ids; spare = 1 })
    (same_ids c.reserve_each.new.members c.self.inside.members.items
    (λ k v. c.reserve_each.ensures.held k v ∙ ap (λ xs. is_held k v xs) c.deref_mut.ensures.value)))

pub returns-in_err-reserve_each-clause-err : goal.returns-in_err-reserve_each-clause-err
returns-in_err-reserve_each-clause-err c =
    let p = err_from_is_err_and c.from_residual.result c.from_residual.ensures.1 in
    rw p.1 (ap (λ xs. view_of xs c.self.inside.spare)
    (lent c.self.inside.members.len c.reserve_each.new.members c.self.inside.members.items
    (omega (arith, c.reserve_each.auto.members, ap length c.deref_mut.ensures.value)) c.self.inside.members.ok.0)
    ∙ ap (λ ids. record { ids = ids; spare = c.self.inside.spare })
    (same_ids c.reserve_each.new.members c.self.inside.members.items
    (λ k v. c.reserve_each.ensures.held k v ∙ ap (λ xs. is_held k v xs) c.deref_mut.ensures.value))
    ∙ c.self.view_is)
