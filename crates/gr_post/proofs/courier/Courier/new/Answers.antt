use Rattle.std.proofs.Common.{List, map, length, ap, sym, subst, ◌∙◌, arith}
use Rattle.std.proofs.lemmas.List.{length-map}
use Rattle.gr_post.specs.declared.mail.Posting.{Posting}
use Rattle.gr_post.specs.declared.stage.Stage.TheVariants.{Open}
use Rattle.gr_post.specs.Lanes.{new_way}
use Rattle.gr_post.specs.Couriers.{IsCarried, begun, carrying}
use Rattle.gr_post.proofs.Carried.{begins, lines_begun}
use Rattle.gr_post.proofs.courier.Courier.new.Goals as goal

pub invariant_of-result : goal.invariant_of-result
invariant_of-result c =
    let ways = c.in_ok-lanes.lanes.items in
    let is = c.in_ok-lanes.ensures ∙ ap (map new_way) c.into_vec.ensures in
    let first = c.first_number-first.result in (
      subst (λ (ps : List Posting). IsCarried ways ps first first Open) (sym c.new.ensures)
          (begins c.args.passes ways first is c.requires.members c.requires.unused),
      (
        c.in_ok-home.ensures.items,
        let a = ap length is in let b = length-map c.args.passes new_way in let d = c.in_ok-home.ensures.exact in
            let e = c.len.ensures in omega arith,
      ),
    )

pub returns : goal.returns
returns c =
    let ways = c.in_ok-lanes.lanes.items in
    let is = c.in_ok-lanes.ensures ∙ ap (map new_way) c.into_vec.ensures in
    let first = c.first_number-first.result in
    ap (λ (ps : List Posting). carrying ways ps first Open) c.new.ensures ∙ lines_begun c.args.passes ways first is
    ∙ ap (begun c.args.passes) c.first_number-first.ensures
