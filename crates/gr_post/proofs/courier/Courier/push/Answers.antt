use Rattle.std.proofs.Common.{◌<◌, List, ℕ, length, get_or, map, sym, subst, ap, ◌∙◌}
use Rattle.std.proofs.lemmas.List.{length-map}
use Rattle.gr_post.specs.Passes.{Ring}
use Rattle.gr_post.specs.Couriers.{Carrying, Line, line_of, tables_of, LineMoves, IsEachTried, IsRefused}
use Rattle.gr_post.specs.Lanes.{AreTheirs}
use Rattle.gr_post.proofs.Carried.{follows_plan, moves, line_moves, none_wait, are_tried, is_refused, are_theirs, tables_same}
use Rattle.gr_post.proofs.courier.Courier.push.Goals as goal

pub send_each-requires-after_bounds : goal.send_each-requires-after_bounds
send_each-requires-after_bounds g c κs within =
    let ways = c.self.inside.lanes.items in
    subst (λ (rings : List Ring). AreTheirs rings ways) (sym c.as_slice.ensures)
    (are_theirs c.args.inboxes.now ways (c.requires ∙ ap tables_of (sym c.self.view_is)))

pub returns-clause-pushed : goal.returns-clause-pushed
returns-clause-pushed g c =
    let s = c.self.inside in
    let ways = s.lanes.items in
    let now = c.send_each.new.lanes.items in
    let count = c.send_each.ensures.count in
    let moved = c.send_each.ensures.moves in
    record {
      same = ap (λ (k : Carrying). record k { lines = map line_of now }) c.self.view_is;
      count = length-map now line_of ∙ count ∙ sym (length-map ways line_of) ∙ ap (λ (k : Carrying). length k.lines) c.self.view_is;
      tables = tables_same ways now count moved ∙ ap tables_of c.self.view_is;
      moves = subst
          (λ (k : Carrying). (n : ℕ) (d : Line) → n < length k.lines → LineMoves (get_or k.lines n d) (get_or (map line_of now) n d))
          c.self.view_is (line_moves ways now count moved);
      plan = follows_plan now s.posted s.first s.number s.stage
          (moves ways now s.posted s.first s.number s.stage c.self.invariant.0 count moved);
    }

pub returns-clause-tried : goal.returns-clause-tried
returns-clause-tried g c =
    let now = c.send_each.new.lanes.items in
    subst (λ (k : Carrying). IsEachTried k.lines (map line_of now)) c.self.view_is
    (are_tried c.self.inside.lanes.items now c.send_each.ensures.count c.send_each.ensures.tried)

pub returns-clause-all : goal.returns-clause-all
returns-clause-all g c = λ e. none_wait c.send_each.new.lanes.items (c.send_each.ensures.all e)

pub returns-clause-refused : goal.returns-clause-refused
returns-clause-refused g c = λ e.
    let now = c.send_each.new.lanes.items in
    subst (λ (k : Carrying). IsRefused k.lines (map line_of now)) c.self.view_is
    (is_refused c.self.inside.lanes.items now c.send_each.ensures.count (c.send_each.ensures.refused e))
