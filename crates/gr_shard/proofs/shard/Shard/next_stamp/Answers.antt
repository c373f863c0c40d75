use Rattle.std.proofs.Common.{◌≡◌, ◌∙◌, ap, ℕ, List, max, reverse, arith}
use Rattle.gr_history.specs.Calls.{ver_of}
use Rattle.gr_history.specs.Standing.{standing}
use Rattle.gr_history.specs.declared.deed.Deed.{Deed}
use Rattle.gr_shard.proofs.Made.{stamp_here, top_known}
use Rattle.gr_vector.specs.Ids.{Id, top}
use Rattle.gr_history.specs.Ids.{ids, known}
use Rattle.gr_shard.proofs.shard.Shard.next_stamp.Goals as goal

max_is : (v f : ℕ) {w g n : ℕ} → n ≡ max w g → w ≡ v → g ≡ f → n ≡ max v f
max_is v f {g = g} is same_v same_f = is ∙ ap (λ w. max w g) same_v ∙ ap (max v) same_f

top_is : (member : ℕ) (past : List Deed) {noted : List Id} {n : ℕ} → n ≡ top member noted → noted ≡ known past → n ≡ top member (ids past)
top_is member past is noted = is ∙ ap (top member) noted ∙ top_known member past

pub returns : goal.returns
returns c =
    let kept = c.self.invariant.0 in
    let was = c.self.inside in
    let past = reverse was.history.deeds in
    let stands : c.args.ver ≡ ver_of (standing c.args.key.now past) = rw (← c.self.view_is) at c.requires.stands in
    rw (← c.self.view_is)
    (stamp_here was.id was.opening past c.args.key.now c.max-base.result c.top-last.result c.new.result
    (max_is _ _ c.max-base.ensures stands kept.floored) (top_is was.id.member past c.top-last.ensures.top kept.noted)
    kept.place.some_member (omega (arith, kept.place.stated, kept.place.few)) c.new.ensures)
