use Rattle.std.proofs.Common.{◌∙◌, arith}
use Rattle.gr_vector.proofs.Places.{above_is, below_is}
use Rattle.gr_vector.proofs.Walk.{walked_below}
use Rattle.gr_vector.proofs.united.united.Goals as goal

pub loop-our-preserved : goal.loop-our-preserved
loop-our-preserved c = record {
  our = c.read_on.ensures.read;
  their = c.read_on-in-loop-our.ensures.read;
  ours = c.read_on.ensures.ascending;
  theirs = c.read_on-in-loop-our.ensures.ascending;
  one = c.read_on.ensures.last;
  two = c.read_on-in-loop-our.ensures.last;
  our_told = λ v le. c.read_on.ensures.told v le
      ∙ c.loop-our.invariant.our_told v (omega (arith, le, c.next_first-first.ensures.later));
  their_told = λ v le. c.read_on-in-loop-our.ensures.told v le
      ∙ c.loop-our.invariant.their_told v (omega (arith, le, c.next_first-first.ensures.later));
  ascending = c.in_ok-push.ensures.ascending;
  last = omega (arith, c.in_ok-push.ensures.last, c.either.ensures.first);
  below = λ v lt. c.in_ok-push.ensures.noted v
      ∙ above_is v c.either.result.first _ _ (omega (arith, lt, c.either.ensures.first))
      ∙ walked_below v c.loop-our.first c.next_first-first.result c.loop-our.our c.loop-our.their c.args.ours.now c.args.theirs.now
      c.loop-our.both.items c.loop-our.one c.loop-our.two c.next_first-first.ensures.ours c.next_first-first.ensures.theirs lt
      (c.loop-our.invariant.below v) (c.loop-our.invariant.above v) (c.loop-our.invariant.our_told v) (c.loop-our.invariant.their_told v);
  above = λ v le. c.in_ok-push.ensures.noted v
      ∙ below_is v c.either.result.first _ _ (omega (arith, le, c.either.ensures.first))
      ∙ c.either.ensures.has v le;
}
