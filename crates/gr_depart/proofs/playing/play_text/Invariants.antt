use Rattle.std.proofs.Common.{length}
use Rattle.gr_script.specs.Scripts.{heading_of}
use Rattle.gr_script.specs.Taken.{ahead}
use Rattle.gr_script.proofs.WhileRead.{left}
use Rattle.gr_depart.proofs.WhileRead.{IsPlaying}
use Rattle.gr_depart.proofs.playing.play_text.Given as goal

abbrev pub invariant-loop-next : goal.invariant-loop-next
invariant-loop-next l = IsPlaying l.text (heading_of l.bare) l.feed l.next l.departing l.expander

abbrev pub decreases-loop-next : goal.decreases-loop-next
decreases-loop-next l = left l.next (length (ahead l.feed))
