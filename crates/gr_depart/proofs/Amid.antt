-- Lines that are done one after the other.
use Rattle.std.proofs.Common.{◌≡◌, ◌∙◌, List, [], ◌∷◌, length, refl, ap, subst}
use Rattle.std.specs.List.{AllByRecursion, cons_option}
use Rattle.std.proofs.lemmas.List.{nil_from_length}
use Rattle.gr_script.specs.declared.line.Line.{Line}
use Rattle.gr_script.specs.Rules.{Heading}
use Rattle.gr_script.specs.Steps.{departs}
use Rattle.gr_world.specs.Courses.{after}
use Rattle.gr_world.specs.Worlds.{IsAtWork, IsWorld, Plays}
use Rattle.gr_world.specs.declared.world.World.{World}
use Rattle.gr_depart.specs.Lines.{CanDo, after_all, gone_after}
use Rattle.gr_depart.specs.declared.departing.Departing.{Departing}

-- Some of the lines are done, and the rest can be.
pub record IsAmid (heading : Heading) (rest all : List Line) (begun now : Departing) : Type 0 where
  pub doable : AllByRecursion (CanDo heading) rest
  pub work : IsAtWork heading now.world
  -- What the rest does to the world is what all of them do to that at the beginning.
  pub plays : (world : World) → Plays heading (after_all heading now.gone.items rest) now.world world
      → Plays heading (after_all heading begun.gone.items all) begun.world world
  pub gone : gone_after rest now.gone.items ≡ gone_after all begun.gone.items

pub amid_first : (heading : Heading) (lines : List Line) (begun : Departing) → IsAtWork heading begun.world
    → AllByRecursion (CanDo heading) lines → IsAmid heading lines lines begun begun
amid_first heading lines begun work doable = record {
  doable = doable;
  work = work;
  plays = λ world plays. plays;
  gone = refl;
}

pub amid_next : (heading : Heading) (line : Line) (rest all : List Line) (begun old new : Departing)
    → IsAmid heading (line ∷ rest) all begun old → Plays heading (after heading old.gone.items line) old.world new.world
    → new.gone.items ≡ cons_option (departs line) old.gone.items → IsAmid heading rest all begun new
amid_next heading line rest all begun old new is plays gone = record {
  doable = is.doable.1;
  work = (after heading old.gone.items line is.work.0, plays is.work.0 is.work.1);
  plays = λ world later. is.plays world (λ events stands.
      subst (λ left. IsWorld heading (after_all heading left rest (after heading old.gone.items line events)) world) gone
      (later (after heading old.gone.items line events) (plays events stands)));
  gone = ap (gone_after rest) gone ∙ is.gone;
}

pub amid_last : (heading : Heading) (rest all : List Line) (begun now : Departing) → length rest ≡ 0
    → IsAmid heading rest all begun now
    → Plays heading (after_all heading begun.gone.items all) begun.world now.world × (now.gone.items ≡ gone_after all begun.gone.items)
amid_last heading rest all begun now none is =
    let end = subst (λ left. IsAmid heading left all begun now) (nil_from_length rest none) is in
    (end.plays now.world (λ events stands. stands), end.gone)
