-- In a lawful history each query was answered lawfully, so the law on queries holds.
use Rattle.std.proofs.Common.{ℕ, List, [], ◌∷◌, subst, sym, inl, inr}
use Rattle.gr_history.specs.declared.deed.Deed.{Deed}
use Rattle.gr_history.specs.declared.deed.Deed.TheVariants.{Call, Asked, Taken, Gave, Imaged, Reported, Heard, Swept}
use Rattle.gr_history.specs.declared.identity.Identity.{Identity}
use Rattle.gr_history.specs.Lawful.{IsLawful, IsLawfulDeed}
use Rattle.gr_law.specs.Grids.{Older, Grid, identity}
use Rattle.gr_law.specs.Integrity.{IsSound}
use Rattle.gr_law.specs.Queries.{IsLawfulAsked, IsAnswered}
use Rattle.gr_law.specs.QueryMaps.{KeepsUp, law_queries}
use Rattle.gr_law.proofs.KeptUp.{kept_up, handed_out}
use Rattle.gr_law.proofs.AsMaps.{kept_up_as_maps}
use Rattle.gr_law.proofs.Opened.{running_opened}

asked_lawful : (id : Identity) (opening : ℕ) (deed : Deed) (past : List Deed) → IsLawfulDeed id opening deed past → IsLawfulAsked deed
    past
asked_lawful id opening (Call client to seq ask reply made) past law = tt
asked_lawful id opening (Asked client seq ask reply) past law = law
asked_lawful id opening (Taken change verdict) past law = tt
asked_lawful id opening (Gave to what) past law = tt
asked_lawful id opening (Imaged image) past law = tt
asked_lawful id opening (Reported report) past law = tt
asked_lawful id opening (Heard report) past law = tt
asked_lawful id opening (Swept moment expired) past law = tt

pub lawful_answered : (id : Identity) (opening : ℕ) (h : List Deed) → IsLawful id opening h → IsAnswered h
lawful_answered id opening [] law = tt
lawful_answered id opening (deed ∷ past) law = (asked_lawful id opening deed past law.0, lawful_answered id opening past law.1)

older_answered : (q h : List Deed) → Older q h → IsAnswered h → IsAnswered q
older_answered q [] o answered = subst IsAnswered (sym o) answered
older_answered q (deed ∷ past) (inl is) answered = subst IsAnswered (sym is) answered
older_answered q (deed ∷ past) (inr o) answered = older_answered q past o answered.1

-- Lawful answers are all that it takes.
pub keeps_up : (client : ℕ) (name : List ℕ) (h : List Deed) → IsAnswered h → KeepsUp client name h
keeps_up client name h answered = record {
  at_each_key = kept_up client name h answered;
  as_maps = kept_up_as_maps client name h answered;
  handed_out = handed_out client name h answered;
  opened = running_opened client name h answered;
}

pub law_queries-holds : (grid : Grid) → IsSound grid → law_queries grid
law_queries-holds grid sound member past older client name =
    keeps_up client name past
    (older_answered past (grid.history member) older
    (lawful_answered (identity grid member) (grid.opening member) (grid.history member) (sound.lawful member)))
