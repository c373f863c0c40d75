-- Where a pattern and a text lead when they are taken character by character.
use Rattle.std.specs.Prelude.{◌≡◌, ℕ, ◌<◌, ◌≤◌, List, true, drop, length, ⊤, IsUtf8}
use Rattle.std.specs.Str.{chars}
use Rattle.gr_oql.specs.Like.{is_like, has_end_like}
use Rattle.gr_oql.specs.declared.like.LikeStep.{LikeStep}
use Rattle.gr_oql.specs.declared.like.LikeStep.TheVariants as step
use Rattle.gr_oql.specs.declared.like.Walk.{Walk}
use Rattle.gr_oql.specs.declared.like.Walk.TheVariants as walk

-- The same is to be found out of the pattern and the text that are left. And the same characters can be taken
-- off each end of the text.
pub record Follows (pattern text wanted left : List ℕ) : Type 0 where
  pub same : is_like pattern text ≡ is_like wanted left
  pub later : (k : ℕ) → is_like pattern (drop k text) ≡ true → is_like wanted (drop k left) ≡ true

-- A `%` was met, with this pattern behind it and this text left.
pub record MeetsPercent (pattern text behind left : List ℕ) : Type 0 where
  pub same : is_like pattern text ≡ has_end_like behind left
  pub later : (k : ℕ) → is_like pattern (drop k text) ≡ true → has_end_like behind (drop k left) ≡ true

abbrev pub Takes : List ℕ → List ℕ → LikeStep → Type 0
Takes pattern text (step.End agree) = is_like pattern text ≡ agree
Takes pattern text (step.Percent behind) = MeetsPercent pattern text (chars behind.now) text
Takes pattern text (step.Further behind rest) = Follows pattern text (chars behind.now) (chars rest.now)

-- what is left is text, and shorter
abbrev pub StepShortens : List ℕ → List ℕ → LikeStep → Type 0
StepShortens pattern text (step.End agree) = ⊤
StepShortens pattern text (step.Percent behind) = IsUtf8 behind.now × (length behind.now < length pattern)
StepShortens pattern text (step.Further behind rest) = IsUtf8 behind.now × IsUtf8 rest.now × (length behind.now < length pattern)
    × (length rest.now < length text)

abbrev pub LeadsTo : List ℕ → List ℕ → Walk → Type 0
LeadsTo pattern text (walk.End agree) = is_like pattern text ≡ agree
LeadsTo pattern text (walk.Open behind left) = MeetsPercent pattern text (chars behind.now) (chars left.now)

-- what is left is text and no longer, and the pattern is shorter
abbrev pub Shortens : List ℕ → List ℕ → Walk → Type 0
Shortens pattern text (walk.End agree) = ⊤
Shortens pattern text (walk.Open behind left) = IsUtf8 behind.now × IsUtf8 left.now × (length behind.now < length pattern)
    × (length left.now ≤ length text)
