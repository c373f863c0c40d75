-- How many lines have each number.
use Rattle.std.specs.Prelude.{◌≡◌, ℕ, ◌+◌, ◌<◌, ◌^◌, List, Bool, ◌&&◌, ◌==◌, slice_index, if◌then◌else◌}
use Rattle.gr_script.specs.declared.forms.LineKind.{LineKind}
use Rattle.gr_script.specs.declared.forms.LineKind.TheVariants as kind
use Rattle.gr_script.specs.declared.saying.Saying.{Saying}
use Rattle.gr_script.specs.declared.tally.Tallies.{Tallies}
use Rattle.gr_script.specs.Forms.{is_kind, is_step}
use Rattle.gr_script.specs.Past.{steps, reports, joins, gifts, departs}

-- the count of each number, from 0 on
abbrev pub Counts : Type 0
Counts = List ℕ

abbrev pub count_in : Counts → ℕ → ℕ
count_in counts number = slice_index counts number

-- Where the test holds, one line more has this number.
abbrev pub CountsOne : Bool → ℕ → Counts → Counts → Type 0
CountsOne test number before after = (n : ℕ) → count_in after n ≡ (if test && number == n then 1 else 0) + count_in before n

-- ---- all kinds that are counted

pub record AreNone (n : ℕ) (tallies : Tallies) : Type 0 where
  pub steps : count_in tallies.steps n ≡ 0
  pub reports : count_in tallies.reports n ≡ 0
  pub joins : count_in tallies.joins n ≡ 0
  pub gifts : count_in tallies.gifts n ≡ 0
  pub departs : count_in tallies.departs n ≡ 0

-- One line more has a number.
pub record HasRoom (n : ℕ) (tallies : Tallies) : Type 0 where
  pub steps : count_in tallies.steps n + 1 < 2 ^ 32
  pub reports : count_in tallies.reports n + 1 < 2 ^ 32
  pub joins : count_in tallies.joins n + 1 < 2 ^ 32
  pub gifts : count_in tallies.gifts n + 1 < 2 ^ 32
  pub departs : count_in tallies.departs n + 1 < 2 ^ 32

-- One line of this kind with these numbers is counted.
pub record CountsLine (form : LineKind) (first second : ℕ) (before after : Tallies) : Type 0 where
  pub steps : CountsOne (is_step form) first before.steps after.steps
  pub reports : CountsOne (is_kind kind.Report form) first before.reports after.reports
  pub joins : CountsOne (is_kind kind.Join form) first before.joins after.joins
  pub gifts : CountsOne (is_kind kind.Join form) second before.gifts after.gifts
  pub departs : CountsOne (is_kind kind.Depart form) first before.departs after.departs

-- What is counted is what the lines say.
pub record AreTallied (tallies : Tallies) (past : List Saying) : Type 0 where
  pub steps : (client : ℕ) → count_in tallies.steps client ≡ steps client past
  pub reports : (member : ℕ) → count_in tallies.reports member ≡ reports member past
  pub joins : (member : ℕ) → count_in tallies.joins member ≡ joins member past
  pub gifts : (provider : ℕ) → count_in tallies.gifts provider ≡ gifts provider past
  pub departs : (member : ℕ) → count_in tallies.departs member ≡ departs member past
