-- What is counted and said of a line that is taken in.
use Rattle.std.proofs.Common.{◌≡◌, ◌∙◌, ℕ, ◌+◌, ◌<◌, ◌≤◌, ◌^◌, List, true}
use Rattle.std.proofs.Common.{Option, Some, None, option_map, refl, ap, arith}
use Rattle.std.specs.Option.{IsSome}
use Rattle.gr_script.specs.declared.forms.LineKind.{LineKind}
use Rattle.gr_script.specs.declared.forms.LineKind.TheVariants as kind
use Rattle.gr_script.specs.declared.items.Item.{Item}
use Rattle.gr_script.specs.declared.line.Line.{Line}
use Rattle.gr_script.specs.declared.saying.Saying.{Saying}
use Rattle.gr_script.specs.Forms.{rank, is_step, is_kind}
use Rattle.gr_script.specs.Narrow.{IsNarrow, IsNarrowStep}
use Rattle.gr_script.specs.Past.{number, steps}
use Rattle.gr_script.specs.Printed.{saying_in}
use Rattle.gr_script.specs.Said.{line_of}
use Rattle.gr_script.specs.Tallies.{Counts, count_in}

-- ---- what is counted

-- the number of a step behind those that are counted
next_step : (held : Counts) (past : List Saying) (saying : Saying) (first count : ℕ) → first ≡ number 0 saying.items
    → count ≡ count_in held first → ((client : ℕ) → count_in held client ≡ steps client past)
    → count + 1 ≡ steps (number 0 saying.items) past + 1
next_step held past saying first count first_is counted held_are =
    ap (λ (n : ℕ). n + 1) (counted ∙ held_are first ∙ ap (λ (client : ℕ). steps client past) first_is)

-- ---- the line that a saying is

-- by the steps that are counted
pub line_by_count : (held : Counts) (past : List Saying) (saying : Saying) (first count : ℕ) (found : Option Line)
    → first ≡ number 0 saying.items → count ≡ count_in held first → ((client : ℕ) → count_in held client ≡ steps client past)
    → ((earlier : List Saying) → (is_step saying.kind ≡ true → count + 1 ≡ steps (number 0 saying.items) earlier + 1)
    → found ≡ line_of earlier saying)
    → found ≡ line_of past saying
line_by_count held past saying first count found first_is counted held_are is =
    is past (λ _. next_step held past saying first count first_is counted held_are)

saying_is : (one two : Saying) → Some one ≡ Some two → one ≡ two
saying_is one two e = cc

pub is_a_line : (found : Option Line) (saying : Saying) → option_map saying_in found ≡ Some saying → IsSome found
is_a_line None saying e = absurd cc
is_a_line (Some line) saying e = refl

-- ---- its first number

-- a line behind the heading that can be kept has a small number first
pub narrow_first : (form : LineKind) (items : List Item) → 8 ≤ rank form → (is_step form ≡ true → IsNarrowStep items)
    → IsNarrow form items → number 0 items < 2 ^ 8
narrow_first kind.Deliver items late step other = other.0
narrow_first kind.Report items late step other = other
narrow_first kind.Hear items late step other = other.0
narrow_first kind.Sweep items late step other = other.0
narrow_first kind.Join items late step other = other.0
narrow_first kind.Depart items late step other = other
narrow_first kind.Leave items late step other = other.0
narrow_first kind.Back items late step other = other.0
narrow_first kind.Georep items late step other = absurd (omega (arith, late))
narrow_first kind.Region items late step other = absurd (omega (arith, late))
narrow_first kind.Members items late step other = absurd (omega (arith, late))
narrow_first kind.Shards items late step other = absurd (omega (arith, late))
narrow_first kind.Inbox items late step other = absurd (omega (arith, late))
narrow_first kind.Trouble items late step other = absurd (omega (arith, late))
narrow_first kind.Floor items late step other = absurd (omega (arith, late))
narrow_first kind.Client items late step other = absurd (omega (arith, late))
narrow_first _ items late step other = step refl

-- and a join has one second
pub narrow_second : (form : LineKind) (items : List Item) → is_kind kind.Join form ≡ true → IsNarrow form items → number 1 items < 2 ^ 8
narrow_second kind.Join items is other = other.1
narrow_second _ items is other = absurd cc
