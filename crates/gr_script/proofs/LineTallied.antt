-- What is counted of the lines, with one line more.
use Rattle.std.proofs.Common.{◌≡◌, ◌∙◌, ℕ, ◌+◌, ◌<◌, List, ◌∷◌, Bool, true, false, ◌&&◌, cond, eqb, refl, sym, ap, arith}
use Rattle.std.specs.List.{count_by}
use Rattle.std.proofs.lemmas.List.Sums.{sum_by-cons}
use Rattle.gr_script.specs.declared.forms.LineKind.{LineKind}
use Rattle.gr_script.specs.declared.forms.LineKind.TheVariants as kind
use Rattle.gr_script.specs.declared.saying.Saying.{Saying}
use Rattle.gr_script.specs.declared.tally.Tallies.{Tallies}
use Rattle.gr_script.specs.Forms.{rank, is_step, is_kind}
use Rattle.gr_script.specs.Past.{count_at, number, gifts}
use Rattle.gr_script.specs.Tallies.{Counts, CountsOne, CountsLine, AreTallied, count_in}
use Rattle.gr_script.proofs.Standing.{early}

-- ---- a line that is counted

-- one more at its first number
one_counted : (test : LineKind → Bool) (past : List Saying) (line : Saying) (first : ℕ) (old new : Counts) → first ≡ number 0 line.items
    → CountsOne (test line.kind) first old new → ((n : ℕ) → count_in old n ≡ count_at test n past)
    → (n : ℕ) → count_in new n ≡ count_at test n (line ∷ past)
one_counted test past line first old new first_is more before n =
    more n
    ∙ ap (λ (f : ℕ). cond (test line.kind && eqb f n) 1 0 + count_in old n) first_is
    ∙ ap (λ (m : ℕ). cond (test line.kind && eqb (number 0 line.items) n) 1 0 + m) (before n)
    ∙ sym (sum_by-cons (λ (l : Saying). cond (test l.kind && eqb (number 0 l.items) n) 1 0) line past)

gift_is : (joins : Bool) (one two n : ℕ) → (joins ≡ true → one ≡ two) → ◌≡◌ {A = ℕ} (cond (joins && eqb one n) 1 0) (cond (joins && eqb two n) 1 0)
gift_is true one two n same = ap (λ (m : ℕ). cond (eqb m n) 1 0) (same refl)
gift_is false one two n same = refl

-- one more at the member that gives an image
gift_counted : (past : List Saying) (line : Saying) (second : ℕ) (old new : Counts)
    → (is_kind kind.Join line.kind ≡ true → second ≡ number 1 line.items) → CountsOne (is_kind kind.Join line.kind) second old new
    → ((n : ℕ) → count_in old n ≡ gifts n past) → (n : ℕ) → count_in new n ≡ gifts n (line ∷ past)
gift_counted past line second old new second_is more before n =
    more n
    ∙ ap (λ (m : ℕ). m + count_in old n) (gift_is (is_kind kind.Join line.kind) second (number 1 line.items) n second_is)
    ∙ ap (λ (m : ℕ). cond (is_kind kind.Join line.kind && eqb (number 1 line.items) n) 1 0 + m) (before n)
    ∙ sym (sum_by-cons (λ (l : Saying). cond (is_kind kind.Join l.kind && eqb (number 1 l.items) n) 1 0) line past)

pub one_tallied : (past : List Saying) (line : Saying) (first second : ℕ) (old new : Tallies) → first ≡ number 0 line.items
    → (is_kind kind.Join line.kind ≡ true → second ≡ number 1 line.items) → CountsLine line.kind first second old new
    → AreTallied old past → AreTallied new (line ∷ past)
one_tallied past line first second old new first_is second_is more before = record {
  steps = one_counted is_step past line first old.steps new.steps first_is more.steps before.steps;
  reports = one_counted (is_kind kind.Report) past line first old.reports new.reports first_is more.reports before.reports;
  joins = one_counted (is_kind kind.Join) past line first old.joins new.joins first_is more.joins before.joins;
  gifts = gift_counted past line second old.gifts new.gifts second_is more.gifts before.gifts;
  departs = one_counted (is_kind kind.Depart) past line first old.departs new.departs first_is more.departs before.departs;
}

-- ---- a line of the heading, which isn't counted

uncounted : (holds : Saying → Bool) (past : List Saying) (line : Saying) → holds line ≡ false
    → count_by holds past ≡ count_by holds (line ∷ past)
uncounted holds past line isnt =
    let more = sum_by-cons (λ (l : Saying). cond (holds l) 1 0) line past in
    let none : ◌≡◌ {A = ℕ} (cond (holds line) 1 0) 0 = ap (λ (b : Bool). cond {A = ℕ} b 1 0) isnt in
    omega (arith, more, none)

pub none_tallied : (past : List Saying) (line : Saying) (tallies : Tallies) → rank line.kind < 8 → AreTallied tallies past
    → AreTallied tallies (line ∷ past)
none_tallied past line tallies heading before =
    let no_step = early (λ f. is_step f ≡ false) refl refl refl refl refl refl refl refl line.kind heading in
    let no_report = early (λ f. is_kind kind.Report f ≡ false) refl refl refl refl refl refl refl refl line.kind heading in
    let no_join = early (λ f. is_kind kind.Join f ≡ false) refl refl refl refl refl refl refl refl line.kind heading in
    let no_depart = early (λ f. is_kind kind.Depart f ≡ false) refl refl refl refl refl refl refl refl line.kind heading in
    record {
      steps = λ n. before.steps n ∙ uncounted (λ l. is_step l.kind && eqb (number 0 l.items) n) past line (none 0 n no_step);
      reports = λ n. before.reports n
          ∙ uncounted (λ l. is_kind kind.Report l.kind && eqb (number 0 l.items) n) past line (none 0 n no_report);
      joins = λ n. before.joins n ∙ uncounted (λ l. is_kind kind.Join l.kind && eqb (number 0 l.items) n) past line (none 0 n no_join);
      gifts = λ n. before.gifts n ∙ uncounted (λ l. is_kind kind.Join l.kind && eqb (number 1 l.items) n) past line (none 1 n no_join);
      departs = λ n. before.departs n
          ∙ uncounted (λ l. is_kind kind.Depart l.kind && eqb (number 0 l.items) n) past line (none 0 n no_depart);
    }
  where
    none : {test : Bool} (place n : ℕ) → test ≡ false → (test && eqb (number place line.items) n) ≡ false
    none place n isnt = ap (λ (b : Bool). b && eqb (number place line.items) n) isnt
