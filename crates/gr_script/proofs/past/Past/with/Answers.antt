use Rattle.std.proofs.Common.{◌≡◌, ◌∙◌, ℕ, List, [], ◌∷◌, ◌++◌, cond, refl, sym, ap, subst, arith}
use Rattle.gr_script.specs.declared.forms.LineKind.TheVariants as kind
use Rattle.gr_script.specs.declared.saying.Saying.{Saying}
use Rattle.gr_script.specs.declared.line.Line.{Line}
use Rattle.gr_script.specs.Absence.{IsAttendance, returned}
use Rattle.gr_script.specs.LinesSaid.{lines_said}
use Rattle.gr_script.proofs.Standing.{quiet}
use Rattle.std.specs.List.{cons_option}
use Rattle.std.proofs.Common.{Option}
use Rattle.gr_script.specs.Forms.{is_kind}
use Rattle.gr_script.specs.Index.{IsIndex}
use Rattle.gr_script.specs.Past.{number}
use Rattle.gr_script.specs.Taken.{Taken, said, IsNext}
use Rattle.gr_script.proofs.LineTallied.{none_tallied}
use Rattle.gr_script.proofs.Taking.{ahead_next, room_left, said_next, taken_next}
use Rattle.gr_script.proofs.past.Past.with.Goals as goal

pub invariant_of-result : goal.invariant_of-result
invariant_of-result c =
    let held = c.self.inside in
    let t : Taken = record { runs = held.runs; text = held.text.now; count = held.count } in
    let past = said t in
    let line = c.args.line in
    let after = c.args.after.now in
    let next = subst (λ (s : Taken). IsNext s (line ∷ said s) after) (sym c.self.view_is) c.requires.next in
    let old = c.self.invariant.0 in
    let quiet : lines_said (line ∷ past) ≡ lines_said past =
    ap (λ (l : Option Line). cons_option l (lines_said past)) (quiet past line.kind line.items c.requires.early) in
    let room = room_left t (line ∷ past) after c.self.invariant.1 next in
    let homed = c.in_ok-homes.ensures ∙ ap (λ (hs : List ℕ). cond (is_kind kind.Client line.kind) (hs ++ number 1 line.items ∷ []) hs) old.homed in
    let founded = c.stated_with-founders.ensures ∙ ap (λ (f : ℕ). cond (is_kind kind.Members line.kind) (number 1 line.items) f) old.founded in (
      subst
          (λ (p : List Saying).
          IsIndex c.next_rank.result c.in_ok-setting.setting c.stated_with-founders.result c.sizes_with-sizes.result
          c.in_ok-homes.homes held.tallies c.counted_with-counted.result held.attendance held.returned p)
          (sym (said_next t (line ∷ past) after next)) (
          record {
            staged = c.next_rank.ensures;
            set = c.in_ok-setting.ensures past old.set homed;
            founded = founded;
            sized = c.sizes_with-sizes.ensures past old.sized;
            homed = homed;
            tallied = none_tallied past line held.tallies c.requires.early old.tallied;
            counts = c.counted_with-counted.ensures past line old.counts refl;
            attended = subst (IsAttendance held.attendance) (sym quiet) old.attended;
            came_back = old.came_back ∙ sym (ap returned quiet);
            few = omega (arith, room);
          }
          ),
      taken_next t (line ∷ past) after c.self.invariant.1 next,
      ahead_next t (line ∷ past) after next,
    )

pub counted_with-counted-requires : goal.counted_with-counted-requires
counted_with-counted-requires c =
    let t : Taken = record { runs = c.self.inside.runs; text = c.self.inside.text.now; count = c.self.inside.count } in
    let next = subst (λ (s : Taken). IsNext s (c.args.line ∷ said s) c.args.after.now) (sym c.self.view_is) c.requires.next in
    (said t, c.self.invariant.0.counts, room_left t (c.args.line ∷ said t) c.args.after.now c.self.invariant.1 next)
