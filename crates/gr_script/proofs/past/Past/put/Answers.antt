use Rattle.std.proofs.Common.{◌≡◌, ◌∙◌, List, ◌+◌, ◌≤◌, ◌∷◌, Option, Some, sym, ap, subst, arith}
use Rattle.std.specs.List.{cons_option}
use Rattle.gr_script.specs.declared.forms.LineKind.{LineKind}
use Rattle.gr_script.specs.declared.saying.Saying.{Saying}
use Rattle.gr_script.specs.declared.line.Line.{Line}
use Rattle.gr_script.specs.Absence.{IsAttendance, returned}
use Rattle.gr_script.specs.Forms.{rank}
use Rattle.gr_script.specs.LinesSaid.{line_of, lines_said}
use Rattle.gr_script.specs.Index.{IsIndex}
use Rattle.gr_script.specs.Taken.{Taken, said, lines_taken, IsNext}
use Rattle.gr_script.specs.Tallies.{CountsLine}
use Rattle.gr_script.proofs.Absences.{same_attendance}
use Rattle.gr_script.proofs.Returns.{next_returned}
use Rattle.gr_script.proofs.Gone.{tallies_fit}
use Rattle.gr_script.proofs.PastMore.{index_behind}
use Rattle.gr_script.proofs.Taking.{ahead_next, room_left, said_next, taken_next}
use Rattle.gr_script.proofs.past.Past.put.Goals as goal

pub counted_with-counted-requires : goal.counted_with-counted-requires
counted_with-counted-requires c =
    let t : Taken = record { runs = c.self.inside.runs; text = c.self.inside.text.now; count = c.self.inside.count } in
    let saying = c.requires.next.0 in
    let next = subst (λ (s : Taken). IsNext s (saying ∷ said s) c.args.after.now) (sym c.self.view_is) c.requires.next.5 in
    (said t, c.self.invariant.0.counts, room_left t (saying ∷ said t) c.args.after.now c.self.invariant.1 next)

pub count_line-requires-clause-room : goal.count_line-requires-clause-room
count_line-requires-clause-room c =
    let t : Taken = record { runs = c.self.inside.runs; text = c.self.inside.text.now; count = c.self.inside.count } in
    let saying = c.requires.next.0 in
    let next = subst (λ (s : Taken). IsNext s (saying ∷ said s) c.args.after.now) (sym c.self.view_is) c.requires.next.5 in
    tallies_fit (said t) c.self.inside.tallies (room_left t (saying ∷ said t) c.args.after.now c.self.invariant.1 next)
    c.self.invariant.0.tallied

pub overflow_add-self : goal.overflow_add-self
overflow_add-self c =
    let t : Taken = record { runs = c.self.inside.runs; text = c.self.inside.text.now; count = c.self.inside.count } in
    let saying = c.requires.next.0 in
    let next = subst (λ (s : Taken). IsNext s (saying ∷ said s) c.args.after.now) (sym c.self.view_is) c.requires.next.5 in
    let is = subst (λ (s : Taken). line_of (said s) saying ≡ Some c.args.line.now) (sym c.self.view_is) c.requires.next.4 in
    let few = next_returned t saying c.args.line.now c.args.after.now next is in
    let before = c.self.invariant.0.came_back in
    let more = c.returned_on-returned.ensures (lines_taken t) c.self.invariant.0.attended in
    omega (arith, few, before, more)

pub invariant_of-self : goal.invariant_of-self
invariant_of-self c =
    let old = c.self.invariant.0 in (
      record {
        staged = old.staged;
        set = old.set;
        founded = old.founded;
        sized = old.sized;
        homed = old.homed;
        tallied = old.tallied;
        counts = old.counts;
        attended = same_attendance c.self.inside.attendance c.note.new.self
            (lines_said (said (record { runs = c.self.inside.runs; text = c.self.inside.text.now; count = c.self.inside.count })))
            c.in_err-note.ensures.err old.attended;
        came_back = old.came_back;
        few = old.few;
      },
      c.self.invariant.1,
      c.self.invariant.2,
    )

pub invariant_of-self-2 : goal.invariant_of-self-2
invariant_of-self-2 c =
    let held = c.self.inside in
    let t : Taken = record { runs = held.runs; text = held.text.now; count = held.count } in
    let past = said t in
    let saying = c.requires.next.0 in
    let same = c.requires.next.1 in
    let after = c.args.after.now in
    let next = subst (λ (s : Taken). IsNext s (saying ∷ said s) after) (sym c.self.view_is) c.requires.next.5 in
    let late = subst (λ (k : LineKind). 8 ≤ rank k) same c.requires.late in
    let tallies = c.count_line.new.self in
    let is = subst (λ (s : Taken). line_of (said s) saying ≡ Some c.args.line.now) (sym c.self.view_is) c.requires.next.4 in
    let lines : lines_said (saying ∷ past) ≡ c.args.line.now ∷ lines_said past =
    ap (λ (l : Option Line). cons_option l (lines_said past)) is in
    let before = c.self.invariant.0.came_back in
    let more = c.returned_on-returned.ensures (lines_said past) c.self.invariant.0.attended in
    let back : held.returned + c.returned_on-returned.result ≡ returned (c.args.line.now ∷ lines_said past) = omega (arith, before, more) in
    let index =
    index_behind held.stage held.setting held.founders held.sizes held.homes held.tallies held.counted held.attendance held.returned past saying
    c.args.first c.args.second tallies c.counted_with-counted.result c.note.new.self
    (held.returned + c.returned_on-returned.result) c.self.invariant.0 late
    (room_left t (saying ∷ past) after c.self.invariant.1 next) c.requires.next.2 c.requires.next.3
    (subst (λ (k : LineKind). CountsLine k c.args.first c.args.second held.tallies tallies) same c.count_line.ensures)
    (c.counted_with-counted.ensures past saying c.self.invariant.0.counts same)
    (subst (IsAttendance c.note.new.self) (sym lines) (c.in_ok-note.ensures.ok (lines_said past) c.self.invariant.0.attended))
    (back ∙ sym (ap returned lines)) in (
      subst
          (λ (p : List Saying). IsIndex 8 held.setting held.founders held.sizes held.homes tallies c.counted_with-counted.result c.note.new.self
          (held.returned + c.returned_on-returned.result) p)
          (sym (said_next t (saying ∷ past) after next)) index,
      taken_next t (saying ∷ past) after c.self.invariant.1 next,
      ahead_next t (saying ∷ past) after next,
    )
