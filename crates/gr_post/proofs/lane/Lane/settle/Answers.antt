use Rattle.std.proofs.Common.{◌≡◌, ◌++◌, ◌∷◌, [], List, Some, append_assoc, append-nil, arith, ap, sym, refl, ◌∙◌}
use Rattle.gr_post.specs.declared.fate.Fate.TheVariants.{Last}
use Rattle.gr_post.specs.declared.mail.Mail.{Mail}
use Rattle.gr_post.specs.declared.fate.Held.{Held}
use Rattle.gr_post.specs.Plan.{due, kept}
use Rattle.gr_post.specs.Lanes.{at_once, filled, to_the_end}
use Rattle.gr_post.proofs.Helds.{all_released, mail_held, mail_released, room_later, settled_is}
use Rattle.gr_post.proofs.lane.Lane.settle.Goals.{in-Some-later, in_default-later}
use Rattle.gr_post.proofs.lane.Lane.settle.Goals as goal

pub push_back_reserved-requires : goal.push_back_reserved-requires
push_back_reserved-requires c =
    let s = c.self.inside in
    let room = room_later (filled s.waiting) (filled s.late) (filled s.held) s.ready c.in-Some.fate
    c.in-Some-later.one (sym c.take.ensures.value ∙ c.in-Some.is) c.in-Some-later.ensures.later c.self.invariant in
    let fewer = c.release_due.ensures.fewer in
    let same = c.release_due.ensures.held_room in
    omega arith

pub returns-in-Last : goal.returns-in-Last
returns-in-Last c =
    let s = c.self.inside in
    settled_is c.args.self.now _ _ Last c.self.view_is (sym c.take.ensures.value ∙ c.in-Some.is ∙ ap Some c.in-Last.is) refl
    (all_released s.waiting.items s.late.items s.held.items c.release_late.new.waiting.items c.release_all.new.waiting.items
    c.release_late.ensures.waiting c.release_all.ensures.waiting)
    (λ i. to_the_end (c.release_late.ensures.late i) ++ c.release_all.ensures.held i) c.take.ensures.after

pub returns-after-later : goal.returns-after-later
returns-after-later c =
    let s = c.self.inside in
    let fate = c.in-Some.fate in
    let is_ready : s.ready ≡ Some fate = sym c.take.ensures.value ∙ c.in-Some.is in
    let waits = c.release_due.ensures.waiting ∙ ap (λ (l : List Mail). l ++ due s.held.items) c.release_now-later.ensures.waiting
    ∙ append_assoc s.waiting.items (at_once fate) (due s.held.items) ∙ ap (λ (l : List Mail). s.waiting.items ++ l)
    (mail_released fate s.late.items s.held.items c.in_default-fate.not-Last) in
    let holds = mail_held fate s.late.items s.held.items c.in_default-fate.not-Last in
    elim c.match-later.branch [
      | in-Some-later w ↦
          let is = w.self-inside-is in
          let held = w.push_back_reserved.ensures.items ∙ ap (λ (l : List Held). l ++ w.in-Some-later.one ∷ []) c.release_due.ensures.held
          ∙ ap (λ (l : List Held). kept s.held.items ++ l) w.in-Some-later.ensures.later in
          settled_is c.args.self.now _ _ fate c.self.view_is is_ready (λ i. (is i).pass) ((λ i. (is i).waiting.items) ∙ waits)
          (c.set_aside.ensures.held ∙ (λ i. to_the_end (is i).late.items ++ (is i).held.items)
          ∙ ap (λ (l : List Held). to_the_end s.late.items ++ l) held ∙ holds)
          ((λ i. (is i).ready) ∙ c.take.ensures.after)
      | in_default-later w ↦
          let is = w.self-inside-is in
          let none = sym (append-nil (kept s.held.items)) ∙ ap (λ (l : List Held). kept s.held.items ++ l) w.in_default-later.ensures.later in
          settled_is c.args.self.now _ _ fate c.self.view_is is_ready (λ i. (is i).pass) ((λ i. (is i).waiting.items) ∙ waits)
          (c.set_aside.ensures.held ∙ (λ i. to_the_end (is i).late.items ++ (is i).held.items)
          ∙ ap (λ (l : List Held). to_the_end s.late.items ++ l) (c.release_due.ensures.held ∙ none) ∙ holds)
          ((λ i. (is i).ready) ∙ c.take.ensures.after)
    ]
