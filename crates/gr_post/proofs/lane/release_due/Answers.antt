use Rattle.std.proofs.Common.{◌++◌, ◌+◌, ◌∷◌, [], ℕ, List, sym, ap, ◌∙◌, append_assoc, arith, length, length-append}
use Rattle.gr_post.specs.declared.mail.Mail.{Mail}
use Rattle.gr_post.specs.declared.fate.Held.{Held}
use Rattle.gr_post.specs.Plan.{due, kept}
use Rattle.gr_post.proofs.Helds.{first_left, due-append, kept-append}
use Rattle.gr_post.proofs.lane.release_due.Goals as goal

pub loop-place-preserved : goal.loop-place-preserved
loop-place-preserved c =
    let i = c.loop-place.invariant in
    let seen = i.0 in
    let q = c.count_down-place.ensures in
    let f = first_left (kept seen) i.1
    (let t = c.loop-place-test.true in let e = c.len.ensures in let o = c.loop-place.held.ok.0 in let h = ap length i.4 in
    let p = i.3 in omega arith) in
    let one = f.0 in
    let behind = f.1 in
    let is = i.4 ∙ ap (λ (l : List Held). kept seen ++ l) f.2 in
    let kept_more = kept-append seen (one ∷ []) in (
      seen ++ one ∷ [],
      behind,
      append_assoc seen (one ∷ []) behind ∙ ap (λ (l : List Held). seen ++ l) (sym f.2) ∙ i.2,
      q.next (kept seen) one behind is i.3 ∙ ap (λ (n : ℕ). n + length (kept (one ∷ []))) i.3
          ∙ sym (length-append (kept seen) (kept (one ∷ []))) ∙ ap length (sym kept_more),
      q.held (kept seen) one behind is i.3 ∙ sym (append_assoc (kept seen) (kept (one ∷ [])) behind)
          ∙ ap (λ (l : List Held). l ++ behind) (sym kept_more),
      q.released (kept seen) one behind is i.3 ∙ ap (λ (l : List Mail). l ++ due (one ∷ [])) i.5
          ∙ append_assoc c.args.waiting.now.items (due seen) (due (one ∷ []))
          ∙ ap (λ (l : List Mail). c.args.waiting.now.items ++ l) (sym (due-append seen (one ∷ []))),
      (let a = q.len in let b = i.6 in let e = q.waiting_room in omega arith),
      (let a = q.fewer in let b = i.7 in omega arith),
      q.waiting_room ∙ i.8,
      q.held_room ∙ i.9,
    )
