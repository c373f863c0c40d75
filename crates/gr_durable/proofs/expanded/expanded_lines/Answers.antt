use Rattle.std.proofs.Common.{◌≡◌, ◌∙◌, List, [], ◌∷◌, ◌++◌, ap, append_assoc, reverse, subst, sym}
use Rattle.std.proofs.lemmas.List.{reverse-append}
use Rattle.gr_script.specs.declared.line.Line.{Line}
use Rattle.gr_script.specs.Expanded.{expanded}
use Rattle.gr_durable.specs.Expanding.{IsExpander, lines_in}
use Rattle.gr_durable.proofs.Fitting.{fits_behind, one_turn}
use Rattle.gr_durable.proofs.expanded.expanded_lines.Goals as goal

pub take-requires : goal.take-requires
take-requires c =
    let before = c.loop-line.yielded in
    let parts = c.loop-line.invariant.lines ∙ ap (λ (ls : List Line). before ++ ls) c.in-Some.ensures.steps.0 in (
      c.args.clients,
      reverse before,
      c.loop-line.invariant.kept,
      fits_behind c.requires.0 c.args.clients c.args.lines before c.next.new.self.rest.items c.in-Some.line c.requires.1 c.requires.2 parts,
    )

pub loop-line-preserved : goal.loop-line-preserved
loop-line-preserved c =
    let before = c.loop-line.yielded in
    let line = c.in-Some.line in
    let past = reverse before in
    let parts = c.loop-line.invariant.lines ∙ ap (λ (ls : List Line). before ++ ls) c.in-Some.ensures.steps.0 in
    let fits = fits_behind c.requires.0 c.args.clients c.args.lines before c.next.new.self.rest.items line c.requires.1 c.requires.2 parts in
    let next : line ∷ past ≡ reverse (before ++ line ∷ []) = sym (reverse-append before (line ∷ [])) in
    record {
      lines = parts ∙ sym (append_assoc before (line ∷ []) c.next.new.self.rest.items);
      kept = subst (IsExpander c.args.clients c.take.new.self) next (c.in_ok-turn.ensures.kept c.args.clients past c.loop-line.invariant.kept fits);
      all = c.in_ok-push_turn.ensures
          ∙ one_turn c.loop-line.all (lines_in c.in_ok-turn.turn) past (line ∷ past) c.loop-line.invariant.all (c.in_ok-turn.ensures.turn c.args.clients past c.loop-line.invariant.kept fits)
          ∙ ap (λ (ls : List Line). reverse (expanded ls)) next;
    }
