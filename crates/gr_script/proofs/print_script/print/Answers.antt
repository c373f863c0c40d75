use Rattle.std.proofs.Common.{◌≡◌, ◌≤◌, ℕ, List, Ok, All, false, sym, subst}
use Rattle.gr_script.specs.Cuts.{line_count}
use Rattle.gr_script.specs.Printed.{script_text, IsLineKept}
use Rattle.gr_script.specs.Said.{script_of}
use Rattle.gr_script.specs.Scripts.{heading_of}
use Rattle.gr_script.proofs.HeadingBack.{text_back, each_kept}
use Rattle.gr_script.proofs.PrintLemmas.{whole_printed}
use Rattle.gr_script.proofs.print_script.print.Goals as goal
use Rattle.gr_script.specs.Limits.{most_lines}

pub returns : goal.returns
returns c =
    let s = c.args.script.now in
    let text = c.put_lines.new.out.items in
    let whole : text ≡ script_text (heading_of s) s.lines =
    whole_printed (heading_of s) s.lines _ _ _ _ c.new-out.ensures.items c.as_slice.ensures c.in_ok-put_heading.ensures
    c.in_ok-put_lines.ensures.printed in
    let printed : All IsLineKept c.as_slice.result.now = c.in_ok-put_lines.ensures.kept in
    let kept : All IsLineKept s.lines = subst (All IsLineKept) c.as_slice.ensures printed in
    record {
      text = whole;
      read =
          subst (λ (t : List ℕ). line_count t ≤ most_lines → script_of false t ≡ Ok (heading_of s, s.lines)) (sym whole)
          (text_back (heading_of s) s.lines s.ruled (each_kept IsLineKept s.lines kept));
    }
