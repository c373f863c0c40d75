use Rattle.std.proofs.Common.{List, ℕ, [], ◌∷◌, ◌++◌, codes, string_bytes, ap, ◌∙◌}
use Rattle.gr_picture.specs.Elements.{svg_space}
use Rattle.gr_picture.proofs.Putting.{inside_more, draws_content}
use Rattle.gr_picture.proofs.picture.framed.Goals as goal

pub returns : goal.returns
returns c =
    let svg = codes "svg" in
    let first = svg_space ∷ [] in
    let titled = inside_more svg [] _ (string_bytes c.put_title.new.out) first c.in_ok-out.ensures c.in_ok-put_title.ensures in
    let defined = inside_more svg [] _ (string_bytes c.put_definitions.new.out) first titled c.in_ok-put_definitions.ensures in
    let grounded = inside_more svg [] _ (string_bytes c.put_ground.new.out) first defined c.in_ok-put_ground.ensures in
    let pen = draws_content _ (string_bytes c.push_str.new.self) c.in_ok-drawn.field-0.now c.in_ok-drawn.ensures
    c.in_ok-push_str.ensures.bytes in
    record {
      within = string_bytes c.push_str.new.self;
      inside = inside_more svg [] _ (string_bytes c.push_str.new.self) first grounded pen;
      ended = c.in_ok-feed.ensures ∙ ap (λ (l : List ℕ). l ++ codes "\n") c.in_ok-close.ensures;
    }
