use Rattle.std.proofs.Common.{List, ℕ, [], ◌∷◌, ◌++◌, codes, string_bytes, refl, ap, ◌∙◌}
use Rattle.gr_picture.specs.Elements.{begun, svg_space, frame_attributes, worded}
use Rattle.gr_picture.proofs.Putting.{begun_more, begun_inside, inside_more, draws_feed}
use Rattle.gr_picture.proofs.frame.opened.Goals as goal

pub returns : goal.returns
returns c =
    let svg = codes "svg" in
    let first = svg_space ∷ [] in
    let frame = frame_attributes c.args.width c.args.height c.as_str.result.now in
    let role = worded (codes "role") (codes "img") in
    let family = worded (codes "font-family") (codes "DejaVu Sans Mono, Menlo, Consolas, monospace") in
    let size = worded (codes "font-size") (codes "11") in
    let b0 = c.in_ok-begin_frame.ensures ∙ ap (λ (l : List ℕ). l ++ begun svg (svg_space ∷ frame)) c.new-out.ensures.bytes in
    let b1 = begun_more svg [] _ (string_bytes c.attribute.new.out) (svg_space ∷ frame) role b0 c.in_ok-attribute.ensures in
    let b2 = begun_more svg [] _ (string_bytes c.attribute-2.new.out) (svg_space ∷ frame ++ (role ∷ [])) family b1 c.in_ok-attribute-2.ensures in
    let b3 = begun_more svg [] _ (string_bytes c.attribute-3.new.out) (svg_space ∷ frame ++ (role ∷ family ∷ [])) size b2
    c.in_ok-attribute-3.ensures in
    let opened = begun_inside svg [] _ (string_bytes c.inside.new.out) first (frame ++ (role ∷ family ∷ size ∷ [])) b3 refl c.in_ok-inside.ensures in
    inside_more svg [] _ (string_bytes c.feed.new.out) first opened (draws_feed _ _ c.in_ok-feed.ensures)
