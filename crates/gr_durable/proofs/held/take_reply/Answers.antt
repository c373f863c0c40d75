use Rattle.std.proofs.Common.{◌≡◌, ap, sym, ◌∙◌}
use Rattle.std.specs.Prelude.{Some}
use Rattle.std.specs.FinMap as finite
use Rattle.gr_by_key.proofs.Maps.{put_again}
use Rattle.gr_durable.specs.Tables.{put_table, with_reply}
use Rattle.gr_durable.proofs.held.take_reply.Goals as goal

pub returns-in_ok-put : goal.returns-in_ok-put
returns-in_ok-put c =
    let name = c.args.name.now in
    let before = c.args.held.now in
    let left : with_reply c.args.reply.now (finite.get before name) ≡ Some c.in-Some.rows =
    sym (c.in_ok-rows.ensures ∙ ap (with_reply c.args.reply.now) c.take-before.ensures.value) ∙ c.in-Some.is in
    c.in_ok-put.ensures.ok
    ∙ ap (λ all. finite.insert all c.in_ok-copy.field-0 c.in-Some.rows) c.take-before.ensures.rest
    ∙ ap (λ key. finite.insert (finite.remove before name) key c.in-Some.rows) c.in_ok-copy.ensures
    ∙ put_again before name c.in-Some.rows
    ∙ ap (λ rows. put_table name rows before) (sym left)
