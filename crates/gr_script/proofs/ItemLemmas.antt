-- How the items of a line grow, field by field.
use Rattle.std.proofs.Common.{List, ◌++◌, Result, Ok, Err}
use Rattle.gr_script.specs.declared.items.Item.{Item}
use Rattle.gr_script.specs.declared.reason.Reason.{Reason}

-- items in front of those that are read
abbrev pub behind : List Item → Result (List Item) Reason → Result (List Item) Reason
behind front (Ok items) = Ok (front ++ items)
behind front (Err why) = Err why
