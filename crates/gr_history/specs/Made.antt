-- What was made in a history.
use Rattle.std.specs.Prelude.{ℕ, List, [], ◌∷◌, ◌++◌, Option, None}
use Rattle.std.specs.Option.{option_to_list}
use Rattle.gr_stamp.specs.declared.change.Change.{Change}
use Rattle.gr_history.specs.declared.deed.Deed.{Deed}
use Rattle.gr_history.specs.declared.reply.Reply.{Reply}
use Rattle.gr_history.specs.declared.reply.Reply.TheVariants.{Null}
use Rattle.gr_history.specs.declared.deed.Deed.TheVariants.{Call}

-- what a deed made
abbrev pub made_in : Deed → Option Change
made_in (Call client to seq ask reply made) = made
made_in _ = None

-- what a call replied
abbrev pub reply_in : Deed → Reply
reply_in (Call client to seq ask reply made) = reply
reply_in _ = Null

-- the members that what a call made goes to
abbrev pub to_in : Deed → ℕ
to_in (Call client to seq ask reply made) = to
to_in _ = 0

abbrev pub made_at : Deed → List Change
made_at deed = option_to_list (made_in deed)

-- the changes that the history's own calls made, the newest first
abbrev pub made : List Deed → List Change
made [] = []
made (deed ∷ past) = made_at deed ++ made past
