-- Three scripts, and what their lines do. Lines, events and deeds are listed the newest one first.
use Rattle.std.specs.Prelude.{ℕ, List, [], ◌∷◌, Some, None, codes}
use Rattle.gr_stamp.specs.declared.change.Change.{Change}
use Rattle.gr_stamp.specs.declared.change.Kind.{Kind}
use Rattle.gr_stamp.specs.declared.change.Kind.TheVariants.{Put, Remove}
use Rattle.gr_vector.specs.Ids.{Id}
use Rattle.gr_vector.specs.declared.report.Report.{Report}
use Rattle.gr_history.specs.declared.ask.Ask.TheVariants as ask
use Rattle.gr_history.specs.declared.deed.Deed.{Deed}
use Rattle.gr_history.specs.declared.deed.Deed.TheVariants as deed
use Rattle.gr_history.specs.declared.image.Image.{Image}
use Rattle.gr_history.specs.declared.image.What.TheVariants as what
use Rattle.gr_history.specs.declared.reply.Reply.TheVariants as reply
use Rattle.gr_history.specs.declared.verdict.Verdict.TheVariants as verdict
use Rattle.gr_script.specs.declared.line.Act.TheVariants as act
use Rattle.gr_script.specs.declared.line.Line.{Line}
use Rattle.gr_script.specs.declared.line.Line.TheVariants as line
use Rattle.gr_script.specs.Rules.{Heading, heading}
use Rattle.gr_world.specs.Events.{Event, Did, Peeked}

-- so many members of one shard, with a client at each
abbrev pub two_members : Heading
two_members = heading (codes "/r") 2 2 1 16 0 0 (1 ∷ 2 ∷ [])

-- of which the third joins
abbrev pub three_members : Heading
three_members = heading (codes "/r") 3 2 1 16 0 0 (1 ∷ 2 ∷ 3 ∷ [])

abbrev pub one_key : List ℕ
one_key = codes "a"

abbrev pub puts : ℕ → ℕ → Line
puts client number = line.Step client number (act.Call (ask.Put one_key []))

abbrev pub destroys : ℕ → ℕ → Line
destroys client number = line.Step client number (act.Call (ask.Destroy one_key))

abbrev pub peeks : ℕ → ℕ → Line
peeks client number = line.Step client number (act.Peek one_key)

abbrev pub change : Kind → ℕ → ℕ → ℕ → Change
change kind ver member rv = record { key = one_key; kind = kind; stamp = record { ver = ver; member = member; rv = rv } }

abbrev pub put : ℕ → ℕ → ℕ → Change
put = change (Put [])

-- ---- Two members put at once. Each takes in the other's put, and both have the second member's.

abbrev pub concurrent : List Line
concurrent = peeks 1 2 ∷ line.Deliver 2 1 1 ∷ line.Deliver 1 2 1 ∷ puts 2 1 ∷ puts 1 1 ∷ []

abbrev pub concurrent_course : List Event
concurrent_course =
    Peeked 1 2 (record { key = one_key; value = Some []; at = 2 })
    ∷ Did 2 0 (deed.Taken (put 1 1 1) verdict.Discarded) ∷ Did 1 0 (deed.Taken (put 1 2 1) verdict.Applied)
    ∷ Did 2 0 (deed.Call 2 1 1 (ask.Put one_key []) reply.Null (Some (put 1 2 1)))
    ∷ Did 1 0 (deed.Call 1 2 1 (ask.Put one_key []) reply.Null (Some (put 1 1 1))) ∷ []

-- ---- A change that comes again is told to be known.

abbrev pub repeated : List Line
repeated = line.Deliver 2 1 1 ∷ line.Deliver 2 1 1 ∷ puts 1 1 ∷ []

abbrev pub repeated_history : List Deed
repeated_history = deed.Taken (put 1 1 1) verdict.Repeat ∷ deed.Taken (put 1 1 1) verdict.Applied ∷ []

-- ---- The second member lets a tombstone expire, and then gives its image to the third, whose put passes the floor.

abbrev pub joining : List Line
joining =
    puts 3 1 ∷ line.Join 3 2 ∷ line.Sweep 2 600 ∷ line.Hear 2 3 1 ∷ line.Hear 2 1 1 ∷ line.Report 3 ∷ line.Report 1
    ∷ line.Deliver 3 2 1 ∷ line.Deliver 1 2 1 ∷ destroys 2 1 ∷ line.Deliver 2 1 1 ∷ puts 1 1 ∷ []

abbrev pub removal : Change
removal = change Remove 2 2 1

abbrev pub id : ℕ → ℕ → Id
id member rv = record { member = member; rv = rv }

abbrev pub report_1 : Report
report_1 = record { member = 1; at = 2; own = 1; to = 2; vector = record { ids = id 1 1 ∷ id 2 1 ∷ []; spare = 0 } }

abbrev pub report_3 : Report
report_3 = record { member = 3; at = 1; own = 0; to = 3; vector = record { ids = id 2 1 ∷ []; spare = 0 } }

abbrev pub image : Image
image = record { from = 2; at = 5; rows = []; vector = record { ids = id 1 1 ∷ id 2 1 ∷ []; spare = 0 }; floor = 2 }

abbrev pub giver_history : List Deed
giver_history =
    deed.Gave 3 what.Image ∷ deed.Swept 600 (one_key ∷ []) ∷ deed.Heard report_3 ∷ deed.Heard report_1
    ∷ deed.Call 2 1 1 (ask.Destroy one_key) reply.Done (Some removal) ∷ deed.Taken (put 1 1 1) verdict.Applied ∷ []

abbrev pub joiner_history : List Deed
joiner_history =
    deed.Call 3 3 1 (ask.Put one_key []) reply.Null (Some (put 3 3 1)) ∷ deed.Imaged image
    ∷ deed.Taken (put 1 1 1) verdict.Discarded ∷ deed.Reported report_3 ∷ deed.Taken removal verdict.Applied ∷ []

-- ---- A member that never joined holds no tombstone back. Its image drops what it had, and its put passes the floor.

abbrev pub unjoined : List Line
unjoined =
    puts 3 2 ∷ line.Step 3 1 (act.Call (ask.Get one_key)) ∷ line.Join 3 2 ∷ line.Sweep 2 600 ∷ line.Hear 2 1 1 ∷ line.Report 1
    ∷ line.Deliver 1 2 1 ∷ destroys 2 1 ∷ line.Deliver 3 1 1 ∷ line.Deliver 2 1 1 ∷ puts 1 1 ∷ []

abbrev later_image : Image
later_image = record image { at = 4 }

abbrev pub unjoined_giver : List Deed
unjoined_giver =
    deed.Gave 3 what.Image ∷ deed.Swept 600 (one_key ∷ []) ∷ deed.Heard report_1
    ∷ deed.Call 2 1 1 (ask.Destroy one_key) reply.Done (Some removal) ∷ deed.Taken (put 1 1 1) verdict.Applied ∷ []

abbrev pub late_joiner : List Deed
late_joiner =
    deed.Call 3 3 2 (ask.Put one_key []) reply.Null (Some (put 3 3 1)) ∷ deed.Call 3 0 1 (ask.Get one_key) reply.Null None
    ∷ deed.Imaged later_image ∷ deed.Taken (put 1 1 1) verdict.Repeat ∷ deed.Taken (put 1 1 1) verdict.Applied ∷ []

-- ---- A member that was given something holds it back, until its report is heard.

abbrev pub given : List Line
given =
    line.Sweep 1 601 ∷ line.Hear 1 3 1 ∷ line.Report 3 ∷ line.Deliver 3 1 2 ∷ line.Sweep 1 600 ∷ line.Hear 1 2 1 ∷ line.Report 2
    ∷ line.Deliver 2 1 2 ∷ destroys 1 2 ∷ line.Join 3 1 ∷ line.Deliver 2 1 1 ∷ puts 1 1 ∷ []

-- what its sweeps let expire
abbrev pub swept : List Deed → List (List (List ℕ))
swept [] = []
swept (deed.Swept moment expired ∷ past) = expired ∷ swept past
swept (_ ∷ past) = swept past
