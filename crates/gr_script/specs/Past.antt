-- What the earlier lines of a script say. They are listed the last one first.
use Rattle.std.specs.Prelude.{ℕ, ◌+◌, ◌-◌, List, [], ◌∷◌, ◌++◌, length, Bool, ◌&&◌, ◌||◌, ◌==◌, nat_lt, Option, Some, None, count_by}
use Rattle.std.specs.Prelude.{slice_index, if◌then◌else◌}
use Rattle.std.specs.List.{flat_map}
use Rattle.gr_script.specs.declared.forms.LineKind.{LineKind}
use Rattle.gr_script.specs.declared.forms.LineKind.TheVariants as kind
use Rattle.gr_script.specs.declared.items.Item.{Item}
use Rattle.gr_script.specs.declared.items.Item.TheVariants.{Number, Member, Client, Ordinal, Step, Key}
use Rattle.gr_script.specs.declared.items.Setting.{Setting}
use Rattle.gr_script.specs.declared.past.Sizes.{Sizes}
use Rattle.gr_script.specs.declared.saying.Saying.{Saying}
use Rattle.gr_script.specs.Forms.{rank, is_step, is_kind}

abbrev pub numbers_of : Item → List ℕ
numbers_of (Number number) = number ∷ []
numbers_of (Member member) = member ∷ []
numbers_of (Client client) = client ∷ []
numbers_of (Ordinal number) = number ∷ []
numbers_of (Step client seq) = client ∷ seq ∷ []
numbers_of _ = []

abbrev pub numbers : List Item → List ℕ
numbers items = flat_map numbers_of items

-- a line's number, counted from 0
abbrev pub number : ℕ → List Item → ℕ
number place items = slice_index (numbers items) place

-- a line's first key
abbrev pub key_in : List Item → Option (List ℕ)
key_in [] = None
key_in (Key key ∷ items) = Some key
key_in (_ ∷ items) = key_in items

-- ---- what is stated

-- the number of the line of this kind
abbrev pub stated : LineKind → ℕ → List Saying → ℕ
stated form place [] = 0
stated form place (line ∷ past) = if is_kind form line.kind then number place line.items else stated form place past

abbrev pub region : List Saying → Option (List ℕ)
region [] = None
region (line ∷ past) = if is_kind kind.Region line.kind then key_in line.items else region past

abbrev pub members : List Saying → ℕ
members past = stated kind.Members 0 past

abbrev pub founders : List Saying → ℕ
founders past = stated kind.Members 1 past

abbrev pub shards : List Saying → ℕ
shards past = stated kind.Shards 0 past

abbrev pub inbox : List Saying → ℕ
inbox [] = 16
inbox (line ∷ past) = if is_kind kind.Inbox line.kind then number 0 line.items else inbox past

abbrev pub trouble : List Saying → ℕ
trouble past = stated kind.Trouble 0 past

abbrev pub floor : List Saying → ℕ
floor past = stated kind.Floor 0 past

abbrev pub sizes : List Saying → Sizes
sizes past = record { shards = shards past; inbox = inbox past; trouble = trouble past; floor = floor past }

-- the member of each client
abbrev pub homes : List Saying → List ℕ
homes [] = []
homes (line ∷ past) = if is_kind kind.Client line.kind then homes past ++ number 1 line.items ∷ [] else homes past

abbrev pub home : ℕ → List Saying → ℕ
home client past = slice_index (homes past) (client - 1)

abbrev pub clients : List Saying → ℕ
clients past = length (homes past)

abbrev pub setting : List Saying → Setting
setting past = record { region = region past; members = members past; clients = clients past }

-- ---- what is counted

abbrev pub count_of : LineKind → List Saying → ℕ
count_of form past = count_by (λ line. is_kind form line.kind) past

-- a query's lines
abbrev pub is_query : LineKind → Bool
is_query form = is_kind kind.Open form || is_kind kind.Stop form || is_kind kind.Close form || is_kind kind.Fetch form

abbrev pub queries : List Saying → ℕ
queries past = count_by (λ line. is_query line.kind) past

-- how many lines that pass a test have this first number
abbrev pub count_at : (LineKind → Bool) → ℕ → List Saying → ℕ
count_at test first past = count_by (λ line. test line.kind && number 0 line.items == first) past

abbrev pub steps : ℕ → List Saying → ℕ
steps client past = count_at is_step client past

abbrev pub reports : ℕ → List Saying → ℕ
reports member past = count_at (is_kind kind.Report) member past

abbrev pub joins : ℕ → List Saying → ℕ
joins member past = count_at (is_kind kind.Join) member past

abbrev pub departs : ℕ → List Saying → ℕ
departs member past = count_at (is_kind kind.Depart) member past

-- how often a member gives a joiner its image
abbrev pub gifts : ℕ → List Saying → ℕ
gifts provider past = count_by (λ line. is_kind kind.Join line.kind && number 1 line.items == provider) past

-- how many reports are heard on a line of this kind, behind these: at a sweep one of each member that departed
abbrev pub heard_on : List Saying → LineKind → ℕ
heard_on past form =
    if is_kind kind.Hear form then 1 else (if is_kind kind.Sweep form then count_of kind.Depart past else 0)

abbrev pub hears : List Saying → ℕ
hears [] = 0
hears (line ∷ past) = heard_on past line.kind + hears past

-- ---- where a line may stand

-- The lines of the heading stand once each, the others as often as one likes.
abbrev pub next_rank : LineKind → ℕ
next_rank form = if nat_lt (rank form) 7 then rank form + 1 else rank form

-- the least rank that a line may have now
abbrev pub stage : List Saying → ℕ
stage [] = 0
stage (line ∷ past) = next_rank line.kind
