-- What every script keeps.
use Rattle.std.specs.Prelude.{◌≡◌, ℕ, ◌-◌, ◌+◌, ◌≤◌, ◌<◌, List, [], ◌∷◌}
use Rattle.std.specs.Prelude.{length, reverse, slice_index, Bool, true, false, ◌&&◌, ◌||◌, ◌==◌, not}
use Rattle.std.specs.Prelude.{nat_le, IsTrue}
use Rattle.std.specs.List.{list_all}
use Rattle.std.specs.Coded.{le_prop, Coded-set, codes}
use Rattle.std.specs.Char.{is_ascii_digit, is_ascii_alphanumeric}
use Rattle.gr_oql.specs.Grammar.{most_region_bytes}
use Rattle.gr_stamp.specs.declared.stamp.TheConstants.{LIMIT}
use Rattle.gr_history.specs.declared.query_ask.QueryAsk.{QueryAsk}
use Rattle.gr_history.specs.declared.query_ask.QueryAsk.TheVariants as query
use Rattle.gr_script.specs.declared.line.Act.{Act}
use Rattle.gr_script.specs.declared.line.Act.TheVariants.{Call, Query, Peek}
use Rattle.gr_script.specs.declared.line.Line.{Line}
use Rattle.gr_script.specs.declared.line.Line.TheVariants.{Step, Deliver, Report, Hear, Sweep, Join, Depart, Leave, Back}
use Rattle.gr_script.specs.Absence.{presence, asks}
use Rattle.gr_script.specs.Limits.{most_members, most_shards, most_inbox, most_trouble, most_clients, most_reports, most_hears}
use Rattle.gr_script.specs.Limits.{most_sweeps, most_moment, most_opens, most_queries}
use Rattle.gr_script.specs.Rests.{IsRest, IsRest-prop}
use Rattle.gr_script.specs.Steps.{step_count, reports_of, joins_of, joins_from, opens, reports, hears, sweeps}
use Rattle.gr_script.specs.Steps.{departed, is_gone}

-- what stands before the lines
pub record Heading : Type 0 where
  pub region : List ℕ
  pub members : ℕ
  pub founders : ℕ
  pub shards : ℕ
  pub inbox : ℕ
  pub trouble : ℕ
  pub floor : ℕ
  -- the member of each client
  pub clients : List ℕ

abbrev pub heading : List ℕ → ℕ → ℕ → ℕ → ℕ → ℕ → ℕ → List ℕ → Heading
heading region members founders shards inbox trouble floor clients = record {
  region = region;
  members = members;
  founders = founders;
  shards = shards;
  inbox = inbox;
  trouble = trouble;
  floor = floor;
  clients = clients;
}

-- letters, digits and _
abbrev pub is_word_byte : ℕ → Bool
is_word_byte byte = is_ascii_alphanumeric byte || byte == 0x5F

abbrev pub begins_word : List ℕ → Bool
begins_word [] = false
begins_word (first ∷ _) = not (is_ascii_digit first)

-- A word is no longer than the name of a region, and doesn't begin with a digit.
abbrev pub is_word : List ℕ → Bool
is_word bytes = begins_word bytes && nat_le (length bytes) most_region_bytes && list_all is_word_byte bytes

-- A region is a slash and a word.
abbrev pub is_region : List ℕ → Bool
is_region [] = false
is_region (first ∷ word) = first == 0x2F && is_word word

-- from the one number to the other
abbrev pub IsWithin : ℕ → ℕ → ℕ → Type 0
IsWithin least most number = (least ≤ number) × (number ≤ most)

abbrev pub AreWithin : ℕ → ℕ → List ℕ → Type 0
AreWithin least most [] = Unit {0}
AreWithin least most (number ∷ numbers) = IsWithin least most number × AreWithin least most numbers

pub record IsHeading (h : Heading) : Type 0 where
  pub named : IsTrue (is_region h.region)
  pub members : IsWithin 1 most_members h.members
  pub founders : IsWithin 1 h.members h.founders
  pub shards : IsWithin 1 most_shards h.shards
  pub inbox : IsWithin 1 most_inbox h.inbox
  pub trouble : h.trouble ≤ most_trouble
  pub floor : h.floor ≤ LIMIT
  pub few_clients : length h.clients ≤ most_clients
  pub at_members : AreWithin 1 h.members h.clients

abbrev pub IsMember : Heading → ℕ → Type 0
IsMember h member = IsWithin 1 h.members member

-- Clients are numbered from 1.
abbrev pub IsStated : ℕ → Heading → Type 0
IsStated client h = IsWithin 1 (length h.clients) client

-- the client's member
abbrev pub home_of : Heading → ℕ → ℕ
home_of h client = slice_index h.clients (client - 1)

-- two numbers that aren't the same
abbrev pub Differ : ℕ → ℕ → Type 0
Differ one other = IsTrue (not (one == other))

-- Whether a client may ask this of a query, behind the earlier lines. The query's text is the rest of its line.
abbrev pub QuerySuits : Heading → List Line → QueryAsk → Type 0
QuerySuits h past (query.Enrol name query) = (query.asked.region ≡ h.region) × (opens past < most_opens) × (asks past < most_queries)
    × IsRest query.text
QuerySuits h past (query.Stop name) = asks past < most_queries
QuerySuits h past (query.Close name) = asks past < most_queries
QuerySuits h past (query.Fetch name) = asks past < most_queries

abbrev pub ActSuits : Heading → List Line → Act → Type 0
ActSuits h past (Call ask) = Unit {0}
ActSuits h past (Query ask) = QuerySuits h past ask
ActSuits h past (Peek key) = Unit {0}

-- Whether a line may stand behind those before it, which are listed the last one first.
abbrev pub StandsAfter : Heading → List Line → Line → Type 0
StandsAfter h past (Step client seq act) = IsStated client h × (seq ≡ step_count client past + 1) × ActSuits h past act
StandsAfter h past (Deliver to client seq) =
    IsMember h to × IsStated client h × IsWithin 1 (step_count client past) seq × Differ to (home_of h client)
StandsAfter h past (Report member) = IsMember h member × (reports past < most_reports)
StandsAfter h past (Hear by of number) =
    IsMember h by × IsMember h of × IsWithin 1 (reports_of of past) number × Differ by of × (hears past < most_hears)
StandsAfter h past (Sweep member moment) = IsMember h member × (moment ≤ most_moment) × (sweeps past < most_sweeps)
    × (hears past + length (departed past) ≤ most_hears)
StandsAfter h past (Join member from) =
    (h.founders < member) × (member ≤ h.members) × IsWithin 1 h.founders from × (joins_of member past ≡ 0)
StandsAfter h past (Depart member) = IsMember h member × (joins_from member past ≡ 0)
StandsAfter h past (Leave client moment) = IsStated client h × (moment ≤ most_moment)
StandsAfter h past (Back client moment) = IsStated client h × (moment ≤ most_moment)
    × (asks past + length (presence client past).names ≤ most_queries)

abbrev pub Stays : List Line → ℕ → Type 0
Stays past member = is_gone (departed past) member ≡ false

-- A line names no member that departed on an earlier one, but for the maker of what is delivered and of a report that is heard.
abbrev pub NamesStaying : Heading → List Line → Line → Type 0
NamesStaying h past (Step client seq act) = Stays past (home_of h client)
NamesStaying h past (Deliver to client seq) = Stays past to
NamesStaying h past (Report member) = Stays past member
NamesStaying h past (Hear by of number) = Stays past by
NamesStaying h past (Sweep member moment) = Stays past member
NamesStaying h past (Join member from) = Stays past member × Stays past from
NamesStaying h past (Depart member) = Stays past member
NamesStaying h past (Leave client moment) = Stays past (home_of h client)
NamesStaying h past (Back client moment) = Stays past (home_of h client)

-- A client that has left does nothing until it is back, and its moments don't fall.
abbrev pub Attends : List Line → Line → Type 0
Attends past (Step client seq act) = (presence client past).away ≡ false
Attends past (Leave client moment) = ((presence client past).away ≡ false) × ((presence client past).moment ≤ moment)
Attends past (Back client moment) = ((presence client past).away ≡ true) × ((presence client past).moment ≤ moment)
Attends past (Deliver to client seq) = Unit {0}
Attends past (Report member) = Unit {0}
Attends past (Hear by of number) = Unit {0}
Attends past (Sweep member moment) = Unit {0}
Attends past (Join member from) = Unit {0}
Attends past (Depart member) = Unit {0}

-- So it is of each line behind those before it.
abbrev pub AllBehind : (List Line → Line → Type 0) → List Line → Type 0
AllBehind Each [] = Unit {0}
AllBehind Each (line ∷ past) = Each past line × AllBehind Each past

abbrev pub AllStand : Heading → List Line → Type 0
AllStand h lines = AllBehind (StandsAfter h) lines

abbrev pub AllNameStaying : Heading → List Line → Type 0
AllNameStaying h lines = AllBehind (NamesStaying h) lines

abbrev pub AllAttend : List Line → Type 0
AllAttend lines = AllBehind Attends lines

-- A script is a heading and lines, each of which may stand where it does.
pub record IsScript (h : Heading) (lines : List Line) : Type 0 where
  pub heading : IsHeading h
  pub lines_stand : AllStand h (reverse lines)
  pub names_staying : AllNameStaying h (reverse lines)
  pub attended : AllAttend (reverse lines)

AreWithin-prop : (least most : ℕ) (numbers : List ℕ) → IsProp (AreWithin least most numbers)
AreWithin-prop least most [] = hlevel
AreWithin-prop least most (number ∷ numbers) = hlevel (le_prop, AreWithin-prop least most numbers)

IsHeading-prop : (h : Heading) → IsProp (IsHeading h)
IsHeading-prop h = hlevel (le_prop, Coded-set, codes, AreWithin-prop 1 h.members h.clients)

QuerySuits-prop : (h : Heading) (past : List Line) (ask : QueryAsk) → IsProp (QuerySuits h past ask)
QuerySuits-prop h past (query.Enrol name query) = hlevel (le_prop, Coded-set, codes, IsRest-prop query.text)
QuerySuits-prop h past (query.Stop name) = hlevel (le_prop, Coded-set, codes)
QuerySuits-prop h past (query.Close name) = hlevel (le_prop, Coded-set, codes)
QuerySuits-prop h past (query.Fetch name) = hlevel (le_prop, Coded-set, codes)

ActSuits-prop : (h : Heading) (past : List Line) (act : Act) → IsProp (ActSuits h past act)
ActSuits-prop h past (Call ask) = hlevel
ActSuits-prop h past (Query ask) = QuerySuits-prop h past ask
ActSuits-prop h past (Peek key) = hlevel

StandsAfter-prop : (h : Heading) (past : List Line) (line : Line) → IsProp (StandsAfter h past line)
StandsAfter-prop h past (Step client seq act) = hlevel (le_prop, Coded-set, codes, ActSuits-prop h past act)
StandsAfter-prop h past (Deliver to client seq) = hlevel (le_prop, Coded-set, codes)
StandsAfter-prop h past (Report member) = hlevel (le_prop, Coded-set, codes)
StandsAfter-prop h past (Hear by of number) = hlevel (le_prop, Coded-set, codes)
StandsAfter-prop h past (Sweep member moment) = hlevel (le_prop, Coded-set, codes)
StandsAfter-prop h past (Join member from) = hlevel (le_prop, Coded-set, codes)
StandsAfter-prop h past (Depart member) = hlevel (le_prop, Coded-set, codes)
StandsAfter-prop h past (Leave client moment) = hlevel (le_prop, Coded-set, codes)
StandsAfter-prop h past (Back client moment) = hlevel (le_prop, Coded-set, codes)

AllBehind-prop : (Each : List Line → Line → Type 0) → ((past : List Line) (line : Line) → IsProp (Each past line)) → (past : List Line)
    → IsProp (AllBehind Each past)
AllBehind-prop Each one [] = hlevel
AllBehind-prop Each one (line ∷ past) = hlevel (one past line, AllBehind-prop Each one past)

NamesStaying-prop : (h : Heading) (past : List Line) (line : Line) → IsProp (NamesStaying h past line)
NamesStaying-prop h past (Step client seq act) = hlevel (Coded-set, codes)
NamesStaying-prop h past (Deliver to client seq) = hlevel (Coded-set, codes)
NamesStaying-prop h past (Report member) = hlevel (Coded-set, codes)
NamesStaying-prop h past (Hear by of number) = hlevel (Coded-set, codes)
NamesStaying-prop h past (Sweep member moment) = hlevel (Coded-set, codes)
NamesStaying-prop h past (Join member from) = hlevel (Coded-set, codes)
NamesStaying-prop h past (Depart member) = hlevel (Coded-set, codes)
NamesStaying-prop h past (Leave client moment) = hlevel (Coded-set, codes)
NamesStaying-prop h past (Back client moment) = hlevel (Coded-set, codes)

Attends-prop : (past : List Line) (line : Line) → IsProp (Attends past line)
Attends-prop past (Step client seq act) = hlevel (Coded-set, codes)
Attends-prop past (Leave client moment) = hlevel (le_prop, Coded-set, codes)
Attends-prop past (Back client moment) = hlevel (le_prop, Coded-set, codes)
Attends-prop past (Deliver to client seq) = hlevel
Attends-prop past (Report member) = hlevel
Attends-prop past (Hear by of number) = hlevel
Attends-prop past (Sweep member moment) = hlevel
Attends-prop past (Join member from) = hlevel
Attends-prop past (Depart member) = hlevel

-- A script keeps its rules in one way.
pub IsScript-prop : (h : Heading) (lines : List Line) → IsProp (IsScript h lines)
IsScript-prop h lines =
    hlevel (
      IsHeading-prop h,
      AllBehind-prop (StandsAfter h) (StandsAfter-prop h) (reverse lines),
      AllBehind-prop (NamesStaying h)
          (NamesStaying-prop h) (reverse lines),
      AllBehind-prop Attends Attends-prop (reverse lines),
    )
