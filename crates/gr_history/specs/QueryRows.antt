-- Two histories with queries, written down deed by deed with all that is answered. They are listed the newest
-- deed first.
use Rattle.std.specs.Prelude.{ℕ, List, [], ◌∷◌, Option, Some, None, codes, pos}
use Rattle.gr_value.specs.declared.scalar.Scalar.TheVariants.{Int}
use Rattle.gr_value.specs.declared.value.Field.{Field}
use Rattle.gr_stamp.specs.declared.change.Change.{Change}
use Rattle.gr_stamp.specs.declared.change.Kind.{Kind}
use Rattle.gr_stamp.specs.declared.change.Kind.TheVariants as kind
use Rattle.gr_oql.specs.declared.condition.Operand.TheVariants as operand
use Rattle.gr_oql.specs.declared.condition.Relation.TheVariants as relation
use Rattle.gr_oql.specs.declared.condition.Test.TheVariants.{Compare}
use Rattle.gr_oql.specs.declared.event.BaseOp.{BaseOp}
use Rattle.gr_oql.specs.declared.event.BaseOp.TheVariants as base
use Rattle.gr_oql.specs.declared.event.Event.{Event}
use Rattle.gr_oql.specs.declared.event.QueryOp.{QueryOp}
use Rattle.gr_oql.specs.declared.event.QueryOp.TheVariants as op
use Rattle.gr_oql.specs.Question.{Question}
use Rattle.gr_oql.specs.Tree.{test}
use Rattle.gr_history.specs.declared.ask.Ask.TheVariants as ask
use Rattle.gr_history.specs.declared.reply.Reply.TheVariants as reply
use Rattle.gr_history.specs.declared.query_ask.QueryAsk.TheVariants.{Enrol, Stop, Close, Fetch}
use Rattle.gr_history.specs.declared.query_reply.QueryReply.TheVariants as told
use Rattle.gr_history.specs.declared.query_reply.Row.{Row}
use Rattle.gr_history.specs.declared.verdict.Verdict.TheVariants.{Applied, Discarded}
use Rattle.gr_history.specs.declared.deed.Deed.{Deed}
use Rattle.gr_history.specs.declared.deed.Deed.TheVariants.{Call, Asked, Taken}

abbrev pub row : List ℕ → List Field → Row
row key value = record { key = key; value = value }

abbrev pub event : QueryOp → BaseOp → List ℕ → Option (List Field) → Event
event told done key value = record { op = told; base = done; key = key; value = value }

-- ---- a query whose events are fetched

abbrev pub query_name : List ℕ
query_name = codes "q"

abbrev pub price : ℕ → List Field
price number = record { name = codes "price"; scalar = Int (pos number) } ∷ []

-- the trades with a price above 100
abbrev pub dear : Question
dear = record {
  text = codes "SELECT * FROM /trades t WHERE t.price > 100";
  asked = record {
    region = codes "/trades";
    alias = Some (codes "t");
    condition = Some (test (Compare (operand.Field (codes "price")) relation.Greater (operand.Literal (Int (pos 100)))));
  };
}

abbrev change : List ℕ → Kind → ℕ → ℕ → Change
change key kind ver rv = record { key = key; kind = kind; stamp = record { ver = ver; member = 1; rv = rv } }

-- client 1 puts a price where there was none
abbrev put_first : ℕ → List ℕ → ℕ → Deed
put_first seq key new = Call 1 0 seq (ask.Put key (price new)) reply.Null (Some (change key (kind.Put (price new)) 1 seq))

-- or where there was this one
abbrev put_over : ℕ → List ℕ → ℕ → ℕ → Deed
put_over seq key old new =
    Call 1 0 seq (ask.Put key (price new)) (reply.Value (price old)) (Some (change key (kind.Put (price new)) 2 seq))

abbrev opened : List Deed
opened = Asked 2 1 (Enrol query_name dear) (told.Opened (row (codes "t1") (price 150) ∷ row (codes "t3") (price 120) ∷ []))
    ∷ put_first 3 (codes "t3") 120 ∷ put_first 2 (codes "t2") 50 ∷ put_first 1 (codes "t1") 150 ∷ []

abbrev turned : List Deed
turned = Call 1 0 8 (ask.Destroy (codes "t1")) reply.Done (Some (change (codes "t1") kind.Remove 3 8))
    ∷ put_first 7 (codes "t4") 10 ∷ put_over 6 (codes "t3") 120 99 ∷ put_over 5 (codes "t1") 150 160 ∷ put_over 4 (codes "t2") 50 101
    ∷ opened

abbrev waited : List Event
waited = event op.Create base.Update (codes "t2") (Some (price 101)) ∷ event op.Update base.Update (codes "t1") (Some (price 160))
    ∷ event op.Destroy base.Update (codes "t3") (Some (price 99)) ∷ event op.Destroy base.Destroy (codes "t1") None ∷ []

abbrev pub query_events : List Deed
query_events =
    Asked 2 3 (Fetch query_name) (told.Fetched []) ∷ Asked 2 2 (Fetch query_name) (told.Fetched waited) ∷ turned

abbrev pub still_dear : List Row
still_dear = row (codes "t2") (price 101) ∷ []

-- ---- two queries of the second member's client, in all their states

abbrev number : ℕ → List Field
number n = record { name = codes "x"; scalar = Int (pos n) } ∷ []

abbrev pub all_rows : Question
all_rows = record {
  text = codes "SELECT * FROM /r";
  asked = record { region = codes "/r"; alias = None; condition = None };
}

-- the values of 2 or more
abbrev pub large : Question
large = record {
  text = codes "SELECT * FROM /r WHERE x >= 2";
  asked = record {
    region = codes "/r";
    alias = None;
    condition = Some (test (Compare (operand.Field (codes "x")) relation.GreaterOrEqual (operand.Literal (Int (pos 2)))));
  };
}

abbrev put_by : ℕ → ℕ → ℕ → ℕ → Change
put_by member ver rv new =
    record { key = codes "a"; kind = kind.Put (number new); stamp = record { ver = ver; member = member; rv = rv } }

abbrev puts : ℕ → ℕ → ℕ → ℕ → Deed
puts seq ver old new =
    Call 2 1 seq (ask.Put (codes "a") (number new)) (reply.Value (number old)) (Some (put_by 2 ver ver new))

abbrev found : List Row
found = row (codes "a") (number 2) ∷ []

abbrev updated : List Event
updated = event op.Update base.Update (codes "a") (Some (number 3)) ∷ []

abbrev two_opened : List Deed
two_opened = Asked 2 3 (Enrol (codes "q") large) (told.Opened found) ∷ Asked 2 2 (Enrol (codes "p") all_rows) (told.Opened found)
    ∷ Call 2 1 1 (ask.Put (codes "a") (number 2)) reply.Null (Some (put_by 2 1 1 2)) ∷ []

-- A change that is discarded tells a query nothing.
abbrev two_fetched : List Deed
two_fetched = Asked 2 6 (Fetch (codes "q")) (told.Fetched updated) ∷ Asked 2 5 (Fetch (codes "p")) (told.Fetched updated)
    ∷ puts 4 2 2 3 ∷ Taken (put_by 1 1 1 1) Discarded ∷ two_opened

-- Nor does it wait for what comes behind its stop.
abbrev one_stopped : List Deed
one_stopped = Asked 2 10 (Stop (codes "q")) told.NotRunning ∷ Asked 2 9 (Fetch (codes "q")) (told.Fetched []) ∷ puts 8 3 3 4
    ∷ Asked 2 7 (Stop (codes "q")) told.Stopped ∷ two_fetched

abbrev pub query_states : List Deed
query_states = Asked 2 13 (Enrol (codes "p") all_rows) told.Taken ∷ Asked 2 12 (Fetch (codes "q")) told.Unknown
    ∷ Asked 2 11 (Close (codes "q")) told.Closed ∷ one_stopped

-- ---- a key that is invalidated while a query is open

abbrev whole : Question
whole = record {
  text = codes "SELECT * FROM /r";
  asked = record { region = codes "/r"; alias = None; condition = None };
}

abbrev change_of_a : ℕ → ℕ → ℕ → Kind → Change
change_of_a ver member rv kind = record { key = codes "a"; kind = kind; stamp = record { ver = ver; member = member; rv = rv } }

abbrev pub invalidated : List Deed
invalidated = Taken (change_of_a 2 1 2 kind.Invalid) Applied
    ∷ Asked 2 1 (Enrol query_name whole) (told.Opened (row (codes "a") (number 1) ∷ []))
    ∷ Taken (change_of_a 1 1 1 (kind.Put (number 1))) Applied ∷ []

-- what the query is told of it, and of the put behind it
abbrev told_of_a : List Event
told_of_a = event op.Destroy base.Invalidate (codes "a") None ∷ event op.Create base.Update (codes "a") (Some (number 2)) ∷ []

abbrev pub put_behind : List Deed
put_behind = Asked 2 3 (Fetch query_name) (told.Fetched told_of_a)
    ∷ Call 2 1 2 (ask.PutIfAbsent (codes "a") (number 2)) reply.Null (Some (change_of_a 3 2 1 (kind.Put (number 2)))) ∷ invalidated

-- What the operations find at a key without a value.
abbrev pub destroyed : List Deed
destroyed = Call 2 0 3 (ask.Get (codes "a")) reply.Null None
    ∷ Call 2 1 2 (ask.Destroy (codes "a")) reply.Done (Some (change_of_a 3 2 1 kind.Remove)) ∷ invalidated

abbrev pub again : List Deed
again = Call 2 0 4 (ask.Invalidate (codes "b")) reply.NotFound None ∷ Call 2 0 3 (ask.Invalidate (codes "a")) reply.Done None
    ∷ Call 2 0 2 (ask.ReplaceIf (codes "a") (number 1) (number 2)) reply.No None ∷ invalidated
