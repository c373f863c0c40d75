-- What a call gives: the reply, the change that is made, and whom it goes to.
use Rattle.std.specs.Prelude.{ℕ, ◌+◌, List, nat_le, max, Option, Some, None, if◌then◌else◌}
use Rattle.gr_stamp.specs.declared.change.Change.{Change}
use Rattle.gr_stamp.specs.declared.change.Kind.{Kind}
use Rattle.gr_stamp.specs.declared.stamp.TheConstants.{LIMIT}
use Rattle.gr_vector.specs.Ids.{top}
use Rattle.gr_history.specs.declared.identity.Identity.{Identity}
use Rattle.gr_history.specs.declared.ask.Ask.{Ask}
use Rattle.gr_history.specs.declared.reply.Reply.{Reply}
use Rattle.gr_history.specs.declared.reply.Reply.TheVariants.{Limit, NotReady}
use Rattle.gr_history.specs.declared.deed.Deed.{Deed}
use Rattle.gr_history.specs.declared.done.Done.{Done}
use Rattle.gr_history.specs.Asks.{at_key, key_of, told}
use Rattle.gr_history.specs.Ids.{ids}
use Rattle.gr_history.specs.Standing.{standing, there, present}
use Rattle.gr_history.specs.Floor.{floor}
use Rattle.gr_history.specs.Recipients.{is_ready, recipients}

-- the version of what stands, or 0
abbrev pub ver_of : Option Change → ℕ
ver_of None = 0
ver_of (Some change) = change.stamp.ver

-- the greater of the version that stands and the floor: what a new version has to pass
abbrev pub reach : ℕ → List ℕ → List Deed → ℕ
reach opening key past = max (ver_of (standing key past)) (floor opening past)

-- the member's last region version
abbrev pub last_rv : Identity → List Deed → ℕ
last_rv id past = top id.member (ids past)

-- The version is one more than what stands and the floor, the region version one more than the last.
abbrev pub made_change : Identity → ℕ → List Deed → List ℕ → Kind → Change
made_change id opening past key kind = record {
  key = key;
  kind = kind;
  stamp = record { ver = 1 + reach opening key past; member = id.member; rv = 1 + last_rv id past };
}

-- a reply beside which nothing is made
abbrev pub nothing_made : Reply → Done
nothing_made reply = record { reply = reply; made = None; to = 0 }

-- Nothing is made where nothing is to change, nor where a number would pass its limit.
abbrev pub given : Identity → ℕ → List Deed → List ℕ → Reply → Option Kind → Done
given id opening past key reply None = nothing_made reply
given id opening past key reply (Some kind) =
    if nat_le LIMIT (max (reach opening key past) (last_rv id past))
    then nothing_made Limit
    else record { reply = reply; made = Some (made_change id opening past key kind); to = recipients id past }

-- where calls are answered
abbrev pub ready_gives : Identity → ℕ → List Deed → Ask → Done
ready_gives id opening past ask =
    let answer = told ask (at_key (there (key_of ask) past) (present (key_of ask) past)) in
    given id opening past (key_of ask) answer.reply answer.change

abbrev pub call_gives : Identity → ℕ → List Deed → Ask → Done
call_gives id opening past ask = if is_ready id past then ready_gives id opening past ask else nothing_made NotReady
