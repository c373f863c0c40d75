-- What a call makes, and whom it goes to.
use Rattle.std.proofs.Common.{◌≡◌, ◌∙◌, ap, sym, refl, ℕ, ◌+◌, ◌^◌, ◌<◌, ◌≤◌, List, Bool, true, false, if◌then◌else◌, nat_le, max, Option}
use Rattle.std.proofs.Common.{Some, None, SomeIff, option_map, option_and_then, add-one, add-zero, arith, add_comm}
use Rattle.std.proofs.lemmas.Bool.Decides.{nat_tests}
use Rattle.gr_stamp.specs.declared.change.Change.{Change}
use Rattle.gr_stamp.specs.declared.change.Kind.{Kind}
use Rattle.gr_stamp.specs.declared.stamp.TheConstants.{LIMIT}
use Rattle.gr_stamp.specs.Version.{Version, IsInRange}
use Rattle.gr_stamp.specs.Winner.{is_there, put_value}
use Rattle.gr_history.specs.declared.identity.Identity.{Identity}
use Rattle.gr_history.specs.declared.reply.Reply.{Reply}
use Rattle.gr_history.specs.declared.reply.Reply.TheVariants.{Limit, NotReady}
use Rattle.gr_history.specs.declared.deed.Deed.{Deed}
use Rattle.gr_history.specs.declared.done.Done.{Done}
use Rattle.gr_vector.specs.Ids.{top}
use Rattle.gr_history.specs.declared.ask.Ask.{Ask}
use Rattle.gr_history.specs.Ids.{ids, known}
use Rattle.gr_law.proofs.Lists.{known_ids}
use Rattle.gr_vector.proofs.Same.{same_top}
use Rattle.gr_history.specs.Asks.{at_key, key_of, told}
use Rattle.gr_history.specs.Verdicts.{verdict_over}
use Rattle.gr_history.specs.Standing.{standing, there, present}
use Rattle.gr_history.specs.Floor.{floor}
use Rattle.gr_history.specs.Recipients.{member_bits, recipients, is_ready}
use Rattle.gr_history.specs.Calls.{ver_of, reach, last_rv, made_change, given, ready_gives, call_gives, nothing_made}
use Rattle.gr_shard.specs.Entries.{slot_of, slot_ver, verdict_at}
use Rattle.gr_shard.specs.Calls.{given_with}
use Rattle.gr_shard.specs.Telling.{slot_there}

-- The bits of one member more: its own bit is there where the member passes the test.
bits_at : (test : ℕ → Bool) (n bit : ℕ) → bit ≡ 2 ^ n → member_bits test (n + 1) ≡ member_bits test n + (if test (n + 1) then bit else 0)
bits_at test n bit is = rw (add-one, is) refl

pub member_bits-set : (test : ℕ → Bool) (n to bit : ℕ) → to ≡ member_bits test n → bit ≡ 2 ^ n → test (n + 1) ≡ true
    → to + bit ≡ member_bits test (n + 1)
member_bits-set test n to bit so_far is set =
    rw so_far (sym (bits_at test n bit is ∙ ap (λ b. member_bits test n + (if b then bit else 0)) set))

pub member_bits-unset : (test : ℕ → Bool) (n to bit : ℕ) → to ≡ member_bits test n → bit ≡ 2 ^ n → test (n + 1) ≡ false
    → to ≡ member_bits test (n + 1)
member_bits-unset test n to bit so_far is unset = so_far
    ∙ sym (bits_at test n bit is ∙ ap (λ b. member_bits test n + (if b then bit else 0)) unset ∙ add-zero _)

pub power-one_more : (n : ℕ) → 2 ^ (n + 1) ≡ 2 ^ n + 2 ^ n
power-one_more n = rw add-one (omega arith)

pub slot_ver-slot_of : (stands : Option Change) (since : ℕ) → slot_ver (slot_of stands since) ≡ ver_of stands
slot_ver-slot_of None since = refl
slot_ver-slot_of (Some change) since = refl

pub value-slot_of : (stands : Option Change) (since : ℕ)
    → option_and_then (λ slot. put_value slot.kind) (slot_of stands since) ≡ option_and_then (λ change. put_value change.kind) stands
value-slot_of None since = refl
value-slot_of (Some change) since = refl

pub there-slot_of : (stands : Option Change) (since : ℕ) → slot_there (slot_of stands since) ≡ is_there stands
there-slot_of None since = refl
there-slot_of (Some change) since = refl

pub verdict-slot_of : (known : Bool) (stands : Option Change) (since : ℕ) (change : Change)
    → verdict_at known (slot_of stands since) change.stamp ≡ verdict_over known stands change
verdict-slot_of true stands since change = refl
verdict-slot_of false None since change = refl
verdict-slot_of false (Some before) since change = refl

-- a member's last region version, told by the vector
pub top_known : (member : ℕ) (past : List Deed) → top member (known past) ≡ top member (ids past)
top_known member past = same_top member (known past) (ids past) (known_ids (known past) past refl)

-- Where no number would pass its limit, this is made.
pub given-made : (id : Identity) (opening : ℕ) (past : List Deed) (key : List ℕ) (reply : Reply) (kind : Kind) (version : Version)
    → IsInRange (max (ver_of (standing key past)) (floor opening past) + 1) id.member (top id.member (ids past) + 1)
    → record { ver = max (ver_of (standing key past)) (floor opening past) + 1; member = id.member; rv = top id.member (ids past) + 1 }
    ≡ version
    → record { reply = reply; made = Some record { key = key; kind = kind; stamp = version }; to = recipients id past }
    ≡ given id opening past key reply (Some kind)
given-made id opening past key reply kind version range is =
    let ver = max (ver_of (standing key past)) (floor opening past) in
    let rv = top id.member (ids past) in
    let within : nat_le LIMIT (max (reach opening key past) (last_rv id past)) ≡ false = grind (arith, nat_tests) in
    let stamp : ℕ → ℕ → Version = λ v r. record { ver = v; member = id.member; rv = r } in
    let done : Version → Done = λ v. record {
      reply = reply;
      made = Some record { key = key; kind = kind; stamp = v };
      to =
          recipients id past;
    } in
    let same : version ≡ stamp (1 + ver) (1 + rv) = sym is ∙ ap (λ v. stamp v (rv + 1)) (add_comm ver 1)
    ∙ ap (stamp (1 + ver)) (add_comm rv 1) in
    rw within (ap done same)

-- Where a number would pass its limit, nothing is made.
pub given-spent : (id : Identity) (opening : ℕ) (past : List Deed) (key : List ℕ) (reply : Reply) (kind : Kind)
    → nat_le LIMIT (max (reach opening key past) (last_rv id past)) ≡ true
    → record { reply = Limit; made = None; to = 0 } ≡ given id opening past key reply (Some kind)
given-spent id opening past key reply kind spent = rw spent refl

-- what a change that was made is
pub record IsMade (id : Identity) (opening : ℕ) (past : List Deed) (key : List ℕ) (change : Change) : Type 0 where
  pub key_is : change.key ≡ key
  pub ver_is : change.stamp.ver ≡ 1 + max (ver_of (standing key past)) (floor opening past)
  pub member_is : change.stamp.member ≡ id.member
  pub rv_is : change.stamp.rv ≡ 1 + top id.member (ids past)
  pub below : max (reach opening key past) (last_rv id past) < LIMIT

made_by : (id : Identity) (opening : ℕ) (past : List Deed) (key : List ℕ) (reply : Reply) (kind : Kind) (change : Change) (spent : Bool)
    → nat_le LIMIT (max (reach opening key past) (last_rv id past)) ≡ spent
    → (let done : Done = if spent then record { reply = Limit; made = None; to = 0 }
    else record { reply = reply; made = Some (made_change id opening past key kind); to = recipients id past } in
    done.made ≡ Some change)
    → IsMade id opening past key change
made_by id opening past key reply kind change true spent is = cc
made_by id opening past key reply kind change false spent is =
    let same : made_change id opening past key kind ≡ change = cc in
    record {
      key_is = ap (λ c. c.key) (sym same);
      ver_is = ap (λ c. c.stamp.ver) (sym same);
      member_is = ap (λ c. c.stamp.member) (sym same);
      rv_is = ap (λ c. c.stamp.rv) (sym same);
      below = grind (arith, nat_tests);
    }

pub made_by_given : (id : Identity) (opening : ℕ) (past : List Deed) (key : List ℕ) (reply : Reply) (kind : Option Kind) (change : Change)
    → (given id opening past key reply kind).made ≡ Some change → IsMade id opening past key change
made_by_given id opening past key reply None change is = cc
made_by_given id opening past key reply (Some kind) change is = made_by id opening past key reply kind change _ refl is

-- The same of what the code has at hand: the version to pass, the count of changes, the copy of the key.
pub made_here : (id : Identity) (opening : ℕ) (past : List Deed) (key copy : List ℕ) (reply : Reply) (kind : Kind) (version : Version)
    (base made to : ℕ)
    → base ≡ max (ver_of (standing key past)) (floor opening past) → made ≡ top id.member (ids past) → to ≡ recipients id past → copy ≡ key
    → IsInRange (base + 1) id.member (made + 1) × (record { ver = base + 1; member = id.member; rv = made + 1 } ≡ version)
    → record { reply = reply; made = Some record { key = copy; kind = kind; stamp = version }; to = to }
    ≡ given id opening past key reply (Some kind)
made_here id opening past key copy reply kind version base made to base_is made_is to_is copy_is fits =
    let range : IsInRange (max (ver_of (standing key past)) (floor opening past) + 1) id.member (top id.member (ids past) + 1) =
    rw (← base_is, ← made_is) fits.0 in
    let stamp : ℕ → ℕ → Version = λ v r. record { ver = v + 1; member = id.member; rv = r + 1 } in
    let is : stamp (max (ver_of (standing key past)) (floor opening past)) (top id.member (ids past)) ≡ version =
    rw (← base_is, ← made_is) fits.1 in
    rw (to_is, copy_is) (given-made id opening past key reply kind version range is)

not_in_range : (id : Identity) (opening : ℕ) (past : List Deed) (key : List ℕ) (base made : ℕ) (spent : Bool)
    → base ≡ max (ver_of (standing key past)) (floor opening past) → made ≡ top id.member (ids past)
    → 1 ≤ id.member → id.member ≤ 8 → (IsInRange (base + 1) id.member (made + 1) → ⊥)
    → nat_le LIMIT (max (reach opening key past) (last_rv id past)) ≡ spent → spent ≡ true
not_in_range id opening past key base made true base_is made_is from to out is = refl
not_in_range id opening past key base made false base_is made_is from to out is =
    let below : max (reach opening key past) (last_rv id past) < LIMIT = grind (arith, nat_tests) in
    absurd (out record {
      ver_from = omega arith;
      ver_to = omega arith;
      member_from = from;
      member_to = to;
      rv_from = omega arith;
      rv_to =
          omega arith;
    })

pub spent_here : (id : Identity) (opening : ℕ) (past : List Deed) (key : List ℕ) (reply : Reply) (kind : Kind) (base made : ℕ)
    → base ≡ max (ver_of (standing key past)) (floor opening past) → made ≡ top id.member (ids past)
    → 1 ≤ id.member → id.member ≤ 8 → (IsInRange (base + 1) id.member (made + 1) → ⊥)
    → record { reply = Limit; made = None; to = 0 } ≡ given id opening past key reply (Some kind)
spent_here id opening past key reply kind base made base_is made_is from to out =
    given-spent id opening past key reply kind (not_in_range id opening past key base made _ base_is made_is from to out refl)

-- What a call gives, told by the stamp that there are numbers for.
pub stamp_here : (id : Identity) (opening : ℕ) (past : List Deed) (key : List ℕ) (base made : ℕ) (found : Option Version)
    → base ≡ max (ver_of (standing key past)) (floor opening past) → made ≡ top id.member (ids past)
    → 1 ≤ id.member → id.member ≤ 8
    → SomeIff found (IsInRange (base + 1) id.member (made + 1)) (record { ver = base + 1; member = id.member; rv = made + 1 })
    → (reply : Reply) (kind : Kind)
    → given_with (recipients id past) reply (option_map (λ stamp. record { key = key; kind = kind; stamp = stamp }) found)
    ≡ given id opening past key reply (Some kind)
stamp_here id opening past key base made None base_is made_is from to out reply kind =
    spent_here id opening past key reply kind base made base_is made_is from to out
stamp_here id opening past key base made (Some version) base_is made_is from to fits reply kind =
    made_here id opening past key key reply kind version base made (recipients id past) base_is made_is refl refl (fits.0, sym fits.1)

-- What a call made, where one made something.
pub made_by_call : (id : Identity) (opening : ℕ) (past : List Deed) (ask : Ask) (reply : Reply) (change : Change) (to : ℕ)
    → record { reply = reply; made = Some change; to = to } ≡ call_gives id opening past ask → IsMade id opening past (key_of ask) change
made_by_call id opening past ask reply change to gives = at_ready (is_ready id past) refl
  where
    done : Done
    done = record { reply = reply; made = Some change; to = to }

    at_ready : (b : Bool) → is_ready id past ≡ b → IsMade id opening past (key_of ask) change
    at_ready true ready =
        let answer = told ask (at_key (there (key_of ask) past) (present (key_of ask) past)) in
        let is : done ≡ ready_gives id opening past ask =
        gives ∙ ap (λ b. if b then ready_gives id opening past ask else nothing_made NotReady) ready in
        made_by_given id opening past (key_of ask) answer.reply answer.change change (ap (λ d. d.made) (sym is))
    at_ready false ready =
        absurd (let is : Some change ≡ None =
        ap (λ d. d.made) (gives ∙ ap (λ b. if b then ready_gives id opening past ask else nothing_made NotReady) ready) in cc)
