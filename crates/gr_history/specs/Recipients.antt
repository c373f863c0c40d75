-- Which members are ready, and whom a change goes to.
use Rattle.std.specs.Prelude.{ℕ, zero, suc, ◌+◌, ◌^◌, ◌≤◌, ◌<◌, List, Bool, true, false, ◌&&◌, ◌||◌, ◌==◌, not, nat_le, if◌then◌else◌}
use Rattle.std.specs.Int.{bit_at}
use Rattle.std.specs.List.{list_any}
use Rattle.gr_history.specs.declared.identity.Identity.{Identity}
use Rattle.gr_history.specs.declared.deed.Deed.{Deed}
use Rattle.gr_history.specs.declared.deed.Deed.TheVariants.{Call, Asked, Taken, Gave, Imaged, Reported, Heard, Swept}

abbrev pub is_image : Deed → Bool
is_image (Imaged image) = true
is_image _ = false

-- whether an image was merged
abbrev pub has_image : List Deed → Bool
has_image past = list_any is_image past

-- Founders are ready from the start, others once they have merged an image.
abbrev pub is_ready : Identity → List Deed → Bool
is_ready id past = nat_le id.member id.founders || has_image past

abbrev pub is_gift_to : ℕ → Deed → Bool
is_gift_to member (Gave to what) = to == member
is_gift_to member _ = false

-- whether the member was given something
abbrev pub gave_to : ℕ → List Deed → Bool
gave_to member past = list_any (is_gift_to member) past

-- A change goes to the founders and to the members that were given something, but not to its maker.
abbrev pub is_recipient : Identity → List Deed → ℕ → Bool
is_recipient id past member = (nat_le member id.founders || gave_to member past) && not (member == id.member)

-- whether the member is among these, with bit m - 1 for member m
abbrev pub is_in_bits : ℕ → ℕ → Bool
is_in_bits zero bits = false
is_in_bits (suc below) bits = bit_at bits below == 1

-- the members from 1 to n that pass the test, with bit m - 1 for member m
abbrev pub member_bits : (ℕ → Bool) → ℕ → ℕ
member_bits test zero = 0
member_bits test (suc n) = member_bits test n + (if test (suc n) then 2 ^ n else 0)

unfoldable pub recipients : Identity → List Deed → ℕ
recipients id past = member_bits (is_recipient id past) 8

-- A deed names members of 1 to `members` alone: a gift goes to one of them, and a change to some of them.
abbrev pub NamesMembers : Identity → Deed → Type 0
NamesMembers id (Call client to seq ask reply made) = to < 2 ^ id.members
NamesMembers id (Asked client seq ask reply) = Unit {0}
NamesMembers id (Taken change verdict) = Unit {0}
NamesMembers id (Gave to what) = (1 ≤ to) × (to ≤ id.members)
NamesMembers id (Imaged image) = Unit {0}
NamesMembers id (Reported report) = Unit {0}
NamesMembers id (Heard report) = Unit {0}
NamesMembers id (Swept moment expired) = Unit {0}
