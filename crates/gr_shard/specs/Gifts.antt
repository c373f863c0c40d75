-- Whom a change goes to, by what is kept of gifts.
use Rattle.std.specs.Prelude.{ℕ, ◌-◌, ◌^◌, ◌==◌, if◌then◌else◌, bit_or}
use Rattle.gr_history.specs.declared.identity.Identity.{Identity}

-- the members that a change goes to, with bit m - 1 for member m, once this one was given something too
abbrev pub with_recipient : Identity → ℕ → ℕ → ℕ
with_recipient id other to = if other == id.member then to else bit_or to (2 ^ (other - 1))
