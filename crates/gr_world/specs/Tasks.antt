-- What a task does at a shard.
use Rattle.std.specs.Prelude.{◌≡◌, ◌≤◌, reverse}
use Rattle.gr_value.specs.Shard.{shard_of}
use Rattle.gr_history.specs.Asks.{key_of}
use Rattle.gr_history.specs.declared.image.Gift.{Gift}
use Rattle.gr_history.specs.declared.image.What.{What}
use Rattle.gr_history.specs.Gifts.{IsGiftOf}
use Rattle.gr_history.specs.Room.{HasNoRoom}
use Rattle.gr_shard.specs.Merges.{IsGiftFor, IsImageFor}
use Rattle.gr_shard.specs.View.{Account}
use Rattle.gr_world.specs.declared.task.Task.{Task}
use Rattle.gr_world.specs.declared.task.Task.TheVariants as task
use Rattle.gr_world.specs.Doings.{Doing, Calls, Takes, Gives, Merges, Reports, Hears, Sweeps, Asks}

abbrev pub doing_of : Task → Doing
doing_of (task.Take change) = Takes change.now
doing_of (task.Merge image) = Merges image.now
doing_of task.Report = Reports
doing_of (task.Hear report) = Hears report.now
doing_of (task.Sweep moment) = Sweeps moment

-- A change belongs to the shard of its key, an image to that which it is of, and a gift goes to a member.
abbrev pub BelongsTo : Account → Doing → Type 0
BelongsTo account (Calls client number ask) = shard_of (key_of ask) account.id.shards ≡ account.id.shard
BelongsTo account (Takes change) = shard_of change.key account.id.shards ≡ account.id.shard
BelongsTo account (Gives to what) = (1 ≤ to) × (to ≤ account.id.members)
BelongsTo account (Merges image) = IsImageFor account.id image
BelongsTo account Reports = Unit {0}
BelongsTo account (Hears report) = Unit {0}
BelongsTo account (Sweeps moment) = Unit {0}
BelongsTo account (Asks client number ask) = Unit {0}

-- what a shard gives: the image, with no room to spare, or the own changes, which fit a shard of its number
abbrev pub IsGiven : Account → What → Gift → Type 0
IsGiven account what gift =
    IsGiftOf account.id.member account.opening (reverse account.deeds) what gift × IsGiftFor account.id gift × HasNoRoom gift
