-- The histories of all members at one shard, each listed the newest deed first.
use Rattle.std.specs.Prelude.{◌≡◌, ◌⊎◌, ◌∷◌, [], ℕ, List}
use Rattle.gr_history.specs.declared.identity.Identity.{Identity}
use Rattle.gr_history.specs.declared.deed.Deed.{Deed}
pub use Rattle.gr_history.specs.Places.{at_place}

-- x is one of these
abbrev pub Among : {A : Type 0} → A → List A → Type 0
Among x [] = ⊥
Among x (first ∷ rest) = (x ≡ first) ⊎ Among x rest

-- q is h at an earlier place
abbrev pub Older : List Deed → List Deed → Type 0
Older q [] = q ≡ []
Older q (deed ∷ past) = (q ≡ deed ∷ past) ⊎ Older q past

-- all members' histories of one shard; none is outside 1 to `members`
pub record Grid : Type 0 where
  pub members : ℕ
  pub founders : ℕ
  pub shard : ℕ
  pub shards : ℕ
  pub opening : ℕ → ℕ
  pub history : ℕ → List Deed

-- whose history it is
abbrev pub identity : Grid → ℕ → Identity
identity grid member = record {
  member = member;
  members = grid.members;
  founders = grid.founders;
  shard = grid.shard;
  shards = grid.shards;
}
