-- What a device is made with.
use Rattle.std.specs.Prelude.{ℕ, ◌/◌, ◌%◌, ◌^◌, ◌==◌, Bool, List}

-- the features that it offers, its number of queues, and the bytes of its config space
pub record Creation : Type 0 where
  pub features : ℕ
  pub queues : ℕ
  pub config : List ℕ

-- the feature of this bit is among them
abbrev pub has_feature : ℕ → ℕ → Bool
has_feature features bit = (features / 2 ^ bit) % 2 == 1
