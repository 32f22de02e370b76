-- The front of a request has 17 bytes.
use Rattle.std.proofs.Common.{◌≡◌, ℕ, length, refl}
use Rattle.blk_proto.specs.Headers.{header_bytes}
use Rattle.blk_driver.specs.declared.ask.Ask.{Ask}
use Rattle.blk_driver.specs.Asked.{front_bytes}

pub front_len : (ask : Ask) (tag : ℕ) → length (front_bytes ask tag) ≡ 17
unfolding header_bytes
front_len ask tag = refl
