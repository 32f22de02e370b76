-- What a queue's driver has: the region of its ring, and what its pending requests made.
use Rattle.std.specs.Prelude.{ℕ, ◌==◌, Bool, false, Option, Some, None}
use Rattle.std.specs.List.{list_any}
use Rattle.vd_model.specs.Acts.{Request}
use Rattle.blk_driver.specs.Driver.{request_in}
use Rattle.vd_request_lines.specs.declared.held.HeldDriver.{HeldDriver}
use Rattle.vd_request_lines.specs.Stands.{pending_held}

-- its ring lies in this region
abbrev pub is_in : ℕ → Option HeldDriver → Bool
is_in region (Some held) = held.region == region
is_in region None = false

-- a pending request of it passes
abbrev pub owns : (Option Request → Bool) → Option HeldDriver → Bool
owns passes kept = list_any (λ p. passes (Some (request_in p))) (pending_held kept)
