-- The request in hand is the one that is due.
use Rattle.std.specs.Prelude.{ℕ, ◌≡◌, List, drop, Option, Some, None}
use Rattle.vd_num.specs.Field.{field_at}
use Rattle.vd_model.specs.DaemonTurns.{Hand}
use Rattle.blk_daemon.specs.Held.{InHand}
use Rattle.sh_workload.specs.declared.requests.WorkRequest.{WorkRequest}
use Rattle.sh_workload.specs.Requests.{answer_len}

-- what was fetched is the request: its header, the reserved word aside, its bytes, and how many the device writes
pub record IsHand (r : WorkRequest) (h : Hand) : Type 0 where
  pub kind : field_at 4 h.bytes 0 ≡ r.kind
  pub sector : field_at 8 h.bytes 8 ≡ r.sector
  pub payload : drop 16 h.bytes ≡ r.bytes
  pub writable : h.writable ≡ answer_len r

abbrev pub IsInHand : WorkRequest → Option InHand → Type 0
IsInHand r None = ⊥
IsInHand r (Some held) = IsHand r held.hand
