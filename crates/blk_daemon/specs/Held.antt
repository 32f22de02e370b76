-- What a block daemon keeps of a queue.
use Rattle.std.specs.Prelude.{ℕ, ◌≡◌, ◌<◌, ◌≤◌, ◌-◌, List, [], length, take, drop, replicate, slice_index, Bool, true, false, Option, Some, None}
use Rattle.vd_model.specs.declared.parts.Chain.{Chain}
use Rattle.vd_model.specs.Trace.{readable_len, writable_len}
use Rattle.vd_model.specs.Queues.{Execution}
use Rattle.vd_model.specs.DaemonTurns.{Hand}
use Rattle.vr_device.specs.Side.{Side}

-- the request in hand, and how it ended, if it was executed
pub record InHand : Type 0 where
  pub hand : Hand
  pub outcome : Option Execution

-- the device's name, the side of its ring once it has a position, and the request in hand, if one is
pub record Held : Type 0 where
  pub name : List ℕ
  pub side : Option Side
  pub request : Option InHand

-- no position, and nothing in hand
abbrev pub idle : List ℕ → Held
idle name = record { name = name; side = None; request = None }

-- the chain that was fetched
abbrev pub chain_in : Hand → Chain
chain_in h = record { head = h.head; parts = h.parts; readable = length h.bytes; writable = h.writable }

-- the bytes after the header, none where nothing is in hand
abbrev pub payload_in : Option InHand → List ℕ
payload_in None = []
payload_in (Some r) = drop 16 r.hand.bytes

-- what is in hand, unless it was executed
abbrev pub unless_executed : Hand → Option Execution → Option Hand
unless_executed h None = Some h
unless_executed h (Some end) = None

abbrev pub to_execute : Option InHand → Option Hand
to_execute None = None
to_execute (Some r) = unless_executed r.hand r.outcome

-- THE INSIDE of a request: its chain, the bytes that the device reads, and those that it writes with the status last

abbrev pub hand_with : Chain → List ℕ → Hand
hand_with chain bytes = record { head = chain.head; parts = chain.parts; writable = chain.writable; bytes = bytes }

-- the status is the last byte
abbrev pub outcome_in : List ℕ → Execution
outcome_in answer = record { status = slice_index answer (length answer - 1); bytes = take (length answer - 1) answer }

abbrev pub outcome_of : Bool → List ℕ → Option Execution
outcome_of false answer = None
outcome_of true answer = Some (outcome_in answer)

-- the lists have the chain's lengths, which are those of a request; nothing is written before it was executed
pub record IsSound (chain : Chain) (bytes answer : List ℕ) (is_executed : Bool) : Type 0 where
  pub read : length bytes ≡ chain.readable
  pub written : length answer ≡ chain.writable
  pub readable : chain.readable ≡ readable_len chain.parts
  pub writable : chain.writable ≡ writable_len chain.parts
  pub has_header : 16 ≤ length bytes
  pub has_status : 0 < length answer
  pub short_read : length bytes ≤ 16777216
  pub short_write : length answer ≤ 16777216
  pub blank : is_executed ≡ false → answer ≡ replicate (length answer) 0
