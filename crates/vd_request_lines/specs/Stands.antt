-- What is kept of a queue stands for the acts of a device.
use Rattle.std.specs.Prelude.{ℕ, ◌≡◌, ◌==◌, List, [], ◌∷◌, true, Option, Some, None, IfSome, find}
use Rattle.std.specs.Option.{option_map, option_map_or}
use Rattle.vr_driver.specs.Side.{DriverSide}
use Rattle.vd_model.specs.Acts.{Act, AddedChain, Request}
use Rattle.vd_model.specs.Queues.{chains_out, published_chains_out}
use Rattle.vd_queue_sides.specs.Chains.{is_head}
use Rattle.vd_queue_sides.specs.Chains as sides
use Rattle.vd_rings.specs.declared.held.HeldRing.{HeldRing}
use Rattle.vd_rings.specs.Stands.{RingLies}
use Rattle.blk_driver.specs.Driver.{request_in}
use Rattle.blk_driver.specs.declared.pending.Pending.{Pending}
use Rattle.vd_request_lines.specs.declared.held.HeldDriver.{HeldDriver}

-- the ring alone
abbrev pub ring_held : HeldDriver → HeldRing
ring_held held = record { region = held.region; ring = held.driver.ring }

abbrev pub ring_in : Option HeldDriver → Option HeldRing
ring_in kept = option_map ring_held kept

abbrev pub side_held : HeldDriver → ℕ × DriverSide
side_held held = (held.region, held.driver.ring)

abbrev pub pending_held : Option HeldDriver → List Pending
pending_held kept = option_map_or (λ held. held.driver.pending) kept []

-- the chain of a head
abbrev pub chain_at : List AddedChain → ℕ → Option AddedChain
chain_at chains id = find (λ chain. chain.head == id) chains

-- the next pending request is the chain's, if it has one
abbrev pub IsNext : Option Request → ℕ → List Pending → (List Pending → Type 0) → Type 0
IsNext None head ps Rest = Rest ps
IsNext (Some r) head [] Rest = ⊥
IsNext (Some r) head (p ∷ ps) Rest = (p.head ≡ head) × (request_in p ≡ r) × Rest ps

-- the pending requests are those of the chains that are out, in their order
abbrev pub ArePending : List AddedChain → List Pending → Type 0
ArePending [] ps = ps ≡ []
ArePending (chain ∷ chains) ps = IsNext chain.request chain.head ps (ArePending chains)

-- what is kept of a queue is its ring, if it has one, and its pending requests
pub record RequestsStand (acts : List Act) (q : ℕ) (kept : Option HeldDriver) : Type 0 where
  pub side : sides.RingStands acts q (option_map side_held kept)
  pub lies : IfSome kept (λ held. RingLies acts (ring_held held))
  pub pending : ArePending (chains_out acts q) (pending_held kept)
  -- what was published is out
  pub seen : (id : ℕ) → is_head (published_chains_out acts q) id ≡ true → chain_at (published_chains_out acts q) id ≡ chain_at (chains_out acts q) id
