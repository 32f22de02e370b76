-- What a device's acts are: a turn made each of them after the ones before it, and this is what it had tested.
use Rattle.std.proofs.Common.{◌≡◌, ℕ, ◌+◌, ◌*◌, ◌<◌, ◌≤◌, Bool, true, Option, None, Some, List, [], ◌∷◌}
use Rattle.vd_num.specs.Number.{pages_of, is_within}
use Rattle.vd_model.specs.declared.queue.RingPlace.{RingPlace}
use Rattle.vd_model.specs.Setting.{Setting, bounce_size}
use Rattle.vd_model.specs.Acts.{Act, Node, Driver, Queue, Streaming, Request, AddedChain, Area_made, Registered, Mapped, Unmapped, Synced_device, Synced_cpu, Region_made, Driver_put, Ring_made, Chain_added}
use Rattle.vd_model.specs.Live.{buffers, maps, live_mappings, registration_of}
use Rattle.vd_model.specs.Puts.{is_to_device, is_from_device}
use Rattle.vd_model.specs.Queues.{chains_out}
use Rattle.vd_laws.specs.Among.{Among}
use Rattle.vd_laws.specs.Runs.{IsAddressed}

-- the slot is one of the mapping's
abbrev pub covers : Streaming → ℕ → Bool
covers m slot = is_within m.slot (pages_of m.want.len) slot

-- a mapping that can be made
pub record IsFresh (x : Setting) (acts : List Act) (m : Streaming) : Type 0 where
  pub number : m.number ≡ maps acts
  pub buffer : m.want.buffer < buffers acts
  pub fits : m.slot + pages_of m.want.len ≤ x.bounce
  pub apart : (l : Streaming) → Among l (live_mappings acts) → (slot : ℕ) → covers m slot ≡ true → covers l slot ≡ true → ⊥

-- a ring whose parts lie past the bounce memory, and the part of the driver in the device's memory
pub record IsHigh (x : Setting) (place : RingPlace) : Type 0 where
  pub desc : bounce_size x ≤ place.desc
  pub driver : bounce_size x ≤ place.driver
  pub ends : place.driver + 6 + 2 * place.size ≤ 4096 * x.iova
  pub sized : 0 < place.size

-- the mappings of a request
abbrev pub maps_of : Option Request → List ℕ
maps_of None = []
maps_of (Some r) = r.maps

abbrev pub Distinct : List ℕ → Type 0
Distinct [] = Unit {0}
Distinct (n ∷ ns) = (Among n ns → ⊥) × Distinct ns

-- a chain whose request has mappings of its own
pub record IsNewChain (acts : List Act) (q : ℕ) (chain : AddedChain) : Type 0 where
  pub distinct : Distinct (maps_of chain.request)
  pub made : (n : ℕ) → Among n (maps_of chain.request) → n < maps acts
  pub apart : (c : AddedChain) → Among c (chains_out acts q) → (n : ℕ) → Among n (maps_of c.request) → Among n (maps_of chain.request) → ⊥

abbrev pub Admits : Setting → List Act → Act → Type 0
Admits x acts (Driver (Mapped m)) = IsFresh x acts m
Admits x acts (Driver (Unmapped m)) = Among m (live_mappings acts)
Admits x acts (Driver (Synced_device m)) = Among m (live_mappings acts) × (is_to_device m.want.dir ≡ true)
Admits x acts (Driver (Synced_cpu m)) = Among m (live_mappings acts) × (is_from_device m.want.dir ≡ true)
Admits x acts (Driver (Region_made r)) = x.bounce ≤ r.slot
Admits x acts (Driver (Driver_put at bytes)) = IsAddressed x → bounce_size x ≤ at
Admits x acts (Node (Area_made len)) = registration_of acts ≡ None
Admits x acts (Node (Registered base size)) = (registration_of acts ≡ None) × (size ≡ bounce_size x) × (0 < x.per_page)
Admits x acts (Queue (Ring_made q place region)) = IsHigh x place
Admits x acts (Queue (Chain_added q chain)) = IsNewChain acts q chain
Admits x acts _ = Unit {0}

abbrev pub Legal : Setting → List Act → Type 0
Legal x [] = Unit {0}
Legal x (act ∷ acts) = Admits x acts act × Legal x acts
