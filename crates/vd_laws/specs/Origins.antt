-- Where a byte that a daemon can read came from.
use Rattle.std.specs.Prelude.{ℕ, ◌+◌, ◌-◌, List, [], ◌∷◌, ◌++◌, Bool, true, false, ◌≡◌, Option, Some, None, ◌⊎◌}
use Rattle.vd_model.specs.declared.memory.Origin.{Origin}
use Rattle.vd_model.specs.declared.memory.Origin.TheVariants.{Zero, Daemon, Handed}
use Rattle.vd_model.specs.Acts.{Act, Node, Driver, Streaming, Daemon_put, Area_put, Registered, Mapped, Synced_device, Driver_put}
use Rattle.vd_model.specs.Live.{registration_of, iova_of, maps_address}
use Rattle.vd_model.specs.Puts.{Put, byte_in, is_to_device, area_address, ram}

-- ---- what a driver hands

-- the address is one of mapping n, which carries bytes to the device, and the byte was then that byte of the mapped
-- buffer which stands for the address
pub record IsCopied (g : ℕ) (acts : List Act) (m : Streaming) (n byte at : ℕ) : Type 0 where
  pub number : m.number ≡ n
  pub to_device : is_to_device m.want.dir ≡ true
  pub within : maps_address m at ≡ true
  pub was : byte ≡ ram g acts m.want.buffer (m.want.offset + (at - iova_of m))

-- the act hands the byte at an address: it is the map of this mapping or its sync to the device, or with no mapping a
-- put of the driver in a coherent region
abbrev pub Hands : ℕ → List Act → Option ℕ → ℕ → ℕ → Act → Type 0
Hands g acts (Some n) byte at (Driver (Mapped m)) = IsCopied g acts m n byte at
Hands g acts (Some n) byte at (Driver (Synced_device m)) = IsCopied g acts m n byte at
Hands g acts None byte at (Driver (Driver_put from bytes)) = byte_in bytes from at ≡ Some byte
Hands g acts mapping byte at _ = ⊥

-- a registration is among the acts
abbrev pub has_registration : List Act → Bool
has_registration [] = false
has_registration (Node (Registered base size) ∷ acts) = true
has_registration (_ ∷ acts) = has_registration acts

-- an act handed the byte at an address, which passes where no registration was made since
pub record IsHanded (g : ℕ) (acts : List Act) (Passes : ℕ → Type 0) (byte : ℕ) (mapping : Option ℕ) : Type 0 where
  pub later : List Act
  pub act : Act
  pub earlier : List Act
  pub at : ℕ
  pub split : acts ≡ later ++ act ∷ earlier
  pub hands : Hands g earlier mapping byte at act
  pub stays : has_registration later ≡ false → Passes at

-- ---- a daemon's writes

-- the act is a daemon's write of the byte, by a store at this address or into the area at this index
abbrev pub Writes : ℕ → ℕ → Act → Type 0
Writes byte at (Node (Daemon_put from bytes)) = byte_in bytes from at ≡ Some byte
Writes byte at (Node (Area_put from bytes)) = byte_in bytes from at ≡ Some byte
Writes byte at _ = ⊥

-- where it was written passes: an address of a store, or an index of the area after some acts
abbrev pub PassesWrite : (ℕ → Type 0) → (List Act → ℕ → Type 0) → List Act → ℕ → Act → Type 0
PassesWrite Passes Indexes acts at (Node (Daemon_put from bytes)) = Passes at
PassesWrite Passes Indexes acts at (Node (Area_put from bytes)) = Indexes acts at
PassesWrite Passes Indexes acts at _ = ⊥

-- an act of a daemon wrote the byte, at a place that passes where no registration was made since
pub record IsWritten (acts : List Act) (Passes : ℕ → Type 0) (Indexes : List Act → ℕ → Type 0) (byte : ℕ) : Type 0 where
  pub later : List Act
  pub act : Act
  pub earlier : List Act
  pub at : ℕ
  pub split : acts ≡ later ++ act ∷ earlier
  pub writes : Writes byte at act
  pub stays : has_registration later ≡ false → PassesWrite Passes Indexes earlier at act

-- ---- origins

-- a byte of this origin is a zero, a daemon wrote it, or a driver handed it
abbrev pub ComesFrom : ℕ → List Act → (ℕ → Type 0) → (List Act → ℕ → Type 0) → ℕ → Origin → Type 0
ComesFrom g acts Passes Indexes byte Zero = byte ≡ 0
ComesFrom g acts Passes Indexes byte Daemon = IsWritten acts Passes Indexes byte
ComesFrom g acts Passes Indexes byte (Handed mapping) = IsHanded g acts Passes byte mapping

-- after some acts the cell of the address is this byte of the area
abbrev pub IsIndexOf : ℕ → List Act → ℕ → Type 0
IsIndexOf a acts o = area_address (registration_of acts) o ≡ Some a

-- what stands at an address came from where its origin says, and at this address where no registration was made since
abbrev pub Comes : ℕ → List Act → ℕ → Put → Type 0
Comes g acts a put = ComesFrom g acts (λ at. at ≡ a) (IsIndexOf a) put.byte put.origin

-- the byte is a zero, a daemon wrote it, or the device's own driver handed it, at a place that passes where no
-- registration was made since
abbrev pub IsReadable : ℕ → List Act → (ℕ → Type 0) → (List Act → ℕ → Type 0) → ℕ → Type 0
IsReadable g acts Passes Indexes byte = (byte ≡ 0) ⊎ IsWritten acts Passes Indexes byte ⊎ ((mapping : Option ℕ) × IsHanded g acts Passes byte mapping)

-- it was put at this very address, or in its cell
abbrev pub IsReadableAt : ℕ → List Act → ℕ → ℕ → Type 0
IsReadableAt g acts a byte = IsReadable g acts (λ at. at ≡ a) (IsIndexOf a) byte

-- the address whose cell is byte o of the area, where there is one
abbrev pub IsAddressOf : List Act → ℕ → ℕ → Type 0
IsAddressOf acts o at = (a : ℕ) → area_address (registration_of acts) o ≡ Some a → at ≡ a

-- it was put into this very byte of the area, or at the address whose cell that is
abbrev pub IsReadableIn : ℕ → List Act → ℕ → ℕ → Type 0
IsReadableIn g acts o byte = IsReadable g acts (IsAddressOf acts o) (λ earlier at. at ≡ o) byte
