-- The bytes that stay while acts are done elsewhere.
use Rattle.std.specs.Prelude.{ℕ, ◌≤◌, List, [], ◌∷◌, ◌++◌, length, true, false, ◌≡◌, ◌⊎◌}
use Rattle.vd_num.specs.Number.{is_within}
use Rattle.vd_model.specs.Setting.{Setting, bounce_size}
use Rattle.vd_model.specs.Acts.{Act, Node, Driver, Streaming, Daemon_put, Area_put, Unmapped, Synced_device, Region_made, Driver_put}
use Rattle.vd_model.specs.Live.{live_mappings, region_covers, maps_address}
use Rattle.vd_model.specs.Puts.{shown_put}
use Rattle.vd_model.specs.History.{History}
use Rattle.vd_laws.specs.Among.{Among}
use Rattle.vd_laws.specs.Runs.{IsMoment, IsAddressed, IsWhole}

-- the act puts nothing at the address, and takes no mapping away that has it
abbrev pub Misses : Act → ℕ → Type 0
Misses (Driver (Driver_put at bytes)) a = is_within at (length bytes) a ≡ false
Misses (Node (Daemon_put at bytes)) a = is_within at (length bytes) a ≡ false
Misses (Driver (Region_made r)) a = region_covers r a ≡ false
Misses (Driver (Unmapped m)) a = maps_address m a ≡ false
Misses (Driver (Synced_device m)) a = ⊥
Misses (Node (Area_put at bytes)) a = ⊥
Misses _ a = Unit {0}

abbrev pub AllMiss : List Act → ℕ → Type 0
AllMiss [] a = Unit {0}
AllMiss (act ∷ acts) a = Misses act a × AllMiss acts a

-- an address past bounce memory, or one of a live mapping
abbrev pub IsFirm : Setting → List Act → ℕ → Type 0
IsFirm x acts a = (bounce_size x ≤ a) ⊎ ((m : Streaming) × Among m (live_mappings acts) × (maps_address m a ≡ true))

-- at each moment of a history a firm address shows what it showed before acts that miss it
abbrev pub FirmLaw : Setting → History → Type 0
FirmLaw x h = IsAddressed x → IsWhole x → (d : List ℕ) (new acts : List Act) → IsMoment x h d (new ++ acts)
    → (a : ℕ) → AllMiss new a → IsFirm x acts a → shown_put x.per_page (new ++ acts) a ≡ shown_put x.per_page acts a
