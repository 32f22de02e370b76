-- What a daemon sees of a domain's memory, and what the driver sees of its rings: maps from address to byte.
use Rattle.std.specs.Prelude.{◌-◌, ◌^◌, ◌&&◌, nat_lt, if◌then◌else◌, Some, None, List}
use Rattle.std.specs.List.{list_any}
use Rattle.vd_pool.specs.Memory.{PoolMemory as Pool}
use Rattle.vd_bounce.specs.Bounce.{Iova, bounce_len, value}
use Rattle.vd_model.specs.Memory.{Memory}
use Rattle.vd_model.specs.Setting.{Setting}
use Rattle.vd_model.specs.Acts.{Act}
use Rattle.vd_model.specs.Live.{region_covers}
use Rattle.vd_model.specs.Puts.{shown_put}
use Rattle.vd_domain.specs.Reached.{is_reached, byte_at}
use Rattle.vd_domain.specs.Handed.{is_coherent}
use Rattle.vd_domain.specs.Held.{Held}

-- the bytes that can be accessed, over the pool that the frames were taken from; no address is above 2 ^ 32
abbrev pub daemon_map : Held → Pool → Memory
daemon_map h m a = if nat_lt a (2 ^ 32) && is_reached h.bounce h.shared a then Some (byte_at h.bounce m h.shared h.store a) else None

-- those of live coherent regions alone
abbrev pub ring_map : Held → Memory
ring_map h a =
    if nat_lt a (2 ^ 32) && list_any (λ r. region_covers r a) h.regions then Some (value h.shared h.store (Iova (a - bounce_len h.bounce))) else None

-- the same, by the acts
abbrev pub ring_memory : Setting → List Act → Memory
ring_memory x acts a = if is_coherent acts a then Some (shown_put x.per_page acts a).byte else None
