-- What can be accessed in bounce memory and in the coherent memory behind it, and the bytes there.
use Rattle.std.specs.Prelude.{ℕ, ◌-◌, ◌/◌, ◌^◌, ◌≤◌, Bool, nat_lt, if◌then◌else◌}
use Rattle.vd_pool.specs.Memory.{PoolMemory}
use Rattle.vd_bounce.specs.Bounce.{Bounce, bounce_len, page_size, value, home_place, is_page_present}

abbrev pub IsSmall : Bounce → Type 0
IsSmall b = bounce_len b ≤ 2 ^ 48

-- an address that lies in a present page of either
abbrev pub is_reached : Bounce → Bounce → ℕ → Bool
is_reached b s a = if nat_lt a (bounce_len b) then is_page_present b (a / page_size b) else is_page_present s ((a - bounce_len b) / page_size s)

-- the byte at such an address, over the pools that their frames were taken from
abbrev pub byte_at : Bounce → PoolMemory → Bounce → PoolMemory → ℕ → ℕ
byte_at b m s n a = if nat_lt a (bounce_len b) then value b m (home_place b a) else value s n (home_place s (a - bounce_len b))
