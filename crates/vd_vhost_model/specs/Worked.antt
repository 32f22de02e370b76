-- Worked sessions: each line and its reply, as the definitions compute them.
use Rattle.std.specs.Prelude.{ℕ, ◌≡◌, List, [], ◌∷◌, ◌++◌, codes, flat_map}
use Rattle.vd_vhost_model.specs.VhostOut.{vhost_output}

-- reply lines, each with its line feed
abbrev pub with_ends : List (List ℕ) → List ℕ
with_ends replies = flat_map (λ reply. reply ++ 10 ∷ []) replies

-- the daemon accesses 8 of 16 bytes through two regions that touch, until the table fails
abbrev pub TableWithPermissions : Type 0
TableWithPermissions = vhost_output 16 []
    (codes "poke 0 000102030405060708090a0b0c0d0e0f" ∷ codes "setmap 0x1000:0x1003:4:1 0x1004:0x1007:8:2" ∷ codes "recv" ∷ codes "load 0x1000 4" ∷ codes "load 0x1002 4" ∷ codes "store 0x1004 aabb" ∷ codes "store 0x1003 aa" ∷ codes "load 0x2000 1" ∷ codes "peek 8 2" ∷ codes "answer 0 1" ∷ codes "take 0" ∷ codes "load 0x1000 1" ∷ [])
    ≡ with_ends (codes "ok" ∷ codes "ok id 0" ∷ codes "ok id 0 iotlb 0x0 0xffffffffffffffff" ∷ codes "ok 04050607" ∷ codes "perm 0x1004" ∷ codes "ok" ∷ codes "perm 0x1003" ∷ codes "bus 0x2000" ∷ codes "ok aabb" ∷ codes "ok" ∷ codes "failed reply 1" ∷ codes "bus 0x1000" ∷ [])

-- two regions that meet and one past the end are refused, and a timeout breaks the bus
abbrev pub TimeoutBreaks : Type 0
TimeoutBreaks = vhost_output 16 []
    (codes "setmap 0:9:0:3 9:12:0:3" ∷ codes "setmap 0:16:0:3" ∷ codes "setmap 0:15:0:3" ∷ codes "tick 30" ∷ codes "take 0" ∷ codes "setmap" ∷ [])
    ≡ with_ends (codes "err 22" ∷ codes "err 22" ∷ codes "ok id 0" ∷ codes "ok 30" ∷ codes "failed timeout 30 30" ∷ codes "err 5" ∷ [])
