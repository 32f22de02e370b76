-- How many positions of a block daemon ended, from what a device counts.
use Rattle.std.proofs.Common.{◌≡◌, ℕ, ◌+◌, ◌*◌, ◌-◌, ◌<◌, ◌≤◌, ◌^◌, ◌%◌, Bool, true, false, refl, subst, not, nat_lt, arith, List, Some, All, true≢false}
use Rattle.std.specs.Prelude.{slice_get}
use Rattle.std.proofs.lemmas.Bool.Decides.{nat_tests}
use Rattle.std.proofs.lemmas.List.Elements.{All-get_or}
use Rattle.std.proofs.lemmas.Option.{slice_get_within, get_or_from_slice_get}
use Rattle.vd_pool.specs.Memory.{PoolMemory as Pool}
use Rattle.vd_model.specs.Setting.{Setting}
use Rattle.vd_model.specs.Creation.{Creation}
use Rattle.vd_model.specs.Acts.{Act, state_acts}
use Rattle.vd_model.specs.State.{is_queue}
use Rattle.vd_model.specs.BusTurns.{shape_of, is_missing}
use Rattle.vd_state.specs.declared.queue.Queue.{Queue}
use Rattle.vd_state.specs.Stands.{queue_of, generation_of}
use Rattle.vd_control_path.specs.Ends.{ends_of}
use Rattle.vd_instance.specs.declared.instance.Instance.{Instance}
use Rattle.vd_instance.specs.Stands.{Stands, IsWithin}

-- a queue that isn't missing is there
pub is_there_by : (made : Creation) (q : ℕ) → is_missing made q ≡ false → is_queue (shape_of made) q ≡ true
is_there_by made q e = by (is_queue (shape_of made) q) e where
  by : (t : Bool) → not t ≡ false → t ≡ true
  by true e = refl
  by false e = absurd (true≢false e)

generation_small : (most : ℕ) (queues : List Queue) (q : ℕ) (k : Queue) → slice_get queues q ≡ Some k → All (λ (d : Queue). d.generation ≤ most) queues → k.generation ≤ most
generation_small most queues q k there all =
    subst (λ (d : Queue). d.generation ≤ most) (get_or_from_slice_get queues q k k there)
    (All-get_or (λ (d : Queue). d.generation ≤ most) queues q k (slice_get_within queues q k there) all)

below_by : (q n : ℕ) → nat_lt q n ≡ true → q < n
below_by q n e = grind (arith, nat_tests, e)

pub ends_sum : {x : Setting} {made : Creation} {acts : List Act} {i : Instance} {m : Pool} {generation total : ℕ} → Stands x made acts i m → (q : ℕ) → is_queue (shape_of made) q ≡ true
    → IsWithin (2 ^ 59) i → generation ≡ generation_of (state_acts acts) q → total ≡ (i.device.path.closings + generation) % 2 ^ 64 → total ≡ ends_of acts q
ends_sum {x} {made} {acts} {i} {m} {generation} {total} s q there room counted sum =
    let closed = s.device.path.closings in
    let few = room.path.closings in
    let small = generation_small (4 * 2 ^ 59) i.device.path.state.queues q (queue_of (state_acts acts) q) (s.device.path.state.queues q (below_by q made.queues there)) room.path.state.generations in
    omega (arith, closed, few, small, counted, sum)
