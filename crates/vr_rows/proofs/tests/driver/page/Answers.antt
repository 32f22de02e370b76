use Rattle.std.proofs.Common.{◌≡◌, ◌+◌, ◌*◌, ◌≤◌, List, ℕ, length, Some, None, arith, rules}
use Rattle.vd_model.specs.Memory.{bytes_from}
use Rattle.vd_model.specs.declared.queue.RingPlace.{RingPlace}
use Rattle.vr_split.specs.ReachLemmas.{Reaches-bytes_from}
use Rattle.vr_split.specs.Reach.{RingInReach}
use Rattle.vr_rows.proofs.tests.driver.page.Goals as goal

-- a ring in a list of bytes
lies_in : (base : ℕ) (bytes : List ℕ) (place : RingPlace) → base ≡ place.desc → length bytes ≡ 4096 → 16 * place.size ≤ 4096
    → place.desc ≤ place.driver → place.driver + (6 + 2 * place.size) ≤ place.desc + 4096
    → place.desc ≤ place.device → place.device + (6 + 8 * place.size) ≤ place.desc + 4096
    → RingInReach (Some (bytes_from base bytes)) None place
lies_in base bytes place b n h dl dh el eh = record {
  desc = Reaches-bytes_from base bytes None place.desc (16 * place.size) (omega arith) (omega arith);
  driver = Reaches-bytes_from base bytes None place.driver (6 + 2 * place.size) (omega arith) (omega arith);
  device = Reaches-bytes_from base bytes None place.device (6 + 8 * place.size) (omega arith) (omega arith);
}

pub returns : goal.returns
returns c =
    let n : length c.in_ok-bytes.bytes.items ≡ 4096 = search rules in
    let len : length c.new.result.bytes.items ≡ 4096 = rw c.new.ensures.bytes n in
    lies_in c.new.result.base c.new.result.bytes.items c.args.place.now c.new.ensures.base len c.requires.desc c.requires.driver_low c.requires.driver_high c.requires.device_low c.requires.device_high
