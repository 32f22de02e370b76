-- No count of a device above a number.
use Rattle.std.proofs.Common.{◌≡◌, ℕ, ◌<◌, ◌≤◌, ◌*◌, subst, sym, ◌∙◌, arith, List, length, Some}
use Rattle.std.specs.Prelude.{All, unwrap_or}
use Rattle.std.specs.List.{slice_get, slice_index_or}
use Rattle.std.proofs.lemmas.Option.{get_or_from_slice_get}
use Rattle.vd_pool.specs.Memory.{PoolMemory as Pool}
use Rattle.vd_model.specs.Setting.{Setting}
use Rattle.vd_model.specs.Creation.{Creation}
use Rattle.vd_model.specs.Acts.{Act, state_acts}
use Rattle.vd_state.specs.declared.queue.Queue.{Queue}
use Rattle.vd_state.specs.Stands.{queue_of}
use Rattle.vd_control_path.proofs.Parts as path
use Rattle.vd_instance.specs.declared.instance.Instance.{Instance}
use Rattle.vd_instance.specs.Stands.{Stands, IsWithin}

pub within_later : (least most : ℕ) (i : Instance) → least ≤ most → IsWithin least i → IsWithin most i
within_later least most i le w = record {
  path = path.within_later (4 * least) (4 * most) i.device.path (omega (arith, le)) w.path;
  maps = (let h = w.maps in omega arith);
  regions = (let h = w.regions in omega arith);
}

-- lists with the same entry at each place
all_same : {X : Type 0} (P : X → Type 0) (xs ys : List X) (f : ℕ → X) → length ys ≡ length xs → ((k : ℕ) → k < length xs → slice_get xs k ≡ Some (f k)) → ((k : ℕ) → k < length xs → slice_get ys k ≡ Some (f k)) → All P xs → All P ys
all_same P xs ys f len here there all = λ k d below.
    let under : k < length xs = omega arith in
    let same : slice_index_or xs k d ≡ slice_index_or ys k d = get_or_from_slice_get xs k (f k) d (here k under) ∙ sym (get_or_from_slice_get ys k (f k) d (there k under)) in
    subst P same (all k d under)

-- devices that stand for the same acts have the same counts
pub within_same : {x : Setting} {made : Creation} {acts : List Act} {m n : Pool} (i j : Instance) (most : ℕ) → Stands x made acts i m → Stands x made acts j n → IsWithin most i → IsWithin most j
within_same {x} {made} {acts} i j most s t w =
    let a = s.device.path.state in
    let b = t.device.path.state in
    let len : length j.device.path.state.queues ≡ length i.device.path.state.queues = b.count ∙ sym a.count in
    let here : (k : ℕ) → k < length i.device.path.state.queues → slice_get i.device.path.state.queues k ≡ Some (queue_of (state_acts acts) k) = λ k below. a.queues k (subst (λ n. k < n) a.count below) in
    let there : (k : ℕ) → k < length i.device.path.state.queues → slice_get j.device.path.state.queues k ≡ Some (queue_of (state_acts acts) k) = λ k below. b.queues k (subst (λ n. k < n) a.count below) in
    record {
      path = record {
        state = record {
          kicks = all_same (λ (q : Queue). unwrap_or q.kicks 0 ≤ 4 * most) _ _ (queue_of (state_acts acts)) len here there w.path.state.kicks;
          queues = all_same (λ (q : Queue). q.interrupts ≤ 4 * most) _ _ (queue_of (state_acts acts)) len here there w.path.state.queues;
          generations = all_same (λ (q : Queue). q.generation ≤ 4 * most) _ _ (queue_of (state_acts acts)) len here there w.path.state.generations;
          config = subst (λ k. k ≤ 4 * most) (a.interrupts ∙ sym b.interrupts) w.path.state.config;
        };
        sessions = subst (λ k. k ≤ 4 * most) (s.device.path.sessions ∙ sym t.device.path.sessions) w.path.sessions;
        closings = subst (λ k. k ≤ 4 * most) (s.device.path.closings ∙ sym t.device.path.closings) w.path.closings;
      };
      maps = subst (λ k. k ≤ 4 * most) (s.device.memory.domain.maps ∙ sym t.device.memory.domain.maps) w.maps;
      regions = subst (λ k. k ≤ 4 * most) (s.device.memory.domain.made ∙ sym t.device.memory.domain.made) w.regions;
    }
