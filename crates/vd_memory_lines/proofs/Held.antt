-- A line leaves the frames of a memory out of the pool.
use Rattle.std.proofs.Common.{◌≡◌, ℕ, List, Option, refl, subst, sym, ◌∙◌, arith}
use Rattle.vd_pool.specs.Memory.{PoolMemory as Pool}
use Rattle.vd_bounce.specs.Frames.{Holds, Keeps}
use Rattle.vd_bounce.proofs.Kept.{keeps_none}
use Rattle.vd_memory_lines.specs.declared.memory.Memory.{Memory}
use Rattle.vd_memory_lines.specs.Rest.{KeepsRest, KeepsFrames}
use Rattle.vd_memory_lines.specs.Stands.{IsHeld}

pub held_kept : {old new : Memory} {before after : Pool} → IsHeld old before → KeepsRest old new before after → IsHeld new after
held_kept h r = record { holds = r.kept.holds; size = r.kept.size ∙ h.size ∙ sym r.page }

pub held_frames : {old new : Memory} {m : Pool} → IsHeld old m → KeepsFrames old new → IsHeld new m
held_frames {old} {new} {m} h r = record { holds = subst (λ (frames : List (Option ℕ)). Holds frames m) (sym r.frames) h.holds; size = h.size ∙ sym r.page }

pub held_beside : (old new : Memory) (m : Pool) → new ≡ record old { buffers = new.buffers } → IsHeld old m → IsHeld new m
held_beside old new m e h = subst (λ (k : Memory). IsHeld k m) (sym e) (record { holds = h.holds; size = h.size })

-- a line on buffers, and one that takes no frame, leave the pool to others
pub beside_rest : (old new : Memory) (m : Pool) → new ≡ record old { buffers = new.buffers } → IsHeld old m → KeepsRest old new m m
beside_rest old new m e h = subst (λ (k : Memory). KeepsRest old k m m) (sym e) (record { kept = keeps_none h.holds; page = refl; maps = omega arith; made = omega arith })

pub frames_rest : (old new : Memory) (m : Pool) → KeepsFrames old new → IsHeld old m → KeepsRest old new m m
frames_rest old new m r h = record {
  kept = subst (λ (frames : List (Option ℕ)). Keeps old.domain.bounce.frames frames m m) (sym r.frames) (keeps_none h.holds);
  page = r.page;
  maps = r.maps;
  made = r.made;
}
