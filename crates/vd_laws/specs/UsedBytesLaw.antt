-- The bytes that a daemon wrote come back.
use Rattle.std.specs.Prelude.{ℕ, ◌+◌, ◌<◌, List, [], ◌∷◌, Bool, IsTrue, ◌==◌, if◌then◌else◌, Option, Some, None, ◌≡◌}
use Rattle.std.specs.Option.{option_or}
use Rattle.vd_num.specs.Field.{field_at}
use Rattle.vd_model.specs.declared.step.Step.TheVariants.{Queue}
use Rattle.vd_model.specs.declared.step.QueueStep.TheVariants as queue
use Rattle.vd_model.specs.declared.answer.Tag.TheVariants.{Head, Len}
use Rattle.vd_model.specs.declared.answer.Item.{Item}
use Rattle.vd_model.specs.declared.answer.Item.TheVariants.{Word, Number}
use Rattle.vd_model.specs.declared.answer.Answer.TheVariants.{Done}
use Rattle.vd_model.specs.Setting.{Setting}
use Rattle.vd_model.specs.Acts.{Act, Streaming, Driver, Mapped, Unmapped, Synced_device}
use Rattle.vd_model.specs.Live.{iova_of}
use Rattle.vd_model.specs.Puts.{is_from_device, ram, bus_bytes}
use Rattle.vd_model.specs.Queues.{Ring, ring_of, reclaimed_count}
use Rattle.vd_model.specs.Rings.{used_element_at}
use Rattle.vd_model.specs.Direct.{daemon_writes}
use Rattle.vd_model.specs.History.{History, reply}
use Rattle.vd_laws.specs.Runs.{acts_of, IsMoment, IsAddressed}

-- a daemon's last write at byte i of the mapping since its map and each sync to the device
abbrev pub last_write : List Act → Streaming → ℕ → Option ℕ
last_write [] m i = None
last_write (Driver (Mapped n) ∷ acts) m i = if n.number == m.number then None else last_write acts m i
last_write (Driver (Synced_device n) ∷ acts) m i = if n.number == m.number then None else last_write acts m i
last_write (act ∷ acts) m i = option_or (daemon_writes acts act (iova_of m + i)) (last_write acts m i)

-- the next used element of the queue's ring has this head and this length
pub record IsNextUsed (x : Setting) (acts : List Act) (q head len : ℕ) : Type 0 where
  pub ring : Ring
  pub there : ring_of acts q ≡ Some ring
  pub heads : head ≡ field_at 4 (bus_bytes x.per_page acts (used_element_at ring.place (reclaimed_count acts q)) 8) 0
  pub lengths : len ≡ field_at 4 (bus_bytes x.per_page acts (used_element_at ring.place (reclaimed_count acts q)) 8) 4

-- what comes back from a daemon in a history, on each device
pub record UsedBytesLaw (x : Setting) (h : History) : Type 0 where
  -- right after the unmap of a mapping that brings bytes back, each byte that a daemon wrote is the last such write
  pub brought : IsAddressed x → (d : List ℕ) (m : Streaming) (acts : List Act) → IsMoment x h d (Driver (Unmapped m) ∷ acts)
      → IsTrue (is_from_device m.want.dir) → (i : ℕ) → i < m.want.len → (b : ℕ) → last_write acts m i ≡ Some b
      → ram x.per_page (Driver (Unmapped m) ∷ acts) m.want.buffer (m.want.offset + i) ≡ b
  -- a poll tells what the next used element has
  pub polled : (d : List ℕ) (q : ℕ) (failed : Bool) (head len : ℕ) (more : List Item)
      → reply x h (Queue d (queue.Poll q)) failed ≡ Done (Word Head ∷ Number head ∷ Word Len ∷ Number len ∷ more)
      → IsNextUsed x (acts_of x h d) q head len
