-- What a finish stores are puts of the daemon.
use Rattle.std.proofs.Common.{◌≡◌, ℕ, ◌+◌, ◌<◌, ◌≤◌, Bool, true, false, if◌then◌else◌, refl, ap, ◌∙◌, arith, List, [], ◌∷◌, ◌++◌, length, take, drop, Some, None, Option, Result, Ok, Err}
use Rattle.std.specs.Prelude.{not, IsOk}
use Rattle.std.specs.List.{list_all}
use Rattle.std.proofs.lemmas.Grind.{common_steps}
use Rattle.byteorder.specs.Endian.{little_bytes}
use Rattle.byteorder.specs.Numbers.{length-bytes_low_first}
use Rattle.vd_model.specs.declared.parts.Part.{Part}
use Rattle.vd_model.specs.Setting.{Setting}
use Rattle.vd_model.specs.Acts.{Act, Node, Daemon_put}
use Rattle.vd_model.specs.Memory.{Memory, read, written}
use Rattle.vd_model.specs.AreaTurns.{is_accessible}
use Rattle.vd_model.specs.Queues.{Execution}
use Rattle.vd_model.specs.Rings.{next16, used_index_at, used_element_at}
use Rattle.vd_model.specs.DaemonTurns.{Hand, daemon_memory, spread_acts, finish_puts}
use Rattle.vr_device.specs.Side.{Side}
use Rattle.vr_device.specs.Device.{element_bytes}
use Rattle.vd_ring_memory.specs.Puts.{AreDaemonPuts}
use Rattle.vd_ring_memory.proofs.Accepting.{no_fault}
use Rattle.vd_ring_memory.proofs.Writing.{daemon_put, reached_all}
use Rattle.vd_queue_sides.specs.Daemon.{is_daemon_act}
use Rattle.blk_daemon.specs.Finished.{missing_at, either_of, first_unwritable, deciding_field_at, first_missing, spread_over, answer_bytes, finished_memory}

-- these acts are puts, after which the daemon sees this
pub record Leaves (x : Setting) (acts : List Act) (q : ℕ) (puts : List Act) (m : Memory) : Type 0 where
  pub only : AreDaemonPuts x acts puts
  pub none : list_all (λ act. not (is_daemon_act q act)) puts ≡ true
  pub same : daemon_memory x (puts ++ acts) ≡ m
  pub reach : (a : ℕ) → is_accessible x (puts ++ acts) a ≡ is_accessible x acts a

first_none : (o p : Option ℕ) → either_of o p ≡ None → (o ≡ None) × (p ≡ None)
first_none None p e = (refl, e)
first_none (Some at) p e = absurd (cc)

there_of : (r : Result (List ℕ) ℕ) → missing_at r ≡ None → IsOk r
there_of (Ok bytes) e = refl
there_of (Err at) e = absurd (cc)

n_bytes : (k n : ℕ) → length (little_bytes k n) ≡ k
n_bytes k n = length-bytes_low_first 0 k n

element_len : (a b : List ℕ) → length a ≡ 4 → length b ≡ 4 → length (a ++ b) ≡ 8
element_len a b e f = grind (arith, common_steps, e, f)

taken_len : (n : ℕ) (bytes : List ℕ) → length (take n bytes) ≤ n
taken_len n bytes = grind (arith, common_steps)

module _ (x : Setting) (acts : List Act) (q : ℕ) where
  abbrev pub seen : Memory
  seen = daemon_memory x acts

  -- bytes that are found can be stored
  put_on : (at n : ℕ) (bytes : List ℕ) → length bytes ≤ n → missing_at (read seen at n) ≡ None → (puts : List Act) (m : Memory) → Leaves x acts q puts m
      → Leaves x acts q (Node (Daemon_put at bytes) ∷ puts) (written m at bytes)
  put_on at n bytes fits found puts m s =
      let all = reached_all x acts at n (no_fault x acts seen refl at n (there_of (read seen at n) found)) in
      let there : (a : ℕ) → at ≤ a → a < at + length bytes → is_accessible x acts a ≡ true = λ a low high. all a low (omega arith) in
      record {
        only = (there, s.only);
        none = s.none;
        same = daemon_put x (puts ++ acts) at bytes (λ a low high. s.reach a ∙ there a low high) ∙ ap (λ (m : Memory). written m at bytes) s.same;
        reach = s.reach;
      }

  -- a part, where the device writes it, before the parts after it
  spread_part : (part : Part) (parts : List Part) (bytes : List ℕ) (puts : List Act) (m : Memory) → Leaves x acts q puts m
      → (first_unwritable seen parts ≡ None → Leaves x acts q (Node (Daemon_put part.at (take part.len bytes)) ∷ puts) (written m part.at (take part.len bytes))
      → Leaves x acts q (spread_acts parts (drop part.len bytes) (Node (Daemon_put part.at (take part.len bytes)) ∷ puts))
      (spread_over (written m part.at (take part.len bytes)) parts (drop part.len bytes)))
      → (first_unwritable seen parts ≡ None → Leaves x acts q (spread_acts parts bytes puts) (spread_over m parts bytes))
      → (t : Bool) → (if t then either_of (missing_at (read seen part.at part.len)) (first_unwritable seen parts) else first_unwritable seen parts) ≡ None
      → Leaves x acts q (if t then spread_acts parts (drop part.len bytes) (Node (Daemon_put part.at (take part.len bytes)) ∷ puts) else spread_acts parts bytes puts)
      (if t then spread_over (written m part.at (take part.len bytes)) parts (drop part.len bytes) else spread_over m parts bytes)
  spread_part part parts bytes puts m s put pass true e =
      let p = first_none (missing_at (read seen part.at part.len)) (first_unwritable seen parts) e in
      put p.1 (put_on part.at part.len (take part.len bytes) (taken_len part.len bytes) p.0 puts m s)
  spread_part part parts bytes puts m s put pass false e = pass e

  spread : (parts : List Part) (bytes : List ℕ) (puts : List Act) (m : Memory) → first_unwritable seen parts ≡ None → Leaves x acts q puts m
      → Leaves x acts q (spread_acts parts bytes puts) (spread_over m parts bytes)
  spread [] bytes puts m none s = s
  spread (part ∷ parts) bytes puts m none s =
      spread_part part parts bytes puts m s
      (λ rest put. spread parts (drop part.len bytes) (Node (Daemon_put part.at (take part.len bytes)) ∷ puts) (written m part.at (take part.len bytes)) rest put)
      (λ rest. spread parts bytes puts m rest s) part.writable none

  pub leaves : (side : Side) (event_idx : Bool) (h : Hand) (end : Execution) → first_missing seen side event_idx h.parts ≡ None
      → Leaves x acts q (finish_puts side.place side.used h end) (finished_memory seen side h end)
  leaves side event_idx h end none =
      let element = missing_at (read seen (used_element_at side.place side.used) 8) in
      let index = missing_at (read seen (used_index_at side.place) 2) in
      let field = missing_at (read seen (deciding_field_at event_idx side.place) 2) in
      let p = first_none (first_unwritable seen h.parts) (either_of element (either_of index field)) none in
      let r = first_none element (either_of index field) p.1 in
      let s = first_none index field r.1 in
      let len = element_len (little_bytes 4 h.head) (little_bytes 4 h.writable) (n_bytes 4 h.head) (n_bytes 4 h.writable) in
      let two = n_bytes 2 (next16 side.used) in
      put_on (used_index_at side.place) 2 (little_bytes 2 (next16 side.used)) (omega (arith, two)) s.0 _ _
      (put_on (used_element_at side.place side.used) 8 (element_bytes h.head h.writable) (omega (arith, len)) r.0 _ _
      (spread h.parts (answer_bytes end) [] seen p.0 (record { only = tt; none = refl; same = refl; reach = λ a. refl })))
