-- Several mappings, one after another.
use Rattle.std.proofs.Common.{◌≡◌, ℕ, ◌+◌, ◌*◌, ◌≤◌, refl, ap, sym, ◌∙◌, subst, List, [], ◌∷◌, ◌++◌, append_assoc, append-nil, length}
use Rattle.std.specs.List.{All}
use Rattle.std.specs.Option.{option_map}
use Rattle.std.proofs.lemmas.List.Elements.{All-head, All-tail, All-append, All-weaker}
use Rattle.vd_num.specs.Number.{pages_of}
use Rattle.vd_pool.specs.Memory.{PoolMemory as Pool}
use Rattle.vd_model.specs.declared.memory.Want.{Want}
use Rattle.vd_model.specs.Setting.{Setting}
use Rattle.vd_model.specs.Acts.{Act, Driver, Mapped, Streaming, Coherent}
use Rattle.vd_model.specs.Live.{live_mappings, live_regions, buffer_len, regions}
use Rattle.vd_model.specs.RingTurns.{map_acts}
use Rattle.vd_domain.specs.Held.{Held}
use Rattle.vd_domain.specs.Seen.{ring_memory}
use Rattle.vd_domain.specs.Stands as domain
use Rattle.vd_buffers.specs.Places.{Places}
use Rattle.vd_buffers.specs.Stands as buffers
use Rattle.vd_buffers.proofs.Changed.{leaves_buffers}
use Rattle.vd_memory_lines.specs.declared.memory.Memory.{Memory}
use Rattle.vd_memory_lines.specs.Stands.{Stands, IsInside}
use Rattle.vd_memory_lines.proofs.Parts.{stay_inside}
use Rattle.vd_domain.specs.Apart.{AreApart}
use Rattle.vd_driver_port.specs.Reached.{IsInBuffer}
use Rattle.vd_driver_port.proofs.Placed.{IsPlaced}
use Rattle.vd_driver_port.proofs.Quiet.{mapped_quiet}

-- what some mappings leave, and what they add
pub record Batch (g : ℕ) (acts : List Act) (ms : List Streaming) (places : Places) (all : List Act) : Type 0 where
  pub live : live_mappings all ≡ live_mappings acts ++ ms
  pub lens : (k : ℕ) → buffer_len all k ≡ buffer_len acts k
  pub held : live_regions all ≡ live_regions acts
  pub made : regions all ≡ regions acts
  pub buffers : buffers.Stands g all places

pub batch : (g : ℕ) (acts : List Act) (ms : List Streaming) (places : Places) → buffers.Stands g acts places → Batch g acts ms places (map_acts ms ++ acts)
batch g acts [] places s = record { live = sym (append-nil (live_mappings acts)); lens = λ k. refl; held = refl; made = refl; buffers = s }
batch g acts (m ∷ ms) places s =
    let b = batch g (Driver (Mapped m) ∷ acts) ms places (leaves_buffers g acts places s (Driver (Mapped m)) refl) in
    subst (λ (l : List Act). Batch g acts (m ∷ ms) places l) (sym (append_assoc (map_acts ms) (Driver (Mapped m) ∷ []) acts))
    (record { live = b.live ∙ append_assoc (live_mappings acts) (m ∷ []) ms; lens = b.lens; held = b.held; made = b.made; buffers = b.buffers })

pub batch_quiet : (x : Setting) (n : ℕ) → x.bounce ≡ x.per_page * n → (P : Want → Type 0) (acts : List Act) → All (λ (r : Coherent). x.bounce ≤ r.slot) (live_regions acts)
    → (ms : List Streaming) → All (IsPlaced x P) ms → ring_memory x (map_acts ms ++ acts) ≡ ring_memory x acts
batch_quiet x n whole P acts high [] all = refl
batch_quiet x n whole P acts high (m ∷ ms) all =
    ap (λ (l : List Act). ring_memory x l) (append_assoc (map_acts ms) (Driver (Mapped m) ∷ []) acts)
    ∙ batch_quiet x n whole P (Driver (Mapped m) ∷ acts) high ms (All-tail (IsPlaced x P) m ms all)
    ∙ mapped_quiet x n whole acts high m ((All-head (IsPlaced x P) m ms all).1)

module _ (x : Setting) (acts : List Act) (k : Memory) (p : Pool) (s : Stands x acts k p) (ms : List Streaming) (all : All (IsPlaced x (IsInBuffer k.buffers)) ms) where
  there : (m : Streaming) → IsPlaced x (IsInBuffer k.buffers) m → IsInside acts m
  there m h = (let i = h.0 in record {
    some = i.some;
    size = length i.bytes;
    there = sym (s.buffers.lens m.want.buffer) ∙ ap (λ o. option_map length o) i.there;
    within = i.within;
  })

  pub batch_stands : (d : Held) (q : Pool) → domain.Stands x (map_acts ms ++ acts) d q → Stands x (map_acts ms ++ acts) (record k { domain = d }) q
  batch_stands d q stands =
      let b = batch x.per_page acts ms k.buffers s.buffers in
      record {
        domain = stands;
        buffers = b.buffers;
        inside = subst (λ (l : List Streaming). All (IsInside (map_acts ms ++ acts)) l) (sym b.live)
            (stay_inside acts (map_acts ms ++ acts) (live_mappings acts ++ ms) (λ k size e. b.lens k ∙ e)
            (All-append (IsInside acts) (live_mappings acts) ms s.inside (All-weaker (IsPlaced x (IsInBuffer k.buffers)) (IsInside acts) there ms all)));
      }

  pub batch_apart : AreApart x acts → AreApart x (map_acts ms ++ acts)
  batch_apart a =
      let b = batch x.per_page acts ms k.buffers s.buffers in
      record {
        low = subst (λ (l : List Streaming). All (λ (m : Streaming). m.slot + pages_of m.want.len ≤ x.bounce) l) (sym b.live)
            (All-append (λ (m : Streaming). m.slot + pages_of m.want.len ≤ x.bounce) (live_mappings acts) ms a.low
            (All-weaker (IsPlaced x (IsInBuffer k.buffers)) (λ (m : Streaming). m.slot + pages_of m.want.len ≤ x.bounce) (λ m h. h.1) ms all));
        high = subst (λ (l : List Coherent). All (λ (r : Coherent). x.bounce ≤ r.slot) l) (sym b.held) a.high;
      }
