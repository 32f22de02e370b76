-- A memory between the ring's puts and the unmaps that follow them.
use Rattle.std.proofs.Common.{◌≡◌, ℕ, refl, ap, sym, subst, ◌∙◌, List, ◌∷◌, ◌++◌, All}
use Rattle.vd_pool.specs.Memory.{PoolMemory as Pool}
use Rattle.vd_model.specs.Memory as model
use Rattle.vd_model.specs.Setting.{Setting}
use Rattle.vd_model.specs.Acts.{Act, Queue, Chain_reclaimed}
use Rattle.vd_model.specs.Live.{live_mappings, buffers, buffer_len, buffers_len}
use Rattle.vd_model.specs.Puts.{ram}
use Rattle.vd_model.specs.RingTurns.{unmap_acts}
use Rattle.vd_domain.specs.Held.{Held}
use Rattle.vd_domain.specs.Seen.{ring_map, ring_memory}
use Rattle.vd_domain.specs.Stands as domain
use Rattle.vd_domain.proofs.Beside.{leaves_domain}
use Rattle.vd_memory_lines.specs.declared.memory.Memory.{Memory}
use Rattle.vd_memory_lines.specs.Stands.{Stands, IsInside}
use Rattle.vd_memory_lines.proofs.Parts.{stay_inside, domain_act}
use Rattle.vd_ring_memory.specs.RingPuts.{after_puts, AreRingPuts, RingPutsAfter}
use Rattle.vd_ring_memory.specs.RingPutLemmas.{ring_puts_same}
use Rattle.vd_ring_memory.proofs.RingTelling.{ring_after_puts}
use Rattle.vd_ring_memory.proofs.Standing.{stands_as_rings}
use Rattle.vd_rings.proofs.Putting.{Shows}
use Rattle.vd_driver_port.proofs.Quiet.{unmapped_quiet}
use Rattle.vd_request_lines.specs.Ended.{Ends}
use Rattle.vd_request_lines.proofs.Under.{unmaps_same}

-- puts into coherent memory leave buffers and mappings
pub memory_puts : (x : Setting) (acts puts : List Act) (h : Memory) (m : Pool) (d : Held) → Stands x acts h m → AreRingPuts acts puts → domain.Stands x (puts ++ acts) d m
    → Stands x (puts ++ acts) (record h { domain = d }) m
memory_puts x acts puts h m d s only stands = record {
  domain = stands;
  buffers = record {
    count = s.buffers.count ∙ sym (ring_puts_same (λ l. buffers l) (λ at bytes done. refl) acts puts acts only);
    lens = λ k. s.buffers.lens k ∙ sym (ring_puts_same (λ l. buffer_len l k) (λ at bytes done. refl) acts puts acts only);
    bytes = λ k bytes there i near. s.buffers.bytes k bytes there i near ∙ sym (ring_puts_same (λ l. ram x.per_page l k i) (λ at bytes done. refl) acts puts acts only);
    total = s.buffers.total ∙ sym (ring_puts_same (λ l. buffers_len l) (λ at bytes done. refl) acts puts acts only);
  };
  inside = subst (λ ms. All (IsInside (puts ++ acts)) ms) (sym (ring_puts_same (λ l. live_mappings l) (λ at bytes done. refl) acts puts acts only))
      (stay_inside acts (puts ++ acts) (live_mappings acts) (λ b size e. ring_puts_same (λ l. buffer_len l b) (λ at bytes done. refl) acts puts acts only ∙ e) s.inside);
}

module _ (x : Setting) (acts : List Act) (m n : Pool) (h k : Memory) (s : Stands x acts h m) (before : Shows h.domain) (later : Shows k.domain) (numbers : List ℕ) (ends : Ends h m k n numbers) where
  after : RingPutsAfter x acts ends.between.domain m
  after = ends.ring.puts.after x acts m s.domain

  mid_stands : (puts : List Act) → AreRingPuts acts puts → domain.Stands x (puts ++ acts) ends.between.domain m → Stands x (puts ++ acts) ends.between ends.pool
  mid_stands puts only stands =
      subst (λ (p : Pool). Stands x (puts ++ acts) ends.between p) (sym ends.ring.pool)
      (subst (λ (t : Memory). Stands x (puts ++ acts) t m) (sym ends.ring.rest) (memory_puts x acts puts h m ends.between.domain s only stands))

  mid_shown : ring_map ends.between.domain ≡ ring_memory x (after.puts ++ acts)
  mid_shown =
      let stands = ends.unmapped x (after.puts ++ acts) (mid_stands after.puts after.only after.stands) in
      sym ends.same_told
      ∙ later x (unmap_acts (live_mappings (after.puts ++ acts)) numbers ++ (after.puts ++ acts)) n stands.domain
      ∙ unmaps_same (λ l. ring_memory x l) (λ m done. unmapped_quiet x done m) (live_mappings (after.puts ++ acts)) numbers (after.puts ++ acts)

  pub put_stands : (puts : List Act) → AreRingPuts acts puts → ring_map k.domain ≡ after_puts (ring_map h.domain) puts → Stands x (puts ++ acts) ends.between ends.pool
  put_stands puts only told =
      mid_stands puts only
      (stands_as_rings x acts puts after.puts only after.only
      (ring_after_puts x acts puts only ∙ ap (λ (w : model.Memory). after_puts w puts) (sym (before x acts m s.domain)) ∙ sym told ∙ ends.same_told ∙ mid_shown)
      ends.between.domain m after.stands)

  -- a chain is taken back, and then the mappings end
  pub chain_stands : (q head : ℕ) (puts : List Act) → AreRingPuts acts puts → ring_map k.domain ≡ after_puts (ring_map h.domain) puts
      → Stands x (unmap_acts (live_mappings acts) numbers ++ (Queue (Chain_reclaimed q head) ∷ puts ++ acts)) k n
  chain_stands q head puts only told =
      let stands = put_stands puts only told in
      subst (λ ms. Stands x (unmap_acts ms numbers ++ (Queue (Chain_reclaimed q head) ∷ puts ++ acts)) k n) (ring_puts_same (λ l. live_mappings l) (λ at bytes done. refl) acts puts acts only)
      (ends.unmapped x (Queue (Chain_reclaimed q head) ∷ puts ++ acts)
      (domain_act x (puts ++ acts) ends.between ends.pool stands (Queue (Chain_reclaimed q head)) ends.between.domain ends.pool refl refl
      (leaves_domain x (puts ++ acts) ends.between.domain ends.pool stands.domain (Queue (Chain_reclaimed q head)) refl)))
