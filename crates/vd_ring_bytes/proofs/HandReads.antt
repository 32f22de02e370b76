-- What the device reads of a request is what was asked.
use Rattle.std.proofs.Common.{◌≡◌, ℕ, zero, suc, ◌+◌, Bool, true, false, refl, ap, subst, ◌∙◌, arith, Ok, List, [], ◌∷◌, ◌++◌, length, take, map, if◌then◌else◌, inl, inr}
use Rattle.vd_model.specs.declared.memory.Dir.{Dir}
use Rattle.vd_model.specs.declared.memory.Dir.TheVariants.{To, From, Both}
use Rattle.vd_model.specs.declared.parts.Chain.{Chain}
use Rattle.vd_model.specs.declared.queue.RingPlace.{RingPlace}
use Rattle.vd_model.specs.Setting.{Setting}
use Rattle.vd_model.specs.Acts.{Act, AddedChain, Streaming}
use Rattle.vd_model.specs.Live.{buffers, live_mappings, iova_of}
use Rattle.vd_model.specs.Memory.{read}
use Rattle.vd_model.specs.Trace.{chain_of}
use Rattle.vd_model.specs.DaemonTurns.{daemon_memory, bytes_then, readable_bytes, bytes_or, Hand}
use Rattle.vd_model.specs.RingTurns.{parts_count, mapping_part, writable_of}
use Rattle.vd_model.specs.Puts.{is_from_device}
use Rattle.vd_laws.specs.Among.{Among}
use Rattle.vd_laws.specs.Runs.{IsWhole}
use Rattle.vd_laws.proofs.Sound.{Sound}
use Rattle.vd_laws.proofs.Ranges.{in_range}
use Rattle.vd_ring_bytes.proofs.StandingBytes.{Stands, daemon_reads}
use Rattle.vd_ring_bytes.proofs.RequestSource.{read_bytes, len_is_of, answers_are, own_wants, Given}
use Rattle.vd_ring_bytes.proofs.RingMemory.{HasChain}
use Rattle.vd_ring_bytes.proofs.ChainTraces.{map_accessible}

goes_to : (d : Dir) → is_from_device d ≡ false → d ≡ To
goes_to To e = refl
goes_to From e = cc
goes_to Both e = cc

module _ (x : Setting) (full : IsWhole x) (acts : List Act) (s : Sound x acts) (told : Streaming → List ℕ) where
  reads_one : (m : Streaming) → Among m (live_mappings acts) → length (told m) ≡ m.want.len → Stands x acts (iova_of m) (told m) → read (daemon_memory x acts) (iova_of m) m.want.len ≡ Ok (told m)
  reads_one m there len stands = subst (λ n. read (daemon_memory x acts) (iova_of m) n ≡ Ok (told m)) len
      (daemon_reads x acts (iova_of m) (told m) stands (λ i lo. map_accessible x full acts s m there (iova_of m + i) (in_range (iova_of m) m.want.len (iova_of m + i) (omega arith) (omega arith))))

  pub hand_reads : (ms : List Streaming) → ((m : Streaming) → Among m ms → Among m (live_mappings acts)) → ((m : Streaming) → Among m ms → m.want.dir ≡ To → (length (told m) ≡ m.want.len) × Stands x acts (iova_of m) (told m))
      → readable_bytes (daemon_memory x acts) (map mapping_part ms) ≡ Ok (read_bytes told ms)
  hand_reads [] alive h = refl
  hand_reads (m ∷ ms) alive h = by (is_from_device m.want.dir) refl (hand_reads ms (λ n i. alive n (inr i)) (λ n i. h n (inr i))) where
    by : (b : Bool) → is_from_device m.want.dir ≡ b → readable_bytes (daemon_memory x acts) (map mapping_part ms) ≡ Ok (read_bytes told ms)
        → (if b then readable_bytes (daemon_memory x acts) (map mapping_part ms) else bytes_then (read (daemon_memory x acts) (iova_of m) m.want.len) (readable_bytes (daemon_memory x acts) (map mapping_part ms)))
        ≡ Ok (if b then read_bytes told ms else told m ++ read_bytes told ms)
    by true e rest = rest
    by false e rest = let f = h m (inl refl) (goes_to m.want.dir e) in ap (λ r. bytes_then r (readable_bytes (daemon_memory x acts) (map mapping_part ms))) (reads_one m (alive m (inl refl)) f.0 f.1) ∙ ap (bytes_then (Ok (told m))) rest

taken_among : {X : Type 0} (n : ℕ) (m : X) (xs : List X) → Among m (take n xs) → Among m xs
taken_among zero m xs h = absurd h
taken_among (suc n) m [] h = absurd h
taken_among (suc n) m (x ∷ xs) (inl e) = inl e
taken_among (suc n) m (x ∷ xs) (inr h) = inr (taken_among n m xs h)

-- a hand that has a chain's parts
pub given_by : (x : Setting) → IsWhole x → (acts : List Act) → Sound x acts → (r : RingPlace) (c : AddedChain) (h : HasChain x acts r c) (chain : Chain) → chain ≡ chain_of c.head h.parts
    → (hand : Hand) → hand.parts ≡ chain.parts → hand.writable ≡ chain.writable → hand.bytes ≡ bytes_or (readable_bytes (daemon_memory x acts) chain.parts) → Given x acts c hand
given_by x full acts s r c h chain is hand p e f =
    let part_maps = take (parts_count h.asked) h.ms in
    let reads = hand_reads x full acts s h.read part_maps (λ m i. h.alive m (taken_among (parts_count h.asked) m h.ms i)) (λ m i. h.full m (taken_among (parts_count h.asked) m h.ms i)) in
    record {
      ms = h.ms;
      asked = h.asked;
      done = h.done;
      comes = h.comes;
      alive = h.alive;
      parts = p ∙ (ap (λ c. c.parts) is ∙ h.are);
      bytes = f ∙ (ap (λ c. bytes_or (readable_bytes (daemon_memory x acts) c.parts)) is
          ∙ (ap (λ ps. bytes_or (readable_bytes (daemon_memory x acts) ps)) h.are ∙ (ap bytes_or reads ∙ h.told)));
      writable = e ∙ (ap (λ c. c.writable) is ∙ (len_is_of h.parts ∙ (ap writable_of h.are ∙ answers_are (buffers h.done) h.asked part_maps h.comes.ways (own_wants acts c h.ms h.asked h.done h.comes))));
    }
