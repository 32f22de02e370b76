-- The steps of the driver: puts into its rings, mappings, and their bytes.
use Rattle.std.proofs.Common.{◌≡◌, ℕ, ◌+◌, ◌^◌, ◌≤◌, ◌<◌, true, false, refl, sym, ◌∙◌, subst, arith, List, [], ◌∷◌, ◌++◌, Some, None, Option, Result, Ok, Err, length, true≢false}
use Rattle.std.specs.Prelude.{is_some}
use Rattle.std.specs.Result.{OnOk, OnErr, IfOk}
use Rattle.std.specs.List.{All}
use Rattle.std.proofs.Props.{props}
use Rattle.std.proofs.Math.Logic.{∥∥₁_elim, ∥∥₁_map}
use Rattle.vd_num.specs.declared.number.Bus.{Bus}
use Rattle.vd_pool.specs.Memory.{PoolMemory as Pool}
use Rattle.vd_model.specs.declared.memory.MapError.{MapError}
use Rattle.vd_model.specs.declared.memory.Want.{Want}
use Rattle.vd_model.specs.Setting.{Setting}
use Rattle.vd_model.specs.Acts.{Act, Driver, Driver_put, Synced_device, Streaming}
use Rattle.vd_model.specs.Live.{maps}
use Rattle.vd_model.specs.Place.{taken_slots}
use Rattle.vd_model.specs.RingTurns.{placed_mappings, map_acts}
use Rattle.vd_domain.specs.Held.{Held, mapping_of}
use Rattle.vd_domain.specs.Stands as domain
use Rattle.vd_domain.specs.declared.domain.SyncError.{SyncError}
use Rattle.vd_domain.specs.declared.domain.SyncError.TheVariants.{NotLive, WrongDir}
use Rattle.vd_memory_lines.specs.declared.memory.Memory.{Memory}
use Rattle.vd_memory_lines.specs.Stands.{Stands}
use Rattle.vd_memory_lines.proofs.Parts.{domain_act}
use Rattle.vd_ring_memory.specs.RingPuts.{IsRingReached}
use Rattle.vd_ring_memory.proofs.RingTelling.{RingStored}
use Rattle.vd_driver_port.specs.Reached.{IsReached, IsInBuffer}
use Rattle.vd_driver_port.proofs.Placed.{placed_all}
use Rattle.vd_driver_port.proofs.Batch.{batch_stands, batch_apart, batch_quiet}
use Rattle.vd_driver_port.proofs.Stepping.{Step, whole_of, refresh_step}

pub ring_reached : {k : Memory} {m : Pool} → ∥ IsReached k m ∥₁ → ∥ IsRingReached k.domain ∥₁
ring_reached {k} {m} reached = ∥∥₁_map reached (λ r. record { setting = r.setting; acts = r.acts; pool = m; stands = r.stands.domain })

-- after a put into coherent memory, or none
store_reach : (k : Memory) (m : Pool) (d : Held) (at : ℕ) (bytes : List ℕ) (r : Result (Unit {0}) Bus) → RingStored k.domain d at bytes r → OnErr r (d ≡ k.domain) → IsReached k m → IsReached (record k { domain = d }) m
store_reach k m d at bytes (Ok u) stored same r = record {
  setting = r.setting;
  acts = Driver (Driver_put at bytes) ∷ r.acts;
  stands = domain_act r.setting r.acts k m r.stands (Driver (Driver_put at bytes)) d m refl refl ((stored r.setting r.acts m r.stands.domain).1);
  apart = record { low = r.apart.low; high = r.apart.high };
}
store_reach k m d at bytes (Err bus) stored same r = subst (λ (h : Held). IsReached (record k { domain = h }) m) (sym same)
    (record { setting = r.setting; acts = r.acts; stands = record { domain = r.stands.domain; buffers = r.stands.buffers; inside = r.stands.inside }; apart = r.apart })

pub store_reached : (k : Memory) (m : Pool) (d : Held) (at : ℕ) (bytes : List ℕ) (r : Result (Unit {0}) Bus) → RingStored k.domain d at bytes r → OnErr r (d ≡ k.domain) → ∥ IsReached k m ∥₁ → ∥ IsReached (record k { domain = d }) m ∥₁
store_reached k m d at bytes r stored same reached = ∥∥₁_map reached (store_reach k m d at bytes r stored same)

pub on_ok : {A E : Type 0} {P Q : Type 0} (r : Result A E) → (P → Q) → OnOk r P → OnOk r Q
on_ok (Ok v) f h = f h
on_ok (Err e) f h = tt

pub on_err : {A E : Type 0} {P Q : Type 0} (r : Result A E) → (P → Q) → OnErr r P → OnErr r Q
on_err (Ok v) f h = tt
on_err (Err e) f h = f h

-- the first number is how many were made
number_prop : (r : Result ℕ MapError) (n : ℕ) → IsProp (IfOk r (λ k. k ≡ n))
number_prop (Ok v) n = Prim.hlevel props
number_prop (Err e) n = Prim.hlevel props

number_is : (r : Result ℕ MapError) (n m : ℕ) (P : Type 0) → m ≡ n → IfOk r (λ k. (k ≡ n) × P) → IfOk r (λ k. k ≡ m)
number_is (Ok v) n m P e h = h.0 ∙ sym e
number_is (Err e) n m P f h = tt

-- numbers have an end
pub number_room : (r : Result ℕ MapError) (k len left : ℕ) → IfOk r (λ n. n ≡ k) → k + left < 2 ^ 62 → len ≤ left → IfOk r (λ n. n + len < 2 ^ 64)
number_room (Ok n) k len left e room fits = (let is : n ≡ k = e in omega arith)
number_room (Err e) k len left h room fits = tt

some_of : {X : Type 0} (o : Option X) → is_some o ≡ true → (v : X) × (o ≡ Some v)
some_of None e = absurd (true≢false (sym e))
some_of (Some v) e = (v, refl)

module _ (k : Memory) (p : Pool) (wants : List Want) (r : Result ℕ MapError) (d : Held) (q : Pool) (inside : All (IsInBuffer k.buffers) wants) where
  pub record Maps (x : Setting) (acts : List Act) : Type 0 where
    pub ok : (ms : List Streaming) → placed_mappings x (taken_slots acts) (maps acts) wants ≡ Some ms → OnOk r (domain.Stands x (map_acts ms ++ acts) d q)
    pub place : IfOk r (λ n. (n ≡ maps acts) × (is_some (placed_mappings x (taken_slots acts) (maps acts) wants) ≡ true))
    pub err : OnErr r (domain.Stands x acts d q)

  pub mapped : (x : Setting) (acts : List Act) → Stands x acts k p → Maps x acts → (ms : List Streaming) → placed_mappings x (taken_slots acts) (maps acts) wants ≡ Some ms
      → OnOk r (Stands x (map_acts ms ++ acts) (record k { domain = d }) q)
  mapped x acts s h ms e = on_ok r (batch_stands x acts k p s ms (placed_all x (IsInBuffer k.buffers) wants (taken_slots acts) (maps acts) ms e inside) d q) (h.ok ms e)

  pub unmoved : (x : Setting) (acts : List Act) → Stands x acts k p → Maps x acts → OnErr r (Stands x acts (record k { domain = d }) q)
  unmoved x acts s h = on_err r (λ (stands : domain.Stands x acts d q). record { domain = stands; buffers = s.buffers; inside = s.inside }) h.err

  pub number : ∥ IsReached k p ∥₁ → ((x : Setting) (acts : List Act) → domain.Stands x acts k.domain p → IfOk r (λ n. (n ≡ maps acts) × (is_some (placed_mappings x (taken_slots acts) (maps acts) wants) ≡ true)))
      → IfOk r (λ n. n ≡ k.domain.maps)
  number reached place = ∥∥₁_elim reached (number_prop r k.domain.maps) (λ s.
      number_is r (maps s.acts) k.domain.maps (is_some (placed_mappings s.setting (taken_slots s.acts) (maps s.acts) wants) ≡ true) s.stands.domain.maps (place s.setting s.acts s.stands.domain))

module _ (k : Memory) (p : Pool) (wants : List Want) (d : Held) (q : Pool) (inside : All (IsInBuffer k.buffers) wants) where
  map_step : (r : Result ℕ MapError) (s : IsReached k p) → Maps k p wants r d q inside s.setting s.acts → Step k (record k { domain = d }) p q
  map_step (Ok n) s h =
      let found = some_of (placed_mappings s.setting (taken_slots s.acts) (maps s.acts) wants) h.place.1 in
      let all = placed_all s.setting (IsInBuffer k.buffers) wants (taken_slots s.acts) (maps s.acts) found.0 found.1 inside in
      record {
        setting = s.setting;
        before = s.acts;
        after = map_acts found.0 ++ s.acts;
        from = s.stands;
        to = batch_stands s.setting s.acts k p s.stands found.0 all d q (h.ok found.0 found.1);
        apart = batch_apart s.setting s.acts k p s.stands found.0 all s.apart;
        quiet = batch_quiet s.setting (length k.domain.bounce.frames) (whole_of s.setting s.acts k.domain p s.stands.domain) (IsInBuffer k.buffers) s.acts s.apart.high found.0 all;
      }
  map_step (Err e) s h = record {
    setting = s.setting;
    before = s.acts;
    after = s.acts;
    from = s.stands;
    to = record { domain = h.err; buffers = s.stands.buffers; inside = s.stands.inside };
    apart = s.apart;
    quiet = refl;
  }

  pub map_steps : (r : Result ℕ MapError) → ∥ IsReached k p ∥₁ → ((x : Setting) (acts : List Act) → Stands x acts k p → Maps k p wants r d q inside x acts) → ∥ Step k (record k { domain = d }) p q ∥₁
  map_steps r reached h = ∥∥₁_map reached (λ s. map_step r s (h s.setting s.acts s.stands))

-- a synchronization that isn't refused is done
pub done_of : (P : Type 0) (r : Result (Unit {0}) SyncError) → (r ≡ Err NotLive → ⊥) → (r ≡ Err WrongDir → ⊥) → OnOk r P → P
done_of P (Ok u) live way h = h
done_of P (Err NotLive) live way h = absurd (live refl)
done_of P (Err WrongDir) live way h = absurd (way refl)

module _ (k : Memory) (p : Pool) (number : ℕ) (m : Streaming) (live : mapping_of k.domain number ≡ Some m) (d : Held) (q : Pool) where
  sync_step : (r : Result (Unit {0}) SyncError) (s : IsReached k p) → OnOk r (domain.Stands s.setting (Driver (Synced_device m) ∷ s.acts) d q) → OnErr r ((d ≡ k.domain) × (q ≡ p)) → Step k (record k { domain = d }) p q
  sync_step (Ok u) s done same = refresh_step s.setting s.acts k p s.stands number s.apart m live d q done
  sync_step (Err e) s done same = record {
    setting = s.setting;
    before = s.acts;
    after = s.acts;
    from = s.stands;
    to = record {
      domain = subst (λ (h : Held). domain.Stands s.setting s.acts h q) (sym same.0) (subst (λ (m : Pool). domain.Stands s.setting s.acts k.domain m) (sym same.1) s.stands.domain);
      buffers = s.stands.buffers;
      inside = s.stands.inside;
    };
    apart = s.apart;
    quiet = refl;
  }

  pub sync_steps : (r : Result (Unit {0}) SyncError) → ∥ IsReached k p ∥₁ → ((x : Setting) (acts : List Act) → Stands x acts k p → OnOk r (domain.Stands x (Driver (Synced_device m) ∷ acts) d q))
      → OnErr r ((d ≡ k.domain) × (q ≡ p)) → ∥ Step k (record k { domain = d }) p q ∥₁
  sync_steps r reached done same = ∥∥₁_map reached (λ s. sync_step r s (done s.setting s.acts s.stands) same)
