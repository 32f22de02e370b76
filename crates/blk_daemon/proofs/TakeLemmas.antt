-- What is taken from a ring, by what its calls answer.
use Rattle.std.proofs.Common.{◌≡◌, ℕ, Bool, true, false, List, length, Option, Some, Result, Ok, Err, refl, sym, ap, subst, ◌∙◌}
use Rattle.vd_num.specs.declared.number.Bus.{Bus as Unmapped}
use Rattle.std.specs.Prelude.{IsOk}
use Rattle.byteorder.specs.Endian.{little_bytes}
use Rattle.byteorder.specs.Numbers.{length-bytes_low_first}
use Rattle.vd_model.specs.Memory.{Memory, read, written}
use Rattle.vd_model.specs.Rings.{next16, available_event_at}
use Rattle.vd_model.specs.declared.parts.Chain.{Chain}
use Rattle.vd_model.specs.DaemonTurns.{Hand}
use Rattle.vr_split.specs.Mem.{Stores}
use Rattle.vr_chain.specs.declared.error.WalkError.TheVariants.{Fault, Bus, Memory as OutOfMemory}
use Rattle.vr_device.specs.Side.{Side}
use Rattle.vr_device.specs.Device.{next_of, IsUnlessMemory as IsNext}
use Rattle.vr_device.specs.declared.error.PopError.{PopError}
use Rattle.vr_device.specs.declared.error.PopError.TheVariants.{Ahead, Walk}
use Rattle.blk_daemon.specs.declared.error.FetchError.{FetchError}
use Rattle.blk_daemon.specs.declared.error.FetchError.TheVariants as fetch
use Rattle.blk_daemon.specs.Errors.{fetch_error, IsUnlessMemory}
use Rattle.blk_daemon.specs.Fetched.{hand_at, request_by, request_in, then_told, where_told, where_read, with_event}

-- an error passes where what follows leaves it
pub passes : {A B : Type 0} (e : FetchError) (answer : Result A FetchError) (f : Result A FetchError → Result B FetchError) → ((e : FetchError) → f (Err e) ≡ Err e) → IsUnlessMemory (Err e) answer → IsUnlessMemory (Err e) (f answer)
passes fetch.Busy answer f strict h = sym (strict fetch.Busy) ∙ ap f h
passes fetch.Empty answer f strict h = sym (strict fetch.Empty) ∙ ap f h
passes (fetch.Ahead found known) answer f strict h = sym (strict (fetch.Ahead found known)) ∙ ap f h
passes (fetch.Fault fault) answer f strict h = sym (strict (fetch.Fault fault)) ∙ ap f h
passes (fetch.Shape r w) answer f strict h = sym (strict (fetch.Shape r w)) ∙ ap f h
passes (fetch.Bus at) answer f strict h = sym (strict (fetch.Bus at)) ∙ ap f h
passes fetch.Memory answer f strict h = tt

-- no chain is taken
pub none_taken : (m : Memory) (indirect event_idx : Bool) (side : Side) (e : PopError) → IsNext (Err e) (next_of m side indirect) → IsUnlessMemory (Err (fetch_error e)) (hand_at m indirect event_idx side)
none_taken m indirect event_idx side (Ahead found known) h = ap (λ r. then_told m side.place event_idx (request_by m r)) h
none_taken m indirect event_idx side (Walk (Fault fault)) h = ap (λ r. then_told m side.place event_idx (request_by m r)) h
none_taken m indirect event_idx side (Walk (Bus at)) h = ap (λ r. then_told m side.place event_idx (request_by m r)) h
none_taken m indirect event_idx side (Walk OutOfMemory) h = tt

-- its chain is no request that can be read
pub not_read : (m : Memory) (indirect event_idx : Bool) (side : Side) (chain : Chain) (e : FetchError) → Ok (Some chain) ≡ next_of m side indirect → IsUnlessMemory (Err e) (request_in m chain) → IsUnlessMemory (Err e) (hand_at m indirect event_idx side)
not_read m indirect event_idx side chain e next h =
    passes e (request_by m (next_of m side indirect)) (then_told m side.place event_idx) (λ e. refl)
    (subst (λ r. IsUnlessMemory (Err e) (request_by m r)) next h)

-- a request that is read, where the position can be told, and where it can't be
pub taken_as : (m : Memory) (indirect event_idx : Bool) (side : Side) (chain : Chain) (h : Hand) → Ok (Some chain) ≡ next_of m side indirect → Ok h ≡ request_in m chain → hand_at m indirect event_idx side ≡ where_told m side.place event_idx h
taken_as m indirect event_idx side chain h next read =
    ap (λ r. then_told m side.place event_idx (request_by m r)) (sym next) ∙ ap (then_told m side.place event_idx) (sym read)

-- THE POSITION IS TOLD, by what a step to it answers with event indices or without
pub record Accepts (m : Memory) (side : Side) (event_idx : Bool) (r : Result (Unit {0}) Unmapped) (new : Option Memory) : Type 0 where
  pub event : event_idx ≡ true → Stores m (available_event_at side.place) (little_bytes 2 (next16 side.position)) r new
  pub no_event : event_idx ≡ false → IsOk r × (new ≡ Some m)

two_bytes : (n : ℕ) → length (little_bytes 2 n) ≡ 2
two_bytes n = length-bytes_low_first 0 2 n

where_fails : (r : Result (List ℕ) ℕ) (at : ℕ) (h : Hand) → r ≡ Err at → where_read r h ≡ Err (fetch.Bus at)
where_fails r at h e = ap (λ x. where_read x h) e

where_works : (r : Result (List ℕ) ℕ) (h : Hand) → IsOk r → where_read r h ≡ Ok h
where_works (Ok bytes) h ok = refl
where_works (Err at) h ok = absurd (cc)

pub not_told : (m : Memory) (side : Side) (event_idx : Bool) (bus : Unmapped) (new : Option Memory) (h : Hand) → Accepts m side event_idx (Err bus) new → (where_told m side.place event_idx h ≡ Err (fetch.Bus bus.at)) × (new ≡ Some m)
not_told m side true bus new h a =
    let failed = a.event refl in
    (where_fails _ bus.at h (sym (ap (read m (available_event_at side.place)) (two_bytes (next16 side.position))) ∙ failed.0), failed.1)
not_told m side false bus new h a = absurd (cc (a.no_event refl).0)

pub is_told : (m : Memory) (side after : Side) (event_idx : Bool) (done : Unit {0}) (new : Option Memory) (h : Hand) → after ≡ record side { position = next16 side.position } → Accepts m side event_idx (Ok done) new
    → (where_told m side.place event_idx h ≡ Ok h) × (new ≡ Some (with_event event_idx after m))
is_told m side after true done new h moved a =
    let stored = a.event refl in (
      where_works _ h (subst (λ n. IsOk (read m (available_event_at side.place) n)) (two_bytes (next16 side.position)) stored.0),
      stored.1 ∙ ap (λ (s : Side). Some (written m (available_event_at s.place) (little_bytes 2 s.position))) (sym moved),
    )
is_told m side after false done new h moved a = (refl, (a.no_event refl).1)
