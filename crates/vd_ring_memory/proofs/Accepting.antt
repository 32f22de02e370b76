-- A store by the map is a put by the acts.
use Rattle.std.proofs.Common.{◌≡◌, ℕ, Bool, true, false, if◌then◌else◌, refl, ap, sym, subst, ◌∙◌, List, [], ◌∷◌, ◌++◌, length, Some, None, Option, Result, Ok, Err}
use Rattle.std.specs.Result.{IsOk, OnErr}
use Rattle.byteorder.specs.Endian.{little_bytes}
use Rattle.vd_num.specs.declared.number.Bus.{Bus}
use Rattle.vd_pool.specs.Memory.{PoolMemory as Pool}
use Rattle.vd_model.specs.declared.queue.RingPlace.{RingPlace}
use Rattle.vd_model.specs.Memory.{Memory, read, written}
use Rattle.vd_model.specs.Setting.{Setting}
use Rattle.vd_model.specs.Acts.{Act, Node, Daemon_put}
use Rattle.vd_model.specs.Rings.{available_event_at}
use Rattle.vd_model.specs.AreaTurns.{first_bus}
use Rattle.vd_model.specs.DaemonTurns.{daemon_memory, event_puts, has_event_idx}
use Rattle.vd_domain.specs.Held.{Held}
use Rattle.vd_domain.specs.Seen.{daemon_map}
use Rattle.vd_domain.specs.Stands.{Stands}
use Rattle.vr_split.specs.Mem.{Stores}
use Rattle.vd_ring_memory.specs.Puts.{IsAfterPuts}
use Rattle.vd_ring_memory.proofs.Reading.{daemon_reads}
use Rattle.vd_ring_memory.proofs.Writing.{daemon_put, reached_all}
use Rattle.vd_ring_memory.proofs.Standing.{stands_as_daemon}
use Rattle.vd_ring_memory.specs.Stores.{Accepts}

some_of : {T : Type 0} (a b : T) → Some a ≡ Some b → a ≡ b
some_of a b e = cc

-- what is read can be accessed
pub no_fault : (x : Setting) (acts : List Act) (m : Memory) → m ≡ daemon_memory x acts → (at n : ℕ) → IsOk (read m at n) → first_bus x acts at n ≡ None
no_fault x acts m e at n ok = by (first_bus x acts at n) refl where
  clash : (r : Result (List ℕ) ℕ) (bad : ℕ) → IsOk r → r ≡ Err bad → ⊥
  clash (Ok bytes) bad h g = cc
  clash (Err a) bad h g = cc

  by : (o : Option ℕ) → first_bus x acts at n ≡ o → first_bus x acts at n ≡ None
  by None f = f
  by (Some bad) f = absurd (clash (read m at n) bad ok (daemon_reads x acts m e at n (Some bad) f))

module _ (x : Setting) (acts : List Act) (h k : Held) (m n : Pool) (s : Stands x acts h m) (after : IsAfterPuts h m k n) (before : daemon_map h m ≡ daemon_memory x acts)
    (later : (acts : List Act) → Stands x acts k n → daemon_map k n ≡ daemon_memory x acts) where
  -- the same is seen
  pub kept : daemon_map k n ≡ daemon_map h m → Stands x acts k n
  kept told =
      let p = after.after x acts s in
      stands_as_daemon x acts [] p.puts tt p.only (sym before ∙ sym told ∙ later (p.puts ++ acts) p.stands) k n p.stands

  -- one put is seen
  pub put_seen : (at : ℕ) (bytes : List ℕ) → IsOk (read (daemon_map h m) at (length bytes)) → daemon_map k n ≡ written (daemon_map h m) at bytes → Stands x (Node (Daemon_put at bytes) ∷ acts) k n
  put_seen at bytes ok told =
      let p = after.after x acts s in
      let there = reached_all x acts at (length bytes) (no_fault x acts (daemon_map h m) before at (length bytes) ok) in
      stands_as_daemon x acts (Node (Daemon_put at bytes) ∷ []) p.puts (there, tt) p.only
      (daemon_put x acts at bytes there ∙ ap (λ (t : Memory). written t at bytes) (sym before) ∙ sym told ∙ later (p.puts ++ acts) p.stands) k n p.stands

  pub accepts : (place : RingPlace) (position : ℕ) (flag : Bool) → flag ≡ has_event_idx acts → (r : Result (Unit {0}) Bus)
      → (flag ≡ true → Stores (daemon_map h m) (available_event_at place) (little_bytes 2 position) r (Some (daemon_map k n)))
      → (flag ≡ false → OnErr r ⊥) → (flag ≡ false → daemon_map k n ≡ daemon_map h m)
      → Accepts x acts (event_puts acts place position) (available_event_at place) 2 k n r
  accepts place position true is (Ok u) store fails told =
      subst (λ t. Stands x ((if t then Node (Daemon_put (available_event_at place) (little_bytes 2 position)) ∷ [] else []) ++ acts) k n) is
      (put_seen (available_event_at place) (little_bytes 2 position) (store refl).0 (some_of _ _ (store refl).1))
  accepts place position true is (Err bus) store fails told =
      (ap (λ (t : Memory). read t (available_event_at place) 2) (sym before) ∙ (store refl).0, kept (some_of _ _ (store refl).1))
  accepts place position false is (Ok u) store fails told =
      subst (λ t. Stands x ((if t then Node (Daemon_put (available_event_at place) (little_bytes 2 position)) ∷ [] else []) ++ acts) k n) is (kept (told refl))
  accepts place position false is (Err bus) store fails told = absurd (fails refl)
