-- What is told by a daemon's memory, and what a domain stands for.
use Rattle.std.proofs.Common.{◌≡◌, ℕ, refl, ap, sym, ◌∙◌, subst, List, [], ◌∷◌, length, Some, None, Option, Result, Ok, Err, MatchResult}
use Rattle.std.specs.Result.{IsOk, OnErr}
use Rattle.std.proofs.Props.{props}
use Rattle.std.proofs.Math.Logic.{∥∥₁_elim, ∥∥₁_map}
use Rattle.vd_num.specs.declared.number.Bus.{Bus}
use Rattle.vd_pool.specs.Memory.{PoolMemory as Pool}
use Rattle.vd_model.specs.Memory.{Memory, read, written}
use Rattle.vd_model.specs.Setting.{Setting}
use Rattle.vd_model.specs.Acts.{Act, Node, Daemon_put}
use Rattle.vd_model.specs.AreaTurns.{first_bus}
use Rattle.vd_model.specs.DaemonTurns.{daemon_memory}
use Rattle.vd_domain.specs.Held.{Held}
use Rattle.vd_domain.specs.Seen.{daemon_map}
use Rattle.vd_domain.specs.Stands.{Stands}
use Rattle.vr_split.specs.Mem.{Loads, Stores}
use Rattle.vd_ring_memory.specs.Puts.{PutsAfter, IsReached}
use Rattle.vd_ring_memory.proofs.Reading.{daemon_reads}
use Rattle.vd_ring_memory.proofs.Writing.{daemon_put, reached_all}

pub loads_prop : (m : Memory) (at n : ℕ) (r : Result (Unit {0}) Bus) (out : List ℕ) → IsProp (Loads m at n r out)
loads_prop m at n (Ok u) out = Prim.hlevel props
loads_prop m at n (Err bus) out = Prim.hlevel props

pub ok_prop : (r : Result (List ℕ) ℕ) → IsProp (IsOk r)
ok_prop r = Prim.hlevel props

pub option_prop : (a b : Option ℕ) → IsProp (a ≡ b)
option_prop a b = Prim.hlevel props

pub ok_of : (r : Result (List ℕ) ℕ) (bytes : List ℕ) → r ≡ Ok bytes → IsOk r
ok_of (Ok b) bytes e = refl
ok_of (Err a) bytes e = cc

-- a store by the acts is one by the map
module _ (h k : Held) (m n : Pool) (at : ℕ) (bytes : List ℕ) where
  -- what a call on the domain says of it
  abbrev pub Stored : Result (Unit {0}) Bus → Type 0
  Stored r = (x : Setting) (acts : List Act) → Stands x acts h m → MatchResult r
      (λ _. (first_bus x acts at (length bytes) ≡ None) × Stands x (Node (Daemon_put at bytes) ∷ acts) k n)
      (λ bus. first_bus x acts at (length bytes) ≡ Some bus.at)

  abbrev pub Sees : Held → Pool → Type 0
  Sees h m = (x : Setting) (acts : List Act) → Stands x acts h m → daemon_map h m ≡ daemon_memory x acts

  read_ok : (x : Setting) (acts : List Act) → daemon_map h m ≡ daemon_memory x acts → first_bus x acts at (length bytes) ≡ None → IsOk (read (daemon_map h m) at (length bytes))
  read_ok x acts e none = ok_of _ _ (daemon_reads x acts _ e at (length bytes) None none)

  pub stores : (r : Result (Unit {0}) Bus) → ∥ IsReached h m ∥₁ → Sees h m → Sees k n → Stored r → OnErr r ((k ≡ h) × (n ≡ m)) → Stores (daemon_map h m) at bytes r (Some (daemon_map k n))
  stores (Ok u) reached before after stored same = (
    ∥∥₁_elim reached (ok_prop (read (daemon_map h m) at (length bytes))) (λ r.
        let s = stored r.setting r.acts r.stands in read_ok r.setting r.acts (before r.setting r.acts r.stands) s.0),
    ap Some (λ j a. ∥∥₁_elim reached (option_prop (daemon_map k n a) (written (daemon_map h m) at bytes a)) (λ r.
        let s = stored r.setting r.acts r.stands in
        let e = after r.setting (Node (Daemon_put at bytes) ∷ r.acts) s.1 ∙ daemon_put r.setting r.acts at bytes (reached_all r.setting r.acts at (length bytes) s.0)
        ∙ ap (λ (t : Memory). written t at bytes) (sym (before r.setting r.acts r.stands)) in
        ap (λ (t : Memory). t a) e) j),
  )
  stores (Err bus) reached before after stored same = (
    ∥∥₁_elim reached (loads_prop (daemon_map h m) at (length bytes) (Err bus) []) (λ r. daemon_reads r.setting r.acts _ (before r.setting r.acts r.stands) at (length bytes) (Some bus.at) (stored r.setting r.acts r.stands)),
    ap Some (ap (λ (t : Held). daemon_map t n) same.0 ∙ ap (λ (t : Pool). daemon_map h t) same.1),
  )

  pub reaches : (r : Result (Unit {0}) Bus) → ∥ IsReached h m ∥₁ → Stored r → OnErr r ((k ≡ h) × (n ≡ m)) → ∥ IsReached k n ∥₁
  reaches (Ok u) reached stored same = ∥∥₁_map reached (λ r. record { setting = r.setting; acts = Node (Daemon_put at bytes) ∷ r.acts; stands = (stored r.setting r.acts r.stands).1 })
  reaches (Err bus) reached stored same = subst (λ (t : Pool). ∥ IsReached k t ∥₁) (sym same.1) (subst (λ (t : Held). ∥ IsReached t m ∥₁) (sym same.0) reached)

  pub puts_after : (r : Result (Unit {0}) Bus) → Stored r → OnErr r ((k ≡ h) × (n ≡ m)) → (x : Setting) (done : List Act) → Stands x done h m → PutsAfter x done k n
  puts_after (Ok u) stored same x done s =
      let t = stored x done s in
      record { puts = Node (Daemon_put at bytes) ∷ []; only = (reached_all x done at (length bytes) t.0, tt); stands = t.1 }
  puts_after (Err bus) stored same x done s = record {
    puts = [];
    only = tt;
    stands = subst (λ (t : Pool). Stands x done k t) (sym same.1) (subst (λ (t : Held). Stands x done t m) (sym same.0) s);
  }
