-- The end of a session, a reset, and what is live.
use Rattle.std.proofs.Common.{◌≡◌, ℕ, zero, suc, ◌+◌, ◌||◌, refl, arith, nat_lt, ap, ◌∙◌, length, Option, None, Some, List, ◌∷◌, ◌++◌}
use Rattle.std.proofs.lemmas.Bool.Decides.{nat_tests}
use Rattle.vd_pool.specs.Memory.{PoolMemory as Pool}
use Rattle.vd_model.specs.Setting.{Setting}
use Rattle.vd_model.specs.Acts.{Act, Node, State, Closed, Deregistered, Streaming, Coherent}
use Rattle.vd_model.specs.State.{Cleared}
use Rattle.vd_model.specs.Live.{live_mappings, live_regions, Registration}
use Rattle.vd_model.specs.NodeTurns.{registration_end}
use Rattle.vd_domain.specs.Held.{Held}
use Rattle.vd_domain.specs.Stands as domain
use Rattle.vd_buffers.proofs.Changed.{leaves_buffers}
use Rattle.vd_memory_lines.specs.declared.memory.Memory.{Memory}
use Rattle.vd_memory_lines.specs.Stands.{Stands}
use Rattle.vd_memory_lines.proofs.Parts.{stay_inside, domain_act}

module _ (x : Setting) (acts : List Act) (k : Memory) (m : Pool) (s : Stands x acts k m) where
  pub closed : (o : Option Registration) (d : Held) (q : Pool) → domain.Stands x (Node Closed ∷ (registration_end o ++ acts)) d q → Stands x (Node Closed ∷ (registration_end o ++ acts)) (record k { domain = d }) q
  closed None d q stands = domain_act x acts k m s (Node Closed) d q refl refl stands
  closed (Some r) d q stands = record {
    domain = stands;
    buffers = leaves_buffers x.per_page (Node Deregistered ∷ acts) k.buffers (leaves_buffers x.per_page acts k.buffers s.buffers (Node Deregistered) refl) (Node Closed) refl;
    inside = stay_inside acts (Node Closed ∷ Node Deregistered ∷ acts) (live_mappings acts) (λ b size e. e) s.inside;
  }

  pub cleared : (d : Held) → domain.Stands x (State Cleared ∷ acts) d m → Stands x (State Cleared ∷ acts) (record k { domain = d }) m
  cleared d stands = domain_act x acts k m s (State Cleared) d m refl refl stands

  some_of : (a b : ℕ) → nat_lt 0 (a + b) ≡ (nat_lt 0 a || nat_lt 0 b)
  some_of zero b = (let e : 0 + b ≡ b = omega arith in ap (λ n. nat_lt 0 n) e)
  some_of (suc a) b = grind (arith, nat_tests)

  pub live_is : nat_lt 0 (length k.domain.live + length k.domain.regions) ≡ (nat_lt 0 (length (live_mappings acts)) || nat_lt 0 (length (live_regions acts)))
  live_is = some_of (length k.domain.live) (length k.domain.regions)
      ∙ ap (λ (l : List Streaming). nat_lt 0 (length l) || nat_lt 0 (length k.domain.regions)) s.domain.live
      ∙ ap (λ (l : List Coherent). nat_lt 0 (length (live_mappings acts)) || nat_lt 0 (length l)) s.domain.regions
