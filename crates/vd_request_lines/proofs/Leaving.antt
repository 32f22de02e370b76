-- Acts of other kinds leave a queue's requests alone.
use Rattle.std.proofs.Common.{◌≡◌, ℕ, zero, suc, Bool, true, false, ◌==◌, ◌&&◌, refl, ap, sym, subst, ◌∙◌, List, [], ◌∷◌, ◌++◌, Some, None, Option, true≢false}
use Rattle.std.specs.Prelude.{find, not, IfSome}
use Rattle.std.specs.List.{list_all}
use Rattle.std.specs.Option.{option_map, option_map_or}
use Rattle.vd_model.specs.Acts.{Act, Streaming, Driver, Driver_put, Unmapped}
use Rattle.vd_model.specs.RingTurns.{unmap_act, unmap_acts, free_acts}
use Rattle.vd_queue_sides.specs.Chains.{Chains, is_ring_act, is_head}
use Rattle.vd_queue_sides.proofs.Leaving.{chains_after}
use Rattle.vd_queue_sides.proofs.Drivers.{ring_after}
use Rattle.vd_rings.specs.Stands.{frees, leaves_ring}
use Rattle.vd_rings.proofs.Leaving.{lies_after}
use Rattle.vd_ring_memory.specs.RingPuts.{AreRingPuts}
use Rattle.vd_ring_memory.specs.RingPutLemmas.{as_ring_put}
use Rattle.vd_request_lines.specs.declared.held.HeldDriver.{HeldDriver}
use Rattle.vd_request_lines.specs.Stands.{RequestsStand, ring_in, ring_held, side_held, pending_held, chain_at, ArePending}

not_true : (a : Bool) → not a ≡ true → a ≡ false
not_true true e = absurd (true≢false (sym e))
not_true false e = refl

both_of : (a b : Bool) → (a && b) ≡ true → (a ≡ true) × (b ≡ true)
both_of true b e = (refl, e)
both_of false b e = absurd (true≢false (sym e))

pub requests_stay_after : (q : ℕ) (act : Act) (acts : List Act) (kept : Option HeldDriver) → leaves_ring q (ring_in kept) act ≡ true → RequestsStand acts q kept → RequestsStand (act ∷ acts) q kept
requests_stay_after q act acts kept e s =
    let parts = both_of (not (is_ring_act q act)) (not (frees (ring_in kept) act)) e in
    let none = not_true (is_ring_act q act) parts.0 in
    let same = sym (chains_after q act acts none) in
    record {
      side = ring_after q act acts none (option_map side_held kept) s.side;
      lies = by kept (not_true (frees (ring_in kept) act) parts.1) s.lies;
      pending = subst (λ (c : Chains). ArePending c.out (pending_held kept)) same s.pending;
      seen = subst (λ (c : Chains). (id : ℕ) → is_head c.seen id ≡ true → chain_at c.seen id ≡ chain_at c.out id) same s.seen;
    } where
      by : (kept : Option HeldDriver) → frees (ring_in kept) act ≡ false → IfSome kept (λ held. Rattle.vd_rings.specs.Stands.RingLies acts (ring_held held))
          → IfSome kept (λ held. Rattle.vd_rings.specs.Stands.RingLies (act ∷ acts) (ring_held held))
      by None f l = tt
      by (Some held) f l = lies_after acts (ring_held held) act f l

-- acts of other kinds and of other queues leave a queue's requests alone, as long as none frees the ring's region
pub requests_stay : (q : ℕ) (acts done : List Act) (kept : Option HeldDriver) → list_all (leaves_ring q (ring_in kept)) acts ≡ true → RequestsStand done q kept → RequestsStand (acts ++ done) q kept
requests_stay q [] done kept e s = s
requests_stay q (act ∷ acts) done kept e s =
    let parts = both_of (leaves_ring q (ring_in kept) act) (list_all (leaves_ring q (ring_in kept)) acts) e in
    requests_stay_after q act (acts ++ done) kept parts.0 (requests_stay q acts done kept parts.1 s)

-- puts into coherent memory do
pub requests_after_puts : (base puts acts : List Act) (q : ℕ) (held : HeldDriver) → AreRingPuts base puts → RequestsStand acts q (Some held) → RequestsStand (puts ++ acts) q (Some held)
requests_after_puts base [] acts q held only s = s
requests_after_puts base (act ∷ puts) acts q held only s =
    let p = as_ring_put base act only.0 in
    subst (λ (t : Act). RequestsStand (t ∷ puts ++ acts) q (Some held)) (sym p.2)
    (requests_stay_after q (Driver (Driver_put p.0 p.1)) (puts ++ acts) (Some held) refl (requests_after_puts base puts acts q held only.1 s))

-- and so do unmaps, and the end of buffers
all_both : (p : Act → Bool) (xs ys : List Act) → list_all p xs ≡ true → list_all p ys ≡ true → list_all p (xs ++ ys) ≡ true
all_both p [] ys e f = f
all_both p (x ∷ xs) ys e f =
    let parts = both_of (p x) (list_all p xs) e in
    ap (λ t. t && list_all p (xs ++ ys)) parts.0 ∙ all_both p xs ys parts.1 f

module _ (q : ℕ) (held : HeldDriver) where
  abbrev leaves : Act → Bool
  leaves = leaves_ring q (ring_in (Some held))

  found_leaves : (o : Option Streaming) → list_all leaves (option_map_or (λ m. Driver (Unmapped m) ∷ []) o []) ≡ true
  found_leaves None = refl
  found_leaves (Some m) = refl

  pub unmaps_leave : (mappings : List Streaming) (numbers : List ℕ) → list_all (leaves_ring q (ring_in (Some held))) (unmap_acts mappings numbers) ≡ true
  unmaps_leave mappings [] = refl
  unmaps_leave mappings (number ∷ numbers) =
      all_both leaves (unmap_acts mappings numbers) (unmap_act mappings number) (unmaps_leave mappings numbers) (found_leaves (find (λ m. m.number == number) mappings))

  pub frees_leave : (buffer n : ℕ) → list_all (leaves_ring q (ring_in (Some held))) (free_acts buffer n) ≡ true
  frees_leave buffer zero = refl
  frees_leave buffer (suc n) = frees_leave buffer n
