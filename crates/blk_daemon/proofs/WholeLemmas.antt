-- A chain that a ring gives has the lengths of its parts.
use Rattle.std.proofs.Common.{◌≡◌, ℕ, Bool, true, false, if◌then◌else◌, ◌==◌, nat_lt, nat_le, List, ◌∷◌, Option, Some, None, Result, Ok, Err, refl, sym, subst}
use Rattle.vd_model.specs.Memory.{Memory}
use Rattle.vd_model.specs.Rings.{minus16, number16, available_index_at, available_slot_at}
use Rattle.vd_model.specs.Trace.{TraceStart, trace_start, Ending, whole, faulty, missing, EndsAs, ending_at, ending_by, ending_of, fault_at, fault_by, fault_of, fault_of_read, first_kind, is_among, parts_at, descriptor_at, next_position, chain_of}
use Rattle.vd_model.specs.declared.answer.ChainKind.{ChainKind}
use Rattle.vd_model.specs.declared.answer.ChainKind.TheVariants.{Head}
use Rattle.vd_model.specs.declared.descriptor.Descriptor.{Descriptor}
use Rattle.vd_model.specs.declared.descriptor.Position.{Position}
use Rattle.vd_model.specs.declared.parts.Part.{Part}
use Rattle.vd_model.specs.declared.parts.Chain.{Chain}
use Rattle.vd_model.specs.declared.queue.RingPlace.{RingPlace}
use Rattle.vr_chain.proofs.Tracks.{ends-ending_of}
use Rattle.vr_device.specs.Side.{Side}
use Rattle.vr_device.specs.Device.{next_of, next_by, pop_of, popped}
use Rattle.vr_device.specs.declared.error.PopError.{PopError}
use Rattle.vr_device.specs.declared.error.PopError.TheVariants.{Ahead}

-- its lengths are the sums over its parts
abbrev pub HasLens : Chain → Type 0
HasLens chain = chain ≡ chain_of chain.head chain.parts

-- no fault is a chain
not_by_kind : (p : Position) (kind : Option ChainKind) (chain : Chain) → fault_by p kind ≡ Some (whole chain) → ⊥
not_by_kind p None chain e = cc
not_by_kind p (Some kind) chain e = cc

not_by_read : (s : TraceStart) (parts : List Part) (positions : List Position) (p : Position) (r : Result Descriptor ℕ) (chain : Chain) → fault_of_read s parts positions p r ≡ Some (whole chain) → ⊥
not_by_read s parts positions p (Err at) chain e = cc
not_by_read s parts positions p (Ok d) chain e = not_by_kind p (first_kind s.negotiated parts (is_among p.table.number d.next positions) p d) chain e

not_by_head : (headless : Bool) (p : Position) (rest : Option Ending) (chain : Chain) → (rest ≡ Some (whole chain) → ⊥) → (if headless then Some (fault_of p Head) else rest) ≡ Some (whole chain) → ⊥
not_by_head true p rest chain never e = cc
not_by_head false p rest chain never e = never e

ends_whole : (fault : Option Ending) (next : Option Position) (head : ℕ) (parts : List Part) (chain : Chain) → (fault ≡ Some (whole chain) → ⊥) → ending_by fault next (chain_of head parts) ≡ Some (whole chain) → HasLens chain
ends_whole (Some fault) next head parts chain never e = absurd (never e)
ends_whole None (Some next) head parts chain never e = absurd (cc)
ends_whole None None head parts chain never e = let same : chain_of head parts ≡ chain = cc in subst HasLens same refl

lens_at : (s : TraceStart) (m : Memory) (before : List Position) (p : Position) (chain : Chain) → ending_at s m before p ≡ Some (whole chain) → HasLens chain
unfolding ending_at
lens_at s m before p chain e =
    ends_whole (fault_at s m before p) (next_position m p) s.head (parts_at m (p ∷ before)) chain
    (not_by_head (nat_le s.ring.size s.head) p _ chain (not_by_read s (parts_at m before) (p ∷ before) p (descriptor_at m p) chain)) e

by_ending : (s : TraceStart) (m : Memory) (end : Ending) (chain : Chain) → EndsAs s m end → popped end ≡ Ok (Some chain) → HasLens chain
by_ending s m (whole c) chain ends e = let same : c ≡ chain = cc in subst HasLens same (lens_at s m ends.1 ends.0 c ends.3)
by_ending s m (faulty fault) chain ends e = absurd (cc)
by_ending s m (missing at) chain ends e = absurd (cc)

by_slot : (m : Memory) (place : RingPlace) (indirect : Bool) (slot : Result ℕ ℕ) (chain : Chain) → pop_of m place indirect slot ≡ Ok (Some chain) → HasLens chain
by_slot m place indirect (Err at) chain e = absurd (cc)
by_slot m place indirect (Ok head) chain e = by_ending (trace_start place head indirect) m (ending_of (trace_start place head indirect) m) chain (ends-ending_of (trace_start place head indirect) m) e

by_tests : (none ahead : Bool) (found known : ℕ) (rest : Result (Option Chain) PopError) (chain : Chain) → (rest ≡ Ok (Some chain) → HasLens chain)
    → (if none then Ok None else if ahead then Err (Ahead found known) else rest) ≡ Ok (Some chain) → HasLens chain
by_tests true ahead found known rest chain goes e = absurd (cc)
by_tests false true found known rest chain goes e = absurd (cc)
by_tests false false found known rest chain goes e = goes e

by_index : (m : Memory) (side : Side) (indirect : Bool) (index : Result ℕ ℕ) (chain : Chain) → next_by m side indirect index ≡ Ok (Some chain) → HasLens chain
by_index m side indirect (Err at) chain e = absurd (cc)
by_index m side indirect (Ok found) chain e =
    by_tests (found == side.position) (nat_lt side.place.size (minus16 found side.position)) found side.position _ chain
    (by_slot m side.place indirect (number16 m (available_slot_at side.place side.position)) chain) e

pub next_has_lens : (m : Memory) (side : Side) (indirect : Bool) (chain : Chain) → Ok (Some chain) ≡ next_of m side indirect → HasLens chain
next_has_lens m side indirect chain e = by_index m side indirect (number16 m (available_index_at side.place)) chain (sym e)
