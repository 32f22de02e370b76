-- One call on a disk in memory leads from one of its states to the next one.
use Rattle.std.proofs.Common.{◌≡◌, ℕ, List, [], ◌∷◌, Bool, if◌then◌else◌, refl, sym, ap, subst, ◌∙◌}
use Rattle.vd_io.specs.Faults.{Calls, is_to_fail, after_call}
use Rattle.blk_disk.specs.Moments.{Lie}
use Rattle.blk_memory_disk.specs.Stored.{Stored}
use Rattle.blk_memory_disk.specs.Passing.{DiskState, lists_of, after, IsCall, Passes}

pub one_call : (map : ℕ → List (List ℕ)) (a b : DiskState) → IsCall a b → Lie map (lists_of a) → Lie map (lists_of b) → Passes map a b
one_call map a b call before later = (b ∷ [], (before, call, (later, refl)))

-- a call that was counted, and did this to what the disk holds unless it failed
pub by_call : (act : Stored → Stored) (old : DiskState) (store new : Stored) (calls counted : Calls) (failed : Bool) → record { stored = store; calls = calls } ≡ old → failed ≡ is_to_fail calls →
    counted ≡ after_call (is_to_fail calls) calls → new ≡ (if failed then store else act store) → record { stored = new; calls = counted } ≡ after act old
by_call act old store new calls counted failed view fails count same =
    let with_store : Stored → DiskState = λ s. record { stored = s; calls = counted } in
    let with_calls : Calls → DiskState = λ k. record { stored = (if is_to_fail calls then store else act store); calls = k } in
    let here : record { stored = new; calls = counted } ≡ after act (record { stored = store; calls = calls }) =
    ap with_store (same ∙ ap (λ (b : Bool). if b then store else act store) fails) ∙ ap with_calls count in
    subst (λ (d : DiskState). record { stored = new; calls = counted } ≡ after act d) view here

pub kept_if : (failed b : Bool) (x y : Stored) → failed ≡ b → (if b then x else y) ≡ (if failed then x else y)
kept_if failed b x y is = ap (λ (t : Bool). if t then x else y) (sym is)
