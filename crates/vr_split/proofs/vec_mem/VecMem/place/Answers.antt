use Rattle.std.proofs.Common.{◌≤◌, ◌<◌, ◌+◌, ◌-◌, ◌≡◌, ◌⊎◌, inl, inr, arith, length, ap, sym, ◌∙◌, Err, List, ℕ}
use Rattle.vd_model.specs.Memory.{bytes_from}
use Rattle.vr_split.specs.MemLemmas.{read-absent, read-past, bytes_from-outside}
use Rattle.vr_split.proofs.vec_mem.VecMem.place.Goals as goal
use Rattle.vr_split.proofs.vec_mem.VecMem.place.Goals.{then-at-self-via-then-at-self, then-at-self-via-else-at-self+then-at-self-2}

pub returns-then-at-self-clause-missing : goal.returns-then-at-self-clause-missing
returns-then-at-self-clause-missing c =
    let base = c.args.self.now.base in
    let bytes = c.args.self.now.bytes.items in
    let outside : (c.args.at < base) ⊎ (base + length bytes ≤ c.args.at) =
    elim c.then-at-self.branch [ then-at-self-via-then-at-self w ↦ inl (omega arith) | then-at-self-via-else-at-self+then-at-self-2 w ↦ inr (omega arith) ] in
    read-absent (bytes_from base bytes) c.args.at c.args.n c.requires (bytes_from-outside base bytes c.args.at outside)

pub returns-then-n-len-clause-missing : goal.returns-then-n-len-clause-missing
returns-then-n-len-clause-missing c =
    let base = c.args.self.now.base in
    let bytes = c.args.self.now.bytes.items in
    let i = c.args.at - base in
    let at : c.args.at ≡ base + i = omega arith in
    rw at (read-past base bytes i c.args.n (omega arith) (omega arith) ∙ ap (λ (l : List ℕ). Err (base + length l)) (sym c.as_slice-len.ensures.value))
