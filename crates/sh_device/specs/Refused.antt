-- Why a mapping or a coherent region is refused.
use Rattle.std.specs.Prelude.{ℕ, ◌≡◌}
use Rattle.vd_num.specs.declared.errno.Errno.TheVariants.{Nospc}
use Rattle.sh_parts.specs.declared.entry.DomainStep.{DomainStep}
use Rattle.sh_parts.specs.declared.entry.DomainAnswer.TheVariants as answer
use Rattle.sh_parts.specs.Legal.{Numbers}
use Rattle.sh_device.specs.declared.memory.MapRefused.{MapRefused}
use Rattle.sh_device.specs.declared.memory.MapRefused.TheVariants.{Empty, NoSpace, Memory}
use Rattle.sh_device.specs.Calls.{IsDomainNote}

-- the length is 0, or the noted entry, which is of this step, answers that there is no place
abbrev pub IsRefusal : {N : Type 0} → Numbers → DomainStep → ℕ → MapRefused N → Type 0
IsRefusal x step len Empty = len ≡ 0
IsRefusal x step len (NoSpace note) = IsDomainNote x note step (answer.Err Nospc)
IsRefusal x step len Memory = Unit {0}
