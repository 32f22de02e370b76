use Rattle.std.proofs.Common.{sym, ◌∙◌}
use Rattle.std.proofs.lemmas.List.Elements.{All-nil}
use Rattle.vd_memory_lines.specs.Stands.{IsInside}
use Rattle.vd_memory_lines.proofs.memory.Memory.new.Goals as goal

pub returns-clause-stands : goal.returns-clause-stands
returns-clause-stands c = λ x m b i p. record { domain = c.in_ok-new.ensures.stands x m b i p; buffers = c.new-2.ensures x.per_page; inside = All-nil (IsInside _) }

pub returns-clause-held : goal.returns-clause-held
returns-clause-held c = λ m e. record { holds = c.in_ok-new.ensures.holds m; size = e ∙ sym c.in_ok-new.ensures.size }
