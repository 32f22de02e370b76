use Rattle.std.proofs.Common.{ap, sym, ◌∙◌, refl}
use Rattle.std.specs.List.{list_any}
use Rattle.vd_model.specs.Queues.{made_buffer}
use Rattle.vd_request_lines.specs.Asking.{wants_made_buffer}
use Rattle.vd_instance.specs.Drivers.{owns}
use Rattle.vd_instance.proofs.Regions.{any_pending}
use Rattle.vd_instance.proofs.instance.Instance.wants_made_buffer.Goals as goal

pub returns-in-Read : goal.returns-in-Read
returns-in-Read c = λ x made acts m s.
    c.owns_buffer.ensures ∙ ap (list_any (owns (made_buffer c.in-Read.buffer))) c.deref.ensures.value ∙ any_pending (made_buffer c.in-Read.buffer) refl s
    ∙ ap (wants_made_buffer made acts) (sym c.in-Read.is)

pub returns-in-Write : goal.returns-in-Write
returns-in-Write c = λ x made acts m s.
    c.owns_buffer-in-Write.ensures ∙ ap (list_any (owns (made_buffer c.in-Write.buffer))) c.deref-in-Write.ensures.value ∙ any_pending (made_buffer c.in-Write.buffer) refl s
    ∙ ap (wants_made_buffer made acts) (sym c.in-Write.is)

pub returns-in-Flush : goal.returns-in-Flush
returns-in-Flush c = λ x made acts m s. ap (wants_made_buffer made acts) (sym c.in-Flush.is)

pub returns-in-Id : goal.returns-in-Id
returns-in-Id c = λ x made acts m s.
    c.owns_buffer-in-Id.ensures ∙ ap (list_any (owns (made_buffer c.in-Id.buffer))) c.deref-in-Id.ensures.value ∙ any_pending (made_buffer c.in-Id.buffer) refl s
    ∙ ap (wants_made_buffer made acts) (sym c.in-Id.is)
