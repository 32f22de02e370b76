use Rattle.std.proofs.Common.{ap, sym, ◌∙◌, refl}
use Rattle.std.specs.List.{list_any}
use Rattle.vd_model.specs.Queues.{has_map, made_buffer}
use Rattle.vd_model.specs.History.{is_kept}
use Rattle.vd_instance.specs.Drivers.{is_in, owns}
use Rattle.vd_instance.proofs.Regions.{any_region, any_pending}
use Rattle.vd_instance.proofs.instance.Instance.is_kept.Goals as goal

pub returns-in-Map : goal.returns-in-Map
returns-in-Map c = λ x made acts m s.
    c.owns_buffer.ensures ∙ ap (list_any (owns (made_buffer c.in-Map.buffer))) c.deref.ensures.value ∙ any_pending (made_buffer c.in-Map.buffer) refl s
    ∙ ap (is_kept made acts) (sym c.in-Map.is)

pub returns-in-Unmap : goal.returns-in-Unmap
returns-in-Unmap c = λ x made acts m s.
    c.owns_map.ensures ∙ ap (list_any (owns (has_map c.in-Unmap.mapping))) c.deref-in-Unmap.ensures.value ∙ any_pending (has_map c.in-Unmap.mapping) refl s
    ∙ ap (is_kept made acts) (sym c.in-Unmap.is)

pub returns-in-FreeCoherent : goal.returns-in-FreeCoherent
returns-in-FreeCoherent c = λ x made acts m s.
    c.has_region.ensures ∙ ap (list_any (is_in c.in-FreeCoherent.region)) c.deref-in-FreeCoherent.ensures.value ∙ any_region c.in-FreeCoherent.region s
    ∙ ap (is_kept made acts) (sym c.in-FreeCoherent.is)
