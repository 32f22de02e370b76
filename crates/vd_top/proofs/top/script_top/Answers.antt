use Rattle.std.proofs.Common.{◌≡◌, ◌∙◌, sym, arith, [], Some, take}
use Rattle.vd_output.specs.Out.{good_lines, history_after}
use Rattle.vd_laws.proofs.AllLaws.{all_laws}
use Rattle.vd_transfer_laws.proofs.Transfers.{transfer_law}
use Rattle.vd_region_laws.proofs.LiveRegions.{region_law}
use Rattle.vd_order_laws.proofs.OrderLaw.{order_law}
use Rattle.vd_disk_laws.proofs.BlockLaw.{block_law}
use Rattle.vd_options.specs.Words.{sizes_in}
use Rattle.vd_top.proofs.Conditions.{fit_devices, sized, is_addressed, is_whole}
use Rattle.vd_top.proofs.Ends.{complete}
use Rattle.vd_top.proofs.top.script_top.Goals as goal

pub run-requires : goal.run-requires
run-requires g c =
    fit_devices c.in-Ok.options c.sizes_of.result c.sizes_of.ensures.bounce c.sizes_of.ensures.iova c.sizes_of.ensures.per_page c.in-Ok.ensures.fit

pub returns-in-Ok-clause-stopped : goal.returns-in-Ok-clause-stopped
returns-in-Ok-clause-stopped g c = λ sizes text given. c.run.ensures.stopped text given.told

pub returns-in-Ok-clause-failures : goal.returns-in-Ok-clause-failures
returns-in-Ok-clause-failures g c = λ sizes text given. c.run.ensures.failures text given.told

pub returns-in-Ok-clause-untouched : goal.returns-in-Ok-clause-untouched
returns-in-Ok-clause-untouched g c = λ sizes text given none. c.run.ensures.untouched text given.told none

pub returns-in-Ok-clause-written : goal.returns-in-Ok-clause-written
returns-in-Ok-clause-written g c = λ sizes x text given has sectors image.
    let same : Some sizes ≡ Some (sizes_in c.in-Ok.options) = sym given.asked ∙ c.in-Ok.ensures.asked in
    c.run.ensures.written x text (sized c.in-Ok.options c.sizes_of.result c.sizes_of.ensures.bounce c.sizes_of.ensures.iova c.sizes_of.ensures.per_page x sizes same has) sectors given.told image

pub returns-in-Ok-clause-image : goal.returns-in-Ok-clause-image
returns-in-Ok-clause-image g c = λ sizes x text given has image.
    let same : Some sizes ≡ Some (sizes_in c.in-Ok.options) = sym given.asked ∙ c.in-Ok.ensures.asked in
    c.run.ensures.image x text (sized c.in-Ok.options c.sizes_of.result c.sizes_of.ensures.bounce c.sizes_of.ensures.iova c.sizes_of.ensures.per_page x sizes same has) given.told image

pub returns-in-Ok-clause-complete : goal.returns-in-Ok-clause-complete
returns-in-Ok-clause-complete g c = λ sizes text given whole source sink.
    complete text c.run.result.status c.run.result.line c.run.result.lines_done _ c.run.ensures.known (c.run.ensures.stopped text given.told) whole
    (λ three. source (c.run.ensures.source_failed three)) (λ four. sink (c.run.ensures.sink_failed four))

pub returns-in-Ok-clause-laws : goal.returns-in-Ok-clause-laws
returns-in-Ok-clause-laws g c = λ sizes x text n given has.
    let same : Some sizes ≡ Some (sizes_in c.in-Ok.options) = sym given.asked ∙ c.in-Ok.ensures.asked in
    let fit = c.in-Ok.ensures.fit in
    let h = history_after c.run.result.disk_failures 1 [] (take n (good_lines text)) in (
      is_addressed c.in-Ok.options c.sizes_of.result c.sizes_of.ensures.bounce c.sizes_of.ensures.iova c.sizes_of.ensures.per_page x sizes same has fit,
      is_whole c.in-Ok.options c.sizes_of.result c.sizes_of.ensures.bounce c.sizes_of.ensures.iova c.sizes_of.ensures.per_page x sizes same has fit,
      record { laws = all_laws x h; transfers = transfer_law x h; regions = region_law x h; requests = record { order = order_law x h; block = block_law x h } },
    )

pub returns-in-Err-clause-laws : goal.returns-in-Err-clause-laws
returns-in-Err-clause-laws g c = λ sizes x text n given has. let asked = given.asked in grind (arith, asked)

pub returns-in-Err-clause-stopped : goal.returns-in-Err-clause-stopped
returns-in-Err-clause-stopped g c = λ sizes text given. let asked = given.asked in grind (arith, asked)

pub returns-in-Err-clause-failures : goal.returns-in-Err-clause-failures
returns-in-Err-clause-failures g c = λ sizes text given. let asked = given.asked in grind (arith, asked)

pub returns-in-Err-clause-untouched : goal.returns-in-Err-clause-untouched
returns-in-Err-clause-untouched g c = λ sizes text given none. let asked = given.asked in grind (arith, asked)

pub returns-in-Err-clause-written : goal.returns-in-Err-clause-written
returns-in-Err-clause-written g c = λ sizes x text given has sectors image. let asked = given.asked in grind (arith, asked)

pub returns-in-Err-clause-image : goal.returns-in-Err-clause-image
returns-in-Err-clause-image g c = λ sizes x text given has image. let asked = given.asked in grind (arith, asked)

pub returns-in-Err-clause-complete : goal.returns-in-Err-clause-complete
returns-in-Err-clause-complete g c = λ sizes text given whole source sink. let asked = given.asked in grind (arith, asked)
