use Rattle.std.proofs.Common.{◌≡◌, ◌*◌, ◌/◌, ◌<◌, arith, ap, ◌∙◌, length, ◌||◌, true}
use Rattle.vd_bounce.specs.Bounce.{is_page_present, page_size}
use Rattle.vd_num.specs.Number.{is_within}
use Rattle.vd_bounce.proofs.Pages.{within_high}
use Rattle.vd_domain.proofs.Present.{held_present}
use Rattle.vd_domain.proofs.pages.show.Goals as goal

pub put-requires-clause-there : goal.put-requires-clause-there
put-requires-clause-there c = λ a low high.
    let size : page_size c.hold.new.map ≡ page_size c.args.map.now = ap (λ n. 4096 * n) c.hold.ensures.same.size in
    let covered : is_within c.args.pages.first c.args.pages.count (a / page_size c.args.map.now) ≡ true = c.requires.inside a low high in
    let top = within_high c.args.pages.first c.args.pages.count (a / page_size c.args.map.now) covered in
    let range = c.requires.range in
    let page : a / page_size c.args.map.now < length c.args.map.now.frames = omega arith in
    ap (λ n. is_page_present c.hold.new.map (a / n)) size
    ∙ held_present c.args.map.now c.hold.new.map c.args.pages.first c.args.pages.count c.hold.ensures.same c.hold.ensures.frames (a / page_size c.args.map.now) page
    ∙ ap (λ b. b || is_page_present c.args.map.now (a / page_size c.args.map.now)) covered
