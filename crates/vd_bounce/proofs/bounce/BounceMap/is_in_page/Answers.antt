use Rattle.std.proofs.Common.{◌≡◌, ◌+◌, ◌-◌, ◌/◌, ◌%◌, ◌≤◌, ap, sym, subst, ◌∙◌, true}
use Rattle.std.specs.Option.{option_map}
use Rattle.vd_bounce.specs.Bounce.{Bounce, page_size, bounce_len, is_page_present, IsThere}
use Rattle.vd_bounce.proofs.There.{there_in_page, page_end}
use Rattle.vd_bounce.proofs.bounce.BounceMap.is_in_page.Goals.{After-has}
use Rattle.vd_bounce.proofs.bounce.BounceMap.is_in_page.Goals as goal

abbrev seen : After-has → Bounce
seen c = record { frames = c.self.inside.frames.items; area = option_map (λ v. v.items) c.self.inside.area; user = c.self.inside.user; per_page = c.self.inside.per_page }

fits : (c : After-has) → c.args.len ≤ page_size (seen c) - c.args.at % page_size (seen c)
fits c = subst (λ k. c.args.len ≤ page_size (seen c) - k) c.offset_in.ensures c.if-len-size.true

there : (c : After-has) → c.has.result ≡ true → is_page_present (seen c) (c.args.at / page_size (seen c)) ≡ true
there c present =
    ap (λ (t : Bounce). is_page_present t (c.args.at / page_size (seen c))) c.self.view_is ∙ ap (λ p. is_page_present c.args.self.now p) (sym c.page_of.ensures)
    ∙ sym c.has.ensures ∙ present

pub returns-then-len-size-clause-there : goal.returns-then-len-size-clause-there
returns-then-len-size-clause-there c = λ present.
    subst (λ (t : Bounce). IsThere t c.args.at c.args.len) c.self.view_is (there_in_page (seen c) c.args.at c.args.len c.self.invariant.some (fits c) (there c present))

pub returns-then-len-size-clause-end : goal.returns-then-len-size-clause-end
returns-then-len-size-clause-end c = λ present.
    subst (λ (t : Bounce). c.args.at + c.args.len ≤ bounce_len t) c.self.view_is (page_end (seen c) c.args.at c.args.len c.self.invariant.some (fits c) (there c present))
