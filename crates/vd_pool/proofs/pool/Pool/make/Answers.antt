use Rattle.std.proofs.Common.{◌≡◌, length, arith, ◌++◌, ◌∷◌, []}
use Rattle.std.proofs.lemmas.Grind.{common_steps}
use Rattle.vd_pool.proofs.Taken.{made}
use Rattle.vd_pool.proofs.pool.Pool.make.Goals as goal

pub returns-clause-ok : goal.returns-clause-ok
returns-clause-ok c =
    let number : c.len-number.result ≡ length c.self.inside.pages.items = grind (arith, common_steps) in
    let pages : c.push.new.self.items ≡ c.self.inside.pages.items ++ c.in_ok-page.page ∷ [] = grind (arith, common_steps) in
    let places : c.push-3.new.self.items ≡ c.self.inside.place.items ++ c.len-number.result ∷ [] = grind (arith, common_steps) in
    rw (← c.self.view_is) (made _ c.self.inside.order.items c.len-number.result c.in_ok-page.page c.push.new.self.items c.push-3.new.self.items c.self.invariant c.in_ok-page.ensures.zeros number pages places)
