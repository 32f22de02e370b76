use Rattle.std.proofs.Common.{◌≡◌, ℕ, List, length, take, Option, Some, ap, ◌∙◌, arith}
use Rattle.std.proofs.lemmas.Grind.{common_steps}
use Rattle.vr_driver.specs.Side.{DriverSide, least_free, next_chain}
use Rattle.vr_driver.specs.Driver.{chain_written}
use Rattle.vr_driver.proofs.ring.DriverRing.place_chain.Goals as goal

pub returns-clause-written : goal.returns-clause-written
returns-clause-written g c m told =
    let picked : c.deref.result.now ≡ c.reserve-head.new.into = grind (arith, common_steps) in
    let indices : take (length c.args.parts.now) c.deref.result.now ≡ next_chain c.args.self.now (length c.args.parts.now) =
    ap (take (length c.args.parts.now)) picked ∙ c.reserve-head.ensures.into
    ∙ ap (λ (owners : List (Option ℕ)). least_free owners (length c.args.parts.now)) (c.deref_mut.ensures.value ∙ ap (λ (s : DriverSide). s.owners) c.self.view_is) in
    c.write_chain.ensures.written m told
    ∙ ap (λ (s : DriverSide). Some (chain_written m s.place c.args.parts.now (take (length c.args.parts.now) c.deref.result.now) (length c.args.parts.now))) c.self.view_is
    ∙ ap (λ (l : List ℕ). Some (chain_written m c.args.self.now.place c.args.parts.now l (length c.args.parts.now))) indices
