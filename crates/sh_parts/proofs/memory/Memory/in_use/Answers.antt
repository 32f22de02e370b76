use Rattle.std.proofs.Common.{◌≡◌, ℕ, Bool, ◌+◌, ◌-◌, ◌*◌, ◌&&◌, nat_le, nat_lt, arith, ap, ◌∙◌}
use Rattle.std.proofs.lemmas.Bool.Decides.{nat_tests}
use Rattle.std.specs.List.{list_any}
use Rattle.vd_model.specs.Live.{live_mappings}
use Rattle.sh_parts.specs.declared.memory.Live.{Live}
use Rattle.sh_parts.specs.Memory.{kept_mapping}
use Rattle.sh_parts.proofs.Places.{any_map, any_same}
use Rattle.sh_parts.proofs.memory.Memory.in_use.Goals as goal

-- the test of the code, and that of the model
abbrev covers : ℕ → Live → Bool
covers page k = nat_le k.page page && nat_lt (page - k.page) k.count

abbrev meets : ℕ → Live → Bool
meets page k = nat_lt (1 * page) (k.page + k.count) && nat_lt k.page (1 * page + 1)

same : (page : ℕ) (k : Live) → covers page k ≡ meets page k
same page k = grind (arith, nat_tests)

pub returns : goal.returns
returns c = λ x done s.
    let test : ℕ → Live → Bool = meets in
    c.covers.ensures ∙ any_same (covers c.from.result) (test c.from.result) c.args.self.now.mappings.items (same c.from.result)
    ∙ ap (λ p. list_any (test p) c.args.self.now.mappings.items) c.from.ensures
    ∙ ap (list_any (test c.args.page)) s.mappings ∙ any_map (test c.args.page) kept_mapping (live_mappings done)
