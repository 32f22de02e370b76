use Rattle.std.proofs.Common.{◌/◌, sym, ap, ◌∙◌, subst}
use Rattle.std.specs.Prelude.{Contains}
use Rattle.sh_cells.specs.declared.view.View.{View}
use Rattle.sh_cells.specs.Passes.{view}
use Rattle.sh_cells.specs.Views.{access, with_read, with_page_read}
use Rattle.sh_cells.proofs.cells.Cells.load.Goals as goal

pub returns-in-Some-clause-word : goal.returns-in-Some-clause-word
returns-in-Some-clause-word g c =
    let side = c.in-Some.side in
    let at = c.args.at in
    let found = c.find_page.ensures.gained ∙ (λ k. with_page_read (view (c.token_mut-token.ensures.value k)) (at / 4096) (c.in-Some.is k)) in record {
      side = side;
      gained = ap view (g.met.P.Pass.token_back c.args.pass.now c.read_cell.new.token) ∙ c.read_cell.ensures.gained ∙ ap (λ (v : View). with_read v (access side at c.read_cell.result)) found;
      own = λ w has. c.read_cell.ensures.own w (subst (λ (v : View). Contains v.puts (access side at w)) (sym found) has);
    }
