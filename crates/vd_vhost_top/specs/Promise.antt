-- What the table of a bus promises in a run of lines.
use Rattle.std.specs.Prelude.{ℕ, ◌≡◌, List, [], ◌∷◌, ◌++◌}
use Rattle.vd_vhost_model.specs.VhostOut.{vhost_output}
use Rattle.vd_vhost_laws.specs.TableLaw.{TableLaw, done_by_lines}
use Rattle.vd_vhost_top.specs.Answered.{line_reply}

-- after these lines the law on the table holds, and what is written for one line more is the reply of that moment
pub record TablePromise (size : ℕ) (lines : List (List ℕ)) : Type 0 where
  pub law : TableLaw size (done_by_lines size [] lines)
  pub next : (line : List ℕ) → vhost_output size [] (lines ++ line ∷ []) ≡ vhost_output size [] lines ++ line_reply size (done_by_lines size [] lines) line
