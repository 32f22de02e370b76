-- What is written for lines of the bus.
use Rattle.std.specs.Prelude.{ℕ, List, [], ◌∷◌, ◌++◌, Option, Some, None}
use Rattle.vd_vhost_model.specs.declared.step.VhostStep.{VhostStep}
use Rattle.vd_vhost_model.specs.GuestTable.{VhostAct}
use Rattle.vd_vhost_model.specs.VhostTurns.{vhost_turn}
use Rattle.vd_vhost_model.specs.VhostLines.{vhost_reading, vhost_reply_line}

-- the reply to what a line says, after what was done
abbrev pub vhost_reply_to : ℕ → List VhostAct → Option (Option VhostStep) → List ℕ
vhost_reply_to size done (Some (Some step)) = vhost_reply_line (vhost_turn size done step).answer
vhost_reply_to size done _ = []

-- what was done after the line too
abbrev pub done_after : ℕ → List VhostAct → Option (Option VhostStep) → List VhostAct
done_after size done (Some (Some step)) = (vhost_turn size done step).acts ++ done
done_after size done _ = done

-- the replies to some lines after what was done
unfoldable pub vhost_output : ℕ → List VhostAct → List (List ℕ) → List ℕ
vhost_output size done [] = []
vhost_output size done (line ∷ rest) =
    vhost_reply_to size done (vhost_reading line) ++ vhost_output size (done_after size done (vhost_reading line)) rest
