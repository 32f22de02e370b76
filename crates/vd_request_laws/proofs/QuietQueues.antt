-- The block daemon's lines change nothing of what pending requests have.
use Rattle.std.proofs.Common.{◌≡◌, ℕ, Bool, true, refl, ap, List}
use Rattle.std.specs.List.{list_all}
use Rattle.vd_model.specs.Setting.{Setting}
use Rattle.vd_model.specs.Creation.{Creation}
use Rattle.vd_model.specs.Acts.{Act, Driver, Queue, Ring_made, Ring_dropped, Chain_added, Chain_reclaimed}
use Rattle.vd_model.specs.Block as block
use Rattle.vd_model.specs.DaemonTurns.{walk_turn, fetch_turn, execute_turn, finish_turn}
use Rattle.vd_line_acts.specs.LineActs.{is_daemon_line_act}
use Rattle.vd_line_acts.proofs.Passing.{wider}
use Rattle.vd_line_acts.proofs.DaemonLines.{walk_none, fetch_line, execute_daemons, finish_line}
use Rattle.vd_request_laws.specs.Owned.{is_quiet}
use Rattle.vd_request_laws.proofs.QuietLines.{IsQuiet}

daemon_is : (act : Act) → is_daemon_line_act act ≡ true → is_quiet act ≡ true
daemon_is (Driver act) e = cc
daemon_is (Queue (Ring_made q place region)) e = cc
daemon_is (Queue (Ring_dropped q)) e = cc
daemon_is (Queue (Chain_added q chain)) e = cc
daemon_is (Queue (Chain_reclaimed q head)) e = cc
daemon_is _ e = refl

quiet : (acts : List Act) → list_all is_daemon_line_act acts ≡ true → list_all is_quiet acts ≡ true
quiet acts e = wider is_daemon_line_act is_quiet daemon_is acts e

pub walk_quiet : (x : Setting) (made : Creation) (done : List Act) (q head : ℕ) → IsQuiet (walk_turn x made done q head)
walk_quiet x made done q head = ap (list_all is_quiet) (walk_none x made done q head)

pub fetch_quiet : (x : Setting) (made : Creation) (done : List Act) (q : ℕ) → IsQuiet (fetch_turn x made done q)
fetch_quiet x made done q = quiet (fetch_turn x made done q).acts (fetch_line x made done q)

pub execute_quiet : (x : Setting) (made : Creation) (disk : block.Disk) (failed : Bool) (done : List Act) (q : ℕ) → IsQuiet (execute_turn x made disk failed done q)
execute_quiet x made disk failed done q = quiet (execute_turn x made disk failed done q).acts (execute_daemons x made disk failed done q)

pub finish_quiet : (x : Setting) (made : Creation) (done : List Act) (q : ℕ) → IsQuiet (finish_turn x made done q)
finish_quiet x made done q = quiet (finish_turn x made done q).acts (finish_line x made done q)
