-- The block daemon's turns make plain acts.
use Rattle.std.proofs.Common.{◌≡◌, ℕ, Bool, true, refl, ap, List}
use Rattle.std.specs.List.{list_all}
use Rattle.vd_model.specs.Setting.{Setting}
use Rattle.vd_model.specs.Creation.{Creation}
use Rattle.vd_model.specs.Acts.{Act, Driver, Node, Queue, Area_made, Registered, Ring_made, Chain_added}
use Rattle.vd_model.specs.Block as block
use Rattle.vd_model.specs.DaemonTurns.{walk_turn, fetch_turn, execute_turn, finish_turn}
use Rattle.vd_line_acts.specs.LineActs.{is_daemon_line_act}
use Rattle.vd_line_acts.proofs.Passing.{wider}
use Rattle.vd_line_acts.proofs.DaemonLines.{walk_none, fetch_line, execute_daemons, finish_line}
use Rattle.vd_laws.proofs.Plain.{is_plain, IsPlain}

daemon_is : (act : Act) → is_daemon_line_act act ≡ true → is_plain act ≡ true
daemon_is (Driver act) e = cc
daemon_is (Node (Area_made len)) e = cc
daemon_is (Node (Registered base size)) e = cc
daemon_is (Queue (Ring_made q place region)) e = cc
daemon_is (Queue (Chain_added q chain)) e = cc
daemon_is _ e = refl

plain : (acts : List Act) → list_all is_daemon_line_act acts ≡ true → list_all is_plain acts ≡ true
plain acts e = wider is_daemon_line_act is_plain daemon_is acts e

pub walk_plain : (x : Setting) (made : Creation) (done : List Act) (q head : ℕ) → IsPlain (walk_turn x made done q head)
walk_plain x made done q head = ap (list_all is_plain) (walk_none x made done q head)

pub fetch_plain : (x : Setting) (made : Creation) (done : List Act) (q : ℕ) → IsPlain (fetch_turn x made done q)
fetch_plain x made done q = plain (fetch_turn x made done q).acts (fetch_line x made done q)

pub execute_plain : (x : Setting) (made : Creation) (disk : block.Disk) (failed : Bool) (done : List Act) (q : ℕ) → IsPlain (execute_turn x made disk failed done q)
execute_plain x made disk failed done q = plain (execute_turn x made disk failed done q).acts (execute_daemons x made disk failed done q)

pub finish_plain : (x : Setting) (made : Creation) (done : List Act) (q : ℕ) → IsPlain (finish_turn x made done q)
finish_plain x made done q = plain (finish_turn x made done q).acts (finish_line x made done q)
