-- Acts that leave a block daemon alone, and those that end its position.
use Rattle.std.proofs.Common.{◌≡◌, ℕ, Bool, true, false, ◌&&◌, not, refl, sym, List, [], ◌∷◌, ◌++◌, None, true≢false}
use Rattle.std.specs.List.{list_all}
use Rattle.vd_model.specs.Setting.{Setting}
use Rattle.vd_model.specs.Acts.{Act}
use Rattle.vd_model.specs.Queues.{ends_position}
use Rattle.vd_queue_sides.specs.Daemon.{is_daemon_act}
use Rattle.vd_queue_sides.proofs.Daemons as sides
use Rattle.blk_daemon.specs.Held.{Held, idle}
use Rattle.vd_daemon_lines.specs.Stands.{DaemonStands, hand_in}

not_true : (a : Bool) → not a ≡ true → a ≡ false
not_true true e = absurd (true≢false (sym e))
not_true false e = refl

both_of : (a b : Bool) → (a && b) ≡ true → (a ≡ true) × (b ≡ true)
both_of true b e = (refl, e)
both_of false b e = absurd (true≢false (sym e))

pub daemon_stays : (x : Setting) (q : ℕ) (acts done : List Act) (daemon : Held) → list_all (λ act. not (is_daemon_act q act)) acts ≡ true
    → DaemonStands x done q daemon → DaemonStands x (acts ++ done) q daemon
daemon_stays x q [] done daemon e s = s
daemon_stays x q (act ∷ acts) done daemon e s =
    let parts = both_of (not (is_daemon_act q act)) (list_all (λ act. not (is_daemon_act q act)) acts) e in
    let rest = daemon_stays x q acts done daemon parts.1 s in
    record {
      ended = rest.ended;
      sides = sides.daemon_after x q act (acts ++ done) (not_true (is_daemon_act q act) parts.0) daemon.side (hand_in daemon) rest.ended rest.sides;
      outcome = rest.outcome;
    }

pub daemon_ends : (x : Setting) (q : ℕ) (act : Act) (acts : List Act) (name : List ℕ) → ends_position q act ≡ true → DaemonStands x (act ∷ acts) q (idle name)
daemon_ends x q act acts name e = record { ended = None; sides = sides.daemon_ends x q act acts e; outcome = tt }

pub daemon_begins : (x : Setting) (q : ℕ) (name : List ℕ) → DaemonStands x [] q (idle name)
daemon_begins x q name = record {
  ended = None;
  sides = record { at = (refl, refl, refl); held = record { request = refl; outcome = refl } };
  outcome = tt;
}
