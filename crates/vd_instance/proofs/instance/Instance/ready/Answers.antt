use Rattle.std.proofs.Common.{ℕ, List, [], ◌∷◌, length, refl, ap, subst, sym, ◌∙◌, arith}
use Rattle.vd_bounce.specs.Frames.{Holds}
use Rattle.vd_model.specs.Acts.{Node, Bus, State, Opened, Attached}
use Rattle.vd_model.specs.State.{Max_set}
use Rattle.vd_memory_lines.specs.declared.memory.Memory.{Memory}
use Rattle.vd_device.specs.Stands as device
use Rattle.vd_request_laws.proofs.Pending.{quiet_owned}
use Rattle.vd_request_laws.proofs.Pending.{nothing_owned}
use Rattle.vd_instance.proofs.Fresh.{no_own, empty_stands}
use Rattle.vd_device.proofs.Parts.{within_later}
use Rattle.vd_instance.proofs.Holding.{all_hold, new_hold, new_named}
use Rattle.vd_instance.proofs.instance.Instance.ready.Goals as goal

pub returns-clause-stands : goal.returns-clause-stands
returns-clause-stands c = λ x m sized.
    let made = c.make_ready.ensures.stands x (record { features = 0x330000200; queues = 1; config = c.from_vec-config.result }) m (omega arith) (c.in_ok-device.ensures.stands x m sized) in
    record {
      device = subst (λ (config : List ℕ). device.Stands x (record { features = 0x330000200; queues = 1; config = config }) (Bus Attached ∷ State (Max_set 0 256) ∷ Node Opened ∷ []) c.make_ready.new.device m)
          (c.from_vec-config.ensures ∙ c.in_ok-vec.ensures.items_if_clones_equal (λ y h. h)) made;
      drivers = empty_stands (Bus Attached ∷ State (Max_set 0 256) ∷ Node Opened ∷ []) 1 c.in_ok-drivers.drivers.items c.in_ok-drivers.ensures (λ q. refl) (λ q. refl) (λ q. refl);
      places = ap length c.in_ok-drivers.ensures;
      owned = quiet_owned (Bus Attached ∷ State (Max_set 0 256) ∷ Node Opened ∷ []) [] 1 refl (nothing_owned 1);
      apart = no_own (Bus Attached ∷ State (Max_set 0 256) ∷ Node Opened ∷ []) (λ q. refl);
      sizes = λ q. omega arith;
      daemons = all_hold x (Bus Attached ∷ State (Max_set 0 256) ∷ Node Opened ∷ []) [] c.in_ok-daemons.daemons.items (λ q. refl)
          (new_hold x c.args.name.now 1 c.in_ok-daemons.daemons.items c.in_ok-daemons.ensures);
      count = ap length c.in_ok-daemons.ensures;
    }

pub returns-clause-held : goal.returns-clause-held
returns-clause-held c = λ m e.
    let held = c.in_ok-device.ensures.held m e in
    record {
      holds = subst (λ (k : Memory). Holds k.domain.bounce.frames m) (sym c.make_ready.ensures.memory) held.holds;
      size = held.size ∙ sym (ap (λ (k : Memory). k.domain.bounce.per_page) c.make_ready.ensures.memory);
    }

pub returns-clause-within : goal.returns-clause-within
returns-clause-within c = within_later 1 4 _ (omega arith) (c.make_ready.ensures.within c.in_ok-device.ensures.within)

pub returns-clause-named : goal.returns-clause-named
returns-clause-named c = new_named c.args.name.now 1 c.in_ok-daemons.daemons.items c.in_ok-daemons.ensures
