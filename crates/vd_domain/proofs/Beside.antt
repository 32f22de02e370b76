-- Acts that no domain sees: a caller adds them and calls nothing.
use Rattle.std.proofs.Common.{◌≡◌, ℕ, ◌+◌, ◌-◌, ◌<◌, ◌≤◌, Bool, true, false, refl, ap, subst, sym, ◌∙◌, arith, None, List, [], ◌∷◌, length, true≢false}
use Rattle.std.specs.Option.{unwrap_or}
use Rattle.std.specs.List.{list_any}
use Rattle.vd_pool.specs.Memory.{PoolMemory}
use Rattle.vd_bounce.specs.Bounce as b
use Rattle.vd_bounce.specs.Bounce.{value}
use Rattle.vd_model.specs.Setting.{Setting}
use Rattle.vd_model.specs.Acts.{Act, Message_act, State, Bus, Queue, Disk_act, Node, Driver, NodeAct, DriverAct, BusAct, QueueAct, DiskAct, Coherent, Opened, Closed, Daemon_put, Area_made, Area_put, Config_put, Registered, Deregistered, Buffer, Zeroed, Freed, Poked, Mapped, Unmapped, Synced_device, Synced_cpu, Region_made, Region_freed, Driver_put, Streaming}
use Rattle.vd_model.specs.Messages.{MessageAct}
use Rattle.vd_model.specs.State.{StateAct, Max_set, Status_set, Features_set, Num_set, Addr_set, Ready_set, Avail_set, Kick_file_set, Kicked, Kicks_taken, Callback_set, Injected, Interrupts_taken, Cleared}
use Rattle.vd_model.specs.Live.{live_mappings, maps, live_regions, regions, is_bounce_live, area_len, registration_of, is_present, page_of, region_covers}
use Rattle.vd_model.specs.Puts.{last_put, put_or, address_put, address_put_if, Iova}
use Rattle.vd_domain.specs.Held.{Held}
use Rattle.vd_domain.specs.Stands.{Stands, last_byte}
use Rattle.vd_domain.specs.Beside.{is_beside}
use Rattle.vd_domain.proofs.Puttings.{IsAddressed, or_byte, driver_addressed, size_is, next_bytes, next_area, next_shared}

message_addressed : (g : ℕ) (acts : List Act) (act : MessageAct) → IsAddressed g acts (Message_act act)
message_addressed g acts act = record {
  iova = λ a here. ap (λ t. put_or (address_put_if t g (last_put g acts) acts (Message_act act) a) (last_put g acts) (Iova a)) here;
  area = λ o. refl;
}

state_addressed : (g : ℕ) (acts : List Act) (act : StateAct) → IsAddressed g acts (State act)
state_addressed g acts act = record {
  iova = λ a here. ap (λ t. put_or (address_put_if t g (last_put g acts) acts (State act) a) (last_put g acts) (Iova a)) here;
  area = λ o. refl;
}

bus_addressed : (g : ℕ) (acts : List Act) (act : BusAct) → IsAddressed g acts (Bus act)
bus_addressed g acts act = record {
  iova = λ a here. ap (λ t. put_or (address_put_if t g (last_put g acts) acts (Bus act) a) (last_put g acts) (Iova a)) here;
  area = λ o. refl;
}

pub queue_addressed : (g : ℕ) (acts : List Act) (act : QueueAct) → IsAddressed g acts (Queue act)
queue_addressed g acts act = record {
  iova = λ a here. ap (λ t. put_or (address_put_if t g (last_put g acts) acts (Queue act) a) (last_put g acts) (Iova a)) here;
  area = λ o. refl;
}

disk_addressed : (g : ℕ) (acts : List Act) (act : DiskAct) → IsAddressed g acts (Disk_act act)
disk_addressed g acts act = record {
  iova = λ a here. ap (λ t. put_or (address_put_if t g (last_put g acts) acts (Disk_act act) a) (last_put g acts) (Iova a)) here;
  area = λ o. refl;
}

opened_addressed : (g : ℕ) (acts : List Act) → IsAddressed g acts (Node Opened)
opened_addressed g acts = record {
  iova = λ a here. ap (λ t. put_or (address_put_if t g (last_put g acts) acts (Node Opened) a) (last_put g acts) (Iova a)) here;
  area = λ o. refl;
}

config_addressed : (g : ℕ) (acts : List Act) (at : ℕ) (bytes : List ℕ) → IsAddressed g acts (Node (Config_put at bytes))
config_addressed g acts at bytes = record {
  iova = λ a here. ap (λ t. put_or (address_put_if t g (last_put g acts) acts (Node (Config_put at bytes)) a) (last_put g acts) (Iova a)) here;
  area = λ o. refl;
}

module _ (x : Setting) (acts : List Act) (h : Held) (m : PoolMemory) (s : Stands x acts h m) where
  -- ---- an act that puts nothing at any address and changes nothing that the domain keeps, but perhaps whether the bounce region is live

  pub quiet : (act : Act) (shown : Bool) → IsAddressed x.per_page acts act → ((a : ℕ) → address_put x.per_page (last_put x.per_page acts) acts act a ≡ None)
      → live_mappings (act ∷ acts) ≡ live_mappings acts → maps (act ∷ acts) ≡ maps acts → live_regions (act ∷ acts) ≡ live_regions acts → regions (act ∷ acts) ≡ regions acts
      → shown ≡ is_bounce_live (act ∷ acts) → area_len (act ∷ acts) ≡ area_len acts → registration_of (act ∷ acts) ≡ registration_of acts
      → ((p : ℕ) → is_present x.per_page (act ∷ acts) p ≡ is_present x.per_page acts p) → Stands x (act ∷ acts) (record h { is_shown = shown }) m
  quiet act shown way none lives count held made is area reg present = record {
    bounce = s.bounce;
    iova = s.iova;
    per_page = s.per_page;
    live = s.live ∙ sym lives;
    maps = s.maps ∙ sym count;
    regions = s.regions ∙ sym held;
    made = s.made ∙ sym made;
    is_shown = is;
    area = s.area ∙ sym area;
    registered = reg ∙ s.registered;
    present = λ p below. s.present p below ∙ sym (present p);
    bytes = λ a free below seen. next_bytes x acts h m s act way h m
        (λ a below seen free. s.bytes a free (subst (λ k. a < k) (sym (size_is x acts h m s)) below) (sym (present (page_of x.per_page a)) ∙ seen)
        ∙ ap (λ o. or_byte o (last_byte x acts (Iova a))) (sym (none a))) free a below seen;
    area_bytes = next_area x acts h m s act way h m (length (unwrap_or h.bounce.area []))
        (λ o below free. refl) (λ u o below some off. refl) (λ u a below some. ap (λ o. or_byte o (value h.bounce m (b.Area (u + a)))) (sym (none a))) (omega arith);
    shared = next_shared x acts h m s act way h m
        (λ a above covered. ap (λ k. value h.shared h.store (b.Iova (a - k))) (sym (size_is x acts h m s))
        ∙ s.shared a (subst (λ k. k ≤ a) (sym (size_is x acts h m s)) above) (sym (ap (λ (rs : List Coherent). list_any (λ r. region_covers r a) rs) held) ∙ covered)
        ∙ ap (λ o. or_byte o (last_byte x acts (Iova a))) (sym (none a)));
  }

  -- ---- each kind of such an act

  pub after_message : (act : MessageAct) → Stands x (Message_act act ∷ acts) h m
  after_message act = quiet (Message_act act) h.is_shown (message_addressed x.per_page acts act) (λ a. refl) refl refl refl refl s.is_shown refl refl (λ p. refl)

  pub after_state : (act : StateAct) → is_bounce_live (State act ∷ acts) ≡ is_bounce_live acts → Stands x (State act ∷ acts) h m
  after_state act same = quiet (State act) h.is_shown (state_addressed x.per_page acts act) (λ a. refl) refl refl refl refl (s.is_shown ∙ sym same) refl refl (λ p. refl)

  pub after_reset : Stands x (State Cleared ∷ acts) (record h { is_shown = false }) m
  after_reset = quiet (State Cleared) false (state_addressed x.per_page acts Cleared) (λ a. refl) refl refl refl refl refl refl refl (λ p. refl)

  pub after_bus : (act : BusAct) → Stands x (Bus act ∷ acts) h m
  after_bus act = quiet (Bus act) h.is_shown (bus_addressed x.per_page acts act) (λ a. refl) refl refl refl refl s.is_shown refl refl (λ p. refl)

  pub after_queue : (act : QueueAct) → Stands x (Queue act ∷ acts) h m
  after_queue act = quiet (Queue act) h.is_shown (queue_addressed x.per_page acts act) (λ a. refl) refl refl refl refl s.is_shown refl refl (λ p. refl)

  pub after_disk : (act : DiskAct) → Stands x (Disk_act act ∷ acts) h m
  after_disk act = quiet (Disk_act act) h.is_shown (disk_addressed x.per_page acts act) (λ a. refl) refl refl refl refl s.is_shown refl refl (λ p. refl)

  pub after_opened : Stands x (Node Opened ∷ acts) h m
  after_opened = quiet (Node Opened) h.is_shown (opened_addressed x.per_page acts) (λ a. refl) refl refl refl refl s.is_shown refl refl (λ p. refl)

  pub after_config : (at : ℕ) (bytes : List ℕ) → Stands x (Node (Config_put at bytes) ∷ acts) h m
  after_config at bytes = quiet (Node (Config_put at bytes)) h.is_shown (config_addressed x.per_page acts at bytes) (λ a. refl) refl refl refl refl s.is_shown refl refl (λ p. refl)

  pub after_buffer : (bytes : List ℕ) → Stands x (Driver (Buffer bytes) ∷ acts) h m
  after_buffer bytes = quiet (Driver (Buffer bytes)) h.is_shown (driver_addressed x.per_page acts (Buffer bytes)) (λ a. refl) refl refl refl refl s.is_shown refl refl (λ p. refl)

  pub after_zeroed : (len : ℕ) → Stands x (Driver (Zeroed len) ∷ acts) h m
  after_zeroed len = quiet (Driver (Zeroed len)) h.is_shown (driver_addressed x.per_page acts (Zeroed len)) (λ a. refl) refl refl refl refl s.is_shown refl refl (λ p. refl)

  pub after_freed : (k : ℕ) → Stands x (Driver (Freed k) ∷ acts) h m
  after_freed k = quiet (Driver (Freed k)) h.is_shown (driver_addressed x.per_page acts (Freed k)) (λ a. refl) refl refl refl refl s.is_shown refl refl (λ p. refl)

  pub after_poked : (k at : ℕ) (bytes : List ℕ) → Stands x (Driver (Poked k at bytes) ∷ acts) h m
  after_poked k at bytes = quiet (Driver (Poked k at bytes)) h.is_shown (driver_addressed x.per_page acts (Poked k at bytes)) (λ a. refl) refl refl refl refl s.is_shown refl refl (λ p. refl)

  pub after_cpu_sync : (mp : Streaming) → Stands x (Driver (Synced_cpu mp) ∷ acts) h m
  after_cpu_sync mp = quiet (Driver (Synced_cpu mp)) h.is_shown (driver_addressed x.per_page acts (Synced_cpu mp)) (λ a. refl) refl refl refl refl s.is_shown refl refl (λ p. refl)

  -- ---- all of them at once

  state_beside : (act : StateAct) → is_beside (State act) ≡ true → Stands x (State act ∷ acts) h m
  state_beside Cleared e = absurd (true≢false (sym e))
  state_beside (Max_set q max) e = after_state (Max_set q max) refl
  state_beside (Status_set v) e = after_state (Status_set v) refl
  state_beside (Features_set v) e = after_state (Features_set v) refl
  state_beside (Num_set q n) e = after_state (Num_set q n) refl
  state_beside (Addr_set q a b c) e = after_state (Addr_set q a b c) refl
  state_beside (Ready_set q r) e = after_state (Ready_set q r) refl
  state_beside (Avail_set q n) e = after_state (Avail_set q n) refl
  state_beside (Kick_file_set q on) e = after_state (Kick_file_set q on) refl
  state_beside (Kicked q) e = after_state (Kicked q) refl
  state_beside (Kicks_taken q) e = after_state (Kicks_taken q) refl
  state_beside (Callback_set on set) e = after_state (Callback_set on set) refl
  state_beside (Injected on) e = after_state (Injected on) refl
  state_beside (Interrupts_taken on) e = after_state (Interrupts_taken on) refl

  node_beside : (act : NodeAct) → is_beside (Node act) ≡ true → Stands x (Node act ∷ acts) h m
  node_beside Opened e = after_opened
  node_beside (Config_put at bytes) e = after_config at bytes
  node_beside Closed e = absurd (true≢false (sym e))
  node_beside (Daemon_put at bytes) e = absurd (true≢false (sym e))
  node_beside (Area_made len) e = absurd (true≢false (sym e))
  node_beside (Area_put at bytes) e = absurd (true≢false (sym e))
  node_beside (Registered base size) e = absurd (true≢false (sym e))
  node_beside Deregistered e = absurd (true≢false (sym e))

  driver_beside : (act : DriverAct) → is_beside (Driver act) ≡ true → Stands x (Driver act ∷ acts) h m
  driver_beside (Buffer bytes) e = after_buffer bytes
  driver_beside (Zeroed len) e = after_zeroed len
  driver_beside (Freed k) e = after_freed k
  driver_beside (Poked k at bytes) e = after_poked k at bytes
  driver_beside (Synced_cpu mp) e = after_cpu_sync mp
  driver_beside (Mapped mp) e = absurd (true≢false (sym e))
  driver_beside (Unmapped mp) e = absurd (true≢false (sym e))
  driver_beside (Synced_device mp) e = absurd (true≢false (sym e))
  driver_beside (Region_made r) e = absurd (true≢false (sym e))
  driver_beside (Region_freed r) e = absurd (true≢false (sym e))
  driver_beside (Driver_put at bytes) e = absurd (true≢false (sym e))

  pub leaves_domain : (act : Act) → is_beside act ≡ true → Stands x (act ∷ acts) h m
  leaves_domain (Message_act act) e = after_message act
  leaves_domain (State act) e = state_beside act e
  leaves_domain (Bus act) e = after_bus act
  leaves_domain (Queue act) e = after_queue act
  leaves_domain (Disk_act act) e = after_disk act
  leaves_domain (Node act) e = node_beside act e
  leaves_domain (Driver act) e = driver_beside act e
