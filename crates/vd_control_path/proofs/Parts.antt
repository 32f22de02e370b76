-- A line on one part leaves the others as they are.
use Rattle.std.proofs.Common.{◌≡◌, ℕ, ◌+◌, ◌≤◌, arith, Bool, true, false, refl, ap, subst, sym, ◌∙◌, List, [], ◌∷◌, ◌++◌, ◌&&◌, true≢false}
use Rattle.std.specs.List.{list_all}
use Rattle.vd_model.specs.Creation.{Creation}
use Rattle.vd_model.specs.Acts.{Act, NodeAct, Message_act, State, Bus, Queue, Disk_act, Node, Driver, Opened, Closed, Daemon_put, Area_made, Area_put, Config_put, Registered, Deregistered, message_acts, state_acts}
use Rattle.vd_model.specs.Messages.{MessageAct}
use Rattle.vd_model.specs.State.{StateAct, Max_set, Status_set, Features_set, Num_set, Addr_set, Ready_set, Avail_set, Kick_file_set, Kicked, Kicks_taken, Callback_set, Injected, Interrupts_taken, Cleared}
use Rattle.vd_model.specs.Live.{is_open, sessions, is_attached}
use Rattle.vd_model.specs.BusTurns.{config_of, device_start, shape_of}
use Rattle.vd_msg.specs.Lists.{Lists}
use Rattle.vd_msg.specs.Stands as messages
use Rattle.vd_state.specs.Kept.{Kept, CountsWithin}
use Rattle.vd_state.specs.Stands as state
use Rattle.vd_state_lines.specs.After.{StateAfter, is_state_act}
use Rattle.vd_state_lines.proofs.Lines.{counts_within_more}
use Rattle.vd_message_lines.specs.After.{MessagesAfter, is_message_act}
use Rattle.vd_config_lines.specs.After.{ConfigBefore, ConfigAfter, is_config_act}
use Rattle.vd_control_path.specs.declared.path.ControlPath.{ControlPath}
use Rattle.vd_control_path.specs.Acts.{is_path_act, is_memory_act}
use Rattle.vd_control_path.specs.Ends.{closings_of}
use Rattle.vd_control_path.specs.Stands.{PathBefore, PathAfter, IsWithin}

both_of : (a b : Bool) → (a && b) ≡ true → (a ≡ true) × (b ≡ true)
both_of true b e = (refl, e)
both_of false b e = absurd (true≢false (sym e))

-- what no act of some kind changes, some of them don't change
pub same_after : {X : Type 0} (f : List Act → X) (kind : Act → Bool) → ((act : Act) (acts : List Act) → kind act ≡ true → f (act ∷ acts) ≡ f acts)
    → (acts done : List Act) → list_all kind acts ≡ true → f (acts ++ done) ≡ f done
same_after f kind one [] done e = refl
same_after f kind one (act ∷ acts) done e =
    let parts = both_of (kind act) (list_all kind acts) e in
    one act (acts ++ done) parts.0 ∙ same_after f kind one acts done parts.1

-- acts of one kind are of another where each is
pub all_of : (kind other : Act → Bool) → ((act : Act) → kind act ≡ true → other act ≡ true) → (acts : List Act) → list_all kind acts ≡ true → list_all other acts ≡ true
all_of kind other one [] e = refl
all_of kind other one (act ∷ acts) e =
    let parts = both_of (kind act) (list_all kind acts) e in
    ap (λ b. b && list_all other acts) (one act parts.0) ∙ all_of kind other one acts parts.1

no : {X : Type 0} → false ≡ true → X
no e = absurd (true≢false (sym e))

-- ---- which part sees an act of a kind

of_state : {X : Type 0} (f : List Act → X) → ((act : StateAct) (acts : List Act) → f (State act ∷ acts) ≡ f acts) → (act : Act) (acts : List Act) → is_state_act act ≡ true → f (act ∷ acts) ≡ f acts
of_state f one (State act) acts e = one act acts
of_state f one (Message_act act) acts e = no e
of_state f one (Bus act) acts e = no e
of_state f one (Queue act) acts e = no e
of_state f one (Disk_act act) acts e = no e
of_state f one (Node act) acts e = no e
of_state f one (Driver act) acts e = no e

of_message : {X : Type 0} (f : List Act → X) → ((act : MessageAct) (acts : List Act) → f (Message_act act ∷ acts) ≡ f acts) → (act : Act) (acts : List Act) → is_message_act act ≡ true → f (act ∷ acts) ≡ f acts
of_message f one (Message_act act) acts e = one act acts
of_message f one (State act) acts e = no e
of_message f one (Bus act) acts e = no e
of_message f one (Queue act) acts e = no e
of_message f one (Disk_act act) acts e = no e
of_message f one (Node act) acts e = no e
of_message f one (Driver act) acts e = no e

of_node : {X : Type 0} (f : List Act → X) → ((at : ℕ) (bytes : List ℕ) (acts : List Act) → f (Node (Config_put at bytes) ∷ acts) ≡ f acts) → (act : NodeAct) (acts : List Act) → is_config_act (Node act) ≡ true → f (Node act ∷ acts) ≡ f acts
of_node f one (Config_put at bytes) acts e = one at bytes acts
of_node f one Opened acts e = no e
of_node f one Closed acts e = no e
of_node f one (Daemon_put at bytes) acts e = no e
of_node f one (Area_made len) acts e = no e
of_node f one (Area_put at bytes) acts e = no e
of_node f one (Registered base size) acts e = no e
of_node f one Deregistered acts e = no e

of_config : {X : Type 0} (f : List Act → X) → ((at : ℕ) (bytes : List ℕ) (acts : List Act) → f (Node (Config_put at bytes) ∷ acts) ≡ f acts) → (act : Act) (acts : List Act) → is_config_act act ≡ true → f (act ∷ acts) ≡ f acts
of_config f one (Node act) acts e = of_node f one act acts e
of_config f one (Message_act act) acts e = no e
of_config f one (State act) acts e = no e
of_config f one (Bus act) acts e = no e
of_config f one (Queue act) acts e = no e
of_config f one (Disk_act act) acts e = no e
of_config f one (Driver act) acts e = no e

-- ---- they leave the memory alone

state_path : (act : Act) → is_state_act act ≡ true → is_path_act act ≡ true
state_path (State act) e = by act e where
  by : (act : StateAct) → is_state_act (State act) ≡ true → is_path_act (State act) ≡ true
  by Cleared e = e
  by (Max_set q max) e = refl
  by (Status_set v) e = refl
  by (Features_set v) e = refl
  by (Num_set q n) e = refl
  by (Addr_set q a b c) e = refl
  by (Ready_set q r) e = refl
  by (Avail_set q n) e = refl
  by (Kick_file_set q on) e = refl
  by (Kicked q) e = refl
  by (Kicks_taken q) e = refl
  by (Callback_set on set) e = refl
  by (Injected on) e = refl
  by (Interrupts_taken on) e = refl
state_path (Message_act act) e = no e
state_path (Bus act) e = no e
state_path (Queue act) e = no e
state_path (Disk_act act) e = no e
state_path (Node act) e = no e
state_path (Driver act) e = no e

message_path : (act : Act) → is_message_act act ≡ true → is_path_act act ≡ true
message_path (Message_act act) e = refl
message_path (State act) e = no e
message_path (Bus act) e = no e
message_path (Queue act) e = no e
message_path (Disk_act act) e = no e
message_path (Node act) e = no e
message_path (Driver act) e = no e

config_path : (act : Act) → is_config_act act ≡ true → is_path_act act ≡ true
config_path act e = of_kind act e where
  of_put : (act : NodeAct) → is_config_act (Node act) ≡ true → is_path_act (Node act) ≡ true
  of_put (Config_put at bytes) e = refl
  of_put Opened e = no e
  of_put Closed e = no e
  of_put (Daemon_put at bytes) e = no e
  of_put (Area_made len) e = no e
  of_put (Area_put at bytes) e = no e
  of_put (Registered base size) e = no e
  of_put Deregistered e = no e

  of_kind : (act : Act) → is_config_act act ≡ true → is_path_act act ≡ true
  of_kind (Node act) e = of_put act e
  of_kind (Message_act act) e = no e
  of_kind (State act) e = no e
  of_kind (Bus act) e = no e
  of_kind (Queue act) e = no e
  of_kind (Disk_act act) e = no e
  of_kind (Driver act) e = no e

-- ---- the parts

-- a config space stands for more acts where it holds the same bytes
config_same : (made : Creation) (done acts : List Act) (space : List ℕ) → config_of made.config (acts ++ done) ≡ config_of made.config done → ConfigBefore made done space → ConfigBefore made (acts ++ done) space
config_same made done acts space e s = record { bytes = s.bytes ∙ sym e; size = s.size }

pub state_line : {made : Creation} {done : List Act} {p : ControlPath} (k : Kept) (acts : List Act) → PathBefore made done p → StateAfter made done k acts → PathAfter made done (record p { state = k }) acts
state_line {made} {done} {p} k acts s a = record {
  only = all_of is_state_act is_path_act state_path acts a.only;
  stands = record {
    messages = subst (λ l. messages.Stands device_start l p.messages) (sym (same_after message_acts is_state_act (of_state message_acts (λ act acts. refl)) acts done a.only)) s.messages;
    state = a.stands;
    config = config_same made done acts p.config (same_after (config_of made.config) is_state_act (of_state (config_of made.config) (λ act acts. refl)) acts done a.only) s.config;
    opened = s.opened ∙ sym (same_after is_open is_state_act (of_state is_open (λ act acts. refl)) acts done a.only);
    sessions = s.sessions ∙ sym (same_after sessions is_state_act (of_state sessions (λ act acts. refl)) acts done a.only);
    closings = s.closings ∙ sym (same_after closings_of is_state_act (of_state closings_of (λ act acts. refl)) acts done a.only);
    attached = s.attached ∙ sym (same_after is_attached is_state_act (of_state is_attached (λ act acts. refl)) acts done a.only);
  };
}

pub message_line : {made : Creation} {done : List Act} {p : ControlPath} (k : Lists) (acts : List Act) → PathBefore made done p → MessagesAfter done k acts → PathAfter made done (record p { messages = k }) acts
message_line {made} {done} {p} k acts s a = record {
  only = all_of is_message_act is_path_act message_path acts a.only;
  stands = record {
    messages = a.stands;
    state = subst (λ l. state.Stands (shape_of made) l p.state) (sym (same_after state_acts is_message_act (of_message state_acts (λ act acts. refl)) acts done a.only)) s.state;
    config = config_same made done acts p.config (same_after (config_of made.config) is_message_act (of_message (config_of made.config) (λ act acts. refl)) acts done a.only) s.config;
    opened = s.opened ∙ sym (same_after is_open is_message_act (of_message is_open (λ act acts. refl)) acts done a.only);
    sessions = s.sessions ∙ sym (same_after sessions is_message_act (of_message sessions (λ act acts. refl)) acts done a.only);
    closings = s.closings ∙ sym (same_after closings_of is_message_act (of_message closings_of (λ act acts. refl)) acts done a.only);
    attached = s.attached ∙ sym (same_after is_attached is_message_act (of_message is_attached (λ act acts. refl)) acts done a.only);
  };
}

pub config_line : {made : Creation} {done : List Act} {p : ControlPath} (k : List ℕ) (acts : List Act) → PathBefore made done p → ConfigAfter made done k acts → PathAfter made done (record p { config = k }) acts
config_line {made} {done} {p} k acts s a = record {
  only = all_of is_config_act is_path_act config_path acts a.only;
  stands = record {
    messages = subst (λ l. messages.Stands device_start l p.messages) (sym (same_after message_acts is_config_act (of_config message_acts (λ at bytes acts. refl)) acts done a.only)) s.messages;
    state = subst (λ l. state.Stands (shape_of made) l p.state) (sym (same_after state_acts is_config_act (of_config state_acts (λ at bytes acts. refl)) acts done a.only)) s.state;
    config = a.stands;
    opened = s.opened ∙ sym (same_after is_open is_config_act (of_config is_open (λ at bytes acts. refl)) acts done a.only);
    sessions = s.sessions ∙ sym (same_after sessions is_config_act (of_config sessions (λ at bytes acts. refl)) acts done a.only);
    closings = s.closings ∙ sym (same_after closings_of is_config_act (of_config closings_of (λ at bytes acts. refl)) acts done a.only);
    attached = s.attached ∙ sym (same_after is_attached is_config_act (of_config is_attached (λ at bytes acts. refl)) acts done a.only);
  };
}

-- nothing was done
pub path_stays : {made : Creation} {done : List Act} {p : ControlPath} → PathBefore made done p → PathAfter made done p []
path_stays s = record { only = refl; stands = s }

-- ---- acts on the memory

-- all that the parts see of some acts
record View : Type 0 where
  messages : List MessageAct
  state : List StateAct
  config : List ℕ
  opened : Bool
  sessions : ℕ
  closings : ℕ
  attached : Bool

abbrev view : List ℕ → List Act → View
view first acts = record {
  messages = message_acts acts;
  state = state_acts acts;
  config = config_of first acts;
  opened = is_open acts;
  sessions = sessions acts;
  closings = closings_of acts;
  attached = is_attached acts;
}

unseen : (first : List ℕ) (act : Act) (acts : List Act) → is_memory_act act ≡ true → view first (act ∷ acts) ≡ view first acts
unseen first (Driver act) acts e = refl
unseen first (Queue act) acts e = refl
unseen first (Disk_act act) acts e = refl
unseen first (Node act) acts e = by act e where
  by : (act : NodeAct) → is_memory_act (Node act) ≡ true → view first (Node act ∷ acts) ≡ view first acts
  by (Daemon_put at bytes) e = refl
  by (Area_made len) e = refl
  by (Area_put at bytes) e = refl
  by (Registered base size) e = refl
  by Deregistered e = refl
  by Opened e = no e
  by Closed e = no e
  by (Config_put at bytes) e = no e
unseen first (Message_act act) acts e = no e
unseen first (State act) acts e = no e
unseen first (Bus act) acts e = no e

-- acts on the memory leave the control path alone
pub memory_line : {made : Creation} {done : List Act} {p : ControlPath} (acts : List Act) → list_all is_memory_act acts ≡ true → PathBefore made done p → PathBefore made (acts ++ done) p
memory_line {made} {done} {p} acts only s =
    let same = sym (same_after (view made.config) is_memory_act (unseen made.config) acts done only) in
    record {
      messages = subst (λ (v : View). messages.Stands device_start v.messages p.messages) same s.messages;
      state = subst (λ (v : View). state.Stands (shape_of made) v.state p.state) same s.state;
      config = record { bytes = s.config.bytes ∙ ap (λ (v : View). v.config) same; size = s.config.size };
      opened = s.opened ∙ ap (λ (v : View). v.opened) same;
      sessions = s.sessions ∙ ap (λ (v : View). v.sessions) same;
      closings = s.closings ∙ ap (λ (v : View). v.closings) same;
      attached = s.attached ∙ ap (λ (v : View). v.attached) same;
    }

-- ---- counts

-- counts within a number are within a greater one
pub within_later : (least most : ℕ) (p : ControlPath) → least ≤ most → IsWithin least p → IsWithin most p
within_later least most p le w = record { state = counts_within_more least most p.state le w.state; sessions = (let h = w.sessions in omega arith); closings = (let h = w.closings in omega arith) }

pub within_more : (most : ℕ) (p : ControlPath) → IsWithin most p → IsWithin (most + 1) p
within_more most p w = within_later most (most + 1) p (omega arith) w

pub state_within : (most : ℕ) (p : ControlPath) (k : Kept) → IsWithin most p → CountsWithin (most + 1) k → IsWithin (most + 1) (record p { state = k })
state_within most p k w c = record { state = c; sessions = (let h = w.sessions in omega arith); closings = (let h = w.closings in omega arith) }
