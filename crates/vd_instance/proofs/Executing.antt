-- A device after an execution of a request: of its parts only the block daemon of the queue changes.
use Rattle.std.proofs.Common.{◌≡◌, ℕ, ◌+◌, ◌*◌, ◌<◌, Bool, true, false, refl, ap, sym, ◌∙◌, List, [], ◌∷◌, ◌++◌, length, set, Option, Some, None, true≢false, ◌==◌, if◌then◌else◌}
use Rattle.std.specs.Prelude.{◌&&◌, is_some, IsSome, slice_index}
use Rattle.std.specs.List.{list_all}
use Rattle.std.specs.Option.{option_map, option_map_or}
use Rattle.vd_num.specs.declared.errno.Errno.{Errno}
use Rattle.vd_num.specs.declared.errno.Errno.TheVariants.{Noent, Inval}
use Rattle.vd_model.specs.declared.answer.Answer.{Answer}
use Rattle.vd_model.specs.declared.memory.Window.{Window}
use Rattle.vd_model.specs.Setting.{Setting}
use Rattle.vd_model.specs.Creation.{Creation}
use Rattle.vd_model.specs.Acts.{Act, QueueAct, Node, Driver, Bus, Message_act, State, Queue, Disk_act, Stored, Ring_made, Ring_dropped, Chain_added, Chains_published, Chain_reclaimed, Fetched, Executed, Finished}
use Rattle.vd_model.specs.Turn.{Turn, refuse, refusal_if, refusal_turn}
use Rattle.vd_model.specs.BusTurns.{is_missing}
use Rattle.vd_model.specs.Block as block
use Rattle.vd_model.specs.Queues.{in_hand, execution_of}
use Rattle.vd_model.specs.DaemonTurns.{hand, store_acts, executed_turn, execute_hand, execute_turn}
use Rattle.vd_model.specs.Deeds.{Seen}
use Rattle.vd_model.specs.History.{disk_of}
use Rattle.vd_pool.specs.Memory.{PoolMemory as Pool}
use Rattle.vd_control_path.specs.Ends.{ends_of}
use Rattle.vd_control_path.proofs.Parts.{all_of}
use Rattle.vd_domain.specs.Held as domains
use Rattle.vd_domain.specs.Stands as domain
use Rattle.vd_domain.specs.Beside.{is_beside}
use Rattle.vd_domain.proofs.Beside.{leaves_domain}
use Rattle.vd_answers.specs.Tells.{Tells}
use Rattle.blk_daemon.specs.Held.{Held}
use Rattle.blk_daemon.specs.Executed.{IsDisk}
use Rattle.vd_daemon_lines.specs.Stands.{DaemonStands}
use Rattle.vd_daemon_lines.specs.Disk.{AfterDisk, GoesOn, is_execution, stored_over}
use Rattle.vd_instance.specs.declared.instance.Instance.{Instance}
use Rattle.vd_instance.specs.Image.{IsWindow, window_or_none}
use Rattle.vd_instance.specs.Stands.{Stands, StandsForMore, After}
use Rattle.vd_instance.proofs.Deeds.{both_of}
use Rattle.vd_instance.proofs.Services.{is_service, are_services, is_request_step}
use Rattle.vd_instance.proofs.ServiceTurns.{all_front, itself}
use Rattle.vd_instance.proofs.Served.{service_line}

no : {X : Type 0} → false ≡ true → X
no e = absurd (true≢false (sym e))

-- the act is a step of an execution on the queue
abbrev pub is_execute_act : ℕ → Act → Bool
is_execute_act q (Queue (Executed k status bytes)) = k == q
is_execute_act q (Disk_act act) = true
is_execute_act q _ = false

abbrev pub are_executions : ℕ → List Act → Bool
are_executions q acts = list_all (is_execute_act q) acts

module _ (q : ℕ) where
  a_service : (act : Act) → is_execute_act q act ≡ true → is_service q act ≡ true
  a_service (Disk_act act) e = refl
  a_service (Queue act) e = by act e where
    by : (act : QueueAct) → is_execute_act q (Queue act) ≡ true → is_request_step q act ≡ true
    by (Executed k status bytes) e = e
    by (Fetched k) e = no e
    by (Finished k) e = no e
    by (Ring_made k place region) e = no e
    by (Ring_dropped k) e = no e
    by (Chain_added k chain) e = no e
    by (Chains_published k) e = no e
    by (Chain_reclaimed k head) e = no e
  a_service (Node act) e = no e
  a_service (Driver act) e = no e
  a_service (Bus act) e = no e
  a_service (Message_act act) e = no e
  a_service (State act) e = no e

  pub are_served : (acts : List Act) → are_executions q acts ≡ true → are_services q acts ≡ true
  are_served acts e = all_of (is_execute_act q) (is_service q) a_service acts e

  -- no domain sees it
  beside : (act : Act) → is_execute_act q act ≡ true → is_beside act ≡ true
  beside (Disk_act act) e = refl
  beside (Queue act) e = refl
  beside (Node act) e = no e
  beside (Driver act) e = no e
  beside (Bus act) e = no e
  beside (Message_act act) e = no e
  beside (State act) e = no e

  pub domain_still : (x : Setting) (acts done : List Act) (h : domains.Held) (m : Pool) → are_executions q acts ≡ true → domain.Stands x done h m → domain.Stands x (acts ++ done) h m
  domain_still x [] done h m e s = s
  domain_still x (act ∷ acts) done h m e s =
      let parts = both_of (is_execute_act q act) (are_executions q acts) e in
      leaves_domain x (acts ++ done) h m (domain_still x acts done h m parts.1 s) act (beside act parts.0)

  an_execution : (act : Act) → is_execution q act ≡ true → is_execute_act q act ≡ true
  an_execution (Queue act) e = by act e where
    by : (act : QueueAct) → is_execution q (Queue act) ≡ true → is_execute_act q (Queue act) ≡ true
    by (Executed k status bytes) e = e
    by (Fetched k) e = no e
    by (Finished k) e = no e
    by (Ring_made k place region) e = no e
    by (Ring_dropped k) e = no e
    by (Chain_added k chain) e = no e
    by (Chains_published k) e = no e
    by (Chain_reclaimed k head) e = no e
  an_execution (Disk_act act) e = no e
  an_execution (Node act) e = no e
  an_execution (Driver act) e = no e
  an_execution (Bus act) e = no e
  an_execution (Message_act act) e = no e
  an_execution (State act) e = no e

  pub only_executions : (acts : List Act) → list_all (is_execution q) acts ≡ true → are_executions q acts ≡ true
  only_executions acts e = all_of (is_execution q) (is_execute_act q) an_execution acts e

  -- ---- the acts of the turn

  refused : (e : Option Errno) (turn : Turn Act) → are_executions q turn.acts ≡ true → are_executions q (refuse e turn).acts ≡ true
  refused None turn h = h
  refused (Some errno) turn h = refl

  option_out : {A : Type 0} (f : A → Turn Act) (o : Option A) → ((a : A) → are_executions q (f a).acts ≡ true) → are_executions q (option_map_or f o (refusal_turn Noent)).acts ≡ true
  option_out f None each = refl
  option_out f (Some a) each = each a

  stores_only : (at : ℕ) (bytes : List ℕ) (t : Bool) → are_executions q (if t then Disk_act (Stored at bytes) ∷ [] else []) ≡ true
  stores_only at bytes true = refl
  stores_only at bytes false = refl

  executed_only : (b : block.Block) (result : block.RequestResult) → are_executions q (executed_turn q b result).acts ≡ true
  executed_only b result =
      all_front (is_execute_act q) (store_acts b result) (Queue (Executed q result.status result.bytes) ∷ []) (stores_only (512 * b.sector) b.payload result.stores) (ap (λ t. t && true) (itself q))

  pub execute_only : (x : Setting) (made : Creation) (disk : block.Disk) (failed : Bool) (done : List Act) → are_executions q (execute_turn x made disk failed done q).acts ≡ true
  execute_only x made disk failed done =
      refused (refusal_if (is_missing made q) Inval)
      (refuse (refusal_if (is_some (execution_of done q)) Noent) (option_map_or (λ earlier. execute_hand disk failed q (hand x earlier q)) (in_hand done q) (refusal_turn Noent)))
      (refused (refusal_if (is_some (execution_of done q)) Noent) (option_map_or (λ earlier. execute_hand disk failed q (hand x earlier q)) (in_hand done q) (refusal_turn Noent))
      (option_out (λ earlier. execute_hand disk failed q (hand x earlier q)) (in_hand done q)
      (λ earlier. executed_only (block.block_of (hand x earlier q).bytes (hand x earlier q).writable)
      (block.result_of disk (block.block_of (hand x earlier q).bytes (hand x earlier q).writable) failed))))

-- ---- the disk

some_is : {T : Type 0} (a b : T) → Some a ≡ Some b → a ≡ b
some_is a b e = cc

-- a window that a line sees is the disk of its device
module _ (made : Creation) (name : List ℕ) (seen : Seen) where
  sectors_by : (o : Option Window) → option_map_or (λ (w : Window). w.count) o 0 ≡ (window_or_none o).count
  sectors_by None = refl
  sectors_by (Some w) = refl

  pub disk_is : (content : Option (List ℕ)) (window : Window) (offered : ℕ) (called : List ℕ) → IsWindow content window seen → offered ≡ made.features → called ≡ name
      → IsDisk content window offered called (disk_of made name seen)
  disk_is content window offered called w features names = record {
    sectors = sectors_by seen.window ∙ ap (λ (v : Window). v.count) (sym w.is);
    features = sym features;
    name_is = sym names;
    bytes = λ c e i less. w.disk i less ∙ ap (λ l. slice_index l (512 * window.first + i)) (some_is w.bytes c (sym w.told ∙ e));
  }

told_some : (o : Option (List ℕ)) (bytes : List ℕ) → o ≡ Some bytes → IsSome o
told_some None bytes e = absurd (cc)
told_some (Some b) bytes e = refl

-- what stores nothing leaves the content
pub same_content : (w : Window) (old : Option (List ℕ)) → old ≡ option_map (stored_over w []) old
same_content w None = refl
same_content w (Some c) = refl

-- ---- the line

module _ {x : Setting} {made : Creation} {done : List Act} {i : Instance} {m : Pool} (q : ℕ) (k : Held) (ends : ℕ) (j : Instance)
    (less : q < length i.daemons.items) (of : j.device ≡ i.device) (drivers : j.drivers ≡ i.drivers)
    (placed : j.daemons.items ≡ set i.daemons.items q (record { daemon = k; ends = ends })) (now : ends ≡ ends_of done q) (s : Stands x made done i m) where
  pub execution_line : (acts : List Act) → are_executions q acts ≡ true → DaemonStands x (acts ++ done) q k → Stands x made (acts ++ done) j m
  execution_line acts only a =
      service_line q i.device.memory.domain k ends j less of drivers placed now s acts (are_served q acts only)
      (record { domain = domain_still q x acts done i.device.memory.domain m only s.device.memory.domain; daemon = a })

  pub execution_tells : {heard : Answer → Type 0} {turn : Turn Act} {w : Window} {old new : Option (List ℕ)} → IsSome old → are_executions q turn.acts ≡ true
      → Tells heard turn (AfterDisk x done q w old new k) → Tells heard turn (After x made done j m)
  execution_tells {heard} {turn} some only t = record { says = t.says; stands = execution_line turn.acts only (t.stands.daemon some) }

  pub goes_for_more : GoesOn x done q k → StandsForMore x made done j m
  goes_for_more g = record { more = g.more; stands = execution_line g.more (only_executions q g.more g.only) g.stands }

pub window_told : {content : Option (List ℕ)} {window : Window} {seen : Seen} → IsWindow content window seen → IsSome content
window_told {content} w = told_some content w.bytes w.told

-- there is nothing to execute on a queue that isn't there
pub missing_execute : (x : Setting) (made : Creation) (disk : block.Disk) (failed : Bool) (done : List Act) (q : ℕ) → is_missing made q ≡ true → execute_turn x made disk failed done q ≡ refusal_turn Inval
missing_execute x made disk failed done q e =
    ap (λ t. refuse (refusal_if t Inval) (refuse (refusal_if (is_some (execution_of done q)) Noent) (option_map_or (λ earlier. execute_hand disk failed q (hand x earlier q)) (in_hand done q) (refusal_turn Noent)))) e
