-- Which acts the lines of the block daemon make.
use Rattle.std.proofs.Common.{◌≡◌, ℕ, ◌*◌, Bool, true, false, refl, arith, Option, None, Some, Result, List, [], ◌∷◌, ◌++◌, ◌==◌, ◌||◌, nat_lt, drop, take, if◌then◌else◌}
use Rattle.std.specs.List.{list_all}
use Rattle.std.specs.Option.{option_map_or}
use Rattle.vd_num.specs.declared.errno.Errno.{Errno}
use Rattle.vd_model.specs.declared.answer.Answer.TheVariants as answer
use Rattle.vd_model.specs.declared.parts.Part.{Part}
use Rattle.vd_model.specs.declared.parts.Chain.{Chain}
use Rattle.vd_model.specs.declared.queue.RingPlace.{RingPlace}
use Rattle.vd_model.specs.Setting.{Setting}
use Rattle.vd_model.specs.Creation.{Creation}
use Rattle.vd_model.specs.Acts.{Act, Node, Queue, Disk_act, Stored, Daemon_put, Fetched, Executed, Finished}
use Rattle.vd_model.specs.Memory.{Memory, read}
use Rattle.vd_model.specs.Trace.{Ending, whole, faulty, missing, trace_start, ending_of}
use Rattle.vd_model.specs.Queues.{Execution}
use Rattle.vd_model.specs.Rings.{number16, available_index_at, available_slot_at, available_event_at, used_element_at, used_index_at, next16}
use Rattle.vd_model.specs.Turn.{Turn, refuse, refusal_turn}
use Rattle.vd_model.specs.Raw.{little_bytes}
use Rattle.vd_model.specs.Block as block
use Rattle.vd_model.specs.DaemonTurns.{daemon_memory, has_indirect, has_event_idx, chain_or, read_or, walk_turn, readable_bytes, event_puts, event_or, fetched_turn, request_or, fetch_chain, fetch_at, ahead_or, fetch_from, fetch_turn, Hand, store_acts, executed_turn, execute_turn, unwritable_or, spread_acts, deciding_field, finish_puts, finished_turn, finish_hand, finish_turn}
use Rattle.vd_line_acts.specs.LineActs.{is_execute_act, is_daemon_line_act}
use Rattle.vd_line_acts.proofs.Passing.{Passes, wider, refuse_passes, there_passes, read_passes, chain_passes}

abbrev IsDaemons : Turn Act → Type 0
IsDaemons turn = Passes is_daemon_line_act turn

abbrev IsExecute : Turn Act → Type 0
IsExecute turn = Passes is_execute_act turn

-- ---- walk

refused_none : (o : Option Errno) (turn : Turn Act) → turn.acts ≡ [] → (refuse o turn).acts ≡ []
refused_none None turn e = e
refused_none (Some errno) turn e = refl

ending_none : (ending : Ending) (turn : Chain → Turn Act) → ((chain : Chain) → (turn chain).acts ≡ []) → (chain_or ending turn).acts ≡ []
ending_none (whole chain) turn e = e chain
ending_none (faulty fault) turn e = refl
ending_none (missing at) turn e = refl

pub walk_none : (x : Setting) (made : Creation) (done : List Act) (q head : ℕ) → (walk_turn x made done q head).acts ≡ []
walk_none x made done q head = search (refused_none, ending_none)

-- ---- what passes

refuse_daemons : (o : Option Errno) (turn : Turn Act) → IsDaemons turn → IsDaemons (refuse o turn)
refuse_daemons = refuse_passes is_daemon_line_act

there_daemons : {X : Type 0} (turn : X → Turn Act) (o : Option X) (errno : Errno) → ((y : X) → IsDaemons (turn y)) → IsDaemons (option_map_or turn o (refusal_turn errno))
there_daemons turn o errno e = there_passes is_daemon_line_act turn o errno e

read_daemons : {X : Type 0} (r : Result X ℕ) (turn : X → Turn Act) → ((bytes : X) → IsDaemons (turn bytes)) → IsDaemons (read_or r turn)
read_daemons r turn e = read_passes is_daemon_line_act r turn e

chain_daemons : (ending : Ending) (turn : Chain → Turn Act) → ((chain : Chain) → IsDaemons (turn chain)) → IsDaemons (chain_or ending turn)
chain_daemons ending turn e = chain_passes is_daemon_line_act ending turn e

refuse_execute : (o : Option Errno) (turn : Turn Act) → IsExecute turn → IsExecute (refuse o turn)
refuse_execute = refuse_passes is_execute_act

there_execute : {X : Type 0} (turn : X → Turn Act) (o : Option X) (errno : Errno) → ((y : X) → IsExecute (turn y)) → IsExecute (option_map_or turn o (refusal_turn errno))
there_execute turn o errno e = there_passes is_execute_act turn o errno e

-- ---- fetch

event_daemons : (done : List Act) (place : RingPlace) (position : ℕ) (more : List Act) → list_all is_daemon_line_act more ≡ true → list_all is_daemon_line_act (event_puts done place position ++ more) ≡ true
event_daemons done place position more e = by (has_event_idx done) where
  by : (b : Bool) → list_all is_daemon_line_act ((if b then Node (Daemon_put (available_event_at place) (little_bytes 2 position)) ∷ [] else []) ++ more) ≡ true
  by true = e
  by false = e

event_or_daemons : (x : Setting) (done : List Act) (place : RingPlace) (turn : Turn Act) → IsDaemons turn → IsDaemons (event_or x done place turn)
event_or_daemons x done place turn e = by (has_event_idx done) where
  by : (b : Bool) → IsDaemons (if b then read_or (read (daemon_memory x done) (available_event_at place) 2) (λ bytes. turn) else turn)
  by true = read_daemons (read (daemon_memory x done) (available_event_at place) 2) (λ bytes. turn) (λ bytes. e)
  by false = e

request_daemons : (chain : Chain) (turn : Turn Act) → IsDaemons turn → IsDaemons (request_or chain turn)
request_daemons chain turn e = by (nat_lt chain.readable 16 || (chain.writable == 0)) where
  by : (b : Bool) → IsDaemons (if b then record { answer = answer.Shape chain.readable chain.writable; acts = [] } else turn)
  by true = refl
  by false = e

ahead_daemons : (place : RingPlace) (found position : ℕ) (turn : Turn Act) → IsDaemons turn → IsDaemons (ahead_or place found position turn)
ahead_daemons place found position turn e = grind (arith, refuse_daemons)

fetched_daemons : (done : List Act) (q : ℕ) (place : RingPlace) (position : ℕ) (chain : Chain) (bytes : List ℕ) → IsDaemons (fetched_turn done q place position chain bytes)
fetched_daemons done q place position chain bytes = event_daemons done place (next16 position) (Queue (Fetched q) ∷ []) refl

fetch_chain_daemons : (x : Setting) (done : List Act) (q : ℕ) (place : RingPlace) (position : ℕ) (chain : Chain) → IsDaemons (fetch_chain x done q place position chain)
fetch_chain_daemons x done q place position chain =
    request_daemons chain _ (read_daemons (readable_bytes (daemon_memory x done) chain.parts) _
    (λ bytes. event_or_daemons x done place (fetched_turn done q place position chain bytes) (fetched_daemons done q place position chain bytes)))

fetch_at_daemons : (x : Setting) (done : List Act) (q : ℕ) (place : RingPlace) (position : ℕ) → IsDaemons (fetch_at x done q place position)
fetch_at_daemons x done q place position =
    read_daemons (number16 (daemon_memory x done) (available_slot_at place position)) _
    (λ head. chain_daemons (ending_of (trace_start place head (has_indirect done)) (daemon_memory x done)) _ (fetch_chain_daemons x done q place position))

fetch_from_daemons : (x : Setting) (done : List Act) (q : ℕ) (place : RingPlace) (position : ℕ) → IsDaemons (fetch_from x done q place position)
fetch_from_daemons x done q place position =
    read_daemons (number16 (daemon_memory x done) (available_index_at place)) _
    (λ found. ahead_daemons place found position (fetch_at x done q place position) (fetch_at_daemons x done q place position))

pub fetch_line : (x : Setting) (made : Creation) (done : List Act) (q : ℕ) → IsDaemons (fetch_turn x made done q)
fetch_line x made done q = search (refuse_daemons, read_daemons, fetch_from_daemons)

-- ---- execute

store_acts_execute : (b : block.Block) (result : block.RequestResult) (more : List Act) → list_all is_execute_act more ≡ true → list_all is_execute_act (store_acts b result ++ more) ≡ true
store_acts_execute b result more e = by result.stores where
  by : (c : Bool) → list_all is_execute_act ((if c then Disk_act (Stored (512 * b.sector) b.payload) ∷ [] else []) ++ more) ≡ true
  by true = e
  by false = e

executed_execute : (q : ℕ) (b : block.Block) (result : block.RequestResult) → IsExecute (executed_turn q b result)
executed_execute q b result = store_acts_execute b result (Queue (Executed q result.status result.bytes) ∷ []) refl

pub execute_line : (x : Setting) (made : Creation) (disk : block.Disk) (failed : Bool) (done : List Act) (q : ℕ) → IsExecute (execute_turn x made disk failed done q)
execute_line x made disk failed done q = search (refuse_execute, there_execute, executed_execute)

-- they are some of a block daemon's
execute_is : (act : Act) → is_execute_act act ≡ true → is_daemon_line_act act ≡ true
execute_is (Node (Daemon_put at bytes)) e = refl
execute_is (Queue (Fetched q)) e = refl
execute_is (Queue (Finished q)) e = refl
execute_is _ e = e

pub execute_daemons : (x : Setting) (made : Creation) (disk : block.Disk) (failed : Bool) (done : List Act) (q : ℕ) → IsDaemons (execute_turn x made disk failed done q)
execute_daemons x made disk failed done q = wider is_execute_act is_daemon_line_act execute_is (execute_turn x made disk failed done q).acts (execute_line x made disk failed done q)

-- ---- finish

unwritable_daemons : (m : Memory) (parts : List Part) (turn : Turn Act) → IsDaemons turn → IsDaemons (unwritable_or m parts turn)
unwritable_daemons m [] turn e = e
unwritable_daemons m (part ∷ parts) turn e = by part.writable (unwritable_daemons m parts turn e) where
  by : (b : Bool) → IsDaemons (unwritable_or m parts turn) → IsDaemons (if b then read_or (read m part.at part.len) (λ bytes. unwritable_or m parts turn) else unwritable_or m parts turn)
  by true rest = read_daemons (read m part.at part.len) (λ bytes. unwritable_or m parts turn) (λ bytes. rest)
  by false rest = rest

spread_acts_daemons : (parts : List Part) (bytes : List ℕ) (acts : List Act) → list_all is_daemon_line_act acts ≡ true → list_all is_daemon_line_act (spread_acts parts bytes acts) ≡ true
spread_acts_daemons [] bytes acts e = e
spread_acts_daemons (part ∷ parts) bytes acts e = by part.writable
    (spread_acts_daemons parts (drop part.len bytes) (Node (Daemon_put part.at (take part.len bytes)) ∷ acts) e) (spread_acts_daemons parts bytes acts e) where
      by : (b : Bool) → list_all is_daemon_line_act (spread_acts parts (drop part.len bytes) (Node (Daemon_put part.at (take part.len bytes)) ∷ acts)) ≡ true → list_all is_daemon_line_act (spread_acts parts bytes acts) ≡ true
          → list_all is_daemon_line_act (if b then spread_acts parts (drop part.len bytes) (Node (Daemon_put part.at (take part.len bytes)) ∷ acts) else spread_acts parts bytes acts) ≡ true
      by true there other = there
      by false there other = other

finish_puts_daemons : (place : RingPlace) (used : ℕ) (h : Hand) (end : Execution) → list_all is_daemon_line_act (finish_puts place used h end) ≡ true
finish_puts_daemons place used h end = spread_acts_daemons h.parts (end.bytes ++ end.status ∷ []) [] refl

finished_daemons : (x : Setting) (done : List Act) (q : ℕ) (place : RingPlace) (used : ℕ) (h : Hand) (puts : List Act) → list_all is_daemon_line_act puts ≡ true → IsDaemons (finished_turn x done q place used h puts)
finished_daemons x done q place used h puts e = read_daemons (number16 (daemon_memory x (puts ++ done)) (deciding_field done place)) _ (λ field. e)

finish_hand_daemons : (x : Setting) (done : List Act) (q : ℕ) (place : RingPlace) (used : ℕ) (h : Hand) (end : Execution) → IsDaemons (finish_hand x done q place used h end)
finish_hand_daemons x done q place used h end =
    unwritable_daemons (daemon_memory x done) h.parts _
    (read_daemons (read (daemon_memory x done) (used_element_at place used) 8) _ (λ element.
    read_daemons (read (daemon_memory x done) (used_index_at place) 2) _ (λ index.
    read_daemons (read (daemon_memory x done) (deciding_field done place) 2) _ (λ field.
    finished_daemons x done q place used h (finish_puts place used h end) (finish_puts_daemons place used h end)))))

pub finish_line : (x : Setting) (made : Creation) (done : List Act) (q : ℕ) → IsDaemons (finish_turn x made done q)
finish_line x made done q = search (refuse_daemons, there_daemons, finish_hand_daemons)
