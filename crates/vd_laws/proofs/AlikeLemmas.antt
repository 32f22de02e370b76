-- What the block daemon's lines look at.
use Rattle.std.proofs.Common.{◌≡◌, ℕ, ◌+◌, ◌-◌, ◌<◌, refl, ap, ◌∙◌, sym, arith, Bool, true, false, cond, not, nat_lt, Option, None, Some, is_some, unwrap_or, List, [], ◌∷◌, ◌++◌, take, drop, Result, Ok, Err}
use Rattle.std.proofs.Math.Path.{fun_ext}
use Rattle.std.specs.Option.{option_map, option_map_or, option_and_then}
use Rattle.std.proofs.lemmas.Bool.{ltb-true}
use Rattle.std.proofs.lemmas.Bool.Decides.{nat_tests}
use Rattle.vd_num.specs.Number.{is_within}
use Rattle.vd_num.specs.declared.errno.Errno.TheVariants.{Noent, Badf, Inval, Nodev}
use Rattle.vd_model.specs.declared.memory.Origin.TheVariants.{Daemon}
use Rattle.vd_model.specs.declared.queue.RingPlace.{RingPlace}
use Rattle.vd_model.specs.declared.parts.Part.{Part}
use Rattle.vd_model.specs.declared.step.QueueStep.TheVariants as queue
use Rattle.vd_model.specs.Setting.{Setting}
use Rattle.vd_model.specs.Creation.{Creation}
use Rattle.vd_model.specs.Acts.{Act, Node, Daemon_put, state_acts}
use Rattle.vd_model.specs.State.{queue_info}
use Rattle.vd_model.specs.Live.{Registration, registration_of, is_open}
use Rattle.vd_model.specs.Puts.{Iova, Area, byte_in, text_at, home_cell, is_moved, area_address, address_put_if, put_at, put_or, last_put, shown_put}
use Rattle.vd_model.specs.Deeds.{Seen}
use Rattle.vd_model.specs.Turn.{Turn, refusal_turn, refuse, refusal_if}
use Rattle.vd_model.specs.BusTurns.{is_missing}
use Rattle.vd_model.specs.AreaTurns.{is_accessible}
use Rattle.vd_model.specs.Queues.{Execution, fetches, finishes, in_hand, execution_of}
use Rattle.vd_model.specs.Block.{Disk}
use Rattle.vd_model.specs.DaemonTurns.{Hand, daemon_memory, walk_turn, fetch_chain, fetch_turn, first_used, index_after, used_position, hand, ring_place_of, queue_place, spread_acts, finish_puts, finish_hand, finish_turn, execute_hand, execute_turn}
use Rattle.vd_model.specs.History.{needs_session, disk_of, device_queue_turn}
use Rattle.vd_laws.specs.Alike.{LooksAlike, HasSameDisk, KeepsAlike, request_in_hand}

walk_alike : (x : Setting) (made : Creation) (s t : List Act) (q head : ℕ) → state_acts s ≡ state_acts t → daemon_memory x s ≡ daemon_memory x t → walk_turn x made s q head ≡ walk_turn x made t q head
walk_alike x made s t q head state memory = rw (state, memory) refl

chain_alike : (x : Setting) (s t : List Act) (q : ℕ) → state_acts s ≡ state_acts t → daemon_memory x s ≡ daemon_memory x t → fetch_chain x s q ≡ fetch_chain x t q
chain_alike x s t q state memory = fun_ext (λ place. fun_ext (λ position. fun_ext (λ chain. rw (state, memory) refl)))

fetch_alike : (x : Setting) (made : Creation) (s t : List Act) (q : ℕ) → state_acts s ≡ state_acts t → daemon_memory x s ≡ daemon_memory x t
    → first_used x s q ≡ first_used x t q → fetches s q ≡ fetches t q → is_some (in_hand s q) ≡ is_some (in_hand t q)
    → fetch_turn x made s q ≡ fetch_turn x made t q
fetch_alike x made s t q state memory first fetched busy = rw (chain_alike x s t q state memory, first, fetched, busy, state, memory) refl

used_alike : (x : Setting) (s t : List Act) (q : ℕ) → first_used x s q ≡ first_used x t q → finishes s q ≡ finishes t q → used_position x s q ≡ used_position x t q
used_alike x s t q first finished = ap (position (finishes s q)) first ∙ ap (λ n. position n (first_used x t q)) finished where
  position : ℕ → Result ℕ ℕ → ℕ
  position n (Ok used) = index_after n used
  position n (Err at) = 0

busy_alike : (x : Setting) (s t : List Act) (q : ℕ) → request_in_hand x s q ≡ request_in_hand x t q → is_some (in_hand s q) ≡ is_some (in_hand t q)
busy_alike x s t q same = sym (some (in_hand s q)) ∙ ap is_some same ∙ some (in_hand t q) where
  some : (o : Option (List Act)) → is_some (option_map (λ earlier. hand x earlier q) o) ≡ is_some o
  some None = refl
  some (Some earlier) = refl

-- ---- what a daemon stores

-- a store puts its bytes at their addresses, wherever these have their cells
module _ (g : ℕ) (acts : List Act) (at : ℕ) (bytes : List ℕ) (a : ℕ) where
  store_at_home : (o : Option Registration) → registration_of acts ≡ o
      → put_at g (last_put g acts) acts (Node (Daemon_put at bytes)) (home_cell o a) ≡ text_at bytes at a Daemon
  store_at_home None e = ap (λ o. address_put_if (is_moved o a) g (last_put g acts) acts (Node (Daemon_put at bytes)) a) e
  store_at_home (Some r) e = by (nat_lt a r.size) refl where
    by : (b : Bool) → nat_lt a r.size ≡ b → put_at g (last_put g acts) acts (Node (Daemon_put at bytes)) (cond b (Area (r.base + a)) (Iova a)) ≡ text_at bytes at a Daemon
    by true f =
        let here : is_within r.base r.size (r.base + a) ≡ true = (let low : a < r.size = ltb-true a r.size f in grind (arith, nat_tests)) in
        let back : r.base + a - r.base ≡ a = omega arith in
        ap (λ o. option_and_then (λ a. text_at bytes at a Daemon) (area_address o (r.base + a))) e
        ∙ ap (λ b. option_and_then (λ a. text_at bytes at a Daemon) (cond b (Some (r.base + a - r.base)) None)) here
        ∙ ap (λ a. text_at bytes at a Daemon) back
    by false f =
        ap (λ o. address_put_if (is_moved o a) g (last_put g acts) acts (Node (Daemon_put at bytes)) a) e
        ∙ ap (λ b. address_put_if b g (last_put g acts) acts (Node (Daemon_put at bytes)) a) f

  store_shown : (shown_put g (Node (Daemon_put at bytes) ∷ acts) a).byte ≡ unwrap_or (byte_in bytes at a) (shown_put g acts a).byte
  store_shown = ap (λ o. (put_or o (last_put g acts) (home_cell (registration_of acts) a)).byte) (store_at_home (registration_of acts) refl) ∙ by (byte_in bytes at a) where
    by : (o : Option ℕ) → (put_or (option_map (λ b. record { byte = b; origin = Daemon }) o) (last_put g acts) (home_cell (registration_of acts) a)).byte ≡ unwrap_or o (shown_put g acts a).byte
    by None = refl
    by (Some b) = refl

-- the memory after a store
stored_memory : (x : Setting) (acts : List Act) (at : ℕ) (bytes : List ℕ) (a : ℕ)
    → daemon_memory x (Node (Daemon_put at bytes) ∷ acts) a ≡ option_map (unwrap_or (byte_in bytes at a)) (daemon_memory x acts a)
stored_memory x acts at bytes a = by (is_accessible x acts a) where
  by : (b : Bool) → cond b (Some (shown_put x.per_page (Node (Daemon_put at bytes) ∷ acts) a).byte) None ≡ option_map (unwrap_or (byte_in bytes at a)) (cond b (Some (shown_put x.per_page acts a).byte) None)
  by true = ap (λ c. Some c) (store_shown x.per_page acts at bytes a)
  by false = refl

-- stores of a daemon
IsStore : Act → Type 0
IsStore (Node (Daemon_put at bytes)) = Unit {0}
IsStore _ = ⊥

AreStores : List Act → Type 0
AreStores [] = Unit {0}
AreStores (act ∷ acts) = IsStore act × AreStores acts

-- the same stores keep memory alike
stores_alike : (x : Setting) (puts s t : List Act) → AreStores puts → ((a : ℕ) → daemon_memory x s a ≡ daemon_memory x t a) → (a : ℕ) → daemon_memory x (puts ++ s) a ≡ daemon_memory x (puts ++ t) a
unfolding IsStore AreStores
stores_alike x [] s t stores same a = same a
stores_alike x (Node (Daemon_put at bytes) ∷ puts) s t stores same a =
    stored_memory x (puts ++ s) at bytes a ∙ ap (option_map (unwrap_or (byte_in bytes at a))) (stores_alike x puts s t stores.1 same a) ∙ sym (stored_memory x (puts ++ t) at bytes a)
stores_alike x (_ ∷ puts) s t stores same a = absurd stores.0

spread_acts_stores : (parts : List Part) (bytes : List ℕ) (acts : List Act) → AreStores acts → AreStores (spread_acts parts bytes acts)
unfolding IsStore AreStores
spread_acts_stores [] bytes acts h = h
spread_acts_stores (part ∷ parts) bytes acts h = by part.writable (λ more rest k. spread_acts_stores parts more rest k) where
  by : (b : Bool) → ((more : List ℕ) (rest : List Act) → AreStores rest → AreStores (spread_acts parts more rest)) → AreStores (cond b (spread_acts parts (drop part.len bytes) (Node (Daemon_put part.at (take part.len bytes)) ∷ acts)) (spread_acts parts bytes acts))
  by true later = later (drop part.len bytes) (Node (Daemon_put part.at (take part.len bytes)) ∷ acts) (tt, h)
  by false later = later bytes acts h

finish_stores : (place : RingPlace) (used : ℕ) (h : Hand) (end : Execution) → AreStores (finish_puts place used h end)
unfolding IsStore AreStores
finish_stores place used h end = (tt, (tt, spread_acts_stores h.parts (end.bytes ++ end.status ∷ []) [] tt))

-- ---- a finish

finished_alike : (x : Setting) (s t : List Act) (q : ℕ) (place : RingPlace) (used : ℕ) (h : Hand) (end : Execution) → state_acts s ≡ state_acts t → daemon_memory x s ≡ daemon_memory x t
    → finish_hand x s q place used h end ≡ finish_hand x t q place used h end
finished_alike x s t q place used h end state memory = rw (stored, memory, state) refl where
  stored : daemon_memory x (finish_puts place used h end ++ s) ≡ daemon_memory x (finish_puts place used h end ++ t)
  stored = fun_ext (λ a. stores_alike x (finish_puts place used h end) s t (finish_stores place used h end) (λ b. ap (λ m. m b) memory) a)

-- a finish of a request
abbrev finish_of : Setting → List Act → ℕ → Hand → Turn Act
finish_of x acts q h = option_map_or (finish_hand x acts q (queue_place acts q) (used_position x acts q) h) (execution_of acts q) (refusal_turn Noent)

finish_in_hand : (x : Setting) (made : Creation) (acts : List Act) (q : ℕ) → finish_turn x made acts q ≡ refuse (refusal_if (is_missing made q) Inval) (option_map_or (finish_of x acts q) (request_in_hand x acts q) (refusal_turn Noent))
finish_in_hand x made acts q = ap (refuse (refusal_if (is_missing made q) Inval)) (by (in_hand acts q)) where
  by : (o : Option (List Act)) → option_map_or (λ earlier. finish_of x acts q (hand x earlier q)) o (refusal_turn Noent) ≡ option_map_or (finish_of x acts q) (option_map (λ earlier. hand x earlier q) o) (refusal_turn Noent)
  by None = refl
  by (Some earlier) = refl

finish_of_alike : (x : Setting) (s t : List Act) (q : ℕ) (h : Hand) → state_acts s ≡ state_acts t → daemon_memory x s ≡ daemon_memory x t → used_position x s q ≡ used_position x t q → execution_of s q ≡ execution_of t q
    → finish_of x s q h ≡ finish_of x t q h
finish_of_alike x s t q h state memory used ended =
    ap (λ o. option_map_or (finish_hand x s q (queue_place s q) (used_position x s q) h) o (refusal_turn Noent)) ended
    ∙ ap (λ f. option_map_or f (execution_of t q) (refusal_turn Noent)) (fun_ext (λ end.
    ap (λ st. finish_hand x s q (ring_place_of (queue_info st q)) (used_position x s q) h end) state
    ∙ ap (λ n. finish_hand x s q (queue_place t q) n h end) used
    ∙ finished_alike x s t q (queue_place t q) (used_position x t q) h end state memory))

finish_alike : (x : Setting) (made : Creation) (s t : List Act) (q : ℕ) → state_acts s ≡ state_acts t → daemon_memory x s ≡ daemon_memory x t → KeepsAlike x s t q → finish_turn x made s q ≡ finish_turn x made t q
finish_alike x made s t q state memory keeps =
    finish_in_hand x made s q
    ∙ ap (λ o. refuse (refusal_if (is_missing made q) Inval) (option_map_or (finish_of x s q) o (refusal_turn Noent))) keeps.request
    ∙ ap (λ f. refuse (refusal_if (is_missing made q) Inval) (option_map_or f (request_in_hand x t q) (refusal_turn Noent)))
    (fun_ext (λ h. finish_of_alike x s t q h state memory (used_alike x s t q keeps.first keeps.finished) keeps.ended))
    ∙ sym (finish_in_hand x made t q)

-- ---- an execute

-- an execute of the request in hand, if one is
execute_in_hand : (x : Setting) (made : Creation) (disk : Disk) (failed : Bool) (acts : List Act) (q : ℕ)
    → execute_turn x made disk failed acts q
    ≡ refuse (refusal_if (is_missing made q) Inval) (refuse (refusal_if (is_some (execution_of acts q)) Noent) (option_map_or (execute_hand disk failed q) (request_in_hand x acts q) (refusal_turn Noent)))
execute_in_hand x made disk failed acts q = ap (λ turn. refuse (refusal_if (is_missing made q) Inval) (refuse (refusal_if (is_some (execution_of acts q)) Noent) turn)) (by (in_hand acts q)) where
  by : (o : Option (List Act)) → option_map_or (λ earlier. execute_hand disk failed q (hand x earlier q)) o (refusal_turn Noent) ≡ option_map_or (execute_hand disk failed q) (option_map (λ earlier. hand x earlier q) o) (refusal_turn Noent)
  by None = refl
  by (Some earlier) = refl

execute_alike : (x : Setting) (made : Creation) (disk : Disk) (failed : Bool) (s t : List Act) (q : ℕ) → KeepsAlike x s t q → execute_turn x made disk failed s q ≡ execute_turn x made disk failed t q
execute_alike x made disk failed s t q keeps =
    execute_in_hand x made disk failed s q
    ∙ ap (λ o. refuse (refusal_if (is_missing made q) Inval) (refuse (refusal_if (is_some o) Noent) (option_map_or (execute_hand disk failed q) (request_in_hand x s q) (refusal_turn Noent)))) keeps.ended
    ∙ ap (λ o. refuse (refusal_if (is_missing made q) Inval) (refuse (refusal_if (is_some (execution_of t q)) Noent) (option_map_or (execute_hand disk failed q) o (refusal_turn Noent)))) keeps.request
    ∙ sym (execute_in_hand x made disk failed t q)

disk_alike : (made : Creation) (name : List ℕ) (s t : Seen) → HasSameDisk s t → disk_of made name s ≡ disk_of made name t
disk_alike made name s t same =
    ap (λ w. record { sectors = option_map_or (λ w. w.count) w 0; byte = s.disk; features = made.features; name = name }) same.window
    ∙ ap (λ f. record { sectors = option_map_or (λ w. w.count) t.window 0; byte = f; features = made.features; name = name }) (fun_ext same.disk)

-- ---- the lines

-- a line of a daemon with a session, on a device
on_session : (s t : Seen) (T U : Creation → Turn Act) → s.made ≡ t.made → is_open s.acts ≡ is_open t.acts → ((made : Creation) → T made ≡ U made)
    → option_map_or (λ made. needs_session s.acts (T made)) s.made (refusal_turn Nodev) ≡ option_map_or (λ made. needs_session t.acts (U made)) t.made (refusal_turn Nodev)
on_session s t T U made opened same =
    ap (λ o. option_map_or (λ made. needs_session s.acts (T made)) o (refusal_turn Nodev)) made
    ∙ ap (λ f. option_map_or f t.made (refusal_turn Nodev)) (fun_ext (λ m. ap (λ b. refuse (refusal_if (not b) Badf) (T m)) opened ∙ ap (needs_session t.acts) (same m)))

pub walks : (x : Setting) (name : List ℕ) (s t : Seen) → LooksAlike x s t → (q head : ℕ) (failed : Bool) → device_queue_turn x name s failed (queue.Walk q head) ≡ device_queue_turn x name t failed (queue.Walk q head)
walks x name s t looks q head failed = on_session s t (λ made. walk_turn x made s.acts q head) (λ made. walk_turn x made t.acts q head) looks.made looks.opened
    (λ made. walk_alike x made s.acts t.acts q head looks.state (fun_ext looks.memory))

pub fetches_alike : (x : Setting) (name : List ℕ) (s t : Seen) (q : ℕ) → LooksAlike x s t → KeepsAlike x s.acts t.acts q → (failed : Bool) → device_queue_turn x name s failed (queue.Fetch q) ≡ device_queue_turn x name t failed (queue.Fetch q)
fetches_alike x name s t q looks keeps failed = on_session s t (λ made. fetch_turn x made s.acts q) (λ made. fetch_turn x made t.acts q) looks.made looks.opened
    (λ made. fetch_alike x made s.acts t.acts q looks.state (fun_ext looks.memory) keeps.first keeps.fetched (busy_alike x s.acts t.acts q keeps.request))

pub finishes_alike : (x : Setting) (name : List ℕ) (s t : Seen) (q : ℕ) → LooksAlike x s t → KeepsAlike x s.acts t.acts q → (failed : Bool) → device_queue_turn x name s failed (queue.Finish q) ≡ device_queue_turn x name t failed (queue.Finish q)
finishes_alike x name s t q looks keeps failed = on_session s t (λ made. finish_turn x made s.acts q) (λ made. finish_turn x made t.acts q) looks.made looks.opened
    (λ made. finish_alike x made s.acts t.acts q looks.state (fun_ext looks.memory) keeps)

pub executes_alike : (x : Setting) (name : List ℕ) (s t : Seen) (q : ℕ) → HasSameDisk s t → KeepsAlike x s.acts t.acts q → (failed : Bool) → device_queue_turn x name s failed (queue.Execute q) ≡ device_queue_turn x name t failed (queue.Execute q)
executes_alike x name s t q same keeps failed =
    on_session s t (λ made. execute_turn x made (disk_of made name s) failed s.acts q) (λ made. execute_turn x made (disk_of made name t) failed t.acts q) same.made same.opened
    (λ made. ap (λ disk. execute_turn x made disk failed s.acts q) (disk_alike made name s t same) ∙ execute_alike x made (disk_of made name t) failed s.acts t.acts q keeps)
