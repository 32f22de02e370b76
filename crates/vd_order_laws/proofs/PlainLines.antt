-- At the lines of the bus and of the node, and at those of the driver on its buffers and mappings, no ring changes.
use Rattle.std.proofs.Common.{◌≡◌, ℕ, zero, suc, ◌==◌, ◌<◌, Bool, true, false, refl, subst, ◌∙◌, sym, arith, Option, None, Some, List, [], ◌∷◌, ◌++◌, ◌||◌, nat_lt, find, true≢false}
use Rattle.std.proofs.lemmas.Bool.{and_parts, ltb-true, ltb-false}
use Rattle.std.specs.List.{list_all, list_any}
use Rattle.std.specs.Option.{option_map_or}
use Rattle.vd_num.specs.declared.errno.Errno.{Errno}
use Rattle.vd_num.specs.declared.errno.Errno.TheVariants.{Noent}
use Rattle.vd_model.specs.declared.step.BusStep.{BusStep}
use Rattle.vd_model.specs.declared.step.NodeStep.{NodeStep}
use Rattle.vd_model.specs.Creation.{Creation}
use Rattle.vd_model.specs.Acts.{Act, Node, Driver, DriverAct, Bus, Message_act, State, Disk_act, Queue, AddedChain, Request, Opened, Closed, Deregistered, Config_put, Buffer, Zeroed, Freed, Poked, Mapped, Executed}
use Rattle.vd_model.specs.Turn.{Turn, refuse, refusal_turn}
use Rattle.vd_model.specs.BusTurns.{bus_turn}
use Rattle.vd_model.specs.NodeTurns.{plain_turn}
use Rattle.vd_ring_turns.proofs.CalmRings.{IsStill, Calms, still_calms}
use Rattle.vd_model.specs.declared.step.DriverStep.{DriverStep}
use Rattle.vd_model.specs.declared.step.DriverStep.TheVariants as driver
use Rattle.vd_model.specs.declared.step.DevStep.TheVariants as line
use Rattle.vd_num.specs.declared.errno.Errno.TheVariants.{Nospc}
use Rattle.vd_num.specs.Number.{pages_of}
use Rattle.vd_model.specs.Setting.{Setting}
use Rattle.vd_model.specs.Live.{live_regions, buffer_len}
use Rattle.vd_model.specs.Place.{place_of, taken_slots}
use Rattle.vd_model.specs.Queues.{chains_out, has_map, some_pending}
use Rattle.vd_model.specs.Turn.{lift, range_refusal}
use Rattle.vd_model.specs.DriverTurns.{map_at, cget_turn, want_of, driver_turn}
use Rattle.vd_model.specs.Block as block
use Rattle.vd_model.specs.DaemonTurns.{execute_turn}
use Rattle.vd_line_acts.specs.LineActs.{is_bus_line_act, is_plain_node_line_act, is_execute_act}
use Rattle.vd_line_acts.proofs.Passing.{wider}
use Rattle.vd_line_acts.proofs.BusLines.{bus_line}
use Rattle.vd_line_acts.proofs.NodeLines.{plain_node_line}
use Rattle.vd_line_acts.proofs.DaemonLines.{execute_line}
use Rattle.vd_laws.specs.Among.{Among}
use Rattle.vd_laws.specs.Runs.{IsAddressed, IsWhole}
use Rattle.vd_ring_laws.specs.Calm.{is_calm_line}
use Rattle.vd_laws.proofs.Legal.{maps_of, Legal}
use Rattle.vd_laws.proofs.Lists.{any_true}
use Rattle.vd_ring_bytes.proofs.Numbers.{same_number}

-- acts that put nothing and take no mapping away
abbrev pub is_plain : Act → Bool
is_plain (Node Opened) = true
is_plain (Node Closed) = true
is_plain (Node Deregistered) = true
is_plain (Node (Config_put at bytes)) = true
is_plain (Node act) = false
is_plain (Bus act) = true
is_plain (Driver (Buffer bytes)) = true
is_plain (Driver (Zeroed len)) = true
is_plain (Driver (Freed buffer)) = true
is_plain (Driver (Poked buffer at bytes)) = true
is_plain (Driver (Mapped m)) = true
is_plain (Driver act) = false
is_plain (Message_act act) = true
is_plain (State act) = true
is_plain (Disk_act act) = true
is_plain (Queue (Executed q status bytes)) = true
is_plain (Queue act) = false

plain_still : (acts : List Act) (act : Act) → is_plain act ≡ true → IsStill acts act
plain_still acts (Node Opened) e = tt
plain_still acts (Node Closed) e = tt
plain_still acts (Node Deregistered) e = tt
plain_still acts (Node (Config_put at bytes)) e = tt
plain_still acts (Node act) e = cc
plain_still acts (Bus act) e = tt
plain_still acts (Driver (Buffer bytes)) e = tt
plain_still acts (Driver (Zeroed len)) e = tt
plain_still acts (Driver (Freed buffer)) e = tt
plain_still acts (Driver (Poked buffer at bytes)) e = tt
plain_still acts (Driver (Mapped m)) e = tt
plain_still acts (Driver act) e = cc
plain_still acts (Message_act act) e = tt
plain_still acts (State act) e = tt
plain_still acts (Disk_act act) e = tt
plain_still acts (Queue (Executed q status bytes)) e = tt
plain_still acts (Queue act) e = cc

pub plain_calms : (x : Setting) → IsAddressed x → IsWhole x → (n : ℕ) (new acts : List Act) → list_all is_plain new ≡ true → Legal x (new ++ acts) → Calms x n acts → Calms x n (new ++ acts)
plain_calms x small full n [] acts e legal c = c
plain_calms x small full n (act ∷ new) acts e legal c =
    let p = and_parts (is_plain act) (list_all is_plain new) e in
    still_calms x small full n act (new ++ acts) legal (plain_still (new ++ acts) act p.0) (plain_calms x small full n new acts p.1 legal.1 c)

-- all acts of a turn are such
abbrev pub IsPlain : Turn Act → Type 0
IsPlain turn = list_all is_plain turn.acts ≡ true

-- ---- the lines of the bus and of the node, and the block daemon's execute

bus_is_plain : (act : Act) → is_bus_line_act act ≡ true → is_plain act ≡ true
bus_is_plain (Bus act) e = refl
bus_is_plain (Message_act act) e = refl
bus_is_plain (State act) e = refl
bus_is_plain _ e = cc

pub bus_plain : (made : Creation) (now : ℕ) (done : List Act) (step : BusStep) → IsPlain (bus_turn made now done step)
bus_plain made now done step = wider is_bus_line_act is_plain bus_is_plain (bus_turn made now done step).acts (bus_line made now done step)

node_is_plain : (act : Act) → is_plain_node_line_act act ≡ true → is_plain act ≡ true
node_is_plain (Node Opened) e = refl
node_is_plain (Node Closed) e = refl
node_is_plain (Node Deregistered) e = refl
node_is_plain (Node (Config_put at bytes)) e = refl
node_is_plain (Message_act act) e = refl
node_is_plain (State act) e = refl
node_is_plain _ e = cc

pub node_plain : (made : Creation) (done : List Act) (step : NodeStep) → IsPlain (plain_turn made done step)
node_plain made done step = wider is_plain_node_line_act is_plain node_is_plain (plain_turn made done step).acts (plain_node_line made done step)

execute_is_plain : (act : Act) → is_execute_act act ≡ true → is_plain act ≡ true
execute_is_plain (Disk_act act) e = refl
execute_is_plain (Queue (Executed q status bytes)) e = refl
execute_is_plain _ e = cc

pub execute_plain : (x : Setting) (made : Creation) (disk : block.Disk) (failed : Bool) (done : List Act) (q : ℕ) → IsPlain (execute_turn x made disk failed done q)
execute_plain x made disk failed done q = wider is_execute_act is_plain execute_is_plain (execute_turn x made disk failed done q).acts (execute_line x made disk failed done q)

-- ---- the driver's lines

lifted_refuse : (o : Option Errno) (turn : Turn DriverAct) → IsPlain (lift Driver turn) → IsPlain (lift Driver (refuse o turn))
lifted_refuse None turn e = e
lifted_refuse (Some errno) turn e = refl

lifted_option : {X : Type 0} (turn : X → Turn DriverAct) (o : Option X) (errno : Errno) → ((y : X) → IsPlain (lift Driver (turn y))) → IsPlain (lift Driver (option_map_or turn o (refusal_turn errno)))
lifted_option turn None errno h = refl
lifted_option turn (Some y) errno h = h y

-- the driver's calm lines but for unmap
abbrev pub is_still_line : DriverStep → Bool
is_still_line (driver.Unmap mapping) = false
is_still_line step = is_calm_line (line.Driver step)

pub driver_plain : (x : Setting) (done : List Act) (step : DriverStep) → is_still_line step ≡ true → IsPlain (lift Driver (driver_turn x done step))
driver_plain x done (driver.Buf bytes) e = search lifted_refuse
driver_plain x done (driver.Zeros len) e = search lifted_refuse
driver_plain x done (driver.Free buffer) e = search lifted_refuse
driver_plain x done (driver.Poke buffer offset bytes) e = search lifted_refuse
driver_plain x done (driver.Peek buffer offset len) e = search lifted_refuse
driver_plain x done (driver.Map buffer offset len dir) e =
    lifted_refuse (range_refusal (buffer_len done buffer) offset len) _ (lifted_option (map_at done (want_of buffer offset len dir)) (place_of (taken_slots done) (pages_of len) x.per_page x.bounce) Nospc (λ slot. refl))
driver_plain x done (driver.Cget region offset len) e = lifted_option (cget_turn x done offset len) (find (λ r. r.number == region) (live_regions done)) Noent (λ r. search lifted_refuse)
driver_plain x done _ e = cc

-- no request that is pending has the mapping
pub no_pending : (acts : List Act) (number n : ℕ) → some_pending (has_map number) acts n ≡ false → (q : ℕ) → q < n → (c : AddedChain) → Among c (chains_out acts q) → Among number (maps_of c.request) → ⊥
no_pending acts number zero e q low c i j = absurd (omega arith)
no_pending acts number (suc n) e q low c i j = by (nat_lt q n) refl (or_parts (list_any (λ chain. has_map number chain.request) (chains_out acts n)) (some_pending (has_map number) acts n) e) (λ f low. no_pending acts number n f q low c i j) where
  or_parts : (a b : Bool) → (a || b) ≡ false → (a ≡ false) × (b ≡ false)
  or_parts true b e = cc
  or_parts false b e = (refl, e)

  its : (o : Option Request) → Among number (maps_of o) → has_map number o ≡ true
  its None h = absurd h
  its (Some r) h = any_true (λ m. m == number) number r.maps h (same_number number)

  by : (b : Bool) → nat_lt q n ≡ b → (list_any (λ chain. has_map number chain.request) (chains_out acts n) ≡ false) × (some_pending (has_map number) acts n ≡ false) → (some_pending (has_map number) acts n ≡ false → q < n → ⊥) → ⊥
  by true f p later = later p.1 (ltb-true q n f)
  by false f p later =
      let l = ltb-false q n f in
      let is : q ≡ n = omega arith in
      true≢false (sym (any_true (λ chain. has_map number chain.request) c (chains_out acts n) (subst (λ k. Among c (chains_out acts k)) is i) (its c.request j)) ∙ p.0)
