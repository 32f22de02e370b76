-- What was tested before a chain is placed or reclaimed, and before a request is fetched or finished.
use Rattle.std.proofs.Common.{subst, sym, append_assoc, ◌<◌, ◌≡◌, ℕ, Bool, true, false, refl, ap, ◌∙◌, None, Some, List, [], ◌∷◌, ◌++◌, drop, take, is_some, if◌then◌else◌}
use Rattle.std.specs.List.{list_all}
use Rattle.std.proofs.lemmas.Bool.{and_parts}
use Rattle.vd_model.specs.declared.parts.Part.{Part}
use Rattle.vd_model.specs.declared.queue.RingPlace.{RingPlace}
use Rattle.vd_model.specs.Setting.{Setting}
use Rattle.vd_model.specs.Creation.{Creation}
use Rattle.vd_model.specs.Acts.{Act, AddedChain, Node, Queue, Daemon_put, Chain_added, Chain_reclaimed, Fetched, Finished, state_acts}
use Rattle.vd_model.specs.State.{is_ready}
use Rattle.vd_model.specs.Queues.{Ring, ring_of, chains_out, published_chains_out, is_in_chains, in_hand, Execution}
use Rattle.vd_model.specs.Rings.{available_event_at, next16}
use Rattle.vd_model.specs.Raw.{little_bytes}
use Rattle.vd_model.specs.DaemonTurns.{event_puts, queue_place, has_event_idx, fetch_turn, Hand, hand, used_position, spread_acts, finish_puts, finish_turn}
use Rattle.vd_model.specs.RingTurns.{first_of}
use Rattle.vd_laws.specs.Among.{Among}
use Rattle.vd_ring_laws.proofs.Leaves.{fetch_is, finish_is}
use Rattle.vd_ring_laws.proofs.Mild.{is_mild, are_mild}

-- a chain of descriptors that are free in its ring
pub record IsTaken (acts : List Act) (q : ℕ) (chain : AddedChain) : Type 0 where
  pub ring : Ring
  pub there : ring_of acts q ≡ Some ring
  pub free : (k : ℕ) → Among k chain.descriptors → (k < ring.place.size) × (is_in_chains (chains_out acts q) k ≡ false)
  pub first : chain.head ≡ first_of chain.descriptors

-- what an act has tested
abbrev pub Admits : List Act → Act → Type 0
Admits acts (Queue (Fetched q)) = (in_hand acts q ≡ None) × (is_ready (state_acts acts) q ≡ true)
Admits acts (Queue (Finished q)) = is_some (in_hand acts q) ≡ true
Admits acts (Queue (Chain_added q chain)) = IsTaken acts q chain
Admits acts (Queue (Chain_reclaimed q head)) = (c : AddedChain) × Among c (published_chains_out acts q) × (c.head ≡ head)
Admits acts _ = Unit {0}

abbrev pub Fair : List Act → Type 0
Fair [] = Unit {0}
Fair (act ∷ acts) = Admits acts act × Fair acts

-- the acts before any of them are fair too
pub earlier_fair : (later acts : List Act) → Fair (later ++ acts) → Fair acts
earlier_fair [] acts h = h
earlier_fair (act ∷ later) acts h = earlier_fair later acts h.1

mild_admitted : (act : Act) (acts : List Act) → is_mild act ≡ true → Admits acts act
mild_admitted (Queue (Fetched q)) acts e = cc
mild_admitted (Queue (Finished q)) acts e = cc
mild_admitted (Queue (Chain_added q chain)) acts e = cc
mild_admitted (Queue (Chain_reclaimed q head)) acts e = cc
mild_admitted _ acts e = tt

pub mild_fair : (made acts : List Act) → are_mild made ≡ true → Fair acts → Fair (made ++ acts)
mild_fair [] acts e h = h
mild_fair (act ∷ made) acts e h =
    let p = and_parts (is_mild act) (are_mild made) e in
    (mild_admitted act (made ++ acts) p.0, mild_fair made acts p.1 h)

-- ---- puts of the daemon

-- puts of the daemon
abbrev pub is_put : Act → Bool
is_put (Node (Daemon_put at bytes)) = true
is_put _ = false

put_kept : (act : Act) (acts : List Act) (q : ℕ) → is_put act ≡ true → in_hand (act ∷ acts) q ≡ in_hand acts q
put_kept (Node (Daemon_put at bytes)) acts q e = refl
put_kept _ acts q e = cc

pub put_mild : (act : Act) → is_put act ≡ true → is_mild act ≡ true
put_mild (Node (Daemon_put at bytes)) e = refl
put_mild _ e = cc

pub puts_kept : (puts acts : List Act) (q : ℕ) → list_all is_put puts ≡ true → in_hand (puts ++ acts) q ≡ in_hand acts q
puts_kept [] acts q e = refl
puts_kept (act ∷ puts) acts q e = let p = and_parts (is_put act) (list_all is_put puts) e in put_kept act (puts ++ acts) q p.0 ∙ puts_kept puts acts q p.1

pub puts_fair : (puts acts : List Act) → list_all is_put puts ≡ true → Fair acts → Fair (puts ++ acts)
puts_fair [] acts e h = h
puts_fair (act ∷ puts) acts e h = let p = and_parts (is_put act) (list_all is_put puts) e in (mild_admitted act (puts ++ acts) (put_mild act p.0), puts_fair puts acts p.1 h)

pub spread_acts_put : (parts : List Part) (bytes : List ℕ) (acts : List Act) → list_all is_put acts ≡ true → list_all is_put (spread_acts parts bytes acts) ≡ true
spread_acts_put [] bytes acts e = e
spread_acts_put (part ∷ parts) bytes acts e = by part.writable
    (spread_acts_put parts (drop part.len bytes) (Node (Daemon_put part.at (take part.len bytes)) ∷ acts) e) (spread_acts_put parts bytes acts e) where
      by : (b : Bool) → list_all is_put (spread_acts parts (drop part.len bytes) (Node (Daemon_put part.at (take part.len bytes)) ∷ acts)) ≡ true → list_all is_put (spread_acts parts bytes acts) ≡ true
          → list_all is_put (if b then spread_acts parts (drop part.len bytes) (Node (Daemon_put part.at (take part.len bytes)) ∷ acts) else spread_acts parts bytes acts) ≡ true
      by true there other = there
      by false there other = other

pub event_put : (done : List Act) (place : RingPlace) (position : ℕ) → list_all is_put (event_puts done place position) ≡ true
event_put done place position = by (has_event_idx done) where
  by : (b : Bool) → list_all is_put (if b then Node (Daemon_put (available_event_at place) (little_bytes 2 position)) ∷ [] else []) ≡ true
  by true = refl
  by false = refl

pub finish_put : (place : RingPlace) (used : ℕ) (h : Hand) (end : Execution) → list_all is_put (finish_puts place used h end) ≡ true
finish_put place used h end = spread_acts_put h.parts (end.bytes ++ end.status ∷ []) [] refl

-- ---- the block daemon's lines

pub fetch_fair : (x : Setting) (made : Creation) (done : List Act) (q : ℕ) → Fair done → Fair ((fetch_turn x made done q).acts ++ done)
fetch_fair x made done q fair = fetch_is (λ acts. Fair (acts ++ done)) fair x made done q (λ none ready place position chain bytes.
    subst Fair (sym (append_assoc (event_puts done place (next16 position)) (Queue (Fetched q) ∷ []) done))
    (puts_fair (event_puts done place (next16 position)) (Queue (Fetched q) ∷ done) (event_put done place (next16 position)) ((none, ready), fair)))

pub finish_fair : (x : Setting) (made : Creation) (done : List Act) (q : ℕ) → Fair done → Fair ((finish_turn x made done q).acts ++ done)
finish_fair x made done q fair = finish_is (λ acts. Fair (acts ++ done)) fair x made done q (λ earlier f end g.
    let puts = finish_puts (queue_place done q) (used_position x done q) (hand x earlier q) end in
    let are = finish_put (queue_place done q) (used_position x done q) (hand x earlier q) end in
    (ap is_some (puts_kept puts done q are ∙ f), puts_fair puts done are fair))
