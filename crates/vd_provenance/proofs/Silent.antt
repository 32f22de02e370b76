-- Acts that leave all origins as they are.
use Rattle.std.proofs.Common.{◌≡◌, ℕ, ◌+◌, ◌-◌, ◌*◌, ◌/◌, ◌<◌, ◌≤◌, ◌^◌, refl, ap, sym, ◌∙◌, true≢false, Bool, true, false, List, [], ◌∷◌, ◌++◌, map, find, length, Option, Some, None, arith, if◌then◌else◌, nat_lt, ◌&&◌, not, ◌==◌}
use Rattle.std.proofs.lemmas.Bool.{and_parts}
use Rattle.std.proofs.lemmas.Bool.Decides.{nat_tests}
use Rattle.std.specs.Prelude.{is_some}
use Rattle.std.specs.List.{list_all}
use Rattle.std.specs.Option.{option_map}
use Rattle.vd_num.specs.Number.{is_within}
use Rattle.vd_model.specs.declared.memory.Origin.{Origin}
use Rattle.vd_model.specs.declared.memory.Origin.TheVariants.{Handed}
use Rattle.vd_model.specs.Acts.{Act, NodeAct, DriverAct, Coherent, Node, Driver, Bus, Message_act, State, Queue, Disk_act, Opened, Closed, Config_put, Daemon_put, Area_made, Area_put, Registered, Deregistered, Buffer, Zeroed, Freed, Poked, Mapped, Unmapped, Synced_device, Synced_cpu, Region_made, Region_freed, Driver_put}
use Rattle.vd_model.specs.Live.{Registration, registration_of, live_regions}
use Rattle.vd_model.specs.NodeTurns.{registration_end}
use Rattle.vd_origins.specs.Runs.{origin_at}
use Rattle.vd_origin_moves.specs.declared.placed.Shared.{Shared}
use Rattle.vd_origin_moves.specs.declared.placed.Kept.{Kept}
use Rattle.vd_origin_moves.specs.Placed.{coherent, registration, area_has, lies_in_area}
use Rattle.vd_provenance.specs.Keeping.{Traced, KeepsOrigins, PutAt}
use Rattle.vd_provenance.proofs.Following.{quiet_follows, driver_follows}

-- it puts nothing that a daemon sees, and what is live stays so
abbrev pub is_silent : Act → Bool
is_silent (Node (Daemon_put at bytes)) = false
is_silent (Node (Area_made len)) = false
is_silent (Node (Area_put at bytes)) = false
is_silent (Node (Registered base size)) = false
is_silent (Node Deregistered) = false
is_silent (Driver (Mapped m)) = false
is_silent (Driver (Unmapped m)) = false
is_silent (Driver (Synced_device m)) = false
is_silent (Driver (Region_made r)) = false
is_silent (Driver (Region_freed r)) = false
is_silent (Driver (Driver_put at bytes)) = false
is_silent _ = true

no : {X : Type 0} → false ≡ true → X
no e = absurd (true≢false (sym e))

pub silent_follows : (g : ℕ) (acts : List Act) (act : Act) (t : Traced) → is_silent act ≡ true → KeepsOrigins g acts t → KeepsOrigins g (act ∷ acts) t
silent_follows g acts (Bus act) t e f = quiet_follows g acts (Bus act) t f (λ a. refl) (λ a. refl) (λ o. refl) refl refl refl (λ page. refl)
silent_follows g acts (Message_act act) t e f = quiet_follows g acts (Message_act act) t f (λ a. refl) (λ a. refl) (λ o. refl) refl refl refl (λ page. refl)
silent_follows g acts (State act) t e f = quiet_follows g acts (State act) t f (λ a. refl) (λ a. refl) (λ o. refl) refl refl refl (λ page. refl)
silent_follows g acts (Queue act) t e f = quiet_follows g acts (Queue act) t f (λ a. refl) (λ a. refl) (λ o. refl) refl refl refl (λ page. refl)
silent_follows g acts (Disk_act act) t e f = quiet_follows g acts (Disk_act act) t f (λ a. refl) (λ a. refl) (λ o. refl) refl refl refl (λ page. refl)
silent_follows g acts (Node act) t e f = by act e where
  by : (act : NodeAct) → is_silent (Node act) ≡ true → KeepsOrigins g (Node act ∷ acts) t
  by Opened e = quiet_follows g acts (Node Opened) t f (λ a. refl) (λ a. refl) (λ o. refl) refl refl refl (λ page. refl)
  by Closed e = quiet_follows g acts (Node Closed) t f (λ a. refl) (λ a. refl) (λ o. refl) refl refl refl (λ page. refl)
  by (Config_put at bytes) e = quiet_follows g acts (Node (Config_put at bytes)) t f (λ a. refl) (λ a. refl) (λ o. refl) refl refl refl (λ page. refl)
  by (Daemon_put at bytes) e = no e
  by (Area_made len) e = no e
  by (Area_put at bytes) e = no e
  by (Registered base size) e = no e
  by Deregistered e = no e
silent_follows g acts (Driver act) t e f = by act e where
  by : (act : DriverAct) → is_silent (Driver act) ≡ true → KeepsOrigins g (Driver act ∷ acts) t
  by (Buffer bytes) e = quiet_follows g acts (Driver (Buffer bytes)) t f (λ a. refl) (λ a. refl) (λ o. refl) refl refl refl (λ page. refl)
  by (Zeroed len) e = quiet_follows g acts (Driver (Zeroed len)) t f (λ a. refl) (λ a. refl) (λ o. refl) refl refl refl (λ page. refl)
  by (Freed b) e = quiet_follows g acts (Driver (Freed b)) t f (λ a. refl) (λ a. refl) (λ o. refl) refl refl refl (λ page. refl)
  by (Poked b at bytes) e = quiet_follows g acts (Driver (Poked b at bytes)) t f (λ a. refl) (λ a. refl) (λ o. refl) refl refl refl (λ page. refl)
  by (Synced_cpu m) e = quiet_follows g acts (Driver (Synced_cpu m)) t f (λ a. refl) (λ a. refl) (λ o. refl) refl refl refl (λ page. refl)
  by (Mapped m) e = no e
  by (Unmapped m) e = no e
  by (Synced_device m) e = no e
  by (Region_made r) e = no e
  by (Region_freed r) e = no e
  by (Driver_put at bytes) e = no e

-- the same of some acts
pub silent_all : (g : ℕ) (made acts : List Act) (t : Traced) → list_all is_silent made ≡ true → KeepsOrigins g acts t → KeepsOrigins g (made ++ acts) t
silent_all g [] acts t e f = f
silent_all g (act ∷ made) acts t e f =
    let p = and_parts (is_silent act) (list_all is_silent made) e in
    silent_follows g (made ++ acts) act t p.0 (silent_all g made acts t p.1 f)

-- ---- the end of a session

kept_too : (k : Option Kept) → is_some (option_map registration k) ≡ is_some k
kept_too None = refl
kept_too (Some k) = refl

registered : (g : ℕ) (acts : List Act) (t : Traced) → KeepsOrigins g acts t → is_some (registration_of acts) ≡ is_some t.kept
registered g acts t f = ap (λ r. is_some r) (sym f.kept) ∙ kept_too t.kept

pub none_ends : (g : ℕ) (acts : List Act) (t : Traced) → KeepsOrigins g acts t → is_some t.kept ≡ false → registration_end (registration_of acts) ++ acts ≡ acts
none_ends g acts t f none = by (registration_of acts) (registered g acts t f ∙ none) where
  by : (r : Option Registration) → is_some r ≡ false → registration_end r ++ acts ≡ acts
  by None e = refl
  by (Some r) e = cc

pub some_ends : (g : ℕ) (acts : List Act) (t : Traced) → KeepsOrigins g acts t → is_some t.kept ≡ true → registration_end (registration_of acts) ++ acts ≡ Node Deregistered ∷ acts
some_ends g acts t f some = by (registration_of acts) (registered g acts t f ∙ some) where
  by : (r : Option Registration) → is_some r ≡ true → registration_end r ++ acts ≡ Node Deregistered ∷ acts
  by None e = cc
  by (Some r) e = refl

-- ---- bytes of a coherent region

-- nothing of the memory lies past its end
pub past_end : (at len : ℕ) (origin : Origin) (t : Traced) → 2 ^ 64 ≤ at → PutAt at len origin t t
past_end at len origin t far = record {
  bus = λ a less. ap (λ b. if b then origin else origin_at t.bus a) (sym (nowhere (not (lies_in_area t.kept a)) a less));
  area = λ o less. ap (λ b. if b then origin else origin_at t.area o) (sym (no_area t.kept o less));
  rest = refl;
} where
  none : (a : ℕ) → a < 2 ^ 64 → is_within at len a ≡ false
  none a less = grind (arith, nat_tests)

  nowhere : (b : Bool) (a : ℕ) → a < 2 ^ 64 → (b && is_within at len a) ≡ false
  nowhere true a less = none a less
  nowhere false a less = refl

  no_area : (kept : Option Kept) (o : ℕ) → o < 2 ^ 64 → area_has kept at len o ≡ false
  no_area None o less = refl
  no_area (Some k) o less = nowhere (is_within k.base k.size o) (o - k.base) (omega arith)

-- the live region of a number is among those that are kept
pub found_region : (g : ℕ) (acts : List Act) (t : Traced) (number : ℕ) → KeepsOrigins g acts t
    → option_map coherent (find (λ r. r.number == number) t.shared) ≡ find (λ l. l.number == number) (live_regions acts)
found_region g acts t number f = found t.shared ∙ ap (λ l. find (λ l. l.number == number) l) f.shared where
  found : (xs : List Shared) → option_map coherent (find (λ p. p.number == number) xs) ≡ find (λ l. l.number == number) (map coherent xs)
  found [] = refl
  found (x ∷ xs) = by (x.number == number) (found xs) where
    by : (b : Bool) → option_map coherent (find (λ p. p.number == number) xs) ≡ find (λ l. l.number == number) (map coherent xs)
        → option_map coherent (if b then Some x else find (λ p. p.number == number) xs) ≡ (if b then Some (coherent x) else find (λ l. l.number == number) (map coherent xs))
    by true rest = refl
    by false rest = rest

pub region_is : (g : ℕ) (acts : List Act) (t : Traced) (number : ℕ) (s : Shared) (r : Coherent) → KeepsOrigins g acts t
    → Some s ≡ find (λ r. r.number == number) t.shared → find (λ l. l.number == number) (live_regions acts) ≡ Some r → coherent s ≡ r
region_is g acts t number s r f here there = same (ap (λ o. option_map coherent o) here ∙ found_region g acts t number f ∙ there) where
  same : Some (coherent s) ≡ Some r → coherent s ≡ r
  same e = cc

pub region_missing : (g : ℕ) (acts : List Act) (t : Traced) (number : ℕ) (r : Coherent) → KeepsOrigins g acts t
    → None ≡ find (λ r. r.number == number) t.shared → find (λ l. l.number == number) (live_regions acts) ≡ Some r → None ≡ Some r
region_missing g acts t number r f here there = ap (λ o. option_map coherent o) here ∙ found_region g acts t number f ∙ there
