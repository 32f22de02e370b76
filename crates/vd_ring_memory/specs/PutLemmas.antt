-- Puts leave alone what can be accessed, and what is told has an end.
use Rattle.std.proofs.Common.{◌≡◌, ℕ, ◌<◌, ◌^◌, Bool, true, false, ◌&&◌, nat_lt, if◌then◌else◌, refl, ap, sym, ◌∙◌, subst, arith, List, [], ◌∷◌, ◌++◌, Some, None, Option}
use Rattle.std.proofs.lemmas.Bool.Decides.{nat_tests}
use Rattle.vd_pool.specs.Memory.{PoolMemory as Pool}
use Rattle.vd_bounce.specs.Frames.{Holds, Keeps}
use Rattle.vd_model.specs.Memory.{IsFinite}
use Rattle.vd_model.specs.Setting.{Setting}
use Rattle.vd_model.specs.Acts.{Act, Node, Driver, Bus, Message_act, State, Queue, Disk_act, NodeAct, Opened, Closed, Daemon_put, Area_made, Area_put, Config_put, Registered, Deregistered}
use Rattle.vd_model.specs.AreaTurns.{is_accessible}
use Rattle.vd_domain.specs.Held.{Held, SameCounts}
use Rattle.vd_domain.specs.Seen.{daemon_map}
use Rattle.vd_domain.specs.Stands.{Stands}
use Rattle.vd_ring_memory.specs.Puts.{IsDaemonPut, AreDaemonPuts, IsAfterPuts}

-- a map with a test of its addresses ends there
pub finite_by : (t p : Bool) (a b v : ℕ) → nat_lt a (2 ^ 32) ≡ t → (if t && p then Some v else None) ≡ Some b → a < 2 ^ 32
finite_by true p a b v e some = grind (arith, nat_tests)
finite_by false p a b v e some = cc

pub finite : (h : Held) (m : Pool) → IsFinite (daemon_map h m)
finite h m = λ a b e. finite_by (nat_lt a (2 ^ 32)) _ a b _ refl e

pub keeps_none : {frames : List (Option ℕ)} {m : Pool} → Holds frames m → Keeps frames frames m m
keeps_none h = record { holds = h; size = refl; others = λ g o i. (o, i, λ j. refl) }

pub keeps_more : {a b c : List (Option ℕ)} {k m n : Pool} → Keeps a b k m → Keeps b c m n → Keeps a c k n
keeps_more first next = record {
  holds = next.holds;
  size = next.size ∙ first.size;
  others = λ g o i.
      let f = first.others g o i in
      let n = next.others g f.0 f.1 in
      (n.0, n.1, λ j. n.2 j ∙ f.2 j);
}

-- an act that is a put
pub by_put : {X : Type 0} (f : List Act → X) (x : Setting) (base : List Act) → ((at : ℕ) (bytes : List ℕ) (done : List Act) → f (Node (Daemon_put at bytes) ∷ done) ≡ f done)
    → (act : Act) (done : List Act) → IsDaemonPut x base act → f (act ∷ done) ≡ f done
by_put f x base one (Node act) done e = of_node act e where
  of_node : (act : NodeAct) → IsDaemonPut x base (Node act) → f (Node act ∷ done) ≡ f done
  of_node (Daemon_put at bytes) e = one at bytes done
  of_node Opened e = absurd e
  of_node Closed e = absurd e
  of_node (Area_made len) e = absurd e
  of_node (Area_put at bytes) e = absurd e
  of_node (Config_put at bytes) e = absurd e
  of_node (Registered base size) e = absurd e
  of_node Deregistered e = absurd e
by_put f x base one (Driver act) done e = absurd e
by_put f x base one (Bus act) done e = absurd e
by_put f x base one (Message_act act) done e = absurd e
by_put f x base one (State act) done e = absurd e
by_put f x base one (Queue act) done e = absurd e
by_put f x base one (Disk_act act) done e = absurd e

-- what no put changes, some puts don't change
pub puts_same : {X : Type 0} (f : List Act → X) → ((at : ℕ) (bytes : List ℕ) (done : List Act) → f (Node (Daemon_put at bytes) ∷ done) ≡ f done)
    → (x : Setting) (base puts done : List Act) → AreDaemonPuts x base puts → f (puts ++ done) ≡ f done
puts_same f one x base [] done only = refl
puts_same f one x base (act ∷ puts) done only = by_put f x base one act (puts ++ done) only.0 ∙ puts_same f one x base puts done only.1

pub accessible_same : (x : Setting) (base puts done : List Act) → AreDaemonPuts x base puts → (a : ℕ) → is_accessible x (puts ++ done) a ≡ is_accessible x done a
accessible_same x base puts done only a = puts_same (λ acts. is_accessible x acts a) (λ at bytes done. refl) x base puts done only

-- puts after puts
put_earlier : (x : Setting) (base puts : List Act) → AreDaemonPuts x base puts → (act : Act) → IsDaemonPut x (puts ++ base) act → IsDaemonPut x base act
put_earlier x base puts only (Node act) e = of_node act e where
  of_node : (act : NodeAct) → IsDaemonPut x (puts ++ base) (Node act) → IsDaemonPut x base (Node act)
  of_node (Daemon_put at bytes) e = λ a low high. sym (accessible_same x base puts base only a) ∙ e a low high
  of_node Opened e = absurd e
  of_node Closed e = absurd e
  of_node (Area_made len) e = absurd e
  of_node (Area_put at bytes) e = absurd e
  of_node (Config_put at bytes) e = absurd e
  of_node (Registered base size) e = absurd e
  of_node Deregistered e = absurd e
put_earlier x base puts only (Driver act) e = absurd e
put_earlier x base puts only (Bus act) e = absurd e
put_earlier x base puts only (Message_act act) e = absurd e
put_earlier x base puts only (State act) e = absurd e
put_earlier x base puts only (Queue act) e = absurd e
put_earlier x base puts only (Disk_act act) e = absurd e

puts_earlier : (x : Setting) (base puts more : List Act) → AreDaemonPuts x base puts → AreDaemonPuts x (puts ++ base) more → AreDaemonPuts x base (more ++ puts)
puts_earlier x base puts [] only later = only
puts_earlier x base puts (act ∷ more) only later = (put_earlier x base puts only act later.0, puts_earlier x base puts more only later.1)

joined : (more puts done : List Act) → more ++ (puts ++ done) ≡ (more ++ puts) ++ done
joined [] puts done = refl
joined (act ∷ more) puts done = ap (λ l. act ∷ l) (joined more puts done)

-- counts that stayed twice
pub same_more : {h k l : Held} → SameCounts h k → SameCounts k l → SameCounts h l
same_more first next = record { maps = next.maps ∙ first.maps; made = next.made ∙ first.made; page = next.page ∙ first.page }

pub after_none : (h : Held) (m : Pool) → Holds h.bounce.frames m → IsAfterPuts h m h m
after_none h m holds = record { after = λ x done s. record { puts = []; only = tt; stands = s }; kept = keeps_none holds; counts = record { maps = refl; made = refl; page = refl } }

pub after_more : {h k l : Held} {m n o : Pool} → IsAfterPuts h m k n → IsAfterPuts k n l o → IsAfterPuts h m l o
after_more {h} {k} {l} {m} {n} {o} first next = record {
  after = λ x done s.
      let f = first.after x done s in
      let g = next.after x (f.puts ++ done) f.stands in
      record {
        puts = g.puts ++ f.puts;
        only = puts_earlier x done f.puts g.puts f.only g.only;
        stands = subst (λ t. Stands x t l o) (joined g.puts f.puts done) g.stands;
      };
  kept = keeps_more first.kept next.kept;
  counts = same_more first.counts next.counts;
}
