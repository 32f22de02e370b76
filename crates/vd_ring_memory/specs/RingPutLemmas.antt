-- The driver's puts leave alone what can be accessed, and what is told has an end.
use Rattle.std.proofs.Common.{◌≡◌, ℕ, ◌^◌, nat_lt, refl, ap, sym, ◌∙◌, subst, List, [], ◌∷◌, ◌++◌}
use Rattle.vd_model.specs.Memory.{IsFinite}
use Rattle.vd_model.specs.Acts.{Act, Node, Driver, Bus, Message_act, State, Queue, Disk_act, DriverAct, Buffer, Zeroed, Freed, Poked, Mapped, Unmapped, Synced_device, Synced_cpu, Region_made, Region_freed, Driver_put}
use Rattle.vd_domain.specs.Held.{Held}
use Rattle.vd_domain.specs.Handed.{is_coherent}
use Rattle.vd_domain.specs.Seen.{ring_map}
use Rattle.vd_domain.specs.Stands.{Stands}
use Rattle.vd_ring_memory.specs.PutLemmas.{finite_by, same_more}
use Rattle.vd_ring_memory.specs.RingPuts.{IsRingPut, AreRingPuts, IsAfterRingPuts}

pub ring_finite : (h : Held) → IsFinite (ring_map h)
ring_finite h = λ a b e. finite_by (nat_lt a (2 ^ 32)) _ a b _ refl e

pub as_ring_put : (base : List Act) (act : Act) → IsRingPut base act → (at : ℕ) × (bytes : List ℕ) × (act ≡ Driver (Driver_put at bytes))
as_ring_put base (Driver act) e = of_driver act e where
  of_driver : (act : DriverAct) → IsRingPut base (Driver act) → (at : ℕ) × (bytes : List ℕ) × (Driver act ≡ Driver (Driver_put at bytes))
  of_driver (Driver_put at bytes) e = (at, bytes, refl)
  of_driver (Buffer bytes) e = absurd e
  of_driver (Zeroed len) e = absurd e
  of_driver (Freed k) e = absurd e
  of_driver (Poked k at bytes) e = absurd e
  of_driver (Mapped m) e = absurd e
  of_driver (Unmapped m) e = absurd e
  of_driver (Synced_device m) e = absurd e
  of_driver (Synced_cpu m) e = absurd e
  of_driver (Region_made r) e = absurd e
  of_driver (Region_freed r) e = absurd e
as_ring_put base (Node act) e = absurd e
as_ring_put base (Bus act) e = absurd e
as_ring_put base (Message_act act) e = absurd e
as_ring_put base (State act) e = absurd e
as_ring_put base (Queue act) e = absurd e
as_ring_put base (Disk_act act) e = absurd e

-- what no put changes, some puts don't change
pub ring_puts_same : {X : Type 0} (f : List Act → X) → ((at : ℕ) (bytes : List ℕ) (done : List Act) → f (Driver (Driver_put at bytes) ∷ done) ≡ f done)
    → (base puts done : List Act) → AreRingPuts base puts → f (puts ++ done) ≡ f done
ring_puts_same f one base [] done only = refl
ring_puts_same f one base (act ∷ puts) done only =
    let p = as_ring_put base act only.0 in
    ap (λ (a : Act). f (a ∷ puts ++ done)) p.2 ∙ one p.0 p.1 (puts ++ done) ∙ ring_puts_same f one base puts done only.1

pub coherent_same : (base puts done : List Act) → AreRingPuts base puts → (a : ℕ) → is_coherent (puts ++ done) a ≡ is_coherent done a
coherent_same base puts done only a = ring_puts_same (λ acts. is_coherent acts a) (λ at bytes done. refl) base puts done only

put_earlier : (base puts : List Act) → AreRingPuts base puts → (act : Act) → IsRingPut (puts ++ base) act → IsRingPut base act
put_earlier base puts only (Driver act) e = of_driver act e where
  of_driver : (act : DriverAct) → IsRingPut (puts ++ base) (Driver act) → IsRingPut base (Driver act)
  of_driver (Driver_put at bytes) e = λ a low high. sym (coherent_same base puts base only a) ∙ e a low high
  of_driver (Buffer bytes) e = absurd e
  of_driver (Zeroed len) e = absurd e
  of_driver (Freed k) e = absurd e
  of_driver (Poked k at bytes) e = absurd e
  of_driver (Mapped m) e = absurd e
  of_driver (Unmapped m) e = absurd e
  of_driver (Synced_device m) e = absurd e
  of_driver (Synced_cpu m) e = absurd e
  of_driver (Region_made r) e = absurd e
  of_driver (Region_freed r) e = absurd e
put_earlier base puts only (Node act) e = absurd e
put_earlier base puts only (Bus act) e = absurd e
put_earlier base puts only (Message_act act) e = absurd e
put_earlier base puts only (State act) e = absurd e
put_earlier base puts only (Queue act) e = absurd e
put_earlier base puts only (Disk_act act) e = absurd e

puts_earlier : (base puts more : List Act) → AreRingPuts base puts → AreRingPuts (puts ++ base) more → AreRingPuts base (more ++ puts)
puts_earlier base puts [] only later = only
puts_earlier base puts (act ∷ more) only later = (put_earlier base puts only act later.0, puts_earlier base puts more only later.1)

joined : (more puts done : List Act) → more ++ (puts ++ done) ≡ (more ++ puts) ++ done
joined [] puts done = refl
joined (act ∷ more) puts done = ap (λ l. act ∷ l) (joined more puts done)

pub ring_after_none : (h : Held) → IsAfterRingPuts h h
ring_after_none h = record { after = λ x done m s. record { puts = []; only = tt; stands = s }; bounce = refl; counts = record { maps = refl; made = refl; page = refl } }

pub ring_after_more : {h k l : Held} → IsAfterRingPuts h k → IsAfterRingPuts k l → IsAfterRingPuts h l
ring_after_more {h} {k} {l} first next = record {
  after = λ x done m s.
      let f = first.after x done m s in
      let g = next.after x (f.puts ++ done) m f.stands in
      record {
        puts = g.puts ++ f.puts;
        only = puts_earlier done f.puts g.puts f.only g.only;
        stands = subst (λ t. Stands x t l m) (joined g.puts f.puts done) g.stands;
      };
  bounce = next.bounce ∙ first.bounce;
  counts = same_more first.counts next.counts;
}
