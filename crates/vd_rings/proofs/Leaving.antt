-- Acts that free no region of a kept ring leave it where it lies.
use Rattle.std.proofs.Common.{◌≡◌, ℕ, ◌<◌, arith, Bool, true, false, ◌==◌, ◌&&◌, ◌||◌, if◌then◌else◌, refl, ap, sym, ◌∙◌, List, [], ◌∷◌, Some, filter, true≢false, inl, inr}
use Rattle.std.specs.Prelude.{not}
use Rattle.std.specs.List.{list_any}
use Rattle.std.proofs.lemmas.Bool.Decides.{eqb_tells}
use Rattle.vd_model.specs.Acts.{Act, DriverAct, Coherent, Node, Driver, Bus, Message_act, State, Queue, Disk_act, Buffer, Zeroed, Freed, Poked, Mapped, Unmapped, Synced_device, Synced_cpu, Region_made, Region_freed, Driver_put}
use Rattle.vd_model.specs.Live.{live_regions, regions, region_covers}
use Rattle.vd_queue_sides.proofs.Lists.{any_more, or_left}
use Rattle.vd_rings.specs.declared.held.HeldRing.{HeldRing}
use Rattle.vd_rings.specs.Stands.{is_in_region, RingLies, frees}

-- of some regions, those of a number stay where another's are freed
stays_live : (region freed a : ℕ) (rs : List Coherent) → (freed == region) ≡ false → list_any (λ r. (r.number == region) && region_covers r a) rs ≡ true
    → list_any (λ r. (r.number == region) && region_covers r a) (filter (λ r. not (r.number == freed)) rs) ≡ true
stays_live region freed a [] off e = e
stays_live region freed a (r ∷ rs) off e = by (r.number == freed) refl (r.number == region) refl (stays_live region freed a rs off) where
  there : Coherent → Bool
  there r = (r.number == region) && region_covers r a

  clash : (r.number == freed) ≡ true → (r.number == region) ≡ true → (freed == region) ≡ true
  clash f g = elim (eqb_tells r.number freed) [ inl h ↦ sym (ap (λ k. k == region) h.1) ∙ g | inr h ↦ absurd (true≢false (sym f ∙ h.0)) ]

  by : (t : Bool) → (r.number == freed) ≡ t → (u : Bool) → (r.number == region) ≡ u
      → (list_any (λ r. (r.number == region) && region_covers r a) rs ≡ true → list_any (λ r. (r.number == region) && region_covers r a) (filter (λ r. not (r.number == freed)) rs) ≡ true)
      → list_any (λ r. (r.number == region) && region_covers r a) (if not (r.number == freed) then r ∷ filter (λ r. not (r.number == freed)) rs else filter (λ r. not (r.number == freed)) rs) ≡ true
  by true f true g rest = absurd (true≢false (sym (clash f g) ∙ off))
  by true f false g rest =
      ap (λ t. list_any (λ r. (r.number == region) && region_covers r a) (if not t then r ∷ filter (λ r. not (r.number == freed)) rs else filter (λ r. not (r.number == freed)) rs)) f
      ∙ rest (sym (ap (λ t. (t && region_covers r a) || list_any (λ r. (r.number == region) && region_covers r a) rs) g) ∙ e)
  by false f u g rest =
      ap (λ t. list_any (λ r. (r.number == region) && region_covers r a) (if not t then r ∷ filter (λ r. not (r.number == freed)) rs else filter (λ r. not (r.number == freed)) rs)) f
      ∙ first ((r.number == region) && region_covers r a) refl where
        first : (t : Bool) → ((r.number == region) && region_covers r a) ≡ t
            → (((r.number == region) && region_covers r a) || list_any (λ r. (r.number == region) && region_covers r a) (filter (λ r. not (r.number == freed)) rs)) ≡ true
        first true h = ap (λ t. t || list_any (λ r. (r.number == region) && region_covers r a) (filter (λ r. not (r.number == freed)) rs)) h
        first false h =
            ap (λ t. t || list_any (λ r. (r.number == region) && region_covers r a) (filter (λ r. not (r.number == freed)) rs)) h
            ∙ rest (sym (ap (λ t. t || list_any (λ r. (r.number == region) && region_covers r a) rs) h) ∙ e)

module _ (acts : List Act) (held : HeldRing) where
  driver_in : (act : DriverAct) (a : ℕ) → frees (Some held) (Driver act) ≡ false → is_in_region acts held.region a ≡ true → is_in_region (Driver act ∷ acts) held.region a ≡ true
  driver_in (Region_made r) a e s =
      any_more (λ r. (r.number == held.region) && region_covers r a) (live_regions acts) r
      ∙ or_left (is_in_region acts held.region a) ((r.number == held.region) && region_covers r a) s
  driver_in (Region_freed r) a e s = stays_live held.region r.number a (live_regions acts) e s
  driver_in (Buffer bytes) a e s = s
  driver_in (Zeroed len) a e s = s
  driver_in (Freed k) a e s = s
  driver_in (Poked k at bytes) a e s = s
  driver_in (Mapped m) a e s = s
  driver_in (Unmapped m) a e s = s
  driver_in (Synced_device m) a e s = s
  driver_in (Synced_cpu m) a e s = s
  driver_in (Driver_put at bytes) a e s = s

  stays_in : (act : Act) (a : ℕ) → frees (Some held) act ≡ false → is_in_region acts held.region a ≡ true → is_in_region (act ∷ acts) held.region a ≡ true
  stays_in (Driver act) a e s = driver_in act a e s
  stays_in (Node act) a e s = s
  stays_in (Bus act) a e s = s
  stays_in (Message_act act) a e s = s
  stays_in (State act) a e s = s
  stays_in (Queue act) a e s = s
  stays_in (Disk_act act) a e s = s

  driver_made : (act : DriverAct) (region : ℕ) → region < regions acts → region < regions (Driver act ∷ acts)
  driver_made (Region_made r) region s = omega arith
  driver_made (Region_freed r) region s = s
  driver_made (Buffer bytes) region s = s
  driver_made (Zeroed len) region s = s
  driver_made (Freed k) region s = s
  driver_made (Poked k at bytes) region s = s
  driver_made (Mapped m) region s = s
  driver_made (Unmapped m) region s = s
  driver_made (Synced_device m) region s = s
  driver_made (Synced_cpu m) region s = s
  driver_made (Driver_put at bytes) region s = s

  stays_made : (act : Act) (region : ℕ) → region < regions acts → region < regions (act ∷ acts)
  stays_made (Driver act) region s = driver_made act region s
  stays_made (Node act) region s = s
  stays_made (Bus act) region s = s
  stays_made (Message_act act) region s = s
  stays_made (State act) region s = s
  stays_made (Queue act) region s = s
  stays_made (Disk_act act) region s = s

  pub lies_after : (act : Act) → frees (Some held) act ≡ false → RingLies acts held → RingLies (act ∷ acts) held
  lies_after act e s = record {
    slot = s.slot;
    size = s.size;
    place = s.place;
    bytes = λ a low high. stays_in act a e (s.bytes a low high);
    number = stays_made act held.region s.number;
  }
