-- A step of the driver on a device's memory.
use Rattle.std.proofs.Common.{◌≡◌, ℕ, ◌+◌, ◌*◌, ◌<◌, ◌≤◌, ◌==◌, not, refl, ap, sym, ◌∙◌, subst, List, [], ◌∷◌, ◌++◌, Some, None, Option, length, find, filter}
use Rattle.std.specs.List.{slice_index, slice_set}
use Rattle.std.specs.Option.{option_map, option_map_or}
use Rattle.std.proofs.Math.Logic.{∥∥₁_elim, ∥∥₁_map}
use Rattle.std.proofs.lemmas.List.Elements.{All-filter}
use Rattle.vd_num.specs.Number.{pages_of}
use Rattle.vd_pool.specs.Memory.{PoolMemory as Pool}
use Rattle.vd_model.specs.Memory as model
use Rattle.vd_model.specs.Setting.{Setting}
use Rattle.vd_model.specs.declared.memory.Want.{Want}
use Rattle.vd_model.specs.declared.memory.MapInfo.{MapInfo}
use Rattle.vd_model.specs.Acts.{Act, Driver, Unmapped, Synced_device, Streaming}
use Rattle.vd_model.specs.Live.{live_mappings}
use Rattle.vd_model.specs.RingTurns.{unmap_act}
use Rattle.vd_domain.specs.Held.{Held, mapping_of}
use Rattle.vd_domain.specs.Handed.{map_info}
use Rattle.vd_domain.specs.Seen.{ring_map, ring_memory}
use Rattle.vd_domain.specs.Stands as domain
use Rattle.vd_domain.proofs.Holdings.{found_all}
use Rattle.vd_buffers.specs.Places.{Places, place_of}
use Rattle.vd_buffers.specs.Stands as buffers
use Rattle.vd_memory_lines.specs.declared.memory.Memory.{Memory}
use Rattle.vd_memory_lines.specs.Stands.{Stands, IsInside}
use Rattle.vd_memory_lines.specs.Given.{given}
use Rattle.vd_memory_lines.proofs.MappingLines.{fetches}
use Rattle.vd_memory_lines.proofs.Parts.{stay_inside, domain_act}
use Rattle.vd_ring_memory.proofs.Telling.{option_prop}
use Rattle.blk_driver.specs.Buffers.{live_mapping}
use Rattle.vd_domain.specs.Apart.{AreApart}
use Rattle.vd_driver_port.specs.Reached.{IsReached}
use Rattle.vd_driver_port.proofs.Quiet.{synced_quiet, unmapped_quiet}

-- from the acts that it stood for to others, after which its rings have the same bytes
pub record Step (h k : Memory) (m n : Pool) : Type 0 where
  pub setting : Setting
  pub before : List Act
  pub after : List Act
  pub from : Stands setting before h m
  pub to : Stands setting after k n
  pub apart : AreApart setting after
  pub quiet : ring_memory setting after ≡ ring_memory setting before

abbrev pub SeesRings : Held → Type 0
SeesRings h = (x : Setting) (acts : List Act) (m : Pool) → domain.Stands x acts h m → ring_map h ≡ ring_memory x acts

module _ (h k : Memory) (m n : Pool) (step : ∥ Step h k m n ∥₁) where
  pub told_same : SeesRings h.domain → SeesRings k.domain → ring_map k.domain ≡ ring_map h.domain
  told_same before after = λ j a. ∥∥₁_elim step (option_prop (ring_map k.domain a) (ring_map h.domain a)) (λ r.
      let e = after r.setting r.after n r.to.domain ∙ r.quiet ∙ sym (before r.setting r.before m r.from.domain) in
      ap (λ (t : model.Memory). t a) e) j

  pub reached_after : ∥ IsReached k n ∥₁
  reached_after = ∥∥₁_map step (λ r. record { setting = r.setting; acts = r.after; stands = r.to; apart = r.apart })

-- bounce memory has whole pages
pub whole_of : (x : Setting) (acts : List Act) (h : Held) (m : Pool) → domain.Stands x acts h m → x.bounce ≡ x.per_page * length h.bounce.frames
whole_of x acts h m s = s.bounce ∙ ap (λ g. g * length h.bounce.frames) (sym s.per_page)

module _ (x : Setting) (acts : List Act) (k : Memory) (p : Pool) (s : Stands x acts k p) (number : ℕ) where
  -- what is live by the acts is so in the domain
  pub live_is : mapping_of k.domain number ≡ live_mapping acts number
  live_is = ap (λ (l : List Streaming). find (λ m. m.number == number) l) s.domain.live

  pub refreshed : (m : Streaming) (d : Held) (q : Pool) → domain.Stands x (Driver (Synced_device m) ∷ acts) d q → Stands x (Driver (Synced_device m) ∷ acts) (record k { domain = d }) q
  refreshed m d q stands = domain_act x acts k p s (Driver (Synced_device m)) d q refl refl stands

  pub refresh_step : AreApart x acts → (m : Streaming) → mapping_of k.domain number ≡ Some m → (d : Held) (q : Pool) → domain.Stands x (Driver (Synced_device m) ∷ acts) d q → Step k (record k { domain = d }) p q
  refresh_step apart m e d q stands = record {
    setting = x;
    before = acts;
    after = Driver (Synced_device m) ∷ acts;
    from = s;
    to = refreshed m d q stands;
    apart = record { low = apart.low; high = apart.high };
    quiet = synced_quiet x (length k.domain.bounce.frames) (whole_of x acts k.domain p s.domain) acts apart.high m
        (found_all (λ (m : Streaming). m.slot + pages_of m.want.len ≤ x.bounce) (λ (l : Streaming). l.number == number) (live_mappings acts) m apart.low (sym live_is ∙ e));
  }

  pub unmapped : (m : Streaming) (d : Held) (places : Places) (q : Pool) → domain.Stands x (Driver (Unmapped m) ∷ acts) d q → buffers.Stands x.per_page (Driver (Unmapped m) ∷ acts) places
      → Stands x (Driver (Unmapped m) ∷ acts) (record k { domain = d; buffers = places }) q
  unmapped m d places q memory kept = record {
    domain = memory;
    buffers = kept;
    inside = stay_inside acts (Driver (Unmapped m) ∷ acts) (filter (λ (l : Streaming). not (l.number == m.number)) (live_mappings acts)) (λ b size e. e) (All-filter (λ (l : Streaming). not (l.number == m.number)) (IsInside acts) (live_mappings acts) s.inside);
  }

  -- the acts of an unmap, by what is live in the domain
  pub unmap_acts_are : (o : Option Streaming) → mapping_of k.domain number ≡ o → option_map_or (λ m. Driver (Unmapped m) ∷ []) o [] ≡ unmap_act (live_mappings acts) number
  unmap_acts_are o e = ap (λ (o : Option Streaming). option_map_or (λ m. Driver (Unmapped m) ∷ []) o []) (sym e ∙ live_is)

-- a mapping's bytes are in its buffer again
pub given_back : (x : Setting) (acts : List Act) (k : Memory) (p : Pool) → Stands x acts k p → (m : Streaming) (want : Want) → m.want ≡ want → (old new : List ℕ) → place_of k.buffers want.buffer ≡ Some old
    → length new ≡ length old → ((j : ℕ) → j < length old → slice_index new j ≡ given x.per_page acts m j (slice_index old j))
    → (gave : Places) → gave ≡ slice_set k.buffers want.buffer (Some new) → buffers.Stands x.per_page (Driver (Unmapped m) ∷ acts) gave
given_back x acts k p s m want e old new there size written gave is =
    subst (λ (places : Places). buffers.Stands x.per_page (Driver (Unmapped m) ∷ acts) places)
    (sym (is ∙ ap (λ (w : Want). slice_set k.buffers w.buffer (Some new)) (sym e)))
    (fetches x.per_page acts k.buffers s.buffers m (Unmapped m) old new (record { count = refl; lens = λ k. refl; total = refl; puts = λ k i. refl })
    (subst (λ (w : Want). place_of k.buffers w.buffer ≡ Some old) (sym e) there) size written)

module _ (k l : Memory) (p q : Pool) (number : ℕ) (m : Streaming) (live : mapping_of k.domain number ≡ Some m)
    (ended : (x : Setting) (acts : List Act) (m : Streaming) → mapping_of k.domain number ≡ Some m → Stands x acts k p → Stands x (Driver (Unmapped m) ∷ acts) l q) where
  pub unmap_steps : ∥ IsReached k p ∥₁ → ∥ Step k l p q ∥₁
  unmap_steps reached = ∥∥₁_map reached (λ r. record {
    setting = r.setting;
    before = r.acts;
    after = Driver (Unmapped m) ∷ r.acts;
    from = r.stands;
    to = ended r.setting r.acts m live r.stands;
    apart = record {
      low = All-filter (λ (l : Streaming). not (l.number == m.number)) (λ (m : Streaming). m.slot + pages_of m.want.len ≤ r.setting.bounce) (live_mappings r.acts) r.apart.low;
      high = r.apart.high;
    };
    quiet = unmapped_quiet r.setting r.acts m;
  })

  pub unmap_done : (x : Setting) (acts : List Act) → Stands x acts k p → Stands x (unmap_act (live_mappings acts) number ++ acts) l q
  unmap_done x acts s = subst (λ (more : List Act). Stands x (more ++ acts) l q) (unmap_acts_are x acts k p s number (Some m) live) (ended x acts m live s)

-- what is told of a live mapping is its want
pub info_of : (o : Option Streaming) (m : Streaming) (i : MapInfo) → o ≡ Some m → option_map map_info o ≡ Some i → m.want ≡ i.want
info_of None m i e f = cc
info_of (Some n) m i e f =
    let same : n ≡ m = cc in
    let info : map_info n ≡ i = cc in
    ap (λ (k : Streaming). k.want) (sym same) ∙ ap (λ (k : MapInfo). k.want) info
