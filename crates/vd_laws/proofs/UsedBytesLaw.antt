-- A daemon's last write at a byte of a mapping is there, and comes back with the unmap.
use Rattle.std.proofs.Common.{◌≡◌, ℕ, ◌+◌, ◌-◌, ◌/◌, ◌<◌, Bool, true, false, refl, ap, ◌∙◌, sym, arith, Option, None, Some, cond, List, [], ◌∷◌, ◌==◌, ◌&&◌, not, unwrap_or, true≢false, ◌⊎◌, inl, inr}
use Rattle.std.specs.Option.{option_map, option_or}
use Rattle.std.proofs.lemmas.Bool.{and_from, eq-eqb, ne_eqb}
use Rattle.vd_num.specs.Number.{is_within}
use Rattle.vd_model.specs.declared.memory.Origin.TheVariants.{Daemon}
use Rattle.vd_model.specs.Setting.{Setting}
use Rattle.vd_model.specs.Acts.{Act, NodeAct, Node, Driver, Streaming, Mapped, Unmapped, Synced_device}
use Rattle.vd_model.specs.Live.{live_mappings, iova_of, maps_address}
use Rattle.vd_model.specs.Puts.{is_from_device, handed_put_if, last_put, shown_put, ram}
use Rattle.vd_model.specs.Direct.{daemon_writes, brings_back}
use Rattle.vd_model.specs.Deeds.{device_view}
use Rattle.vd_model.specs.History.{History, deeds_of}
use Rattle.vd_laws.specs.Among.{Among}
use Rattle.vd_laws.specs.Runs.{IsAddressed}
use Rattle.vd_laws.specs.UsedBytesLaw.{last_write, UsedBytesLaw}
use Rattle.vd_laws.proofs.Lists.{pushed, filtered}
use Rattle.vd_laws.proofs.Legal.{IsFresh, Admits, Legal}
use Rattle.vd_laws.proofs.Sound.{sound}
use Rattle.vd_laws.proofs.Ranges.{in_range}
use Rattle.vd_laws.proofs.Pages.{on_slot}
use Rattle.vd_laws.proofs.Shown.{arrives, stays}
use Rattle.vd_laws.proofs.Polls.{tells}
use Rattle.vd_laws.proofs.MemoryLaw.{moment_legal, unmap_brings}

module _ (x : Setting) (small : IsAddressed x) (m : Streaming) (i : ℕ) (below : i < m.want.len) where
  its : maps_address m (iova_of m + i) ≡ true
  its = in_range (iova_of m) m.want.len (iova_of m + i) (omega arith) (omega arith)

  -- after some acts the last write is there
  abbrev Holds : List Act → Type 0
  Holds acts = (b : ℕ) → last_write acts m i ≡ Some b → (shown_put x.per_page acts (iova_of m + i)).byte ≡ b

  module _ (acts : List Act) (legal : Legal x acts) where
    -- nothing arrives, and the last write is as before
    quiet : (act : Act) → Admits x acts act → Among m (live_mappings acts) → arrives x.per_page acts act (iova_of m + i) ≡ None → last_write (act ∷ acts) m i ≡ last_write acts m i → Holds acts → Holds (act ∷ acts)
    quiet act h there none same was b e =
        ap (λ p. p.byte) (stays x acts m (iova_of m + i) (sound x acts legal) there its small act h) ∙ ap (λ o. (unwrap_or o (shown_put x.per_page acts (iova_of m + i))).byte) none ∙ was b (sym same ∙ e)

    node : (act : NodeAct) → Admits x acts (Node act) → Among m (live_mappings acts) → Holds acts
        → (b : ℕ) → option_or (daemon_writes acts (Node act) (iova_of m + i)) (last_write acts m i) ≡ Some b → (shown_put x.per_page (Node act ∷ acts) (iova_of m + i)).byte ≡ b
    node act h there was b e = ap (λ p. p.byte) (stays x acts m (iova_of m + i) (sound x acts legal) there its small (Node act) h) ∙ by (daemon_writes acts (Node act) (iova_of m + i)) e where
      by : (o : Option ℕ) → option_or o (last_write acts m i) ≡ Some b → (unwrap_or (option_map (λ c. record { byte = c; origin = Daemon }) o) (shown_put x.per_page acts (iova_of m + i))).byte ≡ b
      by None f = was b f
      by (Some c) f = cc

    mapped : (n : Streaming) → IsFresh x acts n → Among m (live_mappings acts) ⊎ (m ≡ n) → (Among m (live_mappings acts) → Holds acts) → Holds (Driver (Mapped n) ∷ acts)
    mapped n h (inr is) was b e =
        let none : cond true None (last_write acts m i) ≡ Some b = sym (ap (λ c. cond c None (last_write acts m i)) (eq-eqb n.number m.number (ap (λ l. l.number) (sym is)))) ∙ e in cc
    mapped n h (inl there) was b e =
        let other : (n.number == m.number) ≡ false = ne_eqb n.number m.number (λ f. let low = (sound x acts legal).numbers m there in let fresh = h.number in omega arith) in
        quiet (Driver (Mapped n)) h there refl (ap (λ c. cond c None (last_write acts m i)) other) (was there) b e

    synced : (n : Streaming) → (h : Admits x acts (Driver (Synced_device n))) → Among m (live_mappings acts) → Holds acts
        → (c : Bool) → (n.number == m.number) ≡ c → (a : Bool) → maps_address n (iova_of m + i) ≡ a → Holds (Driver (Synced_device n) ∷ acts)
    synced n h there was true f a g b e = let none : cond true None (last_write acts m i) ≡ Some b = sym (ap (λ c. cond c None (last_write acts m i)) f) ∙ e in cc
    synced n h there was false f true g b e =
        let is : n ≡ m = (sound x acts legal).one n m h.0 there ((iova_of m + i) / 4096) (on_slot n (iova_of m + i) g) (on_slot m (iova_of m + i) its) in
        absurd (true≢false (sym (eq-eqb n.number m.number (ap (λ l. l.number) is)) ∙ f))
    synced n h there was false f false g b e = quiet (Driver (Synced_device n)) h there (ap (λ c. handed_put_if c (last_put x.per_page acts) n (iova_of m + i)) g) (ap (λ c. cond c None (last_write acts m i)) f) was b e

  holds : (acts : List Act) → Legal x acts → Among m (live_mappings acts) → (b : ℕ) → last_write acts m i ≡ Some b → (shown_put x.per_page acts (iova_of m + i)).byte ≡ b
  holds [] legal there b e = absurd there
  holds (Driver (Mapped n) ∷ acts) legal there b e = mapped acts legal.1 n legal.0 (pushed m n (live_mappings acts) there) (holds acts legal.1) b e
  holds (Driver (Synced_device n) ∷ acts) legal there b e = synced acts legal.1 n legal.0 there (holds acts legal.1 there) (n.number == m.number) refl (maps_address n (iova_of m + i)) refl b e
  holds (Driver (Unmapped n) ∷ acts) legal there b e =
      let was = (filtered (λ l. not (l.number == n.number)) m (live_mappings acts) there).0 in quiet acts legal.1 (Driver (Unmapped n)) legal.0 was refl refl (holds acts legal.1 was) b e
  holds (Node act ∷ acts) legal there b e = node acts legal.1 act legal.0 there (holds acts legal.1 there) b e
  holds (act ∷ acts) legal there b e = quiet acts legal.1 act legal.0 there refl refl (holds acts legal.1 there) b e

  -- the byte of the buffer right after the unmap
  comes_back : (acts : List Act) → Legal x (Driver (Unmapped m) ∷ acts) → is_from_device m.want.dir ≡ true → (b : ℕ) → last_write acts m i ≡ Some b
      → ram x.per_page (Driver (Unmapped m) ∷ acts) m.want.buffer (m.want.offset + i) ≡ b
  comes_back acts legal from b e =
      let fits : is_within m.want.offset m.want.len (m.want.offset + i) ≡ true = in_range m.want.offset m.want.len (m.want.offset + i) (omega arith) (omega arith) in
      let all : brings_back m m.want.buffer (m.want.offset + i) ≡ true =
      and_from (is_from_device m.want.dir && (m.want.buffer == m.want.buffer)) (is_within m.want.offset m.want.len (m.want.offset + i)) (and_from (is_from_device m.want.dir) (m.want.buffer == m.want.buffer) from (eq-eqb m.want.buffer m.want.buffer refl)) fits in
      let place : iova_of m + (m.want.offset + i - m.want.offset) ≡ iova_of m + i = (let k : m.want.offset + i - m.want.offset ≡ i = omega arith in ap (λ j. iova_of m + j) k) in
      unmap_brings x.per_page acts m.want.buffer (m.want.offset + i) m all
      ∙ ap (λ a. (shown_put x.per_page acts a).byte) place
      ∙ holds acts legal.1 legal.0 b e

pub used_bytes_law : (x : Setting) (h : History) → UsedBytesLaw x h
used_bytes_law x h = record {
  brought = λ small d m acts at from i below b e. comes_back x small m i below acts (moment_legal x h d (Driver (Unmapped m) ∷ acts) at) from b e;
  polled = λ d q failed head len more e. tells x (device_view x d (deeds_of x h)) d q failed head len more e;
}
