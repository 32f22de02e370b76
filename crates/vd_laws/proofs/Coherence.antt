-- Coherent memory is one store.
use Rattle.std.proofs.Common.{◌≡◌, ℕ, ◌+◌, ◌*◌, ◌/◌, ◌≤◌, Bool, true, false, refl, ap, subst, ◌∙◌, sym, arith, Option, None, Some, cond, List, [], ◌∷◌, ◌&&◌, not, unwrap_or, true≢false}
use Rattle.std.specs.Option.{option_map}
use Rattle.std.proofs.lemmas.Bool.{le-ltb, and_left}
use Rattle.vd_num.specs.Number.{pages_of}
use Rattle.vd_model.specs.declared.memory.Origin.{Origin}
use Rattle.vd_model.specs.declared.memory.Origin.TheVariants.{Daemon, Handed}
use Rattle.vd_model.specs.Setting.{Setting, bounce_size}
use Rattle.vd_model.specs.Acts.{Act, Node, Driver, Streaming, Coherent, Daemon_put, Deregistered, Mapped, Synced_device, Region_made, Driver_put}
use Rattle.vd_model.specs.Live.{Registration, live_regions, registration_of, region_covers, is_in_use, iova_of, maps_address, page_of, meets_page, is_present}
use Rattle.vd_model.specs.Puts.{Iova, Area, Put, byte_in, text_at, zero_if, put_if, or_put, handed_put_if, is_to_device, home_cell, is_moved, returned_put, address_put, address_put_if, put_at, last_put, shown_put}
use Rattle.vd_model.specs.Direct.{plain_store}
use Rattle.vd_laws.specs.Among.{Among}
use Rattle.vd_laws.specs.Runs.{IsWhole}
use Rattle.vd_laws.specs.MemoryLaw.{may_change_coherent}
use Rattle.vd_laws.proofs.Legal.{Admits, Legal}
use Rattle.vd_laws.proofs.Sound.{IsOurs, Sound, sound}
use Rattle.vd_laws.proofs.Ranges.{is_in, past_range}
use Rattle.vd_laws.proofs.Pages.{past_pages}
use Rattle.vd_laws.proofs.Shown.{put_or_is, home_cell_kept}

-- an address past the bounce memory keeps its own store
high_home : (x : Setting) (a : ℕ) → bounce_size x ≤ a → (o : Option Registration) → IsOurs x o → home_cell o a ≡ Iova a
high_home x a high None ours = refl
high_home x a high (Some r) ours = home_cell_kept r a (let e = ours.0 in omega arith)

high_kept : (x : Setting) (a : ℕ) → bounce_size x ≤ a → (o : Option Registration) → IsOurs x o → is_moved o a ≡ false
high_kept x a high None ours = refl
high_kept x a high (Some r) ours = le-ltb a r.size (let e = ours.0 in omega arith)

-- what an act puts into coherent memory
abbrev coherent_put : Act → ℕ → Option Put
coherent_put (Driver (Region_made r)) a = zero_if (region_covers r a)
coherent_put (Driver (Driver_put at bytes)) a = text_at bytes at a (Handed None)
coherent_put (Node (Daemon_put at bytes)) a = text_at bytes at a Daemon
coherent_put _ a = None

no_puts : (b : Bool) → cond {A = Option Put} b None None ≡ None
no_puts true = refl
no_puts false = refl

module _ (x : Setting) (whole : IsWhole x) (acts : List Act) (a : ℕ) (high : bounce_size x ≤ a) where
  -- what an act puts by address
  by_kind : (act : Act) → Admits x acts act → Sound x acts → address_put x.per_page (last_put x.per_page acts) acts act a ≡ coherent_put act a
  by_kind (Driver (Mapped n)) h s = ap (λ b. or_put (handed_put_if (is_to_device n.want.dir && b) (last_put x.per_page acts) n a) (zero_if (meets_page x.per_page (page_of x.per_page a) n && not (is_present x.per_page acts (page_of x.per_page a)))))
      (past n h.fits) ∙ ap (λ b. or_put (handed_put_if (is_to_device n.want.dir && false) (last_put x.per_page acts) n a) (zero_if b))
      (and_left (meets_page x.per_page (page_of x.per_page a) n) (not (is_present x.per_page acts (page_of x.per_page a))) (off_page n h.fits)) ∙ none (is_to_device n.want.dir) where
        past : (n : Streaming) → n.slot + pages_of n.want.len ≤ x.bounce → maps_address n a ≡ false
        past n fits = past_range (iova_of n) n.want.len a (omega arith)

        off_page : (n : Streaming) → n.slot + pages_of n.want.len ≤ x.bounce → meets_page x.per_page (page_of x.per_page a) n ≡ false
        off_page n fits = past_pages x.per_page whole.0 a n (subst (λ k. n.slot + pages_of n.want.len ≤ k) whole.1 fits) (subst (λ k. 4096 * k ≤ a) whole.1 high)

        none : (t : Bool) → or_put (handed_put_if (t && false) (last_put x.per_page acts) n a) (zero_if false) ≡ None
        none true = refl
        none false = refl
  by_kind (Driver (Synced_device n)) h s = ap (λ b. handed_put_if b (last_put x.per_page acts) n a) (past n (s.fits n h.0)) where
    past : (n : Streaming) → n.slot + pages_of n.want.len ≤ x.bounce → maps_address n a ≡ false
    past n fits = past_range (iova_of n) n.want.len a (omega arith)
  by_kind _ h s = refl

  by_act : (act : Act) → Admits x acts act → Sound x acts → is_moved (registration_of acts) a ≡ false → put_at x.per_page (last_put x.per_page acts) acts act (Iova a) ≡ coherent_put act a
  by_act (Node Deregistered) h s kept = back (registration_of acts) kept where
    back : (o : Option Registration) → is_moved o a ≡ false → returned_put x.per_page (last_put x.per_page acts) acts o a ≡ None
    back None k = refl
    back (Some r) k = ap (λ b. put_if (b && is_in_use x.per_page acts (page_of x.per_page a)) (last_put x.per_page acts) (Area (r.base + a))) k
  by_act act h s kept = ap (λ b. address_put_if b x.per_page (last_put x.per_page acts) acts act a) kept ∙ by_kind act h s

  pub high_shown : (act : Act) → Legal x (act ∷ acts) → shown_put x.per_page (act ∷ acts) a ≡ unwrap_or (coherent_put act a) (shown_put x.per_page acts a)
  high_shown act legal =
      let s = sound x acts legal.1 in
      let later = sound x (act ∷ acts) legal in
      ap (last_put x.per_page (act ∷ acts)) (high_home x a high (registration_of (act ∷ acts)) later.ours)
      ∙ put_or_is (put_at x.per_page (last_put x.per_page acts) acts act (Iova a)) (last_put x.per_page acts) (Iova a)
      ∙ ap (λ o. unwrap_or o (last_put x.per_page acts (Iova a))) (by_act act legal.0 s (high_kept x a high (registration_of acts) s.ours))
      ∙ ap (λ p. unwrap_or (coherent_put act a) (last_put x.per_page acts p)) (sym (high_home x a high (registration_of acts) s.ours))

  quiet : (act : Act) → may_change_coherent act ≡ false → coherent_put act a ≡ None
  quiet (Driver (Region_made r)) e = absurd (true≢false e)
  quiet (Driver (Driver_put at bytes)) e = absurd (true≢false e)
  quiet (Node (Daemon_put at bytes)) e = absurd (true≢false e)
  quiet _ e = refl

  pub coherent_kept : (act : Act) → Legal x (act ∷ acts) → may_change_coherent act ≡ false → shown_put x.per_page (act ∷ acts) a ≡ shown_put x.per_page acts a
  coherent_kept act legal e = high_shown act legal ∙ ap (λ o. unwrap_or o (shown_put x.per_page acts a)) (quiet act e)

text_byte : (bytes : List ℕ) (at a : ℕ) (origin : Origin) (p : Put) (v : ℕ) → p.byte ≡ v → (unwrap_or (text_at bytes at a origin) p).byte ≡ unwrap_or (byte_in bytes at a) v
text_byte bytes at a origin p v e = by (byte_in bytes at a) where
  by : (o : Option ℕ) → (unwrap_or (option_map (λ b. record { byte = b; origin = origin }) o) p).byte ≡ unwrap_or o v
  by None = e
  by (Some b) = refl

next_store : (act : Act) (acts : List Act) (a : ℕ) (p : Put) → p.byte ≡ plain_store acts a → (unwrap_or (coherent_put act a) p).byte ≡ plain_store (act ∷ acts) a
next_store (Driver (Region_made r)) acts a p e = by (region_covers r a) where
  by : (b : Bool) → (unwrap_or (zero_if b) p).byte ≡ cond b 0 (plain_store acts a)
  by true = refl
  by false = e
next_store (Driver (Driver_put at bytes)) acts a p e = text_byte bytes at a (Handed None) p (plain_store acts a) e
next_store (Node (Daemon_put at bytes)) acts a p e = text_byte bytes at a Daemon p (plain_store acts a) e
next_store _ acts a p e = e

is_store : (x : Setting) → IsWhole x → (acts : List Act) → Legal x acts → (a : ℕ) → bounce_size x ≤ a → (shown_put x.per_page acts a).byte ≡ plain_store acts a
is_store x whole [] legal a high = refl
is_store x whole (act ∷ acts) legal a high = ap (λ p. p.byte) (high_shown x whole acts a high act legal) ∙ next_store act acts a (shown_put x.per_page acts a) (is_store x whole acts legal.1 a high)

pub region_store : (x : Setting) → IsWhole x → (acts : List Act) → Legal x acts → (r : Coherent) → Among r (live_regions acts) → (a : ℕ) → region_covers r a ≡ true → (shown_put x.per_page acts a).byte ≡ plain_store acts a
region_store x whole acts legal r there a here =
    let p = is_in r.slot (pages_of r.len) (a / 4096) here in
    let low : r.slot ≤ a / 4096 = p.0 in
    let high : x.bounce ≤ r.slot = (sound x acts legal).regions_high r there in
    is_store x whole acts legal a (omega arith)
