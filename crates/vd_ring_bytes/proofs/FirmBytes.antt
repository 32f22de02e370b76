-- The bytes that stay while acts are done elsewhere.
use Rattle.std.proofs.Common.{◌≡◌, ℕ, ◌≤◌, true, false, refl, ap, ◌∙◌, sym, None, List, [], ◌∷◌, ◌++◌, ◌==◌, not, length, unwrap_or, true≢false, inl, inr}
use Rattle.std.specs.Option.{option_map}
use Rattle.std.proofs.lemmas.Bool.{ne_eqb}
use Rattle.vd_num.specs.Number.{is_within}
use Rattle.vd_model.specs.declared.memory.Origin.{Origin}
use Rattle.vd_model.specs.declared.memory.Origin.TheVariants.{Daemon, Handed}
use Rattle.vd_model.specs.Setting.{Setting, bounce_size}
use Rattle.vd_model.specs.Acts.{Act, Node, Driver, Streaming, Daemon_put, Area_put, Mapped, Unmapped, Synced_device, Region_made, Driver_put}
use Rattle.vd_model.specs.Live.{live_mappings, maps_address}
use Rattle.vd_model.specs.Puts.{text_at, zero_if, shown_put}
use Rattle.vd_laws.specs.Among.{Among}
use Rattle.vd_ring_bytes.specs.FirmLaw.{Misses, AllMiss, IsFirm, FirmLaw}
use Rattle.vd_laws.specs.Runs.{IsAddressed, IsWhole}
use Rattle.vd_model.specs.History.{History}
use Rattle.vd_laws.proofs.MemoryLaw.{moment_legal}
use Rattle.vd_laws.proofs.Lists.{push_left, filter_in}
use Rattle.vd_laws.proofs.Legal.{Legal}
use Rattle.vd_laws.proofs.Sound.{sound}
use Rattle.vd_laws.proofs.Texts.{text_absent}
use Rattle.vd_laws.proofs.Coherence.{high_shown}
use Rattle.vd_laws.proofs.Shown.{arrives, stays}

pub miss_append : (xs ys : List Act) (a : ℕ) → AllMiss xs a → AllMiss ys a → AllMiss (xs ++ ys) a
miss_append [] ys a h k = k
miss_append (act ∷ xs) ys a h k = (h.0, miss_append xs ys a h.1 k)

text_none : (bytes : List ℕ) (at a : ℕ) (origin : Origin) → is_within at (length bytes) a ≡ false → text_at bytes at a origin ≡ None
text_none bytes at a origin e = ap (option_map (λ b. record { byte = b; origin = origin })) (text_absent bytes at a e)

-- past bounce memory
module _ (x : Setting) (whole : IsWhole x) (acts : List Act) (a : ℕ) (high : bounce_size x ≤ a) where
  high_kept : (act : Act) → Legal x (act ∷ acts) → Misses act a → shown_put x.per_page (act ∷ acts) a ≡ shown_put x.per_page acts a
  high_kept (Driver (Driver_put at bytes)) legal h =
      high_shown x whole acts a high (Driver (Driver_put at bytes)) legal ∙ ap (λ o. unwrap_or o (shown_put x.per_page acts a)) (text_none bytes at a (Handed None) h)
  high_kept (Node (Daemon_put at bytes)) legal h =
      high_shown x whole acts a high (Node (Daemon_put at bytes)) legal ∙ ap (λ o. unwrap_or o (shown_put x.per_page acts a)) (text_none bytes at a Daemon h)
  high_kept (Driver (Region_made r)) legal h = high_shown x whole acts a high (Driver (Region_made r)) legal ∙ ap (λ b. unwrap_or (zero_if b) (shown_put x.per_page acts a)) h
  high_kept (Driver (Synced_device m)) legal h = absurd h
  high_kept (Node (Area_put at bytes)) legal h = absurd h
  high_kept act legal h = high_shown x whole acts a high act legal

-- in a live mapping
low_none : (g : ℕ) (acts : List Act) (act : Act) (a : ℕ) → Misses act a → arrives g acts act a ≡ None
low_none g acts (Driver (Driver_put at bytes)) a h = refl
low_none g acts (Node (Daemon_put at bytes)) a h = ap (option_map (λ b. record { byte = b; origin = Daemon })) (text_absent bytes at a h)
low_none g acts (Driver (Region_made r)) a h = refl
low_none g acts (Driver (Unmapped m)) a h = refl
low_none g acts (Driver (Synced_device m)) a h = absurd h
low_none g acts (Node (Area_put at bytes)) a h = absurd h
low_none g acts _ a h = refl

-- the mapping stays live
pub stays_live : (x : Setting) (act : Act) (acts : List Act) (m : Streaming) (a : ℕ) → Legal x (act ∷ acts) → Misses act a → Among m (live_mappings acts) → maps_address m a ≡ true → Among m (live_mappings (act ∷ acts))
stays_live x (Driver (Mapped n)) acts m a legal h there here = push_left m n (live_mappings acts) there
stays_live x (Driver (Unmapped n)) acts m a legal h there here =
    filter_in (λ l. not (l.number == n.number)) m (live_mappings acts) there
    (ap not (ne_eqb m.number n.number (λ e. true≢false (sym here ∙ (ap (λ l. maps_address l a) ((sound x acts legal.1).same m n there legal.0 e) ∙ h)))))
stays_live x _ acts m a legal h there here = there

pub still_firm : (x : Setting) (act : Act) (acts : List Act) (a : ℕ) → Legal x (act ∷ acts) → Misses act a → IsFirm x acts a → IsFirm x (act ∷ acts) a
still_firm x act acts a legal h (inl high) = inl high
still_firm x act acts a legal h (inr m) = inr (m.0, stays_live x act acts m.0 a legal h m.1 m.2, m.2)

module _ (x : Setting) (small : IsAddressed x) (whole : IsWhole x) where
  pub kept_at : (act : Act) (acts : List Act) (a : ℕ) → Legal x (act ∷ acts) → Misses act a → IsFirm x acts a → shown_put x.per_page (act ∷ acts) a ≡ shown_put x.per_page acts a
  kept_at act acts a legal h (inl high) = high_kept x whole acts a high act legal h
  kept_at act acts a legal h (inr m) =
      stays x acts m.0 a (sound x acts legal.1) m.1 m.2 small act legal.0 ∙ ap (λ o. unwrap_or o (shown_put x.per_page acts a)) (low_none x.per_page acts act a h)

  -- an address that stays firm keeps what it has
  pub all_kept : (new acts : List Act) (a : ℕ) → Legal x (new ++ acts) → AllMiss new a → IsFirm x acts a → IsFirm x (new ++ acts) a × (shown_put x.per_page (new ++ acts) a ≡ shown_put x.per_page acts a)
  all_kept [] acts a legal h firm = (firm, refl)
  all_kept (act ∷ new) acts a legal h firm =
      let before = all_kept new acts a legal.1 h.1 firm in
      (still_firm x act (new ++ acts) a legal h.0 before.0, kept_at act (new ++ acts) a legal h.0 before.0 ∙ before.1)

pub firm_law : (x : Setting) (h : History) → FirmLaw x h
firm_law x h small whole d new acts m a miss firm = (all_kept x small whole new acts a (moment_legal x h d (new ++ acts) m) miss firm).1
