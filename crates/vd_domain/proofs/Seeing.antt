-- What a domain shows is what the acts say.
use Rattle.std.proofs.Common.{◌≡◌, ℕ, ◌+◌, ◌-◌, ◌*◌, ◌/◌, ◌<◌, ◌≤◌, ◌^◌, inl, inr, refl, ap, sym, ◌∙◌, arith, Bool, true, false, ◌&&◌, nat_lt, if◌then◌else◌, List, length, Some, None, true≢false}
use Rattle.std.specs.List.{list_any}
use Rattle.std.proofs.lemmas.Bool.Decides.{nat_tests, leb_tells}
use Rattle.vd_pool.specs.Memory.{PoolMemory}
use Rattle.vd_bounce.specs.Bounce as b
use Rattle.vd_bounce.specs.Bounce.{bounce_len, page_size, value}
use Rattle.vd_iova.specs.Space.{Space}
use Rattle.vd_model.specs.Setting.{Setting}
use Rattle.vd_model.specs.Acts.{Act, Coherent}
use Rattle.vd_model.specs.Live.{region_covers}
use Rattle.vd_model.specs.Puts.{shown_put}
use Rattle.vd_model.specs.AreaTurns.{is_accessible}
use Rattle.vd_model.specs.DaemonTurns.{daemon_memory}
use Rattle.vd_domain.specs.Reached.{is_reached, byte_at}
use Rattle.vd_domain.specs.Handed.{is_coherent}
use Rattle.vd_domain.specs.Seen.{daemon_map, ring_map, ring_memory}
use Rattle.vd_domain.specs.Held.{Held, IsFit}
use Rattle.vd_domain.specs.Stands.{Stands}
use Rattle.vd_domain.proofs.Reaches.{high_same}
use Rattle.vd_domain.proofs.Puttings.{shown_put_high}
use Rattle.vd_domain.proofs.Steps.{reach_is, byte_is, none_low, high_covers}

first_true : (p q : Bool) → (p && q) ≡ true → p ≡ true
first_true true q e = refl
first_true false q e = e

module _ (x : Setting) (acts : List Act) (h : Held) (m : PoolMemory) (s : Stands x acts h m) (low high : Space) (uses : List ℕ) (fit : IsFit h low high uses) where
  -- an address that is reached is below 2 ^ 32
  small_slot : (size a n : ℕ) → size ≤ a → nat_lt ((a - size) / 4096) n ≡ true → a < size + 4096 * n
  small_slot size a n above e = let below : (a - size) / 4096 < n = grind (arith, nat_tests) in omega arith

  small : (a : ℕ) → is_reached h.bounce h.shared a ≡ true → a < 2 ^ 32
  small a e = elim (leb_tells (bounce_len h.bounce) a) [
    | inr below ↦
        (let under = below.1 in
        let few = fit.small in
        let slots : 4096 * (h.bounce.per_page * length h.bounce.frames) ≡ 4096 * h.bounce.per_page * length h.bounce.frames = omega arith in
        omega arith)
    | inl above ↦
        (let few = fit.small in
        let slots : 4096 * (h.bounce.per_page * length h.bounce.frames) ≡ 4096 * h.bounce.per_page * length h.bounce.frames = omega arith in
        let there : b.is_page_present h.shared ((a - bounce_len h.bounce) / 4096) ≡ true =
        ap (λ g. b.is_page_present h.shared ((a - bounce_len h.bounce) / (4096 * g))) (sym fit.slots) ∙ sym (high_same h.bounce h.shared a above.1) ∙ e in
        let near = small_slot (bounce_len h.bounce) a (length h.shared.frames) above.1 (first_true _ _ there) in
        omega arith)
  ]

  seen_at : (a : ℕ) → daemon_map h m a ≡ daemon_memory x acts a
  seen_at a = by (is_reached h.bounce h.shared a) refl where
    access : is_reached h.bounce h.shared a ≡ is_accessible x acts a
    access = reach_is x acts h m s low high uses fit a

    by : (t : Bool) → is_reached h.bounce h.shared a ≡ t → daemon_map h m a ≡ daemon_memory x acts a
    by true e =
        let below = small a e in
        let test : nat_lt a (2 ^ 32) ≡ true = grind (arith, nat_tests) in
        ap (λ t. if t && is_reached h.bounce h.shared a then Some (byte_at h.bounce m h.shared h.store a) else None) test
        ∙ ap (λ t. if t then Some (byte_at h.bounce m h.shared h.store a) else None) e
        ∙ ap Some (byte_is x acts h m s low high uses fit a e)
        ∙ sym (ap (λ t. if t then Some (shown_put x.per_page acts a).byte else None) (sym access ∙ e))
    by false e =
        ap (λ t. if nat_lt a (2 ^ 32) && t then Some (byte_at h.bounce m h.shared h.store a) else None) e
        ∙ none (nat_lt a (2 ^ 32))
        ∙ sym (ap (λ t. if t then Some (shown_put x.per_page acts a).byte else None) (sym access ∙ e)) where
          none : (t : Bool) → (if t && false then Some (byte_at h.bounce m h.shared h.store a) else None) ≡ None
          none true = refl
          none false = refl

  pub sees_daemon : daemon_map h m ≡ daemon_memory x acts
  sees_daemon = λ j a. seen_at a j

  -- an address of a coherent region lies above bounce memory, and is reached
  above_of : (a : ℕ) → is_coherent acts a ≡ true → bounce_len h.bounce ≤ a
  above_of a e = elim (leb_tells (bounce_len h.bounce) a) [
    | inr below ↦ absurd (true≢false (sym e ∙ none_low x acts h m s low high uses fit a below.1))
    | inl above ↦ above.1
  ]

  ring_at : (a : ℕ) → ring_map h a ≡ ring_memory x acts a
  ring_at a = by (is_coherent acts a) refl where
    same : list_any (λ r. region_covers r a) h.regions ≡ is_coherent acts a
    same = ap (λ (rs : List Coherent). list_any (λ r. region_covers r a) rs) s.regions

    by : (t : Bool) → is_coherent acts a ≡ t → ring_map h a ≡ ring_memory x acts a
    by true e =
        let above = above_of a e in
        let reach : is_reached h.bounce h.shared a ≡ true = high_same h.bounce h.shared a above ∙ high_covers x acts h m s low high uses fit a above ∙ e in
        let below = small a reach in
        let test : nat_lt a (2 ^ 32) ≡ true = grind (arith, nat_tests) in
        ap (λ t. if t && list_any (λ r. region_covers r a) h.regions then Some (value h.shared h.store (b.Iova (a - bounce_len h.bounce))) else None) test
        ∙ ap (λ t. if t then Some (value h.shared h.store (b.Iova (a - bounce_len h.bounce))) else None) (same ∙ e)
        ∙ ap Some (shown_put_high x acts h m s a above e)
        ∙ sym (ap (λ t. if t then Some (shown_put x.per_page acts a).byte else None) e)
    by false e =
        ap (λ t. if nat_lt a (2 ^ 32) && t then Some (value h.shared h.store (b.Iova (a - bounce_len h.bounce))) else None) (same ∙ e)
        ∙ none (nat_lt a (2 ^ 32))
        ∙ sym (ap (λ t. if t then Some (shown_put x.per_page acts a).byte else None) e) where
          none : (t : Bool) → (if t && false then Some (value h.shared h.store (b.Iova (a - bounce_len h.bounce))) else None) ≡ None
          none true = refl
          none false = refl

  pub sees_ring : ring_map h ≡ ring_memory x acts
  sees_ring = λ j a. ring_at a j
