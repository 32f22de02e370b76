-- What a daemon sees after a put.
use Rattle.std.proofs.Common.{◌≡◌, ℕ, ◌+◌, ◌-◌, ◌<◌, ◌≤◌, Bool, true, false, if◌then◌else◌, nat_lt, refl, ap, sym, ◌∙◌, arith, List, ◌∷◌, length, Some, None, Option}
use Rattle.std.specs.List.{slice_get, slice_index}
use Rattle.std.specs.Option.{option_and_then}
use Rattle.std.proofs.lemmas.Bool.Decides.{nat_tests}
use Rattle.std.proofs.lemmas.Option.{slice_get-get_or}
use Rattle.vd_num.specs.Number.{is_within}
use Rattle.vd_model.specs.declared.memory.Origin.TheVariants.{Daemon}
use Rattle.vd_model.specs.Memory.{written}
use Rattle.vd_model.specs.Setting.{Setting}
use Rattle.vd_model.specs.Acts.{Act, Node, Daemon_put}
use Rattle.vd_model.specs.Live.{Registration, registration_of}
use Rattle.vd_model.specs.Puts.{Iova, Area, shown_put, last_put, put_or, home_cell, text_at, is_moved, address_put, address_put_if, area_address}
use Rattle.vd_model.specs.AreaTurns.{is_accessible, first_bus}
use Rattle.vd_model.specs.DaemonTurns.{daemon_memory}
use Rattle.vd_domain.proofs.Failing.{first_failing_none}
use Rattle.vd_domain.proofs.Putting.{text_put}

-- a map over which bytes were put where each address passes
pub written_is : (P Q : ℕ → Bool) (f g : ℕ → ℕ) (at : ℕ) (bytes : List ℕ) → ((a : ℕ) → Q a ≡ P a)
    → ((a : ℕ) → g a ≡ (if is_within at (length bytes) a then slice_index bytes (a - at) else f a))
    → ((a : ℕ) → at ≤ a → a < at + length bytes → P a ≡ true)
    → (a : ℕ) → (if Q a then Some (g a) else None) ≡ written (λ a. if P a then Some (f a) else None) at bytes a
written_is P Q f g at bytes same puts there a = by (is_within at (length bytes) a) refl where
  by : (t : Bool) → is_within at (length bytes) a ≡ t
      → (if Q a then Some (g a) else None) ≡ (if is_within at (length bytes) a then slice_get bytes (a - at) else (if P a then Some (f a) else None))
  by true e =
      let low : at ≤ a = grind (arith, nat_tests, e) in
      let high : a < at + length bytes = grind (arith, nat_tests, e) in
      ap (λ t. if t then Some (g a) else None) (same a ∙ there a low high)
      ∙ ap Some (puts a ∙ ap (λ t. if t then slice_index bytes (a - at) else f a) e)
      ∙ sym (slice_get-get_or bytes (a - at) 0 (omega arith))
      ∙ sym (ap (λ t. if t then slice_get bytes (a - at) else (if P a then Some (f a) else None)) e)
  by false e =
      ap (λ t. if t then Some (g a) else None) (same a)
      ∙ ap (λ v. if P a then Some v else None) (puts a ∙ ap (λ t. if t then slice_index bytes (a - at) else f a) e)
      ∙ sym (ap (λ t. if t then slice_get bytes (a - at) else (if P a then Some (f a) else None)) e)

module _ (g : ℕ) (acts : List Act) (at : ℕ) (bytes : List ℕ) where
  abbrev pub put : Act
  put = Node (Daemon_put at bytes)

  -- the cell of an address takes the byte that is put at the address
  cell_put : (a : ℕ) (r : Option Registration) → registration_of acts ≡ r → last_put g (put ∷ acts) (home_cell r a) ≡ put_or (text_at bytes at a Daemon) (last_put g acts) (home_cell r a)
  cell_put a None e = ap (λ r. put_or (address_put_if (is_moved r a) g (last_put g acts) acts put a) (last_put g acts) (Iova a)) e
  cell_put a (Some r) e = by (nat_lt a r.size) refl where
    by : (t : Bool) → nat_lt a r.size ≡ t
        → last_put g (put ∷ acts) (if nat_lt a r.size then Area (r.base + a) else Iova a) ≡ put_or (text_at bytes at a Daemon) (last_put g acts) (if nat_lt a r.size then Area (r.base + a) else Iova a)
    by true f =
        let within : is_within r.base r.size (r.base + a) ≡ true = grind (arith, nat_tests, f) in
        let back : r.base + a - r.base ≡ a = omega arith in
        ap (λ t. last_put g (put ∷ acts) (if t then Area (r.base + a) else Iova a)) f
        ∙ ap (λ o. put_or (option_and_then (address_put g (last_put g acts) acts put) o) (last_put g acts) (Area (r.base + a)))
        (ap (λ o. area_address o (r.base + a)) e ∙ ap (λ t. if t then Some (r.base + a - r.base) else None) within ∙ ap Some back)
        ∙ sym (ap (λ t. put_or (text_at bytes at a Daemon) (last_put g acts) (if t then Area (r.base + a) else Iova a)) f)
    by false f =
        ap (λ t. last_put g (put ∷ acts) (if t then Area (r.base + a) else Iova a)) f
        ∙ ap (λ o. put_or (address_put_if (is_moved o a) g (last_put g acts) acts put a) (last_put g acts) (Iova a)) e
        ∙ ap (λ t. put_or (address_put_if t g (last_put g acts) acts put a) (last_put g acts) (Iova a)) f
        ∙ sym (ap (λ t. put_or (text_at bytes at a Daemon) (last_put g acts) (if t then Area (r.base + a) else Iova a)) f)

  pub shown_daemon_put : (a : ℕ) → (shown_put g (put ∷ acts) a).byte ≡ (if is_within at (length bytes) a then slice_index bytes (a - at) else (shown_put g acts a).byte)
  shown_daemon_put a =
      ap (λ p. p.byte) (cell_put a (registration_of acts) refl)
      ∙ text_put bytes at a Daemon (last_put g acts) (home_cell (registration_of acts) a)

-- a put at addresses that can be accessed writes them, and nothing else
pub daemon_put : (x : Setting) (acts : List Act) (at : ℕ) (bytes : List ℕ) → ((a : ℕ) → at ≤ a → a < at + length bytes → is_accessible x acts a ≡ true)
    → daemon_memory x (Node (Daemon_put at bytes) ∷ acts) ≡ written (daemon_memory x acts) at bytes
daemon_put x acts at bytes there = λ j a.
    written_is (is_accessible x acts) (is_accessible x acts) (λ a. (shown_put x.per_page acts a).byte) (λ a. (shown_put x.per_page (Node (Daemon_put at bytes) ∷ acts) a).byte)
    at bytes (λ a. refl) (shown_daemon_put x.per_page acts at bytes) there a j

-- where no bus fault is found, each address can be accessed
pub reached_all : (x : Setting) (acts : List Act) (at n : ℕ) → first_bus x acts at n ≡ None → (a : ℕ) → at ≤ a → a < at + n → is_accessible x acts a ≡ true
reached_all x acts at n none = first_failing_none (is_accessible x acts) at n none
