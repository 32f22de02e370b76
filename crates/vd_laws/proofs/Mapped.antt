-- The one recursion for a page's presence says the same as the last act that decides it.
use Rattle.std.proofs.Common.{◌≡◌, ℕ, Bool, true, false, refl, ap, ◌∙◌, sym, List, [], ◌∷◌, ◌==◌, ◌&&◌, ◌||◌, not, is_some, ◌⊎◌, inl, inr}
use Rattle.std.proofs.lemmas.Bool.{and_from}
use Rattle.vd_model.specs.Acts.{Act, Node, Driver, Streaming, Mapped, Unmapped, Registered, Deregistered}
use Rattle.vd_model.specs.Live.{live_mappings, registration_of, meets_page, is_in_use, is_present}
use Rattle.vd_laws.specs.Among.{Among}
use Rattle.vd_laws.specs.Presence.{was_mapped}
use Rattle.vd_laws.proofs.Lists.{pushed, filtered, any_found, any_true}
use Rattle.vd_laws.proofs.Pages.{or_true}

module _ (g page : ℕ) where
  live_mappings_mapped : (acts : List Act) (m : Streaming) → Among m (live_mappings acts) → meets_page g page m ≡ true → was_mapped g acts page ≡ true
  live_mappings_mapped [] m there c = absurd there
  live_mappings_mapped (Driver (Mapped n) ∷ acts) m there c = by (pushed m n (live_mappings acts) there) (λ k. live_mappings_mapped acts m k c) where
    by : Among m (live_mappings acts) ⊎ (m ≡ n) → (Among m (live_mappings acts) → was_mapped g acts page ≡ true) → (meets_page g page n || was_mapped g acts page) ≡ true
    by (inl k) later = ap (λ b. meets_page g page n || b) (later k) ∙ or_true (meets_page g page n)
    by (inr e) later = ap (λ l. meets_page g page l || was_mapped g acts page) (sym e) ∙ ap (λ b. b || was_mapped g acts page) c
  live_mappings_mapped (Driver (Unmapped n) ∷ acts) m there c = live_mappings_mapped acts m (filtered (λ l. not (l.number == n.number)) m (live_mappings acts) there).0 c
  live_mappings_mapped (Node Deregistered ∷ acts) m there c = and_from (is_in_use g acts page) (was_mapped g acts page) (any_true (meets_page g page) m (live_mappings acts) there c) (live_mappings_mapped acts m there c)
  live_mappings_mapped (_ ∷ acts) m there c = live_mappings_mapped acts m there c

  pub present_is : (acts : List Act) → is_present g acts page ≡ (is_some (registration_of acts) || was_mapped g acts page)
  present_is [] = refl
  present_is (Driver (Mapped m) ∷ acts) = ap (λ b. meets_page g page m || b) (present_is acts) ∙ swap (meets_page g page m) (is_some (registration_of acts)) where
    swap : (b c : Bool) → (b || (c || was_mapped g acts page)) ≡ (c || (b || was_mapped g acts page))
    swap true true = refl
    swap true false = refl
    swap false c = refl
  present_is (Node (Registered base size) ∷ acts) = refl
  present_is (Node Deregistered ∷ acts) = by (is_in_use g acts page) refl where
    by : (b : Bool) → is_in_use g acts page ≡ b → b ≡ (b && was_mapped g acts page)
    by false e = refl
    by true e = let m = any_found (meets_page g page) (live_mappings acts) e in sym (live_mappings_mapped acts m.0 m.1 m.2)
  present_is (_ ∷ acts) = present_is acts
