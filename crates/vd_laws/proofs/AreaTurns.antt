-- The daemon's turns on its memory are legal, and make no act of the driver.
use Rattle.std.proofs.Common.{◌≡◌, ℕ, ◌+◌, ◌*◌, ◌-◌, ◌%◌, ◌<◌, ◌≤◌, Bool, true, false, refl, ap, ◌∙◌, arith, Option, None, Some, List, [], ◌∷◌, ◌==◌, ◌&&◌, ◌||◌, not, nat_le, nat_lt, length, is_some, unwrap_or}
use Rattle.std.specs.Option.{option_map_or}
use Rattle.std.proofs.lemmas.Bool.{and_parts, leb-true, eqb-true}
use Rattle.std.proofs.lemmas.Bool.Decides.{nat_tests}
use Rattle.std.proofs.Math.Nat.{mod-zero}
use Rattle.vd_num.specs.declared.errno.Errno.TheVariants.{Noent, Inval, Busy, Exist}
use Rattle.vd_model.specs.declared.memory.Region.{Region}
use Rattle.vd_model.specs.declared.step.AreaStep.{AreaStep}
use Rattle.vd_model.specs.declared.step.AreaStep.TheVariants as area
use Rattle.vd_model.specs.declared.answer.Tag.TheVariants.{Base}
use Rattle.vd_model.specs.declared.answer.Item.TheVariants.{Word, Address, Text}
use Rattle.vd_model.specs.declared.answer.Answer.TheVariants.{Bus}
use Rattle.vd_model.specs.Setting.{Setting, bounce_size}
use Rattle.vd_model.specs.Acts.{Act, NodeAct, Node, Daemon_put, Area_made, Area_put, Registered, Deregistered}
use Rattle.vd_model.specs.Live.{Registration, registration_of, area_len}
use Rattle.vd_model.specs.Puts.{bus_bytes, area_bytes}
use Rattle.vd_model.specs.Turn.{Turn, refuse, refusal_turn, refusal_if, done_with}
use Rattle.vd_model.specs.AreaTurns.{first_bus, bus_or, first_region, daemon_regions, found_or, lookup_turn, iovainfo_turn, area_start, area_limit, part_refusal, may_register, area_turn}
use Rattle.vd_laws.proofs.Legal.{Legal}
use Rattle.vd_laws.proofs.Refusals.{IsLegal, refuse_legal, or_refused, not_given, not_not}

is_none : (o : Option Registration) → is_some o ≡ false → o ≡ None
is_none None e = refl
is_none (Some r) e = cc

-- a page of no slots has no address of the area
no_page : (g : ℕ) (address : ℕ) → address % (4096 * g) ≡ 0 → area_start ≤ address → 0 < g
no_page g address e far = by (nat_lt 0 g) refl where
  by : (b : Bool) → nat_lt 0 g ≡ b → 0 < g
  by true f = grind (arith, nat_tests)
  by false f =
      let none : g ≡ 0 = grind (arith, nat_tests) in
      let whole : address % (4096 * g) ≡ address % 0 = ap (λ k. address % (4096 * k)) none in
      let same : address % (4096 * g) ≡ address = whole ∙ mod-zero address in
      absurd (omega arith)

module _ (x : Setting) (done : List Act) (legal : Legal x done) where
  bus_legal : (at len : ℕ) (turn : Turn NodeAct) → IsLegal x Node done turn → IsLegal x Node done (bus_or x done at len turn)
  bus_legal at len turn h = by (first_bus x done at len) where
    by : (o : Option ℕ) → IsLegal x Node done (option_map_or (λ bad. record { answer = Bus bad; acts = [] }) o turn)
    by None = h
    by (Some bad) = legal

  pub found_legal : (start last : ℕ) (turn : Region → Turn NodeAct) → ((r : Region) → IsLegal x Node done (turn r)) → IsLegal x Node done (found_or x done start last turn)
  found_legal start last turn h =
      refuse_legal x Node done legal (refusal_if (nat_lt last start) Inval) (option_map_or turn (first_region (daemon_regions x done) start last) (refusal_turn Inval)) (λ e.
      or_refused x Node done legal turn (first_region (daemon_regions x done) start last) Inval (λ r f. h r))

  registers : (address iova size : ℕ) → may_register x done address iova size ≡ true → 0 < x.per_page
  registers address iova size e =
      let a = and_parts _ (nat_le (address + size) (area_start + unwrap_or (area_len done) 0)) e in
      let b = and_parts _ (nat_le area_start address) a.0 in
      let c = and_parts _ ((address % (4096 * x.per_page)) == 0) b.0 in
      no_page x.per_page address (eqb-true (address % (4096 * x.per_page)) 0 c.1) (leb-true area_start address b.1)

  pub area_legal : (step : AreaStep) → IsLegal x Node done (area_turn x done step)
  area_legal (area.Lookup start last) = found_legal start last lookup_turn (λ r. legal)
  area_legal (area.IovaInfo start last) = found_legal start last iovainfo_turn (λ r. legal)
  area_legal (area.Area len) =
      let last : Turn NodeAct = refuse (refusal_if (is_some (registration_of done)) Busy) (done_with (Word Base ∷ Address area_start ∷ []) (Area_made len ∷ [])) in
      refuse_legal x Node done legal (refusal_if ((len == 0) || not ((len % 4096) == 0) || nat_lt area_limit len) Inval) last (λ e.
      refuse_legal x Node done legal (refusal_if (is_some (registration_of done)) Busy) (done_with (Word Base ∷ Address area_start ∷ []) (Area_made len ∷ [])) (λ f.
      (is_none (registration_of done) (not_given _ Busy f), legal)))
  area_legal (area.AreaPut at bytes) = refuse_legal x Node done legal (part_refusal (area_len done) at (length bytes)) (done_with [] (Area_put at bytes ∷ [])) (λ e. (tt, legal))
  area_legal (area.AreaGet at len) = refuse_legal x Node done legal (part_refusal (area_len done) at len) (done_with (Text (area_bytes x.per_page done at len) ∷ []) []) (λ e. legal)
  area_legal (area.RegUmem address iova size) =
      let last : Turn NodeAct = refuse (refusal_if (is_some (registration_of done)) Exist) (done_with [] (Registered (address - area_start) (bounce_size x) ∷ [])) in
      refuse_legal x Node done legal (refusal_if (not (may_register x done address iova size)) Inval) last (λ e.
      refuse_legal x Node done legal (refusal_if (is_some (registration_of done)) Exist) (done_with [] (Registered (address - area_start) (bounce_size x) ∷ [])) (λ f.
      ((is_none (registration_of done) (not_given _ Exist f), refl, registers address iova size (not_not _ (not_given _ Inval e))), legal)))
  area_legal (area.DeregUmem iova size) =
      let last : Turn NodeAct = refuse (refusal_if (not ((iova == 0) && (size == bounce_size x))) Inval) (done_with [] (Deregistered ∷ [])) in
      refuse_legal x Node done legal (refusal_if (not (is_some (registration_of done))) Noent) last (λ e.
      refuse_legal x Node done legal (refusal_if (not ((iova == 0) && (size == bounce_size x))) Inval) (done_with [] (Deregistered ∷ [])) (λ f. (tt, legal)))
  area_legal (area.Load at len) = bus_legal at len (done_with (Text (bus_bytes x.per_page done at len) ∷ []) []) legal
  area_legal (area.Store at bytes) = bus_legal at (length bytes) (done_with [] (Daemon_put at bytes ∷ [])) (tt, legal)
