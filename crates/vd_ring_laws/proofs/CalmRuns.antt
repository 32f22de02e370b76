-- When a small run of lines on the device `v` is calm.
use Rattle.std.proofs.Common.{◌≡◌, ℕ, zero, suc, true, false, cond, refl, ap, subst, sym, ◌∙◌, None, List, [], ◌∷◌, ◌++◌, IsTrue, inl, inr, true≢false}
use Rattle.std.proofs.lemmas.Bool.{ne_eqb}
use Rattle.vd_model.specs.Setting.{Setting}
use Rattle.vd_model.specs.Acts.{state_acts}
use Rattle.vd_model.specs.State.{StateAct, Max_set, Num_set, Addr_set, Ready_set, is_ready}
use Rattle.vd_model.specs.Queues.{Ring, ring_of}
use Rattle.vd_model.specs.History.{Entry, History}
use Rattle.vd_laws.specs.Among.{Among}
use Rattle.vd_laws.specs.Runs.{acts_of}
use Rattle.vd_laws.specs.Small.{v}
use Rattle.vd_ring_laws.specs.Calm.{is_calm, IsDescribed, IsCalm}
use Rattle.vd_ring_laws.proofs.Spans.{Adds, AreLines, lines_add, ring_inside}

-- ---- each of a list's ends

abbrev pub Each : (History → Type 0) → History → Type 0
Each P [] = P []
Each P (entry ∷ h) = P (entry ∷ h) × Each P h

pub each : (P : History → Type 0) (h : History) → Each P h → (later g : History) → h ≡ later ++ g → P g
each P [] a [] g e = by g e where
  by : (g : History) → [] ≡ g → P g
  by [] e = a
  by (x ∷ g) e = cc
each P [] a (x ∷ later) g e = cc
each P (y ∷ h) a [] g e = subst P e a.0
each P (y ∷ h) a (x ∷ later) g e = each P h a.1 later g cc

abbrev pub AllOf : (Entry → Type 0) → List Entry → Type 0
AllOf P [] = Unit {0}
AllOf P (x ∷ xs) = P x × AllOf P xs

pub all_among : (P : Entry → Type 0) (xs : List Entry) → AllOf P xs → (m : Entry) → Among m xs → P m
all_among P [] a m h = absurd h
all_among P (x ∷ xs) a m (inl e) = subst P (sym e) a.0
all_among P (x ∷ xs) a m (inr h) = all_among P xs a.1 m h

-- ---- the queue of the runs

abbrev pub AreDescribed : Setting → History → Type 0
AreDescribed x g = (q : ℕ) → IsTrue (is_ready (state_acts (acts_of x g v)) q) → IsDescribed (acts_of x g v) q

-- what was told of the queue before it was ready
abbrev pub told : List StateAct
told = Addr_set 0 0xf000 0xf040 0xf050 ∷ Num_set 0 4 ∷ Max_set 0 256 ∷ []

pub described_is : (x : Setting) (g : History) → state_acts (acts_of x g v) ≡ Ready_set 0 true ∷ told → IsDescribed (acts_of x g v) 0 → AreDescribed x g
described_is x g e d zero h = d
described_is x g e d (suc q) h = absurd (true≢false (sym h ∙ (ap (λ l. is_ready l (suc q)) e ∙ ap (λ b. cond b true false) (ne_eqb 0 (suc q) (λ f. cc)))))

pub idle_is : (x : Setting) (g : History) (acts : List StateAct) → state_acts (acts_of x g v) ≡ acts → ((q : ℕ) → is_ready acts q ≡ false) → AreDescribed x g
idle_is x g acts e idle q h = absurd (true≢false (sym h ∙ (ap (λ l. is_ready l q) e ∙ idle q)))

abbrev pub there : Ring
there = record { place = record { size = 4; desc = 0xf000; driver = 0xf040; device = 0xf050 }; region = 0 }

-- ---- the condition

-- a span of lines on devices, each of them calm, after a history that leaves no ring
abbrev pub calm_run : (x : Setting) (start : History) (span : List Entry) → AreLines span → ((q : ℕ) → ring_of (acts_of x start v) q ≡ None)
    → Each (AreDescribed x) (span ++ start) → AllOf (λ e. IsTrue (is_calm e.step)) span → IsCalm x (span ++ start) v
calm_run x start span lines none described calm =
    let added : Adds x v (span ++ start) start = lines_add x v start span lines in
    record {
      span = span;
      start = start;
      split = refl;
      acts = added.0;
      acted = added.1;
      made = λ q r e. ring_inside added.0 (acts_of x start v) q r (none q) (ap (λ l. ring_of l q) (sym added.1) ∙ e);
      described = λ later g e. each (AreDescribed x) (span ++ start) described later g e;
      calm = λ entry h c. all_among (λ e. IsTrue (is_calm e.step)) span calm entry h;
    }
