-- Refusals of the control node.
use Rattle.std.proofs.Common.{◌≡◌, ℕ, zero, suc, ◌+◌, ◌<◌, ◌≤◌, Bool, true, false, refl, ap, subst, ◌∙◌, sym, arith, Option, None, Some, List, [], ◌∷◌, length, find, nat_le, nat_lt, not, ◌==◌, ◌^◌, MatchOption, true≢false, Result}
use Rattle.std.proofs.Common.{Err as Wrong}
use Rattle.std.specs.Prelude.{is_some, IsTrue, ◌↔◌}
use Rattle.std.specs.List.{slice_get, list_any}
use Rattle.std.specs.Option.{option_map}
use Rattle.std.proofs.lemmas.Bool.Decides.{nat_tests}
use Rattle.vd_num.specs.declared.errno.Errno.TheVariants.{Exist, Nospc, Nodev, Busy, Inval}
use Rattle.vd_num.specs.declared.errno.Errno.{Errno}
use Rattle.vd_pool.specs.Memory.{PoolMemory as Pool}
use Rattle.vd_model.specs.Setting.{Setting}
use Rattle.vd_model.specs.Turn.{refusal_if}
use Rattle.vd_model.specs.declared.answer.Item.TheVariants.{Number}
use Rattle.vd_abi.specs.declared.control.DevConfig.{DevConfig}
use Rattle.vd_abi.specs.declared.control.DevName.{DevName}
use Rattle.vd_abi.specs.Layout.{ShowsEach}
use Rattle.vd_abi.specs.Structs.{is_dev_config, dev_config, is_dev_name, dev_name}
use Rattle.vd_control.specs.Checks.{is_refused}
use Rattle.vd_model.specs.declared.step.ControlStep.TheVariants as control
use Rattle.vd_model.specs.Raw.{some_if, name_in, config_step, control_step}
use Rattle.vd_model.specs.declared.memory.Window.{Window}
use Rattle.vd_model.specs.Deeds.{Deed, Made, Destroyed, Given, Passed, made_with, has_device, devices, window_of, is_given}
use Rattle.vd_model.specs.ControlTurns.{Outcome, create_outcome, tick_outcome, raw_outcome, refuse_outcome, refusal_outcome, done_outcome, new_or, destroy_outcome, is_device_in_use, image_outcome}
use Rattle.vd_engine.specs.declared.devices.Named.{Named}
use Rattle.vd_engine.specs.declared.windows.Given.{Given as Holding}
use Rattle.vd_engine.specs.declared.engine.Engine.{Engine}
use Rattle.vd_engine.specs.Windows.{given_window, has_window, shares_sector}
use Rattle.vd_engine.specs.Machine.{NoneIs, FirstIs, DeviceIs, AllStand, StandsAt}
use Rattle.vd_engine.proofs.Deeds.{found_stands}

pub none_of : (P : Type 0) (Q : ℕ → Type 0) (o : Option ℕ) → MatchOption o P Q → is_some o ≡ false → P
none_of P Q None h e = h
none_of P Q (Some i) h e = cc

pub some_of : (P : Type 0) (Q : ℕ → Type 0) (o : Option ℕ) → MatchOption o P Q → is_some o ≡ true → (i : ℕ) × Q i
some_of P Q None h e = cc
some_of P Q (Some i) h e = (i, h)

missing : (xs : List Named) (k : ℕ) → k < length xs → slice_get xs k ≡ None → ⊥
missing [] k below g = omega arith
missing (y ∷ ys) zero below g = cc
missing (y ∷ ys) (suc k) below g = missing ys k (omega arith) g

module _ (x : Setting) (done : List Deed) (ds : List Named) (m : Pool) (s : AllStand x done ds m) (name : List ℕ) where
  pub has_that : (i : ℕ) → FirstIs name ds i → has_device name done ≡ true
  has_that i first = by (slice_get ds i) refl where
    by : (o : Option Named) → slice_get ds i ≡ o → has_device name done ≡ true
    by None e = absurd (missing ds i first.within e)
    by (Some d) e = ap is_some (found_stands x done ds m s name i d first e).with_that

  pub has_none : NoneIs name ds → has_device name done ≡ false
  has_none none = let gone : made_with name done ≡ None = subst (λ o. DeviceIs x name done o m) none (s.each name) in ap is_some gone

  -- ---- a new device

  pub exists_refused : (i : ℕ) → FirstIs name ds i → (outcome : Outcome) → new_or done name outcome ≡ refusal_outcome Exist
  exists_refused i first outcome = ap (λ b. refuse_outcome (refusal_if b Exist) (refuse_outcome (refusal_if (nat_le 8 (devices done)) Nospc) outcome)) (has_that i first)

  pub full_refused : NoneIs name ds → 8 ≤ length ds → (outcome : Outcome) → new_or done name outcome ≡ refusal_outcome Nospc
  full_refused none full outcome =
      let count : nat_le 8 (devices done) ≡ true = grind (arith, nat_tests, s.count) in
      ap (λ b. refuse_outcome (refusal_if b Exist) (refuse_outcome (refusal_if (nat_le 8 (devices done)) Nospc) outcome)) (has_none none)
      ∙ ap (λ b. refuse_outcome (refusal_if b Nospc) outcome) count

  pub new_taken : NoneIs name ds → length ds < 8 → (outcome : Outcome) → new_or done name outcome ≡ outcome
  new_taken none room outcome =
      let count : nat_le 8 (devices done) ≡ false = grind (arith, nat_tests, s.count) in
      ap (λ b. refuse_outcome (refusal_if b Exist) (refuse_outcome (refusal_if (nat_le 8 (devices done)) Nospc) outcome)) (has_none none)
      ∙ ap (λ b. refuse_outcome (refusal_if b Nospc) outcome) count

  -- ---- a device that goes

  pub absent_refused : NoneIs name ds → destroy_outcome done name ≡ refusal_outcome Nodev
  absent_refused none = ap (λ b. refuse_outcome (refusal_if (not b) Nodev) (refuse_outcome (refusal_if (is_device_in_use name done) Busy) (done_outcome [] (Destroyed name ∷ [])))) (has_none none)

  pub destroy_is : (i : ℕ) → FirstIs name ds i → (used : Bool) → is_device_in_use name done ≡ used → destroy_outcome done name ≡ refuse_outcome (refusal_if used Busy) (done_outcome [] (Destroyed name ∷ []))
  destroy_is i first used e =
      ap (λ b. refuse_outcome (refusal_if (not b) Nodev) (refuse_outcome (refusal_if (is_device_in_use name done) Busy) (done_outcome [] (Destroyed name ∷ [])))) (has_that i first)
      ∙ ap (λ b. refuse_outcome (refusal_if b Busy) (done_outcome [] (Destroyed name ∷ []))) e

-- ---- sectors of the image

has_at : (o : Option Window) (w : Option Window) → w ≡ o → (b : Bool) → is_some w ≡ b → is_some o ≡ b
has_at o w e b f = ap is_some (sym e) ∙ f

module _ (x : Setting) (done : List Deed) (e : Engine) (s : StandsAt x done e.asked e) (name : List ℕ) (first count : ℕ) where
  image_by : (a b c d f : Bool) → has_device name done ≡ a → is_some (window_of name done) ≡ b → (count == 0) ≡ c → nat_lt x.sectors (first + count) ≡ d → is_given first count done ≡ f
      → image_outcome x done name first count
      ≡ refuse_outcome (refusal_if (not a) Nodev) (refuse_outcome (refusal_if b Exist) (refuse_outcome (refusal_if c Inval) (refuse_outcome (refusal_if d Nospc)
      (refuse_outcome (refusal_if f Busy) (done_outcome [] (Given name (record { first = first; count = count }) ∷ []))))))
  image_by a b c d f p q r t u = rw (p, q, r, t, u) refl

  pub image_absent : NoneIs name e.devices.items → image_outcome x done name first count ≡ refusal_outcome Nodev
  image_absent none = image_by false (is_some (window_of name done)) (count == 0) (nat_lt x.sectors (first + count)) (is_given first count done)
      (has_none x done e.devices.items e.pool s.devices name none) refl refl refl refl

  module _ (i : ℕ) (there : FirstIs name e.devices.items i) where
    here : has_device name done ≡ true
    here = has_that x done e.devices.items e.pool s.devices name i there

    module _ (w : Option Window) (is : w ≡ option_map given_window (find (has_window name) e.windows.items)) where
      has : (b : Bool) → is_some w ≡ b → is_some (window_of name done) ≡ b
      has b f = has_at (window_of name done) w (is ∙ s.windows.window name) b f

      pub image_had : is_some w ≡ true → image_outcome x done name first count ≡ refusal_outcome Exist
      image_had f = image_by true true (count == 0) (nat_lt x.sectors (first + count)) (is_given first count done) here (has true f) refl refl refl

      module _ (free : is_some w ≡ false) where
        pub image_empty : count ≡ 0 → image_outcome x done name first count ≡ refusal_outcome Inval
        image_empty f = image_by true false true (nat_lt x.sectors (first + count)) (is_given first count done) here (has false free) (ap (λ n. n == 0) f) refl refl

        module _ (some : 0 < count) where
          not_empty : (count == 0) ≡ false
          not_empty = grind (arith, nat_tests)

          past : (b : Bool) → nat_lt e.sectors (first + count) ≡ b → nat_lt x.sectors (first + count) ≡ b
          past b f = ap (λ n. nat_lt n (first + count)) (sym s.sectors) ∙ f

          pub image_beyond : nat_lt e.sectors (first + count) ≡ true → image_outcome x done name first count ≡ refusal_outcome Nospc
          image_beyond f = image_by true false false true (is_given first count done) here (has false free) not_empty (past true f) refl

          module _ (within : nat_lt e.sectors (first + count) ≡ false) where
            pub image_met : list_any (shares_sector first count) e.windows.items ≡ true → image_outcome x done name first count ≡ refusal_outcome Busy
            image_met f = image_by true false false false true here (has false free) not_empty (past false within) (sym (s.windows.taken first count) ∙ f)

            pub image_free : list_any (shares_sector first count) e.windows.items ≡ false
                → image_outcome x done name first count ≡ done_outcome [] (Given name (record { first = first; count = count }) ∷ [])
            image_free f = image_by true false false false false here (has false free) not_empty (past false within) (sym (s.windows.taken first count) ∙ f)

-- no window is found
pub unfound : (o : Option Holding) (w : Option Window) → w ≡ option_map given_window o → is_some w ≡ false → o ≡ None
unfound None w is free = refl
unfound (Some g) w is free = absurd (true≢false (ap is_some (sym is) ∙ free))

-- ---- the clock

pub tick_is : (at now : ℕ) → now ≡ at → now ≤ 2 ^ 40 → tick_outcome at ≡ done_outcome (Number now ∷ []) (Passed now ∷ [])
tick_is at now same low =
    let within : nat_lt (2 ^ 40) at ≡ false = grind (arith, nat_tests) in
    ap (λ b. refuse_outcome (refusal_if b Inval) (done_outcome (Number at ∷ []) (Passed at ∷ []))) within ∙ ap (λ k. done_outcome (Number k ∷ []) (Passed k ∷ [])) (sym same)

-- ---- what a device may be made of

refused_true : (b : Bool) → ((false ≡ true) ↔ IsTrue (not b)) → b ≡ true
refused_true true h = refl
refused_true false h = absurd (true≢false (sym (h.1 refl)))

taken_false : (b : Bool) → ((true ≡ true) ↔ IsTrue (not b)) → b ≡ false
taken_false false h = refl
taken_false true h = absurd (true≢false (sym (h.0 refl)))

pub create_refused : (done : List Deed) (c : DevConfig) → ((false ≡ true) ↔ IsTrue (not (is_refused c))) → create_outcome done c.name c.device_id c.features c.vq_num c.vq_align c.config ≡ refusal_outcome Inval
create_refused done c taken =
    ap (λ b. refuse_outcome (refusal_if b Inval) (new_or done c.name (done_outcome [] (Made c.name (record { features = c.features; queues = c.vq_num; config = c.config }) ∷ [])))) (refused_true (is_refused c) taken)

pub create_taken : (done : List Deed) (c : DevConfig) → ((true ≡ true) ↔ IsTrue (not (is_refused c)))
    → create_outcome done c.name c.device_id c.features c.vq_num c.vq_align c.config ≡ new_or done c.name (done_outcome [] (Made c.name (record { features = c.features; queues = c.vq_num; config = c.config }) ∷ []))
create_taken done c taken =
    ap (λ b. refuse_outcome (refusal_if b Inval) (new_or done c.name (done_outcome [] (Made c.name (record { features = c.features; queues = c.vq_num; config = c.config }) ∷ [])))) (taken_false (is_refused c) taken)

pub only_inval : {X : Type 0} (b : Bool) (errno : Errno) → ((false ≡ true) ↔ IsTrue (not b)) → ((◌≡◌ {A = Result X Errno} (Wrong errno) (Wrong Inval)) ↔ IsTrue b) → errno ≡ Inval
only_inval {X} b errno taken refused = let same : ◌≡◌ {A = Result X Errno} (Wrong errno) (Wrong Inval) = refused.1 (refused_true b taken) in cc

-- ---- raw lines

six : {A B C D E F X : Type 0} (f : A → B → C → D → E → F → X) (a a' : A) (b b' : B) (c c' : C) (d d' : D) (e e' : E) (g g' : F) → a' ≡ a → b' ≡ b → c' ≡ c → d' ≡ d → e' ≡ e → g' ≡ g → f a b c d e g ≡ f a' b' c' d' e' g'
six f a a' b b' c c' d d' e e' g g' p q r s t u = cc

pub no_config : (x : Setting) (done : List Deed) (bytes : List ℕ) → is_dev_config bytes ≡ false → raw_outcome x done (control_step 2 bytes) ≡ refusal_outcome Inval
no_config x done bytes e = ap (λ b. raw_outcome x done (some_if b (config_step bytes))) e

pub config_read : (x : Setting) (done : List Deed) (bytes : List ℕ) (c : DevConfig) → is_dev_config bytes ≡ true → ShowsEach bytes (dev_config c)
    → raw_outcome x done (control_step 2 bytes) ≡ create_outcome done c.name c.device_id c.features c.vq_num c.vq_align c.config
config_read x done bytes c e h =
    ap (λ b. raw_outcome x done (some_if b (config_step bytes))) e
    ∙ six (create_outcome done) _ _ _ _ _ _ _ _ _ _ _ _ h.0 h.1.1.0 h.1.1.1.0 h.1.1.1.1.0 h.1.1.1.1.1.0 h.1.1.1.1.1.1.1.1.0

pub no_name : (x : Setting) (done : List Deed) (bytes : List ℕ) → is_dev_name bytes ≡ false → raw_outcome x done (control_step 3 bytes) ≡ refusal_outcome Inval
no_name x done bytes e = ap (λ b. raw_outcome x done (some_if b (control.Destroy (name_in bytes)))) e

pub name_read : (x : Setting) (done : List Deed) (bytes : List ℕ) (d : DevName) → is_dev_name bytes ≡ true → ShowsEach bytes (dev_name d) → raw_outcome x done (control_step 3 bytes) ≡ destroy_outcome done d.name
name_read x done bytes d e h = ap (λ b. raw_outcome x done (some_if b (control.Destroy (name_in bytes)))) e ∙ ap (destroy_outcome done) (sym h.0)

-- no number of the control node
pub no_number : (x : Setting) (done : List Deed) (number : ℕ) (bytes : List ℕ) → 3 < number → raw_outcome x done (control_step number bytes) ≡ refusal_outcome Inval
no_number x done number bytes above =
    let one : (number == 1) ≡ false = grind (arith, nat_tests) in
    let two : (number == 2) ≡ false = grind (arith, nat_tests) in
    let three : (number == 3) ≡ false = grind (arith, nat_tests) in
    let none : (number == 0) ≡ false = grind (arith, nat_tests) in
    rw (one, two, three, none) refl
