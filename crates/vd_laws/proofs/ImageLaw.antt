-- Windows of two names don't meet, and what is stored lies in the window, so each window holds what its own name stored.
use Rattle.std.proofs.Common.{◌≡◌, ℕ, ◌+◌, ◌-◌, ◌*◌, ◌<◌, ◌≤◌, Bool, true, false, refl, ap, subst, ◌∙◌, sym, arith, Option, None, Some, cond, nat_lt, nat_le, List, [], ◌∷◌, ◌++◌, length, ◌||◌, ◌&&◌, ◌==◌, not, map, is_some, inl, inr, true≢false}
use Rattle.std.specs.Prelude.{unwrap_or, slice_get}
use Rattle.std.specs.Option.{option_map_or}
use Rattle.std.specs.Str.{bytes_eq}
use Rattle.std.proofs.lemmas.Bool.Decides.{nat_tests}
use Rattle.std.proofs.lemmas.Option.{slice_get_past}
use Rattle.vd_num.specs.declared.errno.Errno.TheVariants.{Busy, Exist, Nodev, Inval, Nospc}
use Rattle.vd_model.specs.declared.memory.Window.{Window}
use Rattle.vd_model.specs.declared.step.Step.{Step}
use Rattle.vd_model.specs.declared.step.Step.TheVariants.{Control, Device, Queue}
use Rattle.vd_model.specs.declared.step.ControlStep.{ControlStep}
use Rattle.vd_model.specs.declared.step.ControlStep.TheVariants as control
use Rattle.vd_model.specs.Setting.{Setting}
use Rattle.vd_model.specs.Acts.{Act, Node, Driver, Bus, Message_act, State, Disk_act, Stored}
use Rattle.vd_model.specs.Acts as acted
use Rattle.vd_model.specs.Puts.{byte_in}
use Rattle.vd_model.specs.Raw.{control_step}
use Rattle.vd_model.specs.Turn.{refusal_if}
use Rattle.vd_model.specs.Deeds.{Deed, Made, Destroyed, On, Given, Passed, device_view, clock, window_of, is_given, has_device, image_byte, acts_of_name, window_byte}
use Rattle.vd_model.specs.ControlTurns.{done_outcome, refuse_outcome, control_outcome, plain_outcome, raw_outcome}
use Rattle.vd_model.specs.History.{History, deeds_of, outcome, device_turn, device_queue_turn}
use Rattle.vd_laws.proofs.IsolationLaw.{name_is, granted, if_done_either, plain_does}
use Rattle.vd_laws.proofs.Heard.{Fits, device_fair, device_queue_fair}

-- ---- bytes in a list

-- no byte stands there
byte_out : (bytes : List ℕ) (from at : ℕ) → (from ≤ at → at < from + length bytes → ⊥) → byte_in bytes from at ≡ None
byte_out bytes from at out = by (nat_le from at) refl where
  by : (b : Bool) → nat_le from at ≡ b → cond b (slice_get bytes (at - from)) None ≡ None
  by true e = slice_get_past bytes (at - from) (let low : from ≤ at = grind (arith, nat_tests, e) in past low (nat_lt (at - from) (length bytes)) refl) where
    past : from ≤ at → (b : Bool) → nat_lt (at - from) (length bytes) ≡ b → length bytes ≤ at - from
    past low true f = absurd (out low (grind (arith, nat_tests, f, low)))
    past low false f = grind (arith, nat_tests, f)
  by false e = refl

-- both places moved by the same number
byte_moved : (bytes : List ℕ) (base from at : ℕ) → byte_in bytes (base + from) (base + at) ≡ byte_in bytes from at
byte_moved bytes base from at =
    ap (λ b. cond b (slice_get bytes ((base + at) - (base + from))) None) test ∙ ap (λ n. cond (nat_le from at) (slice_get bytes n) None) less where
      test : nat_le (base + from) (base + at) ≡ nat_le from at
      test = grind (arith, nat_tests)

      less : (base + at) - (base + from) ≡ at - from
      less = omega arith

-- ---- windows that don't meet

-- the bytes of a window
abbrev size_of : Option Window → ℕ
size_of o = 512 * option_map_or (λ w. w.count) o 0

-- what was tested before a deed
abbrev Admit : List Deed → Deed → Type 0
Admit before (Given name w) = (window_of name before ≡ None) × (is_given w.first w.count before ≡ false)
Admit before (On name (Disk_act (Stored at bytes))) = at + length bytes ≤ size_of (window_of name before)
Admit before _ = Unit {0}

abbrev Good : List Deed → Type 0
Good [] = Unit {0}
Good (deed ∷ before) = Admit before deed × Good before

-- a window that was given isn't met by one that is free
free_apart : (name : List ℕ) (done : List Deed) (w : Window) (first count : ℕ) → is_given first count done ≡ false → window_of name done ≡ Some w
    → (nat_lt first (w.first + w.count) && nat_lt w.first (first + count)) ≡ false
free_apart name [] w first count free e = cc
free_apart name (Given given v ∷ done) w first count free e = by (bytes_eq name given) (nat_lt first (v.first + v.count) && nat_lt v.first (first + count)) refl free e (free_apart name done w first count) where
  by : (b meets : Bool) → (nat_lt first (v.first + v.count) && nat_lt v.first (first + count)) ≡ meets → (meets || is_given first count done) ≡ false → cond b (Some v) (window_of name done) ≡ Some w
      → (is_given first count done ≡ false → window_of name done ≡ Some w → (nat_lt first (w.first + w.count) && nat_lt w.first (first + count)) ≡ false) → (nat_lt first (w.first + w.count) && nat_lt w.first (first + count)) ≡ false
  by b true f g h rest = cc
  by true false f g h rest = let same : v ≡ w = cc in subst (λ w. (nat_lt first (w.first + w.count) && nat_lt w.first (first + count)) ≡ false) same f
  by false false f g h rest = rest g h
free_apart name (Made other creation ∷ done) w first count free e = free_apart name done w first count free e
free_apart name (Destroyed other ∷ done) w first count free e = free_apart name done w first count free e
free_apart name (On other act ∷ done) w first count free e = free_apart name done w first count free e
free_apart name (Passed now ∷ done) w first count free e = free_apart name done w first count free e

-- bytes of two windows that share no sector
clear : (u v : Window) (i j : ℕ) → (nat_lt u.first (v.first + v.count) && nat_lt v.first (u.first + u.count)) ≡ false → i < 512 * u.count → j < 512 * v.count → 512 * u.first + i ≡ 512 * v.first + j → ⊥
clear u v i j none low high same = by (nat_lt u.first (v.first + v.count)) refl (nat_lt v.first (u.first + u.count)) refl none where
  by : (b : Bool) → nat_lt u.first (v.first + v.count) ≡ b → (c : Bool) → nat_lt v.first (u.first + u.count) ≡ c → (b && c) ≡ false → ⊥
  by true e true f g = cc
  by true e false f g = let past : u.first + u.count ≤ v.first = grind (arith, nat_tests, f) in absurd (omega arith)
  by false e c f g = let past : v.first + v.count ≤ u.first = grind (arith, nat_tests, e) in absurd (omega arith)

-- windows of two names don't meet
apart : (done : List Deed) → Good done → (m n : List ℕ) (v w : Window) → window_of m done ≡ Some v → window_of n done ≡ Some w → bytes_eq m n ≡ false
    → (i j : ℕ) → i < 512 * v.count → j < 512 * w.count → 512 * v.first + i ≡ 512 * w.first + j → ⊥
apart [] good m n v w e f other i j low high same = cc
apart (Made k creation ∷ done) good m n v w e f other i j low high same = apart done good.1 m n v w e f other i j low high same
apart (Destroyed k ∷ done) good m n v w e f other i j low high same = apart done good.1 m n v w e f other i j low high same
apart (On k act ∷ done) good m n v w e f other i j low high same = apart done good.1 m n v w e f other i j low high same
apart (Passed now ∷ done) good m n v w e f other i j low high same = apart done good.1 m n v w e f other i j low high same
apart (Given k u ∷ done) good m n v w e f other i j low high same = by (λ g h. apart done good.1 m n v w g h other i j low high same) (bytes_eq m k) refl (bytes_eq n k) refl e f where
  by : (window_of m done ≡ Some v → window_of n done ≡ Some w → ⊥) → (b : Bool) → bytes_eq m k ≡ b → (c : Bool) → bytes_eq n k ≡ c → cond b (Some u) (window_of m done) ≡ Some v → cond c (Some u) (window_of n done) ≡ Some w → ⊥
  by later true p true q g h = absurd (true≢false (sym (subst (λ l. bytes_eq m l ≡ true) (sym (name_is n k q)) p) ∙ other))
  by later true p false q g h =
      let is : u ≡ v = cc in
      clear u w i j (free_apart n done w u.first u.count good.0.1 h) (subst (λ l. i < 512 * l.count) (sym is) low) high (ap (λ l. 512 * l.first + i) is ∙ same)
  by later false p true q g h =
      let is : u ≡ w = cc in
      clear u v j i (free_apart m done v u.first u.count good.0.1 g) (subst (λ l. j < 512 * l.count) (sym is) high) low (ap (λ l. 512 * l.first + j) is ∙ sym same)
  by later false p false q g h = later g h

-- ---- bytes of the image

-- a byte outside every window is what the image held at first
outside : (x : Setting) (done : List Deed) (at : ℕ) → Good done → ((m : List ℕ) (v : Window) (i : ℕ) → window_of m done ≡ Some v → i < 512 * v.count → at ≡ 512 * v.first + i → ⊥) → image_byte x done at ≡ x.content at
outside x [] at good out = refl
outside x (Made m creation ∷ done) at good out = outside x done at good.1 out
outside x (Destroyed m ∷ done) at good out = outside x done at good.1 out
outside x (Passed now ∷ done) at good out = outside x done at good.1 out
outside x (Given n w ∷ done) at good out = outside x done at good.1 (λ m v i e low same. by m v i e low same (bytes_eq m n) refl) where
  by : (m : List ℕ) (v : Window) (i : ℕ) → window_of m done ≡ Some v → i < 512 * v.count → at ≡ 512 * v.first + i → (b : Bool) → bytes_eq m n ≡ b → ⊥
  by m v i e low same true p = let none : window_of m done ≡ None = subst (λ l. window_of l done ≡ None) (sym (name_is m n p)) good.0.0 in let clash : Some v ≡ None = sym e ∙ none in cc
  by m v i e low same false p = out m v i (ap (λ b. cond b (Some w) (window_of m done)) p ∙ e) low same
outside x (On n (Disk_act (Stored j bytes)) ∷ done) at good out = by (outside x done at good.1 out) (window_of n done) refl good.0 where
  by : image_byte x done at ≡ x.content at → (o : Option Window) → window_of n done ≡ o → j + length bytes ≤ size_of o → unwrap_or (byte_in bytes (option_map_or (λ w. 512 * w.first) o 0 + j) at) (image_byte x done at) ≡ x.content at
  by rest None e h = ap (λ b. unwrap_or b (image_byte x done at)) (byte_out bytes (0 + j) at (λ low high. absurd (omega arith))) ∙ rest
  by rest (Some v) e h = ap (λ b. unwrap_or b (image_byte x done at)) (byte_out bytes (512 * v.first + j) at (λ low high. out n v (at - 512 * v.first) e (omega arith) (omega arith))) ∙ rest
outside x (On n (Node act) ∷ done) at good out = outside x done at good.1 out
outside x (On n (Driver act) ∷ done) at good out = outside x done at good.1 out
outside x (On n (Bus act) ∷ done) at good out = outside x done at good.1 out
outside x (On n (Message_act act) ∷ done) at good out = outside x done at good.1 out
outside x (On n (State act) ∷ done) at good out = outside x done at good.1 out
outside x (On n (acted.Queue act) ∷ done) at good out = outside x done at good.1 out

-- an act that stores nothing, of this name or another
kept_by : (start : ℕ → ℕ) (acts : List Act) (act : Act) (i : ℕ) → window_byte start (act ∷ acts) i ≡ window_byte start acts i → (b : Bool) → window_byte start (cond b (act ∷ acts) acts) i ≡ window_byte start acts i
kept_by start acts act i h true = h
kept_by start acts act i h false = refl

-- a name without a window stored nothing
unused : (start : ℕ → ℕ) (done : List Deed) (n : List ℕ) (j : ℕ) → Good done → window_of n done ≡ None → window_byte start (acts_of_name n done) j ≡ start j
unused start [] n j good none = refl
unused start (Made m creation ∷ done) n j good none = unused start done n j good.1 none
unused start (Destroyed m ∷ done) n j good none = unused start done n j good.1 none
unused start (Passed now ∷ done) n j good none = unused start done n j good.1 none
unused start (Given m v ∷ done) n j good none = by (unused start done n j good.1) (bytes_eq n m) none where
  by : (window_of n done ≡ None → window_byte start (acts_of_name n done) j ≡ start j) → (b : Bool) → cond b (Some v) (window_of n done) ≡ None → window_byte start (acts_of_name n done) j ≡ start j
  by rest true e = cc
  by rest false e = rest e
unused start (On m (Disk_act (Stored i bytes)) ∷ done) n j good none = by (unused start done n j good.1 none) (bytes_eq n m) refl where
  by : window_byte start (acts_of_name n done) j ≡ start j → (c : Bool) → bytes_eq n m ≡ c → window_byte start (cond c (Disk_act (Stored i bytes) ∷ acts_of_name n done) (acts_of_name n done)) j ≡ start j
  by rest false e = rest
  by rest true e =
      let h : i + length bytes ≤ size_of (window_of n done) = subst (λ l. i + length bytes ≤ size_of (window_of l done)) (sym (name_is n m e)) good.0 in
      let k : i + length bytes ≤ size_of None = subst (λ o. i + length bytes ≤ size_of o) none h in
      ap (λ b. unwrap_or b (window_byte start (acts_of_name n done) j)) (byte_out bytes i j (λ low high. absurd (omega arith))) ∙ rest
unused start (On m (Node act) ∷ done) n j good none = kept_by start (acts_of_name n done) (Node act) j refl (bytes_eq n m) ∙ unused start done n j good.1 none
unused start (On m (Driver act) ∷ done) n j good none = kept_by start (acts_of_name n done) (Driver act) j refl (bytes_eq n m) ∙ unused start done n j good.1 none
unused start (On m (Bus act) ∷ done) n j good none = kept_by start (acts_of_name n done) (Bus act) j refl (bytes_eq n m) ∙ unused start done n j good.1 none
unused start (On m (Message_act act) ∷ done) n j good none = kept_by start (acts_of_name n done) (Message_act act) j refl (bytes_eq n m) ∙ unused start done n j good.1 none
unused start (On m (State act) ∷ done) n j good none = kept_by start (acts_of_name n done) (State act) j refl (bytes_eq n m) ∙ unused start done n j good.1 none
unused start (On m (acted.Queue act) ∷ done) n j good none = kept_by start (acts_of_name n done) (acted.Queue act) j refl (bytes_eq n m) ∙ unused start done n j good.1 none

-- a byte of a window is what the window's own acts say
pub own_byte : (x : Setting) (done : List Deed) → Good done → (d : List ℕ) (w : Window) → window_of d done ≡ Some w → (j : ℕ) → j < 512 * w.count
    → image_byte x done (512 * w.first + j) ≡ window_byte (λ i. x.content (512 * w.first + i)) (acts_of_name d done) j
own_byte x [] good d w e j low = refl
own_byte x (Made m creation ∷ done) good d w e j low = own_byte x done good.1 d w e j low
own_byte x (Destroyed m ∷ done) good d w e j low = own_byte x done good.1 d w e j low
own_byte x (Passed now ∷ done) good d w e j low = own_byte x done good.1 d w e j low
own_byte x (Given m v ∷ done) good d w e j low = by (λ f. own_byte x done good.1 d w f j low) (bytes_eq d m) refl e where
  by : (window_of d done ≡ Some w → image_byte x done (512 * w.first + j) ≡ window_byte (λ i. x.content (512 * w.first + i)) (acts_of_name d done) j) → (b : Bool) → bytes_eq d m ≡ b → cond b (Some v) (window_of d done) ≡ Some w → image_byte x done (512 * w.first + j) ≡ window_byte (λ i. x.content (512 * w.first + i)) (acts_of_name d done) j
  by rest false p f = rest f
  by rest true p f =
      let is : v ≡ w = cc in
      let free : is_given w.first w.count done ≡ false = subst (λ l. is_given l.first l.count done ≡ false) is good.0.1 in
      let new : window_of d done ≡ None = subst (λ l. window_of l done ≡ None) (sym (name_is d m p)) good.0.0 in
      outside x done (512 * w.first + j) good.1 (λ n u i g a same. clear w u j i (free_apart n done u w.first w.count free g) low a same)
      ∙ sym (unused (λ i. x.content (512 * w.first + i)) done d j good.1 new)
own_byte x (On n (Disk_act (Stored i bytes)) ∷ done) good d w e j low = by (own_byte x done good.1 d w e j low) (bytes_eq d n) refl (window_of n done) refl good.0 where
  by : image_byte x done (512 * w.first + j) ≡ window_byte (λ i. x.content (512 * w.first + i)) (acts_of_name d done) j → (c : Bool) → bytes_eq d n ≡ c → (o : Option Window) → window_of n done ≡ o → i + length bytes ≤ size_of o
      → unwrap_or (byte_in bytes (option_map_or (λ w. 512 * w.first) o 0 + i) (512 * w.first + j)) (image_byte x done (512 * w.first + j))
      ≡ window_byte (λ i. x.content (512 * w.first + i)) (cond c (Disk_act (Stored i bytes) ∷ acts_of_name d done) (acts_of_name d done)) j
  by rest true p None f h = let g : Some w ≡ None = sym e ∙ subst (λ l. window_of l done ≡ None) (sym (name_is d n p)) f in cc
  by rest false p None f h = ap (λ b. unwrap_or b (image_byte x done (512 * w.first + j))) (byte_out bytes (0 + i) (512 * w.first + j) (λ a b. absurd (omega arith))) ∙ rest
  by rest false p (Some v) f h =
      ap (λ b. unwrap_or b (image_byte x done (512 * w.first + j)))
      (byte_out bytes (512 * v.first + i) (512 * w.first + j) (λ a b. apart done good.1 d n w v e f p j ((512 * w.first + j) - 512 * v.first) low (omega arith) (omega arith))) ∙ rest
  by rest true p (Some v) f h =
      let both : Some v ≡ Some w = sym f ∙ subst (λ l. window_of l done ≡ Some w) (name_is d n p) e in
      let is : v ≡ w = cc in
      ap (λ l. unwrap_or (byte_in bytes (512 * l.first + i) (512 * w.first + j)) (image_byte x done (512 * w.first + j))) is
      ∙ (ap (λ b. unwrap_or b (image_byte x done (512 * w.first + j))) (byte_moved bytes (512 * w.first) i j) ∙ ap (unwrap_or (byte_in bytes i j)) rest)
own_byte x (On n (Node act) ∷ done) good d w e j low = own_byte x done good.1 d w e j low ∙ sym (kept_by _ (acts_of_name d done) (Node act) j refl (bytes_eq d n))
own_byte x (On n (Driver act) ∷ done) good d w e j low = own_byte x done good.1 d w e j low ∙ sym (kept_by _ (acts_of_name d done) (Driver act) j refl (bytes_eq d n))
own_byte x (On n (Bus act) ∷ done) good d w e j low = own_byte x done good.1 d w e j low ∙ sym (kept_by _ (acts_of_name d done) (Bus act) j refl (bytes_eq d n))
own_byte x (On n (Message_act act) ∷ done) good d w e j low = own_byte x done good.1 d w e j low ∙ sym (kept_by _ (acts_of_name d done) (Message_act act) j refl (bytes_eq d n))
own_byte x (On n (State act) ∷ done) good d w e j low = own_byte x done good.1 d w e j low ∙ sym (kept_by _ (acts_of_name d done) (State act) j refl (bytes_eq d n))
own_byte x (On n (acted.Queue act) ∷ done) good d w e j low = own_byte x done good.1 d w e j low ∙ sym (kept_by _ (acts_of_name d done) (acted.Queue act) j refl (bytes_eq d n))

-- ---- each history is good

-- acts change no window
window_same : (n name : List ℕ) (acts : List Act) (done : List Deed) → window_of n (map (On name) acts ++ done) ≡ window_of n done
window_same n name [] done = refl
window_same n name (act ∷ acts) done = window_same n name acts done

acts_good : (name : List ℕ) (acts : List Act) (done : List Deed) → Fits (size_of (window_of name done)) acts → Good done → Good (map (On name) acts ++ done)
acts_good name [] done fits good = good
acts_good name (Disk_act (Stored at bytes) ∷ acts) done fits good =
    (subst (λ o. at + length bytes ≤ size_of o) (sym (window_same name name acts done)) fits.0, acts_good name acts done fits.1 good)
acts_good name (Node act ∷ acts) done fits good = (tt, acts_good name acts done fits good)
acts_good name (Driver act ∷ acts) done fits good = (tt, acts_good name acts done fits good)
acts_good name (Bus act ∷ acts) done fits good = (tt, acts_good name acts done fits good)
acts_good name (Message_act act ∷ acts) done fits good = (tt, acts_good name acts done fits good)
acts_good name (State act ∷ acts) done fits good = (tt, acts_good name acts done fits good)
acts_good name (acted.Queue act ∷ acts) done fits good = (tt, acts_good name acts done fits good)

-- a line that gives a window finds it free
is_none : {X : Type 0} (o : Option X) → is_some o ≡ false → o ≡ None
is_none None e = refl
is_none (Some y) e = cc

image_good : (x : Setting) (done : List Deed) (name : List ℕ) (first count : ℕ) → Good done → Good ((plain_outcome x done (control.Image name first count)).deeds ++ done)
image_good x done name first count good = by (not (has_device name done)) (is_some (window_of name done)) refl (count == 0) (nat_lt x.sectors (first + count)) (is_given first count done) refl where
  by : (a b : Bool) → is_some (window_of name done) ≡ b → (c e f : Bool) → is_given first count done ≡ f
      → Good ((refuse_outcome (refusal_if a Nodev) (refuse_outcome (refusal_if b Exist) (refuse_outcome (refusal_if c Inval) (refuse_outcome (refusal_if e Nospc) (refuse_outcome (refusal_if f Busy) (done_outcome [] (Given name (record { first = first; count = count }) ∷ []))))))).deeds ++ done)
  by true b g c e f k = good
  by false true g c e f k = good
  by false false g true e f k = good
  by false false g false true f k = good
  by false false g false false true k = good
  by false false g false false false k = ((is_none (window_of name done) g, k), good)

-- a line that gives none
granted_good : (x : Setting) (step : ControlStep) (done : List Deed) → Good done → Good (granted (clock done) step ++ done) → Good ((plain_outcome x done step).deeds ++ done)
granted_good x step done good more =
    subst (λ deeds. Good (deeds ++ done)) (sym (plain_does x done step))
    (elim (if_done_either (plain_outcome x done step).answer (granted (clock done) step)) [
      | inl e ↦ subst (λ deeds. Good (deeds ++ done)) (sym e) more
      | inr e ↦ subst (λ deeds. Good (deeds ++ done)) (sym e) good
    ])

plain_good : (x : Setting) (step : ControlStep) (done : List Deed) → Good done → Good ((plain_outcome x done step).deeds ++ done)
plain_good x control.Version done good = good
plain_good x (control.SetVersion version) done good = granted_good x (control.SetVersion version) done good good
plain_good x (control.Create name vendor device features queues align config) done good = granted_good x (control.Create name vendor device features queues align config) done good (tt, good)
plain_good x (control.Destroy name) done good = granted_good x (control.Destroy name) done good (tt, good)
plain_good x (control.Dev name) done good = granted_good x (control.Dev name) done good (tt, (tt, (tt, (tt, good))))
plain_good x (control.Tick seconds) done good = granted_good x (control.Tick seconds) done good (tt, good)
plain_good x (control.Image name first count) done good = image_good x done name first count good
plain_good x (control.Control number bytes) done good = good

raw_good : (x : Setting) (o : Option ControlStep) (done : List Deed) → Good done → Good ((raw_outcome x done o).deeds ++ done)
raw_good x None done good = good
raw_good x (Some control.Version) done good = good
raw_good x (Some (control.SetVersion version)) done good = plain_good x (control.SetVersion version) done good
raw_good x (Some (control.Create name vendor device features queues align config)) done good = plain_good x (control.Create name vendor device features queues align config) done good
raw_good x (Some (control.Destroy name)) done good = plain_good x (control.Destroy name) done good
raw_good x (Some (control.Dev name)) done good = plain_good x (control.Dev name) done good
raw_good x (Some (control.Tick seconds)) done good = plain_good x (control.Tick seconds) done good
raw_good x (Some (control.Image name first count)) done good = plain_good x (control.Image name first count) done good
raw_good x (Some (control.Control number bytes)) done good = good

control_good : (x : Setting) (step : ControlStep) (done : List Deed) → Good done → Good ((control_outcome x done step).deeds ++ done)
control_good x (control.Control number bytes) done good = raw_good x (control_step number bytes) done good
control_good x control.Version done good = good
control_good x (control.SetVersion version) done good = plain_good x (control.SetVersion version) done good
control_good x (control.Create name vendor device features queues align config) done good = plain_good x (control.Create name vendor device features queues align config) done good
control_good x (control.Destroy name) done good = plain_good x (control.Destroy name) done good
control_good x (control.Dev name) done good = plain_good x (control.Dev name) done good
control_good x (control.Tick seconds) done good = plain_good x (control.Tick seconds) done good
control_good x (control.Image name first count) done good = plain_good x (control.Image name first count) done good

step_good : (x : Setting) (done : List Deed) (step : Step) (failed : Bool) → Good done → Good ((outcome x done step failed).deeds ++ done)
step_good x done (Control step) failed good = control_good x step done good
step_good x done (Device name step) failed good = acts_good name (device_turn x (device_view x name done) step).acts done (device_fair x (device_view x name done) step).fits good
step_good x done (Queue name step) failed good = acts_good name (device_queue_turn x name (device_view x name done) failed step).acts done (device_queue_fair x name (device_view x name done) failed step).fits good

history_good : (x : Setting) (h : History) → Good (deeds_of x h)
unfolding deeds_of
history_good x [] = tt
history_good x (entry ∷ before) = step_good x (deeds_of x before) entry.step entry.failed (history_good x before)

pub window_is : (x : Setting) (h : History) (d : List ℕ) (w : Window) → window_of d (deeds_of x h) ≡ Some w → (j : ℕ) → j < 512 * w.count
    → image_byte x (deeds_of x h) (512 * w.first + j) ≡ window_byte (λ i. x.content (512 * w.first + i)) (acts_of_name d (deeds_of x h)) j
window_is x h d w e j low = own_byte x (deeds_of x h) (history_good x h) d w e j low
