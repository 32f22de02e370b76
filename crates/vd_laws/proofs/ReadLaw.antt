-- What a daemon reads.
use Rattle.std.proofs.Common.{◌≡◌, ℕ, zero, suc, ◌+◌, ◌<◌, Bool, true, false, refl, ap, subst, ◌∙◌, sym, arith, Option, None, Some, cond, List, [], ◌∷◌, not, slice_index, Result, Ok, Err}
use Rattle.std.specs.Option.{option_map_or}
use Rattle.vd_num.specs.declared.errno.Errno.{Errno}
use Rattle.vd_num.specs.declared.errno.Errno.TheVariants.{Badf}
use Rattle.vd_model.specs.declared.step.DevStep.TheVariants as line
use Rattle.vd_model.specs.declared.step.AreaStep.TheVariants as area
use Rattle.vd_model.specs.declared.answer.Answer.TheVariants.{Done, Bus}
use Rattle.vd_model.specs.declared.answer.Item.TheVariants.{Text}
use Rattle.vd_model.specs.Setting.{Setting}
use Rattle.vd_model.specs.Creation.{Creation}
use Rattle.vd_model.specs.Acts.{Act, Node}
use Rattle.vd_model.specs.Live.{is_open, area_len}
use Rattle.vd_model.specs.Puts.{Area, last_put, shown_put, each_from, bus_bytes, area_bytes}
use Rattle.vd_model.specs.Memory.{Memory, read, byte_then}
use Rattle.vd_model.specs.Deeds.{Seen}
use Rattle.vd_model.specs.Turn.{refuse, refusal_if, lift, done_with}
use Rattle.vd_model.specs.AreaTurns.{is_accessible, first_failing, first_bus, part_refusal}
use Rattle.vd_model.specs.DaemonTurns.{daemon_memory}
use Rattle.vd_model.specs.History.{History, device_turn, device_outcome}
use Rattle.vd_laws.specs.Runs.{acts_of, IsMoment}
use Rattle.vd_laws.specs.Origins.{IsReadableAt, IsReadableIn, IsIndexOf, IsAddressOf}
use Rattle.vd_laws.specs.ReadLaw.{IsShown, IsInArea, ReadLaw, seen_after}
use Rattle.vd_laws.proofs.OriginsLemmas.{AllFit, comes, comes_in_area, readable, fitting, earlier_fit}
use Rattle.vd_laws.proofs.Turns.{acts_of_device_legal}
use Rattle.vd_laws.proofs.AlikeLemmas.{walks, fetches_alike, finishes_alike, executes_alike}

-- ---- loads

each_at : (f : ℕ → ℕ) (from len i : ℕ) → i < len → slice_index (each_from f from len) i ≡ f (from + i)
each_at f from zero i below = absurd (omega arith)
each_at f from (suc len) zero below = ap f (omega arith)
each_at f from (suc len) (suc i) below = each_at f (from + 1) len i (omega arith) ∙ ap f (omega arith)

none_fails : (passes : ℕ → Bool) (from len : ℕ) → first_failing passes from len ≡ None → (i : ℕ) → i < len → passes (from + i) ≡ true
none_fails passes from zero e i below = absurd (omega arith)
none_fails passes from (suc len) e i below = by (passes from) refl e (λ f j k. none_fails passes (from + 1) len f j k) i below where
  by : (b : Bool) → passes from ≡ b → cond b (first_failing passes (from + 1) len) (Some from) ≡ None
      → (first_failing passes (from + 1) len ≡ None → (j : ℕ) → j < len → passes (from + 1 + j) ≡ true) → (i : ℕ) → i < suc len → passes (from + i) ≡ true
  by true here f later zero k = let e : from ≡ from + 0 = omega arith in ap passes (sym e) ∙ here
  by true here f later (suc j) k = let e : from + 1 + j ≡ from + suc j = omega arith in ap passes (sym e) ∙ later f j (omega arith)
  by false here f later i k = cc

-- each byte of the answer is that of an address that can be accessed
pub load_reads : (x : Setting) (s : Seen) (at len : ℕ) (bytes : List ℕ) → (device_turn x s (line.Area (area.Load at len))).answer ≡ Done (Text bytes ∷ [])
    → (i : ℕ) → i < len → IsShown x s.acts (at + i) (slice_index bytes i)
load_reads x s at len bytes e i below = there s.made e where
  by : (p : Option Errno) (q : Option ℕ) → first_bus x s.acts at len ≡ q
      → (refuse p (lift Node (option_map_or (λ bad. record { answer = Bus bad; acts = [] }) q (done_with (Text (bus_bytes x.per_page s.acts at len) ∷ []) [])))).answer ≡ Done (Text bytes ∷ [])
      → IsShown x s.acts (at + i) (slice_index bytes i)
  by (Some n) q f g = cc
  by None (Some bad) f g = cc
  by None None f g =
      let same : bus_bytes x.per_page s.acts at len ≡ bytes = cc in
      record {
        accessible = none_fails (is_accessible x s.acts) at len f i below;
        stands = ap (λ l. slice_index l i) (sym same) ∙ each_at (λ a. (shown_put x.per_page s.acts a).byte) at len i below;
      }

  there : (made : Option Creation) → (device_turn x (record { made = made; acts = s.acts; now = s.now; window = s.window; disk = s.disk }) (line.Area (area.Load at len))).answer ≡ Done (Text bytes ∷ [])
      → IsShown x s.acts (at + i) (slice_index bytes i)
  there None e = cc
  there (Some made) e = by (refusal_if (not (is_open s.acts)) Badf) (first_bus x s.acts at len) refl e

-- each byte that an areaget is answered
pub area_reads : (x : Setting) (s : Seen) (at len : ℕ) (bytes : List ℕ) → (device_turn x s (line.Area (area.AreaGet at len))).answer ≡ Done (Text bytes ∷ [])
    → (i : ℕ) → i < len → slice_index bytes i ≡ (last_put x.per_page s.acts (Area (at + i))).byte
area_reads x s at len bytes e i below = there s.made e where
  by : (p q : Option Errno) → (refuse p (lift Node (refuse q (done_with (Text (area_bytes x.per_page s.acts at len) ∷ []) [])))).answer ≡ Done (Text bytes ∷ [])
      → slice_index bytes i ≡ (last_put x.per_page s.acts (Area (at + i))).byte
  by (Some n) q f = cc
  by None (Some n) f = cc
  by None None f =
      let same : area_bytes x.per_page s.acts at len ≡ bytes = cc in
      ap (λ l. slice_index l i) (sym same) ∙ each_at (λ o. (last_put x.per_page s.acts (Area o)).byte) at len i below

  there : (made : Option Creation) → (device_turn x (record { made = made; acts = s.acts; now = s.now; window = s.window; disk = s.disk }) (line.Area (area.AreaGet at len))).answer ≡ Done (Text bytes ∷ [])
      → slice_index bytes i ≡ (last_put x.per_page s.acts (Area (at + i))).byte
  there None e = cc
  there (Some made) e = by (refusal_if (not (is_open s.acts)) Badf) (part_refusal (area_len s.acts) at len) e

-- ---- the block daemon's memory

-- what it has at an address
pub memory_shown : (x : Setting) (acts : List Act) (a b : ℕ) → daemon_memory x acts a ≡ Some b → IsShown x acts a b
memory_shown x acts a b e = by (is_accessible x acts a) refl e where
  by : (open_to : Bool) → is_accessible x acts a ≡ open_to → cond open_to (Some (shown_put x.per_page acts a).byte) None ≡ Some b → IsShown x acts a b
  by true here f = let same : (shown_put x.per_page acts a).byte ≡ b = cc in record { accessible = here; stands = sym same }
  by false here f = cc

-- each byte of a read
read_at : (m : Memory) (at len : ℕ) (bytes : List ℕ) → read m at len ≡ Ok bytes → (i : ℕ) → i < len → m (at + i) ≡ Some (slice_index bytes i)
unfolding read
read_at m at zero bytes e i below = absurd (omega arith)
read_at m at (suc len) bytes e i below = by (m at) refl (read m (at + 1) len) e (λ rest f j k. read_at m (at + 1) len rest f j k) i below where
  by : (o : Option ℕ) → m at ≡ o → (r : Result (List ℕ) ℕ) → byte_then at o r ≡ Ok bytes
      → ((rest : List ℕ) → r ≡ Ok rest → (j : ℕ) → j < len → m (at + 1 + j) ≡ Some (slice_index rest j)) → (i : ℕ) → i < suc len → m (at + i) ≡ Some (slice_index bytes i)
  by None here r f later i k = cc
  by (Some b) here (Err bad) f later i k = cc
  by (Some b) here (Ok rest) f later zero k =
      let same : b ∷ rest ≡ bytes = cc in let e : at ≡ at + 0 = omega arith in ap m (sym e) ∙ here ∙ ap (λ l. Some (slice_index l 0)) same
  by (Some b) here (Ok rest) f later (suc j) k =
      let same : b ∷ rest ≡ bytes = cc in let e : at + 1 + j ≡ at + suc j = omega arith in ap m (sym e) ∙ later rest refl j (omega arith) ∙ ap (λ l. Some (slice_index l (suc j))) same

pub memory_reads : (x : Setting) (acts : List Act) (at len : ℕ) (bytes : List ℕ) → read (daemon_memory x acts) at len ≡ Ok bytes → (i : ℕ) → i < len → IsShown x acts (at + i) (slice_index bytes i)
memory_reads x acts at len bytes e i below = memory_shown x acts (at + i) (slice_index bytes i) (read_at (daemon_memory x acts) at len bytes e i below)

-- ---- the law

-- a byte that is shown
shown_put_readable : (x : Setting) (acts : List Act) → AllFit acts → (a byte : ℕ) → IsShown x acts a byte → IsReadableAt x.per_page acts a byte
shown_put_readable x acts fit a byte is =
    subst (IsReadableAt x.per_page acts a) (sym is.stands)
    (readable x.per_page acts (λ at. at ≡ a) (IsIndexOf a) (shown_put x.per_page acts a).byte (shown_put x.per_page acts a).origin (comes x.per_page acts fit a))

in_area : (x : Setting) (acts : List Act) → AllFit acts → (o byte : ℕ) → byte ≡ (last_put x.per_page acts (Area o)).byte → IsInArea x acts o byte
in_area x acts fit o byte same = record {
  stands = same;
  readable = subst (IsReadableIn x.per_page acts o) (sym same)
      (readable x.per_page acts (IsAddressOf acts o) (λ earlier at. at ≡ o) (last_put x.per_page acts (Area o)).byte (last_put x.per_page acts (Area o)).origin (comes_in_area x.per_page acts fit o));
}

at_moment : (x : Setting) (h : History) (d : List ℕ) (acts : List Act) → AllFit (acts_of x h d) → IsMoment x h d acts → AllFit acts
at_moment x h d acts fit moment = earlier_fit moment.0 acts (subst AllFit moment.1 fit)

read_law_of : (x : Setting) (h : History) → ((d : List ℕ) → AllFit (acts_of x h d)) → ReadLaw x h
read_law_of x h fit = record {
  loads = λ d at len failed bytes e i below. load_reads x (seen_after x h d) at len bytes e i below;
  loads_readable = λ d at len failed bytes e i below. shown_put_readable x (acts_of x h d) (fit d) (at + i) (slice_index bytes i) (load_reads x (seen_after x h d) at len bytes e i below);
  areagets = λ d at len failed bytes e i below.
      in_area x (acts_of x h d) (fit d) (at + i) (slice_index bytes i) (area_reads x (seen_after x h d) at len bytes e i below);
  origins = λ d acts moment a. comes x.per_page acts (at_moment x h d acts (fit d) moment) a;
  memory = λ d acts moment a byte e. memory_shown x acts a byte e;
  reads = λ d acts moment at len bytes e i below. memory_reads x acts at len bytes e i below;
  reads_readable = λ d acts moment at len bytes e i below.
      shown_put_readable x acts (at_moment x h d acts (fit d) moment) (at + i) (slice_index bytes i) (memory_reads x acts at len bytes e i below);
  walks = λ g d looks q head failed. ap (device_outcome d) (walks x d (seen_after x h d) (seen_after x g d) looks q head failed);
  fetches = λ g d q looks keeps failed. ap (device_outcome d) (fetches_alike x d (seen_after x h d) (seen_after x g d) q looks keeps failed);
  finishes = λ g d q looks keeps failed. ap (device_outcome d) (finishes_alike x d (seen_after x h d) (seen_after x g d) q looks keeps failed);
  executes = λ g d q same keeps failed. ap (device_outcome d) (executes_alike x d (seen_after x h d) (seen_after x g d) q same keeps failed);
}

-- it holds of every history
pub read_law : (x : Setting) (h : History) → ReadLaw x h
read_law x h = read_law_of x h (λ d. fitting x (acts_of x h d) (acts_of_device_legal x h d))
