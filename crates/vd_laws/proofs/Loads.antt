-- What a load is answered.
use Rattle.std.proofs.Common.{◌≡◌, ℕ, zero, suc, ◌+◌, ◌<◌, Bool, ap, ◌∙◌, sym, arith, Option, None, Some, List, [], ◌∷◌, not}
use Rattle.std.specs.List.{slice_index}
use Rattle.std.specs.Option.{option_map_or}
use Rattle.vd_num.specs.declared.errno.Errno.{Errno}
use Rattle.vd_num.specs.declared.errno.Errno.TheVariants.{Badf, Nodev}
use Rattle.vd_model.specs.declared.step.Step.TheVariants.{Device}
use Rattle.vd_model.specs.declared.step.DevStep.TheVariants as line
use Rattle.vd_model.specs.declared.step.AreaStep.TheVariants as area
use Rattle.vd_model.specs.declared.answer.Answer.TheVariants.{Done, Bus}
use Rattle.vd_model.specs.declared.answer.Item.TheVariants.{Text}
use Rattle.vd_model.specs.Setting.{Setting}
use Rattle.vd_model.specs.Creation.{Creation}
use Rattle.vd_model.specs.Acts.{Node}
use Rattle.vd_model.specs.Live.{is_open}
use Rattle.vd_model.specs.Puts.{each_from, bus_bytes, shown_put}
use Rattle.vd_model.specs.Turn.{refuse, refusal_turn, refusal_if, done_with, lift}
use Rattle.vd_model.specs.AreaTurns.{first_bus}
use Rattle.vd_model.specs.Deeds.{Seen, device_view}
use Rattle.vd_model.specs.History.{History, deeds_of, reply, device_turn}
use Rattle.vd_laws.specs.Runs.{acts_of}

each_at : (f : ℕ → ℕ) (from len i : ℕ) → i < len → slice_index (each_from f from len) i ≡ f (from + i)
each_at f from zero i below = absurd (omega arith)
each_at f from (suc len) zero below = ap f (omega arith)
each_at f from (suc len) (suc i) below = each_at f (from + 1) len i (omega arith) ∙ ap f (omega arith)

-- the bytes of a load's answer are those of its addresses
load_bytes : (x : Setting) (s : Seen) (at len : ℕ) (bytes : List ℕ) → (device_turn x s (line.Area (area.Load at len))).answer ≡ Done (Text bytes ∷ []) → bus_bytes x.per_page s.acts at len ≡ bytes
load_bytes x s at len bytes e = by s.made (refusal_if (not (is_open s.acts)) Badf) (first_bus x s.acts at len) e where
  by : (o : Option Creation) (p : Option Errno) (q : Option ℕ)
      → (option_map_or (λ made. refuse p (lift Node (option_map_or (λ bad. record { answer = Bus bad; acts = [] }) q (done_with (Text (bus_bytes x.per_page s.acts at len) ∷ []) [])))) o (refusal_turn Nodev)).answer ≡ Done (Text bytes ∷ [])
      → bus_bytes x.per_page s.acts at len ≡ bytes
  by None p q g = cc
  by (Some made) (Some n) q g = cc
  by (Some made) None (Some bad) g = cc
  by (Some made) None None g = cc

pub loaded_byte : (x : Setting) (h : History) (d : List ℕ) (at len : ℕ) (failed : Bool) (bytes : List ℕ) → reply x h (Device d (line.Area (area.Load at len))) failed ≡ Done (Text bytes ∷ [])
    → (i : ℕ) → i < len → slice_index bytes i ≡ (shown_put x.per_page (acts_of x h d) (at + i)).byte
loaded_byte x h d at len failed bytes e i below =
    ap (λ l. slice_index l i) (sym (load_bytes x (device_view x d (deeds_of x h)) at len bytes e)) ∙ each_at (λ a. (shown_put x.per_page (acts_of x h d) a).byte) at len i below
