-- What changes a driver's memory: the law.
use Rattle.std.proofs.Common.{◌≡◌, ℕ, Bool, true, false, refl, ap, subst, None, List, ◌∷◌, ◌==◌, ◌&&◌, nat_lt, length, if◌then◌else◌}
use Rattle.std.specs.Option.{option_map}
use Rattle.vd_num.specs.Number.{is_within}
use Rattle.vd_model.specs.declared.memory.Origin.TheVariants.{Handed}
use Rattle.vd_model.specs.Setting.{Setting}
use Rattle.vd_model.specs.Acts.{Act, Streaming, Driver, Buffer, Zeroed, Poked, Unmapped, Synced_cpu}
use Rattle.vd_model.specs.Live.{registration_of}
use Rattle.vd_model.specs.Puts.{Ram, text_at, zero_if, put_if, put_or, home_cell, last_put, shown_put, ram}
use Rattle.vd_model.specs.Direct.{brings_back, address_for}
use Rattle.vd_model.specs.History.{History}
use Rattle.vd_laws.specs.Runs.{IsMoment}
use Rattle.vd_laws.specs.MemoryLaw.{may_change, MemoryLaw}
use Rattle.vd_laws.proofs.Legal.{Legal}
use Rattle.vd_laws.proofs.Sound.{earlier_legal}
use Rattle.vd_laws.proofs.Turns.{acts_of_device_legal}
use Rattle.vd_laws.proofs.Texts.{text_absent}
use Rattle.vd_laws.proofs.Daemons.{daemons_ram}
use Rattle.vd_laws.proofs.Coherence.{coherent_kept}

-- the acts up to each moment are legal
pub moment_legal : (x : Setting) (h : History) (d : List ℕ) (acts : List Act) → IsMoment x h d acts → Legal x acts
moment_legal x h d acts m = earlier_legal x m.0 acts (subst (Legal x) m.1 (acts_of_device_legal x h d))

module _ (g : ℕ) (acts : List Act) (k i : ℕ) where
  unchanged : (act : Act) → may_change acts act k i ≡ false → ram g (act ∷ acts) k i ≡ ram g acts k i
  unchanged (Driver (Buffer bytes)) e = ap (λ b. (put_or (if b then text_at bytes 0 i (Handed None) else None) (last_put g acts) (Ram k i)).byte) e
  unchanged (Driver (Zeroed len)) e = ap (λ b. (put_or (zero_if (b && nat_lt i len)) (last_put g acts) (Ram k i)).byte) e
  unchanged (Driver (Poked buffer at bytes)) e = by (k == buffer) e where
    by : (b : Bool) → b && is_within at (length bytes) i ≡ false → (put_or (if b then text_at bytes at i (Handed None) else None) (last_put g acts) (Ram k i)).byte ≡ ram g acts k i
    by true f = ap (λ o. (put_or (option_map (λ b. record { byte = b; origin = Handed None }) o) (last_put g acts) (Ram k i)).byte) (text_absent bytes at i f)
    by false f = refl
  unchanged (Driver (Unmapped m)) e = ap (λ b. (put_or (put_if b (last_put g acts) (home_cell (registration_of acts) (address_for m i))) (last_put g acts) (Ram k i)).byte) e
  unchanged (Driver (Synced_cpu m)) e = ap (λ b. (put_or (put_if b (last_put g acts) (home_cell (registration_of acts) (address_for m i))) (last_put g acts) (Ram k i)).byte) e
  unchanged _ e = refl

  pub unmap_brings : (m : Streaming) → brings_back m k i ≡ true → ram g (Driver (Unmapped m) ∷ acts) k i ≡ (shown_put g acts (address_for m i)).byte
  unmap_brings m e = ap (λ b. (put_or (put_if b (last_put g acts) (home_cell (registration_of acts) (address_for m i))) (last_put g acts) (Ram k i)).byte) e

  sync_brings : (m : Streaming) → brings_back m k i ≡ true → ram g (Driver (Synced_cpu m) ∷ acts) k i ≡ (shown_put g acts (address_for m i)).byte
  sync_brings m e = ap (λ b. (put_or (put_if b (last_put g acts) (home_cell (registration_of acts) (address_for m i))) (last_put g acts) (Ram k i)).byte) e

pub memory_law : (x : Setting) (h : History) → MemoryLaw x h
memory_law x h = record {
  daemons = λ d step failed e k i. daemons_ram x h d step failed e k i;
  others = λ d act acts m k i e. unchanged x.per_page acts k i act e;
  unmaps = λ d m acts at. (moment_legal x h d (Driver (Unmapped m) ∷ acts) at).0;
  syncs = λ d m acts at. (moment_legal x h d (Driver (Synced_cpu m) ∷ acts) at).0;
  unmapped = λ d m acts at k i e. unmap_brings x.per_page acts k i m e;
  synced = λ d m acts at k i e. sync_brings x.per_page acts k i m e;
  coherent = λ whole d act acts m a high e. coherent_kept x whole acts a high act (moment_legal x h d (act ∷ acts) m) e;
}
