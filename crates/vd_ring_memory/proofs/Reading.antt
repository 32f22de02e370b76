-- What a map of bytes reads, by the first address that fails.
use Rattle.std.proofs.Common.{◌≡◌, ℕ, zero, suc, ◌+◌, Bool, true, false, if◌then◌else◌, refl, ap, sym, ◌∙◌, List, ◌∷◌, Some, None, Option, Result, Ok, Err, MatchResult}
use Rattle.vd_num.specs.declared.number.Bus.{Bus}
use Rattle.vd_model.specs.Memory.{Memory, read, byte_then}
use Rattle.vd_model.specs.Setting.{Setting}
use Rattle.vd_model.specs.Acts.{Act}
use Rattle.vd_model.specs.Puts.{shown_put, each_from, bus_bytes}
use Rattle.vd_model.specs.AreaTurns.{is_accessible, first_failing, first_bus}
use Rattle.vd_model.specs.DaemonTurns.{daemon_memory}
use Rattle.vr_split.specs.Mem.{Loads}

abbrev pub read_or_fail : Option ℕ → List ℕ → Result (List ℕ) ℕ
read_or_fail None bytes = Ok bytes
read_or_fail (Some bad) bytes = Err bad

module _ (passes : ℕ → Bool) (byte : ℕ → ℕ) where
  step : (o : Option ℕ) (b : ℕ) (bytes : List ℕ) → byte_then 0 (Some b) (read_or_fail o bytes) ≡ read_or_fail o (b ∷ bytes)
  step None b bytes = refl
  step (Some bad) b bytes = refl

  then_same : (at at' b : ℕ) (r : Result (List ℕ) ℕ) → byte_then at (Some b) r ≡ byte_then at' (Some b) r
  then_same at at' b (Ok bytes) = refl
  then_same at at' b (Err bad) = refl

  pub read_is : (at n : ℕ) → read (λ a. if passes a then Some (byte a) else None) at n ≡ read_or_fail (first_failing passes at n) (each_from byte at n)
  unfolding read
  read_is at zero = refl
  read_is at (suc n) = by (passes at) refl (read_is (at + 1) n) where
    by : (t : Bool) → passes at ≡ t → read (λ a. if passes a then Some (byte a) else None) (at + 1) n ≡ read_or_fail (first_failing passes (at + 1) n) (each_from byte (at + 1) n)
        → byte_then at (if passes at then Some (byte at) else None) (read (λ a. if passes a then Some (byte a) else None) (at + 1) n)
        ≡ read_or_fail (if passes at then first_failing passes (at + 1) n else Some at) (byte at ∷ each_from byte (at + 1) n)
    by true e rest =
        ap (λ t. byte_then at (if t then Some (byte at) else None) (read (λ a. if passes a then Some (byte a) else None) (at + 1) n)) e
        ∙ ap (byte_then at (Some (byte at))) rest
        ∙ then_same at 0 (byte at) _ ∙ step (first_failing passes (at + 1) n) (byte at) (each_from byte (at + 1) n)
        ∙ sym (ap (λ t. read_or_fail (if t then first_failing passes (at + 1) n else Some at) (byte at ∷ each_from byte (at + 1) n)) e)
    by false e rest =
        ap (λ t. byte_then at (if t then Some (byte at) else None) (read (λ a. if passes a then Some (byte a) else None) (at + 1) n)) e
        ∙ sym (ap (λ t. read_or_fail (if t then first_failing passes (at + 1) n else Some at) (byte at ∷ each_from byte (at + 1) n)) e)

-- what a daemon reads
pub daemon_reads : (x : Setting) (acts : List Act) (m : Memory) → m ≡ daemon_memory x acts → (at n : ℕ) (o : Option ℕ) → first_bus x acts at n ≡ o
    → read m at n ≡ read_or_fail o (bus_bytes x.per_page acts at n)
daemon_reads x acts m e at n o f =
    ap (λ (t : Memory). read t at n) e ∙ read_is (is_accessible x acts) (λ a. (shown_put x.per_page acts a).byte) at n
    ∙ ap (λ o. read_or_fail o (bus_bytes x.per_page acts at n)) f

-- a load by the acts is one by the map
pub loads : (x : Setting) (acts : List Act) (m : Memory) → m ≡ daemon_memory x acts → (at n : ℕ) (r : Result (Unit {0}) Bus) (out : List ℕ)
    → MatchResult r (λ _. (first_bus x acts at n ≡ None) × (out ≡ bus_bytes x.per_page acts at n)) (λ bus. first_bus x acts at n ≡ Some bus.at) → Loads m at n r out
loads x acts m e at n (Ok u) out h = daemon_reads x acts m e at n None h.0 ∙ ap Ok (sym h.1)
loads x acts m e at n (Err bus) out h = daemon_reads x acts m e at n (Some bus.at) h
