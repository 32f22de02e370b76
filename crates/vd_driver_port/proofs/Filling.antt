-- Filling a buffer.
use Rattle.std.proofs.Common.{◌≡◌, ℕ, zero, suc, ◌+◌, ◌-◌, Bool, true, false, ◌==◌, nat_le, nat_lt, ◌&&◌, not, if◌then◌else◌, refl, ap, sym, ◌∙◌, subst, arith, List, [], ◌∷◌, Some, None, Option, Result, Ok, Err, MatchResult, length, true≢false}
use Rattle.std.specs.Result.{OnErr}
use Rattle.std.specs.List.{slice_get}
use Rattle.std.specs.Option.{option_map, option_map_or}
use Rattle.std.proofs.Math.Logic.{∥∥₁_map}
use Rattle.std.proofs.lemmas.Bool.Decides.{nat_tests}
use Rattle.vd_num.specs.declared.errno.Errno.{Errno}
use Rattle.vd_num.specs.declared.errno.Errno.TheVariants.{Inval}
use Rattle.vd_pool.specs.Memory.{PoolMemory as Pool}
use Rattle.vd_model.specs.declared.memory.Origin.TheVariants.{Handed}
use Rattle.vd_model.specs.Setting.{Setting}
use Rattle.vd_model.specs.Acts.{Act, Driver, Poked}
use Rattle.vd_model.specs.Live.{live_mappings, buffer_len}
use Rattle.vd_model.specs.Puts.{Ram, ram, last_put, put_or}
use Rattle.vd_model.specs.Turn.{range_refusal, refusal_if}
use Rattle.vd_buffers.specs.Places.{Places}
use Rattle.vd_buffers.specs.Stands as buffers
use Rattle.vd_memory_lines.specs.declared.memory.Memory.{Memory}
use Rattle.vd_memory_lines.specs.Stands.{Stands}
use Rattle.vd_memory_lines.proofs.Parts.{stay_inside, buffers_act}
use Rattle.blk_driver.specs.Buffers.{has_range}
use Rattle.vd_domain.specs.Apart.{AreApart}
use Rattle.vd_driver_port.specs.Reached.{IsReached}

-- no bytes are put
empty_put : (g : ℕ) (acts : List Act) (buffer offset k i : ℕ) → ram g (Driver (Poked buffer offset []) ∷ acts) k i ≡ ram g acts k i
empty_put g acts buffer offset k i = by (k == buffer) (nat_le offset i) where
  by : (t u : Bool) → (put_or (if t then option_map (λ b. record { byte = b; origin = Handed None }) (if u then slice_get [] (i - offset) else None) else None) (last_put g acts) (Ram k i)).byte ≡ ram g acts k i
  by true true = refl
  by true false = refl
  by false u = refl

refused_empty : (o : Option ℕ) (offset len : ℕ) (errno : Errno) → option_map_or (λ size. nat_le (offset + len) size) o false ≡ true → range_refusal o offset len ≡ Some errno → len ≡ 0
refused_empty None offset len errno e f = absurd (true≢false (sym e))
refused_empty (Some size) offset zero errno e f = refl
refused_empty (Some size) offset (suc len) errno e f =
    let inside : (nat_lt 0 (suc len) && nat_le (offset + suc len) size) ≡ true = grind (arith, nat_tests, e) in
    let none : range_refusal (Some size) offset (suc len) ≡ None = ap (λ t. refusal_if (not t) Inval) inside in
    let both = sym none ∙ f in
    absurd (cc)

no_bytes : (bytes : List ℕ) → length bytes ≡ 0 → bytes ≡ []
no_bytes [] e = refl
no_bytes (b ∷ bytes) e = absurd (omega arith)

module _ (x : Setting) (acts : List Act) (k : Memory) (m : Pool) (s : Stands x acts k m) (buffer offset : ℕ) (bytes : List ℕ) where
  abbrev pub Poke : Places → Result (Unit {0}) Errno → Type 0
  Poke new r = MatchResult r (λ _. (range_refusal (buffer_len acts buffer) offset (length bytes) ≡ None) × buffers.Stands x.per_page (Driver (Poked buffer offset bytes) ∷ acts) new)
      (λ errno. range_refusal (buffer_len acts buffer) offset (length bytes) ≡ Some errno)

  poked : (new : Places) → buffers.Stands x.per_page (Driver (Poked buffer offset bytes) ∷ acts) new → Stands x (Driver (Poked buffer offset bytes) ∷ acts) (record k { buffers = new }) m
  poked new stands = buffers_act x acts k m s (Driver (Poked buffer offset bytes)) new refl refl stands
      (stay_inside acts (Driver (Poked buffer offset bytes) ∷ acts) (live_mappings acts) (λ b size e. e) s.inside)

  unpoked : bytes ≡ [] → buffers.Stands x.per_page (Driver (Poked buffer offset bytes) ∷ acts) k.buffers
  unpoked e = subst (λ (l : List ℕ). buffers.Stands x.per_page (Driver (Poked buffer offset l) ∷ acts) k.buffers) (sym e) (record {
    count = s.buffers.count;
    lens = s.buffers.lens;
    bytes = λ b text there i below. s.buffers.bytes b text there i below ∙ sym (empty_put x.per_page acts buffer offset b i);
    total = s.buffers.total;
  })

  pub filled : (new : Places) (r : Result (Unit {0}) Errno) → Poke new r → OnErr r (new ≡ k.buffers) → has_range acts buffer offset (length bytes) ≡ true
      → Stands x (Driver (Poked buffer offset bytes) ∷ acts) (record k { buffers = new }) m
  filled new (Ok u) poke same e = poked new poke.1
  filled new (Err errno) poke same e =
      poked new (subst (λ (places : Places). buffers.Stands x.per_page (Driver (Poked buffer offset bytes) ∷ acts) places) (sym same)
      (unpoked (no_bytes bytes (refused_empty (buffer_len acts buffer) offset (length bytes) errno e poke))))

  pub fill_reached : AreApart x acts → (new : Places) (r : Result (Unit {0}) Errno) → Poke new r → OnErr r (new ≡ k.buffers) → IsReached (record k { buffers = new }) m
  fill_reached apart new (Ok u) poke same = record {
    setting = x;
    acts = Driver (Poked buffer offset bytes) ∷ acts;
    stands = poked new poke.1;
    apart = record { low = apart.low; high = apart.high };
  }
  fill_reached apart new (Err errno) poke same = record {
    setting = x;
    acts = acts;
    stands = subst (λ (places : Places). Stands x acts (record k { buffers = places }) m) (sym same) (record { domain = s.domain; buffers = s.buffers; inside = s.inside });
    apart = apart;
  }
