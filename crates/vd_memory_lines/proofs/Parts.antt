-- An act changes one part of a memory.
use Rattle.std.proofs.Common.{◌≡◌, ℕ, true, false, subst, sym, ◌∙◌, Some, List, [], ◌∷◌, All, Result, Ok, Err, IsOk, IsErr, true≢false}
use Rattle.std.proofs.lemmas.List.Elements.{All-weaker}
use Rattle.vd_pool.specs.Memory.{PoolMemory as Pool}
use Rattle.vd_model.specs.Setting.{Setting}
use Rattle.vd_model.specs.Acts.{Act, Streaming}
use Rattle.vd_model.specs.Live.{live_mappings, buffer_len}
use Rattle.vd_domain.specs.Held.{Held}
use Rattle.vd_domain.specs.Beside.{is_beside}
use Rattle.vd_domain.specs.Stands as domain
use Rattle.vd_domain.proofs.Beside.{leaves_domain}
use Rattle.vd_buffers.specs.Places.{Places}
use Rattle.vd_buffers.specs.Stands.{is_buffer_act}
use Rattle.vd_buffers.specs.Stands as buffers
use Rattle.vd_buffers.proofs.Changed.{leaves_buffers}
use Rattle.vd_model.specs.declared.answer.Answer.{Answer}
use Rattle.vd_model.specs.Turn.{Turn}
use Rattle.vd_answers.specs.Tells.{Tells, MayTell}
use Rattle.vd_memory_lines.specs.declared.memory.Memory.{Memory}
use Rattle.vd_memory_lines.specs.Stands.{Stands, IsInside}

-- mappings lie in buffers that are as long still
pub stay_inside : (old new : List Act) (ms : List Streaming) → ((b size : ℕ) → buffer_len old b ≡ Some size → buffer_len new b ≡ Some size) → All (IsInside old) ms → All (IsInside new) ms
stay_inside old new ms same all = All-weaker (IsInside old) (IsInside new) (λ m h. record { some = h.some; size = h.size; there = same m.want.buffer h.size h.there; within = h.within }) ms all

module _ (x : Setting) (acts : List Act) (k : Memory) (m : Pool) (s : Stands x acts k m) (act : Act) where
  pub lens_stay : is_buffer_act act ≡ false → (b size : ℕ) → buffer_len acts b ≡ Some size → buffer_len (act ∷ acts) b ≡ Some size
  lens_stay e b size there = sym ((leaves_buffers x.per_page acts k.buffers s.buffers act e).lens b) ∙ s.buffers.lens b ∙ there

  -- an act on the domain that ends no mapping and makes none
  pub domain_act : (d : Held) (q : Pool) → is_buffer_act act ≡ false → live_mappings (act ∷ acts) ≡ live_mappings acts → domain.Stands x (act ∷ acts) d q → Stands x (act ∷ acts) (record k { domain = d }) q
  domain_act d q e same stands = record {
    domain = stands;
    buffers = leaves_buffers x.per_page acts k.buffers s.buffers act e;
    inside = subst (λ ms. All (IsInside (act ∷ acts)) ms) (sym same) (stay_inside acts (act ∷ acts) (live_mappings acts) (lens_stay e) s.inside);
  }

  -- an act on buffers, in which mappings lie still
  pub buffers_act : (places : Places) → is_beside act ≡ true → live_mappings (act ∷ acts) ≡ live_mappings acts → buffers.Stands x.per_page (act ∷ acts) places
      → All (IsInside (act ∷ acts)) (live_mappings acts) → Stands x (act ∷ acts) (record k { buffers = places }) m
  buffers_act places e same stands inside = record {
    domain = leaves_domain x acts k.domain m s.domain act e;
    buffers = stands;
    inside = subst (λ ms. All (IsInside (act ∷ acts)) ms) (sym same) inside;
  }

-- bytes on their way are no part of what it stands for
pub scratch_stays : (x : Setting) (acts : List Act) (k new : Memory) (m : Pool) → new ≡ record k { scratch = new.scratch } → Stands x acts k m → Stands x acts new m
scratch_stays x acts k new m e s = subst (λ (t : Memory). Stands x acts t m) (sym e) (record { domain = s.domain; buffers = s.buffers; inside = s.inside })

-- a call that told a turn found memory, or none and did nothing
pub told_ok : {E : Type 0} {heard : Answer → Type 0} {turn : Turn Act} {After : List Act → Type 0} (r : Result (Unit {0}) E) → IsOk r → Tells heard turn After → MayTell heard turn After r
told_ok (Ok u) e t = record { says = t.says; stands = t.stands }
told_ok (Err error) e t = absurd (true≢false (sym e))

pub told_none : {E : Type 0} {heard : Answer → Type 0} {turn : Turn Act} {After : List Act → Type 0} (r : Result (Unit {0}) E) → IsErr r → After [] → MayTell heard turn After r
told_none (Ok u) e t = absurd (true≢false (sym e))
told_none (Err error) e t = record { says = tt; stands = t }
