-- What is marked is as in a machine that copies nothing.
use Rattle.std.specs.Prelude.{ℕ, ◌+◌, ◌<◌, List, [], ◌∷◌, Bool, IsTrue, ◌≡◌, slice_index}
use Rattle.vd_model.specs.declared.step.Step.TheVariants.{Device}
use Rattle.vd_model.specs.declared.step.DevStep.TheVariants as line
use Rattle.vd_model.specs.declared.step.AreaStep.TheVariants as area
use Rattle.vd_model.specs.declared.answer.Item.TheVariants.{Text}
use Rattle.vd_model.specs.declared.answer.Answer.TheVariants.{Done}
use Rattle.vd_model.specs.Setting.{Setting}
use Rattle.vd_model.specs.Acts.{Act, Streaming, Coherent}
use Rattle.vd_model.specs.Live.{live_mappings, live_regions, iova_of, region_covers}
use Rattle.vd_model.specs.Puts.{ram, shown_put}
use Rattle.vd_model.specs.Direct.{direct_byte, is_marked, Known, Told, plain_store}
use Rattle.vd_model.specs.History.{History, reply}
use Rattle.vd_laws.specs.Among.{Among}
use Rattle.vd_laws.specs.Runs.{acts_of, IsMoment, IsAddressed, IsWhole}

-- at each moment of a history, on each device
pub record DirectLaw (x : Setting) (h : History) : Type 0 where
  -- a known byte of a buffer has its value
  pub known : IsAddressed x → (d : List ℕ) (acts : List Act) → IsMoment x h d acts
      → (k i : ℕ) → IsTrue (is_marked acts (Known k i)) → ram x.per_page acts k i ≡ direct_byte acts k i
  -- at an address of a live mapping whose byte is told stands the value of the byte that it stands for
  pub told : IsAddressed x → (d : List ℕ) (acts : List Act) → IsMoment x h d acts
      → (m : Streaming) → Among m (live_mappings acts) → (i : ℕ) → i < m.want.len → IsTrue (is_marked acts (Told m i))
      → (shown_put x.per_page acts (iova_of m + i)).byte ≡ direct_byte acts m.want.buffer (m.want.offset + i)
  -- so a load is answered with that value
  pub loaded : IsAddressed x → (d : List ℕ) (at len : ℕ) (failed : Bool) (bytes : List ℕ)
      → reply x h (Device d (line.Area (area.Load at len))) failed ≡ Done (Text bytes ∷ [])
      → (m : Streaming) → Among m (live_mappings (acts_of x h d)) → (i j : ℕ) → i < m.want.len → j < len → at + j ≡ iova_of m + i
      → IsTrue (is_marked (acts_of x h d) (Told m i)) → slice_index bytes j ≡ direct_byte (acts_of x h d) m.want.buffer (m.want.offset + i)
  -- past bounce memory of whole pages, a live coherent region is one store
  pub coherent : IsWhole x → (d : List ℕ) (acts : List Act) → IsMoment x h d acts
      → (r : Coherent) → Among r (live_regions acts) → (a : ℕ) → IsTrue (region_covers r a) → (shown_put x.per_page acts a).byte ≡ plain_store acts a
