-- A device after a call on another one that holds frames of the same pool.
use Rattle.std.proofs.Common.{◌≡◌, ℕ, ◌/◌, ◌%◌, refl, ◌∙◌, List, Option, Some, None}
use Rattle.std.specs.Option.{option_map_or}
use Rattle.vd_pool.specs.Memory.{PoolMemory as Pool, byte_of}
use Rattle.vd_bounce.specs.Frames.{frame_of, frame_byte, Holds, Keeps, IsOther}
use Rattle.vd_bounce.specs.Bounce as b
use Rattle.vd_bounce.specs.Bounce.{Bounce, value}
use Rattle.vd_model.specs.Setting.{Setting}
use Rattle.vd_model.specs.Creation.{Creation}
use Rattle.vd_model.specs.Acts.{Act}
use Rattle.vd_domain.specs.Held.{Held}
use Rattle.vd_domain.specs.Stands as domain
use Rattle.vd_instance.specs.declared.instance.Instance.{Instance}
use Rattle.vd_instance.specs.Stands.{Stands, IsHeld, frames}
use Rattle.vd_engine.specs.Machine.{AreApart}

-- frames that no page of a row has
others_of : (rows old : List (Option ℕ)) → AreApart rows old → (p f : ℕ) → frame_of rows p ≡ Some f → IsOther old f
others_of rows old apart p f e = λ q same. apart p q f e same

module _ (rows old new : List (Option ℕ)) (m n : Pool) (holds : Holds rows m) (apart : AreApart rows old) (keeps : Keeps old new m n) where
  pub holds_after : Holds rows n
  holds_after = record { out = λ p f e. (keeps.others f (holds.out p f e) (others_of rows old apart p f e)).0; apart = holds.apart }

  pub apart_after : AreApart rows new
  apart_after = λ p q f e same. (keeps.others f (holds.out p f e) (others_of rows old apart p f e)).1 q same

  byte_after : (size a : ℕ) → frame_byte size rows n a ≡ frame_byte size rows m a
  byte_after size a = by (frame_of rows (a / size)) refl where
    by : (o : Option ℕ) → frame_of rows (a / size) ≡ o → option_map_or (λ f. byte_of n f (a % size)) o 0 ≡ option_map_or (λ f. byte_of m f (a % size)) o 0
    by None e = refl
    by (Some f) e = (keeps.others f (holds.out (a / size) f e) (others_of rows old apart (a / size) f e)).2 (a % size)

value_after : (bounce : Bounce) (old new : List (Option ℕ)) (m n : Pool) → Holds bounce.frames m → AreApart bounce.frames old → Keeps old new m n → (place : b.Place) → value bounce n place ≡ value bounce m place
value_after bounce old new m n holds apart keeps (b.Iova a) = byte_after bounce.frames old new m n holds apart keeps (b.page_size bounce) a
value_after bounce old new m n holds apart keeps (b.Area o) = refl

-- the domain stands for the same acts
domain_stands : (x : Setting) (acts : List Act) (h : Held) (old new : List (Option ℕ)) (m n : Pool) → Holds h.bounce.frames m → AreApart h.bounce.frames old → Keeps old new m n → domain.Stands x acts h m → domain.Stands x acts h n
domain_stands x acts h old new m n holds apart keeps s = record {
  bounce = s.bounce;
  iova = s.iova;
  per_page = s.per_page;
  live = s.live;
  maps = s.maps;
  regions = s.regions;
  made = s.made;
  is_shown = s.is_shown;
  area = s.area;
  registered = s.registered;
  present = s.present;
  bytes = λ a free below seen. value_after h.bounce old new m n holds apart keeps (b.Iova a) ∙ s.bytes a free below seen;
  area_bytes = s.area_bytes;
  shared = s.shared;
}

-- so does the device, and its frames are out of the pool still
pub stands_beside : {x : Setting} {made : Creation} {acts : List Act} {m : Pool} (i : Instance) (old new : List (Option ℕ)) (n : Pool) → IsHeld i m → AreApart (frames i) old → Keeps old new m n
    → Stands x made acts i m → Stands x made acts i n
stands_beside {x} {made} {acts} {m} i old new n held apart keeps s = record {
  device = record {
    path = s.device.path;
    memory = record {
      domain = domain_stands x acts i.device.memory.domain old new m n held.holds apart keeps s.device.memory.domain;
      buffers = s.device.memory.buffers;
      inside = s.device.memory.inside;
    };
  };
  drivers = s.drivers;
  places = s.places;
  owned = s.owned;
  apart = s.apart;
  sizes = s.sizes;
  daemons = s.daemons;
  count = s.count;
}

pub held_beside : {m : Pool} (i : Instance) (old new : List (Option ℕ)) (n : Pool) → IsHeld i m → AreApart (frames i) old → Keeps old new m n → IsHeld i n
held_beside i old new n held apart keeps = record { holds = holds_after (frames i) old new _ n held.holds apart keeps; size = keeps.size ∙ held.size }
