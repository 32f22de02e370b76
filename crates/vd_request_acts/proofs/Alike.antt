-- Acts that leave the same memory, or the same but for some bytes of buffers.
use Rattle.std.proofs.Common.{◌≡◌, ℕ, Bool, false, refl, ap, subst, sym, ◌∙◌, List, [], ◌∷◌, ◌++◌, All}
use Rattle.std.specs.List.{list_any}
use Rattle.vd_pool.specs.Memory.{PoolMemory as Pool}
use Rattle.vd_model.specs.Setting.{Setting}
use Rattle.vd_model.specs.Acts.{Act, Driver, DriverAct, Queue, QueueAct, Coherent, Driver_put}
use Rattle.vd_model.specs.Live.{buffers, buffer_len, buffers_len, live_mappings, maps, live_regions, regions, is_bounce_live, area_len, registration_of, is_present, page_of, region_covers}
use Rattle.vd_model.specs.Puts.{Cell, Iova, Area, Ram, ram, last_put}
use Rattle.vd_domain.specs.Held.{Held}
use Rattle.vd_domain.specs.Stands as domain
use Rattle.vd_memory_lines.specs.declared.memory.Memory.{Memory}
use Rattle.vd_memory_lines.specs.Stands.{Stands, IsInside}
use Rattle.vd_memory_lines.proofs.Parts.{stay_inside}
use Rattle.vd_request_acts.specs.Alike.{IsAlike}
use Rattle.vd_request_acts.proofs.Bytes.{IsSpot, address_of, over, over_same, puts_of, driver_spot, queue_spot}

-- bytes of buffers that may differ
abbrev pub Hole : Type 0
Hole = ℕ → ℕ → Bool

abbrev pub no_hole : Hole
no_hole k i = false

-- the same mappings and regions, the same pages, and the same area
pub record IsShaped (g : ℕ) (more acts : List Act) : Type 0 where
  pub mappings : live_mappings more ≡ live_mappings acts
  pub mapped : maps more ≡ maps acts
  pub coherent : live_regions more ≡ live_regions acts
  pub made : regions more ≡ regions acts
  pub shown : is_bounce_live more ≡ is_bounce_live acts
  pub area : area_len more ≡ area_len acts
  pub registered : registration_of more ≡ registration_of acts
  pub present : (page : ℕ) → is_present g more page ≡ is_present g acts page

abbrev pub AreSpotsAlike : ℕ → List Act → List Act → Type 0
AreSpotsAlike g more acts = (cell : Cell) → IsSpot cell → (last_put g more cell).byte ≡ (last_put g acts cell).byte

-- all is the same but for the bytes of the hole
pub record IsAlikeOff (g : ℕ) (hole : Hole) (more acts : List Act) : Type 0 where
  pub shape : IsShaped g more acts
  pub spots : AreSpotsAlike g more acts
  pub count : buffers more ≡ buffers acts
  pub lens : (k : ℕ) → buffer_len more k ≡ buffer_len acts k
  pub total : buffers_len more ≡ buffers_len acts
  pub rams : (k i : ℕ) → hole k i ≡ false → ram g more k i ≡ ram g acts k i

pub shaped : (g : ℕ) (more acts : List Act) → IsAlike g more acts → IsShaped g more acts
shaped g more acts e = record {
  mappings = e.mappings;
  mapped = e.mapped;
  coherent = e.coherent;
  made = e.made;
  shown = e.shown;
  area = e.area;
  registered = e.registered;
  present = e.present;
}

-- what is the same everywhere is the same off a hole
pub off_hole : (g : ℕ) (hole : Hole) (more acts : List Act) → IsAlike g more acts → IsAlikeOff g hole more acts
off_hole g hole more acts e = record {
  shape = shaped g more acts e;
  spots = λ cell s. e.bytes cell;
  count = e.count;
  lens = e.lens;
  total = e.total;
  rams = λ k i f. e.bytes (Ram k i);
}

pub off_nothing : (g : ℕ) (more acts : List Act) → IsAlike g more acts → IsAlikeOff g no_hole more acts
off_nothing g more acts e = off_hole g no_hole more acts e

pub alike_off : (g : ℕ) (more acts : List Act) → IsAlikeOff g no_hole more acts → IsAlike g more acts
alike_off g more acts e = record {
  count = e.count;
  lens = e.lens;
  total = e.total;
  mappings = e.shape.mappings;
  mapped = e.shape.mapped;
  coherent = e.shape.coherent;
  made = e.shape.made;
  shown = e.shape.shown;
  area = e.shape.area;
  registered = e.shape.registered;
  present = e.shape.present;
  bytes = bytes;
} where
  bytes : (cell : Cell) → (last_put g more cell).byte ≡ (last_put g acts cell).byte
  bytes (Iova a) = e.spots (Iova a) tt
  bytes (Area o) = e.spots (Area o) tt
  bytes (Ram k i) = e.rams k i refl

pub shaped_more : (g : ℕ) (a b c : List Act) → IsShaped g a b → IsShaped g b c → IsShaped g a c
shaped_more g a b c e f = record {
  mappings = e.mappings ∙ f.mappings;
  mapped = e.mapped ∙ f.mapped;
  coherent = e.coherent ∙ f.coherent;
  made = e.made ∙ f.made;
  shown = e.shown ∙ f.shown;
  area = e.area ∙ f.area;
  registered = e.registered ∙ f.registered;
  present = λ page. e.present page ∙ f.present page;
}

pub off_more : (g : ℕ) (hole : Hole) (a b c : List Act) → IsAlikeOff g hole a b → IsAlikeOff g hole b c → IsAlikeOff g hole a c
off_more g hole a b c e f = record {
  shape = shaped_more g a b c e.shape f.shape;
  spots = λ cell s. e.spots cell s ∙ f.spots cell s;
  count = e.count ∙ f.count;
  lens = λ k. e.lens k ∙ f.lens k;
  total = e.total ∙ f.total;
  rams = λ k i off. e.rams k i off ∙ f.rams k i off;
}

pub alike_self : (g : ℕ) (acts : List Act) → IsAlike g acts acts
alike_self g acts = record {
  count = refl;
  lens = λ k. refl;
  total = refl;
  mappings = refl;
  mapped = refl;
  coherent = refl;
  made = refl;
  shown = refl;
  area = refl;
  registered = refl;
  present = λ page. refl;
  bytes = λ cell. refl;
}

pub alike_more : (g : ℕ) (a b c : List Act) → IsAlike g a b → IsAlike g b c → IsAlike g a c
alike_more g a b c e f = alike_off g a c (off_more g no_hole a b c (off_nothing g a b e) (off_nothing g b c f))

pub alike_back : (g : ℕ) (more acts : List Act) → IsAlike g more acts → IsAlike g acts more
alike_back g more acts e = record {
  count = sym e.count;
  lens = λ k. sym (e.lens k);
  total = sym e.total;
  mappings = sym e.mappings;
  mapped = sym e.mapped;
  coherent = sym e.coherent;
  made = sym e.made;
  shown = sym e.shown;
  area = sym e.area;
  registered = sym e.registered;
  present = λ page. sym (e.present page);
  bytes = λ cell. sym (e.bytes cell);
}

-- ---- acts on queues

-- an act on a queue leaves memory
queue_bytes : (g : ℕ) (acts : List Act) (act : QueueAct) (cell : Cell) → (last_put g (Queue act ∷ acts) cell).byte ≡ (last_put g acts cell).byte
queue_bytes g acts act (Iova a) = queue_spot g acts act (Iova a) tt
queue_bytes g acts act (Area o) = queue_spot g acts act (Area o) tt
queue_bytes g acts act (Ram k i) = refl

pub queue_alone : (g : ℕ) (acts : List Act) (act : QueueAct) → IsAlike g (Queue act ∷ acts) acts
queue_alone g acts act = record {
  count = refl;
  lens = λ k. refl;
  total = refl;
  mappings = refl;
  mapped = refl;
  coherent = refl;
  made = refl;
  shown = refl;
  area = refl;
  registered = refl;
  present = λ page. refl;
  bytes = queue_bytes g acts act;
}

pub alike_queue : (g : ℕ) (more acts : List Act) (act : QueueAct) → IsAlike g more acts → IsAlike g more (Queue act ∷ acts)
alike_queue g more acts act e = alike_more g more acts (Queue act ∷ acts) e (alike_back g (Queue act ∷ acts) acts (queue_alone g acts act))

pub queue_alike : (g : ℕ) (more acts : List Act) (act : QueueAct) → IsAlike g more acts → IsAlike g (Queue act ∷ more) acts
queue_alike g more acts act e = alike_more g (Queue act ∷ more) more acts (queue_alone g more act) e

-- ---- a driver's act on both sides

-- where the same bytes are put at addresses, their cells are the same after it
pub spots_step : (g : ℕ) (more acts : List Act) (act : DriverAct) → registration_of more ≡ registration_of acts → AreSpotsAlike g more acts
    → ((a : ℕ) → puts_of g more (Driver act) a ≡ puts_of g acts (Driver act) a) → AreSpotsAlike g (Driver act ∷ more) (Driver act ∷ acts)
spots_step g more acts act reg spots same cell s =
    driver_spot g more act cell s
    ∙ ap (λ r. over (puts_of g more (Driver act)) (address_of r cell) (last_put g more cell).byte) reg
    ∙ over_same (puts_of g more (Driver act)) (puts_of g acts (Driver act)) (address_of (registration_of acts) cell) (last_put g more cell).byte (last_put g acts cell).byte
    same (spots cell s)
    ∙ sym (driver_spot g acts act cell s)

pub alike_put : (g : ℕ) (more acts : List Act) (at : ℕ) (bytes : List ℕ) → IsAlike g more acts
    → IsAlike g (Driver (Driver_put at bytes) ∷ more) (Driver (Driver_put at bytes) ∷ acts)
alike_put g more acts at bytes e = alike_off g (Driver (Driver_put at bytes) ∷ more) (Driver (Driver_put at bytes) ∷ acts) (record {
  shape = record {
    mappings = e.mappings;
    mapped = e.mapped;
    coherent = e.coherent;
    made = e.made;
    shown = e.shown;
    area = e.area;
    registered = e.registered;
    present = e.present;
  };
  spots = spots_step g more acts (Driver_put at bytes) e.registered (λ cell s. e.bytes cell) (λ a. refl);
  count = e.count;
  lens = e.lens;
  total = e.total;
  rams = λ k i f. e.bytes (Ram k i);
})

-- each of the acts is a put of the driver
abbrev pub ArePuts : List Act → Type 0
ArePuts [] = Unit {0}
ArePuts (Driver (Driver_put at bytes) ∷ acts) = ArePuts acts
ArePuts _ = ⊥

pub alike_puts : (g : ℕ) (more acts puts : List Act) → ArePuts puts → IsAlike g more acts → IsAlike g (puts ++ more) (puts ++ acts)
alike_puts g more acts [] all e = e
alike_puts g more acts (Driver (Driver_put at bytes) ∷ puts) all e = alike_put g (puts ++ more) (puts ++ acts) at bytes (alike_puts g more acts puts all e)
alike_puts g more acts _ all e = absurd all

-- ---- a memory that stands for them

pub domain_alike : (x : Setting) (more acts : List Act) (h : Held) (m : Pool) → IsShaped x.per_page more acts → AreSpotsAlike x.per_page more acts
    → domain.Stands x more h m → domain.Stands x acts h m
domain_alike x more acts h m e spots s = record {
  bounce = s.bounce;
  iova = s.iova;
  per_page = s.per_page;
  live = s.live ∙ e.mappings;
  maps = s.maps ∙ e.mapped;
  regions = s.regions ∙ e.coherent;
  made = s.made ∙ e.made;
  is_shown = s.is_shown ∙ e.shown;
  area = s.area ∙ e.area;
  registered = sym e.registered ∙ s.registered;
  present = λ p below. s.present p below ∙ e.present p;
  bytes = λ a free below seen. s.bytes a free below (e.present (page_of x.per_page a) ∙ seen) ∙ spots (Iova a) tt;
  area_bytes = λ o below. s.area_bytes o below ∙ spots (Area o) tt;
  shared = λ a above covered. s.shared a above (ap (λ (rs : List Coherent). list_any (λ r. region_covers r a) rs) e.coherent ∙ covered) ∙ spots (Iova a) tt;
}

pub stands_alike : (x : Setting) (more acts : List Act) (k : Memory) (m : Pool) → IsAlike x.per_page more acts → Stands x more k m → Stands x acts k m
stands_alike x more acts k m e s = record {
  domain = domain_alike x more acts k.domain m (shaped x.per_page more acts e) (λ cell t. e.bytes cell) s.domain;
  buffers = record {
    count = s.buffers.count ∙ e.count;
    lens = λ b. s.buffers.lens b ∙ e.lens b;
    bytes = λ b bytes there i inside. s.buffers.bytes b bytes there i inside ∙ e.bytes (Ram b i);
    total = s.buffers.total ∙ e.total;
  };
  inside = subst (λ ms. All (IsInside acts) ms) e.mappings
      (stay_inside more acts (live_mappings more) (λ b size there. sym (e.lens b) ∙ there) s.inside);
}
