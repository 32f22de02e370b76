-- Acts that leave the same memory.
use Rattle.std.specs.Prelude.{ℕ, ◌≡◌, List}
use Rattle.vd_model.specs.Acts.{Act}
use Rattle.vd_model.specs.Live.{buffers, buffer_len, buffers_len, live_mappings, maps, live_regions, regions, is_bounce_live, area_len, registration_of, is_present}
use Rattle.vd_model.specs.Puts.{Cell, last_put}

-- nothing that is kept of a device's memory tells these acts from those, where a page has g slots
pub record IsAlike (g : ℕ) (more acts : List Act) : Type 0 where
  pub count : buffers more ≡ buffers acts
  pub lens : (k : ℕ) → buffer_len more k ≡ buffer_len acts k
  pub total : buffers_len more ≡ buffers_len acts
  pub mappings : live_mappings more ≡ live_mappings acts
  pub mapped : maps more ≡ maps acts
  pub coherent : live_regions more ≡ live_regions acts
  pub made : regions more ≡ regions acts
  pub shown : is_bounce_live more ≡ is_bounce_live acts
  pub area : area_len more ≡ area_len acts
  pub registered : registration_of more ≡ registration_of acts
  pub present : (page : ℕ) → is_present g more page ≡ is_present g acts page
  pub bytes : (cell : Cell) → (last_put g more cell).byte ≡ (last_put g acts cell).byte
