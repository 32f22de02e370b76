-- The law of the image is met: two names store at the same place of their windows.
use Rattle.std.specs.Prelude.{List, [], ◌∷◌, false, Some, ◌≡◌}
use Rattle.vd_num.specs.declared.errno.Errno.TheVariants.{Busy}
use Rattle.vd_model.specs.declared.answer.Answer.TheVariants.{Err}
use Rattle.vd_model.specs.Acts.{Disk_act, Stored}
use Rattle.vd_model.specs.Deeds.{Deed, On, acts_of_name, window_of, window_byte, image_byte}
use Rattle.vd_model.specs.History.{History, deeds_of, reply}
use Rattle.vd_laws.specs.Small.{small_setting, v, w, history_of, dev, image}

-- v has the sectors 0 to 3, and w those from 4 to 7
abbrev pub two_windows : History
two_windows = history_of (image w 4 4 ∷ image v 0 4 ∷ dev w ∷ dev v ∷ [])

-- then each stores a byte at the start of its window
abbrev pub two_stores : List Deed
two_stores = On w (Disk_act (Stored 0 (9 ∷ []))) ∷ On v (Disk_act (Stored 0 (7 ∷ []))) ∷ deeds_of small_setting two_windows

pub record ImageInstances : Type 0 where
  -- the second window is where the first one isn't
  pub of_v : window_of v (deeds_of small_setting two_windows) ≡ Some (record { first = 0; count = 4 })
  pub of_w : window_of w (deeds_of small_setting two_windows) ≡ Some (record { first = 4; count = 4 })
  pub met : reply small_setting (history_of (image v 0 4 ∷ dev w ∷ dev v ∷ [])) (image w 3 4) false ≡ Err Busy
  -- the image holds both bytes, and each name's acts tell its own
  pub image_of_v : image_byte small_setting two_stores 0 ≡ 7
  pub image_of_w : image_byte small_setting two_stores 2048 ≡ 9
  pub window_of_v : window_byte (λ i. 0) (acts_of_name v two_stores) 0 ≡ 7
  pub window_of_w : window_byte (λ i. 0) (acts_of_name w two_stores) 0 ≡ 9
