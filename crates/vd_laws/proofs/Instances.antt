-- The instances compute.
use Rattle.std.proofs.Common.{refl}
use Rattle.vd_model.specs.Agree.{device_entries}
use Rattle.vd_model.specs.History.{deeds_of}
use Rattle.vd_laws.specs.ImageInstances.{ImageInstances}
use Rattle.vd_laws.specs.IsolationInstances.{IsolationInstances}
use Rattle.vd_laws.specs.MessageInstances.{MessageInstances}

pub messages_met : MessageInstances
unfolding deeds_of
messages_met = record { held = refl; requeued = refl; comes_again = refl; answered = refl; answered_twice = refl; replied = refl; late = refl }

pub isolation_met : IsolationInstances
unfolding deeds_of device_entries
isolation_met = record {
  agree = refl;
  differ = λ e. cc;
  peek_is_private = refl;
  with_others = refl;
  without_others = refl;
  image_is_shared = refl;
  image_is_busy = refl;
  image_is_free = refl;
}

pub image_met : ImageInstances
unfolding deeds_of
image_met = record { of_v = refl; of_w = refl; met = refl; image_of_v = refl; image_of_w = refl; window_of_v = refl; window_of_w = refl }
