-- The small lists compute.
use Rattle.std.proofs.Common.{true, false, refl, true≢false}
use Rattle.vd_model.specs.declared.memory.Dir.TheVariants.{From}
use Rattle.vd_laws.specs.MemorySamples.{mapping_sample}
use Rattle.vd_transfer_laws.specs.TransferInstances.{TransferInstances}

pub transfer_met : TransferInstances
transfer_met = record {
  known = refl;
  untouched = (refl, tt);
  shows = refl;
  touched = λ h. true≢false h.0;
  through_it = (mapping_sample From, refl, refl);
  kept = (refl, tt);
  comes_back = refl;
}
