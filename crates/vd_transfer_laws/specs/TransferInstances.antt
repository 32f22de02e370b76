-- Small lists of acts that meet the conditions of the law on transfers.
use Rattle.std.specs.Prelude.{[], ◌∷◌, true, ◌≡◌}
use Rattle.vd_model.specs.declared.memory.Dir.TheVariants.{To, From}
use Rattle.vd_model.specs.Acts.{Driver, Daemon_put, Buffer, Poked, Unmapped}
use Rattle.vd_model.specs.Puts.{ram, shown_put}
use Rattle.vd_model.specs.Direct.{is_marked, Known}
use Rattle.vd_laws.specs.MemorySamples.{mapping_sample, map_sample, store_sample, poke_sample}
use Rattle.vd_transfer_laws.specs.TransferLaw.{IsUntouched, IsKept, IsWrittenThrough, AreAll}

pub record TransferInstances : Type 0 where
  -- a poke of the first byte leaves the second one as it was handed, and it is shown
  pub known : is_marked (Driver (Buffer (7 ∷ 8 ∷ [])) ∷ []) (Known 0 1) ≡ true
  pub untouched : AreAll IsUntouched (Driver (Poked 0 0 (5 ∷ [])) ∷ []) (map_sample To) (mapping_sample To) 1
  pub shows : (shown_put 1 (poke_sample To) 0xf001).byte ≡ 8
  -- a poke of the byte itself doesn't
  pub touched : AreAll IsUntouched (Driver (Poked 0 1 (5 ∷ [])) ∷ []) (map_sample To) (mapping_sample To) 1 → ⊥
  -- a daemon's store goes through the mapping, stays over a poke of the other byte, and comes back
  pub through_it : IsWrittenThrough (map_sample From) (Daemon_put 0xf001 (9 ∷ [])) (mapping_sample From) 1
  pub kept : AreAll IsKept (Driver (Poked 0 0 (5 ∷ [])) ∷ []) (store_sample From) (mapping_sample From) 1
  pub comes_back : ram 1 (Driver (Unmapped (mapping_sample From)) ∷ Driver (Poked 0 0 (5 ∷ [])) ∷ store_sample From) 0 1 ≡ 9
