-- The live mappings and regions, by what is kept under their numbers.
use Rattle.std.specs.Prelude.{ℕ, List, map}
use Rattle.vd_model.specs.Acts.{Streaming, Coherent}
use Rattle.vd_domain.specs.declared.streaming.Bounced.{Bounced}
use Rattle.vd_domain.specs.declared.streaming.Extent.{Extent}

abbrev pub mapping_at : ℕ × Bounced → Streaming
mapping_at e = record { number = e.0; slot = e.1.slot; want = e.1.want }

abbrev pub mappings_of : List (ℕ × Bounced) → List Streaming
mappings_of es = map mapping_at es

abbrev pub region_at : ℕ × Extent → Coherent
region_at e = record { number = e.0; slot = e.1.slot; len = e.1.len }

abbrev pub regions_of : List (ℕ × Extent) → List Coherent
regions_of es = map region_at es
