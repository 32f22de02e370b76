pub mod FirmLaw
pub mod IndirectLaw
pub mod UnmapLaw
