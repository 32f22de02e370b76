pub mod PlainLines
pub mod SubmitTurns
pub mod OtherLines
pub mod CalmLines
pub mod FreeRings
pub mod OrderLaw
pub mod OrderInstances
