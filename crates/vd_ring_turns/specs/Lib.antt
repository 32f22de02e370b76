pub mod FirstFetchLaw
pub mod HandLaw
