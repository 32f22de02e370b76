-- The lemmas of this crate.
pub mod Leaving
pub mod KnownLemmas
pub mod Executions
pub mod FetchTurns
pub mod Fetches
pub mod FetchLines
pub mod FinishTurns
pub mod FinishPuts
pub mod FinishLines
