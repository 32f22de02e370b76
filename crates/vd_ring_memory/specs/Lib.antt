pub mod Puts
pub mod PutLemmas
pub mod RingPuts
pub mod RingPutLemmas
pub mod Known
pub mod Stores
