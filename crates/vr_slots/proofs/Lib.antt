pub mod SlotLemmas
