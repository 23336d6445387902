pub mod FillLemmas
pub mod SlotLemmas
pub mod PutLemmas
pub mod EntryLemmas
