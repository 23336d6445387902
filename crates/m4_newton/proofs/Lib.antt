pub mod BitProducts
pub mod ByBits
pub mod EntryLemmas
pub mod PlainLemmas
pub mod PowerLemmas
pub mod StripLemmas
pub mod TableLemmas
pub mod WindowLemmas
