pub mod ProductLemmas
pub mod QuarterLemmas
pub mod RoomLemmas
pub mod StepLemmas
pub mod SumLemmas
