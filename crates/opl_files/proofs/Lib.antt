pub mod DataLemmas
pub mod EachLemmas
pub mod LoadLemmas
pub mod LoadedLemmas
pub mod ReadingLemmas
pub mod ReadingOutcomes
pub mod StageLemmas
