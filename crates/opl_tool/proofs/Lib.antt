pub mod EndsLemmas
pub mod FindsLemmas
pub mod HeadlineLemmas
pub mod JudgedLemmas
pub mod LineCases
pub mod LineLemmas
pub mod Outcomes
pub mod PrintedLemmas
