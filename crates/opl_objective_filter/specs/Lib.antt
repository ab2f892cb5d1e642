pub mod ObjectiveFilters
