pub mod InfoLemmas
pub mod OutputLemmas
