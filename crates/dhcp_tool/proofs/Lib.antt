pub mod EndsLemmas
pub mod TextsLemmas
