pub mod AckLemmas
pub mod BindingLemmas
pub mod OwnerLemmas
pub mod ReplyLemmas
pub mod ServerLemmas
mod StandardFacts
pub mod TableLemmas
