pub mod HeaderLemmas
pub mod RecordLaws
pub mod RecordLemmas
pub mod TextLemmas
