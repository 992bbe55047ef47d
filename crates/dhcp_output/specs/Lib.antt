pub mod Info
pub mod Output
