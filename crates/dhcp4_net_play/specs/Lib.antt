pub mod Lines
pub mod NetScript
pub mod Output
pub mod Reader
pub mod Tool
