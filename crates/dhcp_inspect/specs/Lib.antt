pub mod Capture
pub mod Header
pub mod Laws
pub mod Message
pub mod Record
pub mod Report
pub mod Tool
