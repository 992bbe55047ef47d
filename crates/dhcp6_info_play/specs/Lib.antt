pub mod InfoScript
pub mod Promises
pub mod Reader
pub mod Replayed
pub mod Tool
