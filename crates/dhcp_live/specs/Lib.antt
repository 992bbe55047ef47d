pub mod Answer
pub mod Begin
pub mod Dropped
pub mod Live
pub mod RunBytes
pub mod Session
pub mod Tool
pub mod Transcript
