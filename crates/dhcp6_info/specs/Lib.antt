pub mod Answer
pub mod Bounds
pub mod Client
pub mod Given
pub mod Info
pub mod Message
pub mod Rules
pub mod State
