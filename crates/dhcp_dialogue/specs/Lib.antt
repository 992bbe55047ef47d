pub mod Dialogue
pub mod Standard
