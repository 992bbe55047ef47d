mod Lawful
mod Traffic
mod Granted
mod Granting
pub mod TakenWords
pub mod Held
pub mod Verdicts
