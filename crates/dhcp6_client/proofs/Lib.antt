mod Beginnings
mod Granted
mod Held
mod Lawful
mod Limits
mod TakenWords
mod Traffic
pub mod Verdicts
