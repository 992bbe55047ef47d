pub mod Becomes
pub mod Clients
pub mod Grants
pub mod Hold
pub mod Net
pub mod OneAddress
pub mod Running
pub mod Script
