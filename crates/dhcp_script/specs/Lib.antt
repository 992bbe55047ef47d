pub mod Codes
pub mod Demo
pub mod Duid
pub mod Event
pub mod Field
pub mod FieldReader
pub mod Lease4
pub mod Lease4Reader
pub mod Lease6
pub mod Lease6Reader
pub mod Life
pub mod LifeReader
pub mod Puts
pub mod Script
pub mod Script4
pub mod Script6
pub mod ScriptReader
pub mod TimeServer
pub mod Version
pub mod Version3
-- the definitions that a function unfolds beside another
pub use Rattle.dhcp_script.specs.Script4.{config_of}
pub use Rattle.dhcp_script.specs.Script6.{config_of as config6_of}
pub mod LiveLine
pub mod LiveLineReader
