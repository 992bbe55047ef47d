pub mod Config
pub mod Exchange
pub mod Laws
pub mod Lease
pub mod Message
pub mod MessageTable
pub mod MessageType
pub mod Mode
pub mod Setter
pub mod View
-- the definitions that a function unfolds beside another
pub use Rattle.dhcp6_msg.specs.Message.{read_message, refusal_of}
pub use Rattle.dhcp6_msg.specs.MessageType.{type_number, type_of}
