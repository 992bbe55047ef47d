pub mod Ack
pub mod Answer
pub mod Binding
pub mod Blocks
pub mod Config
pub mod Decision
pub mod Reply
pub mod Request
pub mod Server
pub mod Table
-- the definition that a function unfolds beside another
pub use Rattle.dhcp4_server.specs.Reply.{reply_message}
