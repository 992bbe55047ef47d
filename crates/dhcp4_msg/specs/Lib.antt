pub mod Laws
pub mod LeaseTime
pub mod Message
pub mod MessageType
pub mod OptionCode
pub mod Options
pub mod Route
pub mod Value
pub mod View
-- the definitions that a function unfolds beside another
pub use Rattle.dhcp4_msg.specs.MessageType.{type_number, type_of}
pub use Rattle.dhcp4_msg.specs.OptionCode.{code_of, number_of}
pub use Rattle.dhcp4_msg.specs.Options.{classless_routes, message_type}
pub use Rattle.dhcp4_msg.specs.Value.{fits, written_option, written_value}
