pub mod AddressKind
pub mod DomainName
pub mod DrawnDuid
pub mod Duid
pub mod Ia
pub mod Laws
pub mod LinkLayerAddress
pub mod NtpServer
pub mod OptionCode
pub mod OptionIndex
pub mod OptionOrder
pub mod Options
pub mod RawOption
pub mod Said
pub mod Status
pub mod Value
pub mod VariantOrder
pub mod Written
-- the definitions that a function unfolds beside another
pub use Rattle.dhcp6_opt.specs.NtpServer.{written_ntp_server}
pub use Rattle.dhcp6_opt.specs.OptionCode.{code_of, number_of}
pub use Rattle.dhcp6_opt.specs.OptionOrder.{fields_of}
pub use Rattle.dhcp6_opt.specs.Value.{fits, written_option}
