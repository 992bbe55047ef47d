-- Messages of a client that read back as they are written.
use Rattle.std.specs.Prelude.{◌≡◌, Some, IsTrue}
use Rattle.dhcp6_opt.specs.Laws.{options_read_back}
use Rattle.dhcp6_msg.specs.declared.message.DhcpV6Message.{DhcpV6Message}
use Rattle.dhcp6_msg.specs.Config.{Config}
use Rattle.dhcp6_msg.specs.Lease.{Lease, is_duid}
use Rattle.dhcp6_msg.specs.Message.{read_message, written_message}

-- a message as it reads back: with its options as they do
abbrev pub message_read_back : DhcpV6Message → DhcpV6Message
message_read_back message =
    record message { options = options_read_back message.options }

-- the identifiers of a client and of the server of its lease can be sent
pub record AreSendable (config : Config) (lease : Lease) : Type 0 where
  pub client : IsTrue (is_duid config.duid)
  pub server : IsTrue (is_duid lease.srv_duid)

-- If a message is this one of the table, it reads back: as the table has it, with the codes that it
-- requests under their names, and with an identifier that is kept as its bytes alone by its type.
abbrev pub ReadsBackAs : DhcpV6Message → DhcpV6Message → Type 0
ReadsBackAs message built =
    message ≡ built → read_message (written_message message) ≡ Some (message_read_back built)
