-- The definitions worked out on messages as they stand on the wire, so that a wrong rule among them does not check.
use Rattle.std.proofs.Common.{◌≡◌, ℕ, List, [], ◌∷◌, map, Some, None, refl}
use Rattle.std.specs.declared.net.Ipv6Addr.{Ipv6Addr}
use Rattle.dhcp_wire.specs.declared.error.ErrorKind.TheVariants.{InvalidDhcpMessage, NotSupported}
use Rattle.dhcp_wire.specs.Field.{bytes_at, ipv6_address_of}
use Rattle.dhcp_wire.specs.RawOption.{raw_option_at, raw_options_within, filling_options, written_raw_option}
use Rattle.dhcp6_opt.specs.declared.duid.DhcpV6Duid.{DhcpV6Duid}
use Rattle.dhcp6_opt.specs.declared.duid.DhcpV6Duid.TheVariants.{LinkLayerAddress}
use Rattle.dhcp6_opt.specs.declared.ia.DhcpV6OptionIaNa.{DhcpV6OptionIaNa}
use Rattle.dhcp6_opt.specs.declared.option.DhcpV6Option.{DhcpV6Option}
use Rattle.dhcp6_opt.specs.declared.option.DhcpV6Option.TheVariants.{ClientId, ServerId, IANA}
use Rattle.dhcp6_opt.specs.declared.option_code.DhcpV6OptionCode.TheVariants as names
use Rattle.dhcp6_opt.specs.Duid.{duid_in, written_duid}
use Rattle.dhcp6_opt.specs.Ia.{inside_in, ia_na_in, ia_address_in, written_ia_address, written_ia_na}
use Rattle.dhcp6_opt.specs.OptionCode.{code_of, number_of}
use Rattle.dhcp6_opt.specs.Options.{first_of, lists_of, read_options}
use Rattle.dhcp6_opt.specs.Status.{status_after}
use Rattle.dhcp6_opt.specs.Value.{value_of, said_in, written_value, written_option, option_code}
use Rattle.dhcp6_opt.specs.Written.{as_option}
use Rattle.dhcp6_opt.proofs.OptionListLemmas.{first_of-placed, first_of-missing}
use Rattle.dhcp6_msg.specs.declared.message.DhcpV6Message.{DhcpV6Message}
use Rattle.dhcp6_msg.specs.declared.message_type.DhcpV6MessageType.TheVariants.{Reply}
use Rattle.dhcp6_msg.specs.declared.mode.DhcpV6IaType.TheVariants.{NonTemporaryAddresses}
use Rattle.dhcp6_msg.specs.declared.mode.DhcpV6Mode.TheVariants as modes
use Rattle.dhcp6_msg.specs.Config.{Config}
use Rattle.dhcp6_msg.specs.Lease.{rebinding_time, renewal_time, terms_of, with_na, with_ta, with_pd}
use Rattle.dhcp6_msg.specs.Message.{elapsed_hundredths, id_bytes, id_number, read_message, refusal_of}
use Rattle.dhcp6_msg.specs.MessageTable.{association_of_mode, options_of, solicit}
use Rattle.dhcp6_msg.specs.MessageType.{type_number, type_of}

-- a time of 655,349 milliseconds is written as 65,534, and longer ones as 65,535
pub elapsed-below : elapsed_hundredths 655349 ≡ 65534
elapsed-below = refl

pub elapsed-at : elapsed_hundredths 655350 ≡ 65535
elapsed-at = refl

pub elapsed-past : elapsed_hundredths 655360 ≡ 65535
elapsed-past = refl

-- the lower 24 bits of a number, and their number
pub id-bytes : id_bytes 0x12abcdef ≡ 0xab ∷ 0xcd ∷ 0xef ∷ []
unfolding id_bytes
id-bytes = refl

pub id-number : id_number (0xab ∷ 0xcd ∷ 0xef ∷ []) ≡ 0xabcdef
unfolding id_number
id-number = refl

-- how messages are refused
pub empty-refused : refusal_of [] ≡ InvalidDhcpMessage
unfolding refusal_of bytes_at
empty-refused = refl

pub type-refused : refusal_of (14 ∷ []) ≡ NotSupported
unfolding refusal_of bytes_at type_of type_number
type-refused = refl

pub short-refused : refusal_of (7 ∷ 0 ∷ 0 ∷ []) ≡ InvalidDhcpMessage
unfolding refusal_of bytes_at type_of type_number
short-refused = refl

-- a Reply that grants an address
abbrev reply_bytes : List ℕ
reply_bytes =
    7 ∷ 0 ∷ 0 ∷ 0 ∷ 0 ∷ 1 ∷ 0 ∷ 10 ∷ 0 ∷ 3 ∷ 0 ∷ 1 ∷ 2 ∷ 0 ∷ 0 ∷ 0 ∷ 0 ∷ 1 ∷ 0 ∷ 2 ∷ 0 ∷ 10 ∷ 0 ∷ 3 ∷ 0 ∷ 1 ∷ 2 ∷ 0 ∷ 0 ∷ 0 ∷ 0 ∷ 2
    ∷ 0 ∷ 3 ∷ 0 ∷ 40 ∷ 0 ∷ 0 ∷ 0 ∷ 0 ∷ 0 ∷ 0 ∷ 0 ∷ 50 ∷ 0 ∷ 0 ∷ 0 ∷ 80
    ∷ 0 ∷ 5 ∷ 0 ∷ 24 ∷ 32 ∷ 1 ∷ 13 ∷ 184 ∷ 0 ∷ 0 ∷ 0 ∷ 0 ∷ 0 ∷ 0 ∷ 0 ∷ 0 ∷ 0 ∷ 0 ∷ 0 ∷ 16 ∷ 0 ∷ 0 ∷ 0 ∷ 100 ∷ 0 ∷ 0 ∷ 0 ∷ 200 ∷ []

abbrev client : DhcpV6Duid
client = LinkLayerAddress record { hardware_type = 1; link_layer_address = 2 ∷ 0 ∷ 0 ∷ 0 ∷ 0 ∷ 1 ∷ [] }

abbrev server : DhcpV6Duid
server = LinkLayerAddress record { hardware_type = 1; link_layer_address = 2 ∷ 0 ∷ 0 ∷ 0 ∷ 0 ∷ 2 ∷ [] }

abbrev granted : Ipv6Addr
granted = ipv6_address_of (32 ∷ 1 ∷ 13 ∷ 184 ∷ 0 ∷ 0 ∷ 0 ∷ 0 ∷ 0 ∷ 0 ∷ 0 ∷ 0 ∷ 0 ∷ 0 ∷ 0 ∷ 16 ∷ [])

abbrev association : DhcpV6OptionIaNa
association = record { iaid = 0; t1_sec = 50; t2_sec = 80; address = Some record { address = granted; preferred_time_sec = 100; valid_time_sec = 200; status = None }; status = None }

abbrev reply_options : List DhcpV6Option
reply_options =
    ClientId client ∷ ServerId server
    ∷ IANA association ∷ []

abbrev reply : DhcpV6Message
reply = record { msg_type = Reply; xid = 0 ∷ 0 ∷ 0 ∷ []; options = lists_of reply_options }

pub reply-reads : read_message reply_bytes ≡ Some reply
unfolding read_message type_of type_number read_options value_of said_in written_option written_value raw_option_at raw_options_within filling_options written_raw_option bytes_at code_of number_of duid_in written_duid status_after inside_in ia_na_in ia_address_in as_option written_ia_address written_ia_na option_code
reply-reads = refl

-- which of its options is the first of each code
first-status : first_of (lists_of reply_options) 13 ≡ None
unfolding option_code number_of
first-status = first_of-missing reply_options 13 refl

first-na : first_of (lists_of reply_options) 3 ≡ Some (IANA association)
unfolding option_code number_of
first-na = first_of-placed reply_options 3 2 (IANA association) refl

first-ta : first_of (lists_of reply_options) 4 ≡ None
unfolding option_code number_of
first-ta = first_of-missing reply_options 4 refl

first-pd : first_of (lists_of reply_options) 25 ≡ None
unfolding option_code number_of
first-pd = first_of-missing reply_options 25 refl

-- what it grants
pub reply-terms : terms_of (lists_of reply_options) ≡ record {
  ia_type = Some NonTemporaryAddresses;
  iaid = 0;
  address = granted;
  prefix_len = 128;
  t1_sec = 50;
  t2_sec = 80;
  preferred_time_sec = 100;
  valid_time_sec = 200;
}
unfolding terms_of with_na with_ta with_pd
reply-terms = rw (first-na, first-ta, first-pd) refl

-- times that are left to the client
pub half-of-preferred : renewal_time 0 101 ≡ 50
half-of-preferred = refl

pub three-quarters-of-preferred : rebinding_time 0 101 ≡ 75
three-quarters-of-preferred = refl

pub nothing-preferred : renewal_time 0 0 ≡ 0
nothing-preferred = refl

-- the Solicit of a configuration that asks for an address and for name servers, option by option
abbrev config : Config
config = record {
  iface_name = [];
  iface_index = 1;
  duid = client;
  mode = modes.NonTemporaryAddresses;
  src_ip = granted;
  timeout_sec = 0;
  request_opts = names.DnsServers ∷ [];
  src_mac = None;
}

pub solicit-written : map written_option (options_of config (solicit config.mode 0 0)) ≡
    (0 ∷ 1 ∷ 0 ∷ 10 ∷ 0 ∷ 3 ∷ 0 ∷ 1 ∷ 2 ∷ 0 ∷ 0 ∷ 0 ∷ 0 ∷ 1 ∷ [])
    ∷ (0 ∷ 3 ∷ 0 ∷ 12 ∷ 0 ∷ 0 ∷ 0 ∷ 0 ∷ 0 ∷ 0 ∷ 0 ∷ 0 ∷ 0 ∷ 0 ∷ 0 ∷ 0 ∷ [])
    ∷ (0 ∷ 6 ∷ 0 ∷ 2 ∷ 0 ∷ 23 ∷ [])
    ∷ (0 ∷ 8 ∷ 0 ∷ 2 ∷ 0 ∷ 0 ∷ [])
    ∷ []
unfolding association_of_mode written_option written_value written_raw_option number_of written_duid as_option written_ia_na option_code
solicit-written = refl
