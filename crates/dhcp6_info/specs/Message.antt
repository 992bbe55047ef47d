-- What a client hands to its link, RFC 8415 sections 7.1, 7.2 and 18.2.6: an Information-request,
-- which goes to all servers and relays of the link.
use Rattle.std.specs.Prelude.{ℕ, ◌==◌, Bool, List, [], ◌∷◌, ◌++◌, if◌then◌else◌}
use Rattle.std.specs.List.{list_any}
use Rattle.dhcp_clock.specs.declared.link.Handed.{Handed}
use Rattle.dhcp_clock.specs.declared.link.Handed.TheVariants as handed
use Rattle.dhcp6_opt.specs.declared.option.DhcpV6Option.TheVariants.{OptionRequestOption}
use Rattle.dhcp6_opt.specs.declared.option_code.DhcpV6OptionCode.{DhcpV6OptionCode}
use Rattle.dhcp6_opt.specs.OptionCode.{code_of, number_of}
use Rattle.dhcp6_msg.specs.declared.message.DhcpV6Message.{DhcpV6Message}
use Rattle.dhcp6_msg.specs.declared.message_type.DhcpV6MessageType.TheVariants.{InformationRequest}
use Rattle.dhcp6_msg.specs.Config.{Config}
use Rattle.dhcp6_msg.specs.Message.{client_options, message_with, with_more, written_message}

-- whether these codes ask for the refresh time, option 32
abbrev pub is_refresh_code : DhcpV6OptionCode → Bool
is_refresh_code code = number_of code == 32

abbrev pub asks_for_refresh : List DhcpV6OptionCode → Bool
asks_for_refresh codes = list_any is_refresh_code codes

-- The codes that are asked for: these, and that of the refresh time. Section 18.2.6 asks for that
-- of INF_MAX_RT too, which this client does not act on.
abbrev pub requested_codes : List DhcpV6OptionCode → List DhcpV6OptionCode
requested_codes codes = if asks_for_refresh codes then codes else codes ++ code_of 32 ∷ []

-- the message of a client that has tried for so many milliseconds
abbrev pub information_request : ℕ → Config → ℕ → DhcpV6Message
information_request xid config elapsed_ms =
    with_more (message_with InformationRequest xid (client_options config.duid elapsed_ms))
    (OptionRequestOption (requested_codes config.request_opts) ∷ [])

-- a payload from the client's address on its interface
abbrev pub sent_from : Config → List ℕ → Handed
sent_from config payload = handed.Udp6 config.src_ip config.iface_index payload

-- what is handed to the link at an attempt
abbrev pub attempt_message : ℕ → Config → ℕ → Handed
attempt_message xid config elapsed_ms =
    sent_from config (written_message (information_request xid config elapsed_ms))
