-- How long the messages of the table are.
use Rattle.std.proofs.Common.{◌≡◌, ℕ, ◌+◌, ◌≤◌, List, [], ◌∷◌, ◌++◌, length, replicate, IsTrue, IfSome, Option, Some, None, refl, arith, length-append}
use Rattle.std.specs.FinMap as map
use Rattle.std.specs.FinMap.{empty}
use Rattle.std.specs.declared.net.Ipv4Addr.{Ipv4Addr}
use Rattle.std.specs.Int.{w32, to_be_bytes}
use Rattle.std.specs.Net.Addr.{ipv4_octets, IsIpv4Addr}
use Rattle.std.proofs.lemmas.List.{length-map, length-take}
use Rattle.dhcp_wire.specs.Field.{terminated_text}
use Rattle.dhcp4_msg.specs.declared.option.DhcpV4Option.{DhcpV4Option}
use Rattle.dhcp4_msg.specs.declared.option.DhcpV4Option.TheVariants.{MessageType, ParameterRequestList}
use Rattle.dhcp4_msg.specs.OptionCode.{number_of}
use Rattle.dhcp4_msg.specs.Message.{no_address, magic_cookie, written_numbers, written_address_fields, written_texts, written_message}
use Rattle.dhcp4_msg.specs.Options.{written_options}
use Rattle.dhcp4_msg.specs.Value.{written_option, written_value}
use Rattle.dhcp4_lease.specs.declared.message_forms.DhcpV4MessageForms.{DhcpV4MessageForms}
use Rattle.dhcp4_lease.specs.declared.message_forms.DhcpV4MessageForms.TheVariants.{Mozim, Rfc2131}
use Rattle.dhcp4_lease.specs.declared.message_table.Row.{Row}
use Rattle.dhcp4_lease.specs.Config.{Config, is_within_limits}
use Rattle.dhcp4_lease.specs.Laws.{IsTyped, IsRow, RowIsShort}
use Rattle.dhcp4_lease.specs.MessageTable.{client_option, host_name_option, options_of, requested_option, server_option, table_message}
use Rattle.dhcp4_msg.proofs.AddedOptions.{length-numbers, length-written_options, size_of-empty, size_of-with_options, total}
use Rattle.dhcp4_lease.proofs.OptionLemmas.{limits_of}

-- how many bytes the options of a row take
total-append : (xs ys : List DhcpV4Option) → total (xs ++ ys) ≡ total xs + total ys
total-append [] ys = omega arith
total-append (x ∷ xs) ys = omega (arith, total-append xs ys)

-- a text is cut to 254 bytes and a zero byte
total-host_name : (text : List ℕ) → total (host_name_option text) ≤ 257
unfolding written_option written_value
total-host_name [] = omega arith
total-host_name (byte ∷ bytes) = simp (length-append, length-take) (omega arith)

total-requested : (requested : Option Ipv4Addr) → IfSome requested IsIpv4Addr → total (requested_option requested) ≤ 6
unfolding written_option written_value
total-requested None is = omega arith
total-requested (Some address) is = omega (arith, is.0)

total-server : (server : Option Ipv4Addr) → IfSome server IsIpv4Addr → total (server_option server) ≤ 6
unfolding written_option written_value
total-server None is = omega arith
total-server (Some address) is = omega (arith, is.0)

total-client : (forms : DhcpV4MessageForms) (bytes : List ℕ) → total (client_option forms bytes) ≤ length bytes + 2
unfolding written_option written_value
total-client Mozim bytes = omega arith
total-client Rfc2131 [] = omega arith
total-client Rfc2131 (byte ∷ bytes) = omega arith

total-fixed : (config : Config) (row : Row) → IsTrue (is_within_limits config) →
    total (ParameterRequestList config.request_opts ∷ client_option config.message_forms config.client_id) ≤ 514
unfolding written_option written_value
total-fixed config row within =
    let limits = limits_of config within in
    omega (arith, limits.request_opts, limits.client_id, total-client config.message_forms config.client_id, length-map config.request_opts number_of)

total-type : (row : Row) → length (written_option (MessageType row.message_type)) ≡ 3
unfolding written_option written_value
total-type row = refl

total-options : (config : Config) (row : Row) → IsTrue (is_within_limits config) → IsRow row → total (options_of config row) ≤ 786
total-options config row within is =
    let name = host_name_option config.host_name in
    let requested = requested_option row.requested in
    let server = server_option row.server in
    let fixed = ParameterRequestList config.request_opts ∷ client_option config.message_forms config.client_id in
    let middle = MessageType row.message_type ∷ server in
    omega (
      arith,
      total-host_name config.host_name,
      total-requested row.requested is.requested,
      total-server row.server is.server,
      total-fixed config row within,
      total-type row,
      total-append (name ++ requested ++ middle) fixed,
      total-append (name ++ requested) middle,
      total-append name requested,
    )

length-addresses : (ciaddr : Ipv4Addr) (mac : List ℕ) → IsIpv4Addr ciaddr → length mac ≡ 6 →
    length (ipv4_octets ciaddr ++ (ipv4_octets no_address ++ (ipv4_octets no_address ++ (ipv4_octets no_address ++ (mac ++ replicate 10 0))))) ≡ 32
length-addresses ciaddr mac is six =
    let field = mac ++ replicate 10 0 in
    let none = ipv4_octets no_address in
    omega (arith, is.0, six, length-append (ipv4_octets ciaddr) (none ++ (none ++ (none ++ field))), length-append mac (replicate 10 0))

length-texts : length (terminated_text 64 [] ++ (terminated_text 128 [] ++ to_be_bytes w32 magic_cookie)) ≡ 196
length-texts = refl

-- the message of a row
length-message : (id : ℕ) (config : Config) (row : Row) → IsTrue (is_within_limits config) → IsTyped config → IsRow row →
    length (written_message (table_message id config row)) ≤ 1027
unfolding table_message written_message
length-message id config row within typed is =
    let message = table_message id config row in
    let numbers = written_numbers message in
    let addresses = written_address_fields message in
    let texts = written_texts message in
    let options = written_options message.options in
    omega (
      arith,
      length-append numbers (addresses ++ (texts ++ options)),
      length-append addresses (texts ++ options),
      length-append texts options,
      length-numbers message,
      length-addresses row.ciaddr config.src_mac is.ciaddr typed.src_mac,
      length-texts,
      length-written_options message.options,
      size_of-with_options (options_of config row) map.empty,
      total-options config row within is,
      size_of-empty,
    )

pub row_is_short : (config : Config) (row : Row) → IsTrue (is_within_limits config) → IsTyped config → IsRow row → RowIsShort config row
row_is_short config row within typed is id = length-message id config row within typed is
