-- The definitions worked out on a Discover and, by the forms of RFC 2131, on a renewal and a Release
-- as they stand on the wire, so that a wrong rule among them does not check.
use Rattle.std.proofs.Common.{◌≡◌, ℕ, List, [], ◌∷◌, ◌++◌, if◌then◌else◌, arith, length, map, replicate, false, refl, sym, ◌∙◌, ap}
use Rattle.std.specs.Prelude.{fold, is_some}
use Rattle.std.specs.Cmp.{nat_cmp_total}
use Rattle.std.specs.FinMap as maps
use Rattle.std.specs.FinMap.{entries, entries-insert, find, get-entries, insert, put}
use Rattle.std.specs.List.{flat_map}
use Rattle.std.specs.Ordering.{nat_cmp}
use Rattle.dhcp_wire.specs.Field.{address_of}
use Rattle.dhcp4_msg.specs.Message.{written_message}
use Rattle.dhcp4_msg.specs.MessageType.{type_number}
use Rattle.dhcp4_msg.specs.OptionCode.{code_of, number_of}
use Rattle.dhcp4_msg.specs.Options.{OptionMap, with_options, written_options}
use Rattle.dhcp4_msg.specs.Value.{option_code, option_number, written_option, written_value}
use Rattle.dhcp4_msg.specs.declared.option.DhcpV4Option.{DhcpV4Option}
use Rattle.dhcp4_msg.specs.declared.option_code.DhcpV4OptionCode.TheVariants.{DomainNameServer, Router, SubnetMask}
use Rattle.dhcp4_lease.specs.Config.{Config}
use Rattle.dhcp4_lease.specs.Lease.{Lease, empty_lease}
use Rattle.dhcp4_lease.specs.declared.message_forms.DhcpV4MessageForms.TheVariants.{Mozim, Rfc2131}
use Rattle.dhcp4_lease.specs.MessageTable.{discover, extend, options_of, release, table_message}

-- an option put among others, by its number
abbrev placed : List (ℕ × DhcpV4Option) → DhcpV4Option → List (ℕ × DhcpV4Option)
placed es option = put nat_cmp (option_number option) option es

-- the entries of options that are added to others
entries-with_options : (options : List DhcpV4Option) (kept : OptionMap) → entries (with_options kept options) ≡ fold placed (entries kept) options
entries-with_options [] kept = refl
entries-with_options (option ∷ options) kept =
    rw (sym (entries-insert nat_cmp_total kept (option_number option) option))
    (entries-with_options options (insert kept (option_number option) option))

-- a map without options has no entries
no_entries : (es : List (ℕ × DhcpV4Option)) → length es ≡ 0 → es ≡ []
no_entries [] none = refl
no_entries (e ∷ es) none = absurd (omega (arith, none))

entries-empty : entries (maps.empty {K = ℕ} {X = DhcpV4Option} {R = nat_cmp}) ≡ []
entries-empty = no_entries (entries maps.empty) (sym (maps.len-entries maps.empty) ∙ maps.len-empty nat_cmp DhcpV4Option)

-- how options with these entries are written
abbrev written_entries : List (ℕ × DhcpV4Option) → List ℕ
written_entries es =
    flat_map written_option (map (λ e. e.1) es)
    ++ (if is_some (find nat_cmp 255 es) then [] else 255 ∷ [])

written_options-entries : (options : OptionMap) → written_options options ≡ written_entries (entries options)
unfolding written_options
written_options-entries options = rw (get-entries options 255) refl

-- a configuration that asks for a subnet mask, routers and name servers
abbrev config : Config
config = record {
  iface_name = [];
  iface_index = 1;
  is_proxy = false;
  timeout_sec = 0;
  src_mac = 2 ∷ 0 ∷ 0 ∷ 0 ∷ 0 ∷ 1 ∷ [];
  client_id = 1 ∷ 2 ∷ 0 ∷ 0 ∷ 0 ∷ 0 ∷ 1 ∷ [];
  host_name = 0x66 ∷ 0x6f ∷ 0x6f ∷ [];
  request_opts = SubnetMask ∷ Router ∷ DomainNameServer ∷ [];
  message_forms = Mozim;
}

-- the options of its Discover: host name, message type, parameter request list, client identifier
-- and End
abbrev option_bytes : List ℕ
option_bytes =
    12 ∷ 4 ∷ 0x66 ∷ 0x6f ∷ 0x6f ∷ 0
    ∷ 53 ∷ 1 ∷ 1
    ∷ 55 ∷ 3 ∷ 1 ∷ 3 ∷ 6
    ∷ 61 ∷ 7 ∷ 1 ∷ 2 ∷ 0 ∷ 0 ∷ 0 ∷ 0 ∷ 1
    ∷ 255 ∷ []

-- what options without others are written as
written_as : (options : List DhcpV4Option) (bytes : List ℕ) → written_entries (fold placed [] options) ≡ bytes → written_options (with_options maps.empty options) ≡ bytes
written_as options bytes computed =
    written_options-entries (with_options maps.empty options)
    ∙ ap written_entries (entries-with_options options maps.empty)
    ∙ ap (λ es. written_entries (fold placed es options)) entries-empty
    ∙ computed

options-computed : written_entries (fold placed [] (options_of config discover)) ≡ option_bytes
unfolding written_option written_value option_code number_of code_of type_number
options-computed = refl

options-written : written_options (with_options maps.empty (options_of config discover)) ≡ option_bytes
options-written = written_as (options_of config discover) option_bytes options-computed

-- The whole Discover: a BOOTREQUEST over Ethernet, six bytes of hardware address, no hops, and the
-- transaction id; seconds, flags and addresses, all zero; the hardware address; the rest of its
-- field and both texts, all zero; the cookie; the options.
pub discover-written : written_message (table_message 0x12345678 config discover) ≡
    (1 ∷ 1 ∷ 6 ∷ 0 ∷ 0x12 ∷ 0x34 ∷ 0x56 ∷ 0x78 ∷ [])
    ++ replicate 20 0
    ++ (2 ∷ 0 ∷ 0 ∷ 0 ∷ 0 ∷ 1 ∷ [])
    ++ replicate 202 0
    ++ (99 ∷ 130 ∷ 83 ∷ 99 ∷ [])
    ++ option_bytes
unfolding written_message table_message
discover-written = rw options-written refl

-- ---- the forms of RFC 2131, tables 4 and 5

-- the same configuration with these forms, and without a client identifier
abbrev forms_config : Config
forms_config = record config { client_id = []; message_forms = Rfc2131 }

-- a lease of 192.0.2.10 by 192.0.2.1, whose next server is 192.0.2.9
abbrev held : Lease
held = record empty_lease {
  yiaddr = address_of (192 ∷ 0 ∷ 2 ∷ 10 ∷ []);
  siaddr = address_of (192 ∷ 0 ∷ 2 ∷ 9 ∷ []);
  srv_id = address_of (192 ∷ 0 ∷ 2 ∷ 1 ∷ []);
}

-- the options of its renewal: host name, message type, parameter request list and End
abbrev renewal_bytes : List ℕ
renewal_bytes =
    12 ∷ 4 ∷ 0x66 ∷ 0x6f ∷ 0x6f ∷ 0
    ∷ 53 ∷ 1 ∷ 3
    ∷ 55 ∷ 3 ∷ 1 ∷ 3 ∷ 6
    ∷ 255 ∷ []

-- those of its Release: the server identifier too
abbrev release_bytes : List ℕ
release_bytes =
    12 ∷ 4 ∷ 0x66 ∷ 0x6f ∷ 0x6f ∷ 0
    ∷ 53 ∷ 1 ∷ 7
    ∷ 54 ∷ 4 ∷ 192 ∷ 0 ∷ 2 ∷ 1
    ∷ 55 ∷ 3 ∷ 1 ∷ 3 ∷ 6
    ∷ 255 ∷ []

renewal-computed : written_entries (fold placed [] (options_of forms_config (extend Rfc2131 held))) ≡ renewal_bytes
unfolding written_option written_value option_code number_of code_of type_number empty_lease
renewal-computed = refl

release-computed : written_entries (fold placed [] (options_of forms_config (release Rfc2131 held))) ≡ release_bytes
unfolding written_option written_value option_code number_of code_of type_number empty_lease
release-computed = refl

-- a message with this client address and these options
abbrev with_address : List ℕ → List ℕ → List ℕ
with_address ciaddr options =
    (1 ∷ 1 ∷ 6 ∷ 0 ∷ 0x12 ∷ 0x34 ∷ 0x56 ∷ 0x78 ∷ [])
    ++ replicate 4 0 ++ ciaddr ++ replicate 12 0
    ++ (2 ∷ 0 ∷ 0 ∷ 0 ∷ 0 ∷ 1 ∷ [])
    ++ replicate 202 0
    ++ (99 ∷ 130 ∷ 83 ∷ 99 ∷ [])
    ++ options

pub renewal-written : written_message (table_message 0x12345678 forms_config (extend Rfc2131 held)) ≡ with_address (192 ∷ 0 ∷ 2 ∷ 10 ∷ []) renewal_bytes
unfolding written_message table_message empty_lease
renewal-written = rw (written_as (options_of forms_config (extend Rfc2131 held)) renewal_bytes renewal-computed) refl

pub release-written : written_message (table_message 0x12345678 forms_config (release Rfc2131 held)) ≡ with_address (192 ∷ 0 ∷ 2 ∷ 10 ∷ []) release_bytes
unfolding written_message table_message empty_lease
release-written = rw (written_as (options_of forms_config (release Rfc2131 held)) release_bytes release-computed) refl
