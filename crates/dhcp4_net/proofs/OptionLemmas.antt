-- The type of a message as it reads back.
use Rattle.std.proofs.Common.{◌≡◌, ℕ, List, [], ◌∷◌, ◌++◌, refl, sym, ap, Bool, true, false, ◌∙◌, append_assoc, cond}
use Rattle.std.specs.Prelude.{Option, Some, None, option_map, map, ◌==◌, ◌||◌}
use Rattle.std.specs.Cmp.{nat_cmp_total}
use Rattle.std.specs.Ordering.{nat_cmp, eq_by_cmp}
use Rattle.std.specs.FinMap.{entries, find, get, get-entries, get-from_entries, get-insert, insert}
use Rattle.std.specs.declared.net.Ipv4Addr.{Ipv4Addr}
use Rattle.dhcp_wire.specs.Field.{◌>>=◌}
use Rattle.dhcp4_msg.specs.declared.message.DhcpV4Message.{DhcpV4Message}
use Rattle.dhcp4_msg.specs.declared.message_type.DhcpV4MessageType.{DhcpV4MessageType}
use Rattle.dhcp4_msg.specs.declared.message_type.DhcpV4MessageType.TheVariants.{Offer, Ack}
use Rattle.dhcp4_msg.specs.declared.option.DhcpV4Option.{DhcpV4Option}
use Rattle.dhcp4_msg.specs.declared.option_code.DhcpV4OptionCode.{DhcpV4OptionCode}
use Rattle.dhcp4_msg.specs.declared.option.DhcpV4Option.TheVariants.{MessageType, ServerIdentifier, ParameterRequestList, ClientIdentifier, End}
use Rattle.dhcp4_msg.specs.Laws.{all_with_names, options_read_back, read_back, with_names}
use Rattle.dhcp4_msg.specs.MessageType.{type_number}
use Rattle.dhcp4_msg.specs.OptionCode.{number_of}
use Rattle.dhcp4_msg.specs.Options.{OptionMap, message_type, with_options}
use Rattle.dhcp4_msg.specs.Value.{option_code, type_said}
use Rattle.dhcp4_lease.specs.declared.message_forms.DhcpV4MessageForms.{DhcpV4MessageForms}
use Rattle.dhcp4_lease.specs.declared.message_forms.DhcpV4MessageForms.TheVariants.{Mozim, Rfc2131}
use Rattle.dhcp4_lease.specs.Config.{Config}
use Rattle.dhcp4_lease.specs.MessageTable.{client_option, host_name_option, options_of, requested_option, server_option, table_message}
use Rattle.dhcp4_lease.specs.declared.message_table.Row.{Row}
use Rattle.dhcp4_net.specs.Grants.{is_offer_or_ack}

-- what is found among entries with names
find-named : (q : ℕ) (es : List (ℕ × DhcpV4Option)) → find nat_cmp q (map (λ entry. (entry.0, with_names entry.1)) es) ≡ option_map with_names (find nat_cmp q es)
find-named q [] = refl
find-named q (e ∷ es) = go (eq_by_cmp nat_cmp q e.0) (find-named q es)
  where
    go : (test : Bool) → find nat_cmp q (map (λ entry. (entry.0, with_names entry.1)) es) ≡ option_map with_names (find nat_cmp q es) →
        cond test (Some (with_names e.1)) (find nat_cmp q (map (λ entry. (entry.0, with_names entry.1)) es)) ≡ option_map with_names (cond test (Some e.1) (find nat_cmp q es))
    go true ih = refl
    go false ih = ih

get-all_with_names : (options : OptionMap) (q : ℕ) → get (all_with_names options) q ≡ option_map with_names (get options q)
get-all_with_names options q =
    get-from_entries nat_cmp_total (map (λ entry. (entry.0, with_names entry.1)) (entries options)) q
    ∙ find-named q (entries options)
    ∙ ap (λ (found : Option DhcpV4Option). option_map with_names found) (sym (get-entries options q))

-- what is found of options as they read back, under another number than that of End
pub get-options_read_back : (options : OptionMap) (q : ℕ) → eq_by_cmp nat_cmp q 255 ≡ false → get (options_read_back options) q ≡ option_map with_names (get options q)
get-options_read_back options q other =
    get-insert nat_cmp_total (all_with_names options) 255 End q
    ∙ ap (λ (test : Bool). cond test (Some End) (get (all_with_names options) q)) other
    ∙ get-all_with_names options q

-- options that are added after others
with_options-append : (xs ys : List DhcpV4Option) (kept : OptionMap) → with_options kept (xs ++ ys) ≡ with_options (with_options kept xs) ys
with_options-append [] ys kept = refl
with_options-append (x ∷ xs) ys kept = with_options-append xs ys (with_options kept (x ∷ []))

-- the type among the options up to those that are asked for, and then with an identifier or without
typed_before : (kept : OptionMap) (kind : DhcpV4MessageType) (server : Option Ipv4Addr) (codes : List DhcpV4OptionCode) → get (with_options kept ((MessageType kind ∷ server_option server) ++ (ParameterRequestList codes ∷ []))) 53 ≡ Some (MessageType kind)
unfolding option_code number_of
typed_before kept kind None codes =
    get-insert nat_cmp_total (insert kept 53 (MessageType kind)) 55 (ParameterRequestList codes) 53
    ∙ get-insert nat_cmp_total kept 53 (MessageType kind) 53
typed_before kept kind (Some address) codes =
    get-insert nat_cmp_total (insert (insert kept 53 (MessageType kind)) 54 (ServerIdentifier address)) 55 (ParameterRequestList codes) 53
    ∙ get-insert nat_cmp_total (insert kept 53 (MessageType kind)) 54 (ServerIdentifier address) 53
    ∙ get-insert nat_cmp_total kept 53 (MessageType kind) 53

identified : (kept : OptionMap) (bytes : List ℕ) → get (with_options kept (ClientIdentifier bytes ∷ [])) 53 ≡ get kept 53
unfolding option_code number_of
identified kept bytes = get-insert nat_cmp_total kept 61 (ClientIdentifier bytes) 53

client_kept : (forms : DhcpV4MessageForms) (bytes : List ℕ) (kept : OptionMap) → get (with_options kept (client_option forms bytes)) 53 ≡ get kept 53
client_kept Mozim bytes kept = identified kept bytes
client_kept Rfc2131 [] kept = refl
client_kept Rfc2131 (byte ∷ bytes) kept = identified kept (byte ∷ bytes)

typed_after : (kept : OptionMap) (kind : DhcpV4MessageType) (server : Option Ipv4Addr) (config : Config) →
    get (with_options kept ((MessageType kind ∷ server_option server) ++ (ParameterRequestList config.request_opts ∷ client_option config.message_forms config.client_id))) 53 ≡ Some (MessageType kind)
typed_after kept kind server config =
    let first : List DhcpV4Option = MessageType kind ∷ server_option server in
    let codes : List DhcpV4Option = ParameterRequestList config.request_opts ∷ [] in
    let last : List DhcpV4Option = client_option config.message_forms config.client_id in
    ap (λ (list : List DhcpV4Option). get (with_options kept list) 53) (sym (append_assoc first codes last))
    ∙ ap (λ (options : OptionMap). get options 53) (with_options-append (first ++ codes) last kept)
    ∙ client_kept config.message_forms config.client_id (with_options kept (first ++ codes))
    ∙ typed_before kept kind server config.request_opts

typed_row : (kept : OptionMap) (config : Config) (row : Row) → get (with_options kept (options_of config row)) 53 ≡ Some (MessageType row.message_type)
typed_row kept config row =
    let first : List DhcpV4Option = host_name_option config.host_name ++ requested_option row.requested in
    let middle : List DhcpV4Option = MessageType row.message_type ∷ server_option row.server in
    let last : List DhcpV4Option = ParameterRequestList config.request_opts ∷ client_option config.message_forms config.client_id in
    ap (λ (list : List DhcpV4Option). get (with_options kept list) 53) (append_assoc first middle last)
    ∙ ap (λ (options : OptionMap). get options 53) (with_options-append first (middle ++ last) kept)
    ∙ typed_after (with_options kept first) row.message_type row.server config

-- the type of the message of a row, as it reads back
pub type_of_row : (id : ℕ) (config : Config) (row : Row) → message_type (read_back (table_message id config row)).options ≡ Some row.message_type
unfolding table_message message_type
type_of_row id config row =
    ap (λ (found : Option DhcpV4Option). found >>= type_said)
    (get-options_read_back (table_message id config row).options 53 refl
    ∙ ap (λ (found : Option DhcpV4Option). option_map with_names found) (typed_row _ config row))

-- a message of another type is neither an Offer nor an Ack
pub other_type : (message : DhcpV4Message) (kind : DhcpV4MessageType) → message_type message.options ≡ Some kind → ((type_number kind == type_number Offer) || (type_number kind == type_number Ack)) ≡ false → is_offer_or_ack message ≡ false
other_type message kind is other = rw is other
