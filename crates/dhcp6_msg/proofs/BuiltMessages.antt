-- The messages of the table are ones that read back.
use Rattle.std.proofs.Common.{◌≡◌, ℕ, Bool, true, false, cond, List, [], ◌∷◌, ◌++◌, length, map, Option, Some, None, option_map, unwrap_or, IsTrue, IfSome, sym, ap, subst, ◌∙◌, arith}
use Rattle.std.specs.List.{AllByRecursion}
use Rattle.std.specs.Cmp.{nat_cmp_total}
use Rattle.std.specs.Ordering.{eq_by_cmp, nat_cmp}
use Rattle.std.specs.declared.cmp.Ordering.TheVariants.{Less, Equal, Greater}
use Rattle.std.specs.FinMap.{empty, entries, entries-insert, get-entries, len-empty, len-entries}
use Rattle.std.specs.FinMap.Entries.{by_order, find, put}
use Rattle.std.proofs.lemmas.Bool.{and_parts, leb-true}
use Rattle.dhcp6_opt.specs.declared.duid.DhcpV6Duid.{DhcpV6Duid}
use Rattle.dhcp6_opt.specs.declared.option.DhcpV6Option.{DhcpV6Option}
use Rattle.dhcp6_opt.specs.declared.option.DhcpV6Option.TheVariants.{ClientId, ElapsedTime}
use Rattle.dhcp6_opt.specs.declared.option_code.DhcpV6OptionCode.{DhcpV6OptionCode}
use Rattle.dhcp6_opt.specs.Laws.{AreInRange, HasType, IsInRange, options_read_back}
use Rattle.dhcp6_opt.specs.Options.{OptionLists, options_under, read_options, with_option, with_options, written_options}
use Rattle.dhcp6_opt.specs.Value.{option_number}
use Rattle.dhcp6_msg.specs.declared.message.DhcpV6Message.{DhcpV6Message}
use Rattle.dhcp6_msg.specs.declared.mode.DhcpV6IaType.{DhcpV6IaType}
use Rattle.dhcp6_msg.specs.declared.mode.DhcpV6IaType.TheVariants as types
use Rattle.dhcp6_msg.specs.declared.mode.DhcpV6Mode.{DhcpV6Mode}
use Rattle.dhcp6_msg.specs.declared.mode.DhcpV6Mode.TheVariants as modes
use Rattle.dhcp6_msg.specs.Config.{Config}
use Rattle.dhcp6_msg.specs.Laws.{ReadsBackAs, message_read_back}
use Rattle.dhcp6_msg.specs.Lease.{Lease, is_duid}
use Rattle.dhcp6_msg.specs.Message.{elapsed_hundredths}
use Rattle.dhcp6_msg.specs.MessageTable.{RowParts, association_of_mode, association_of_type, association_option, lease_association, options_of, request_option, server_option, table_message}
use Rattle.dhcp6_msg.proofs.LawLemmas.{length-id_bytes, message_back}

-- ---- options by their numbers

-- each option of each list is in range
abbrev InEach : List (ℕ × List DhcpV6Option) → Type 0
InEach es = AllByRecursion (AllByRecursion IsInRange) (map (λ e. e.1) es)

-- each option of two lists
all_of_both : (xs ys : List DhcpV6Option) → AllByRecursion IsInRange xs → AllByRecursion IsInRange ys → AllByRecursion IsInRange (xs ++ ys)
all_of_both [] ys all others = others
all_of_both (x ∷ xs) ys all others = (all.0, all_of_both xs ys all.1 others)

-- a list that is put under a number
all_put : (number : ℕ) (options : List DhcpV6Option) (es : List (ℕ × List DhcpV6Option)) → AllByRecursion IsInRange options → InEach es → InEach (put nat_cmp number options es)
all_put number options [] here all = (here, tt)
all_put number options (e ∷ es) here all =
    elim (nat_cmp number e.0) as (λ order. InEach (by_order order ((number, options) ∷ e ∷ es) ((e.0, options) ∷ es) (e ∷ put nat_cmp number options es))) [
      | Less ↦ (here, all)
      | Equal ↦ (here, all.1)
      | Greater ↦ (all.0, all_put number options es here all.1)
    ]

-- the list that is found under a number
all_found : (number : ℕ) (es : List (ℕ × List DhcpV6Option)) → InEach es → AllByRecursion IsInRange (unwrap_or (find nat_cmp number es) [])
all_found number [] all = tt
all_found number (e ∷ es) all =
    elim (eq_by_cmp nat_cmp number e.0) as (λ b. AllByRecursion IsInRange (unwrap_or (cond b (Some e.1) (find nat_cmp number es)) [])) [
      | true ↦ all.0
      | false ↦ all_found number es all.1
    ]

-- one more option
one_more : (kept : OptionLists) (option : DhcpV6Option) → AreInRange kept → IsInRange option → AreInRange (with_option kept option)
one_more kept option all is =
    let number : ℕ = option_number option in
    let found : AllByRecursion IsInRange (options_under kept number) =
    subst (λ (found : Option (List DhcpV6Option)). AllByRecursion IsInRange (unwrap_or found [])) (sym (get-entries kept number)) (all_found number (entries kept) all) in
    let options : List DhcpV6Option = options_under kept number ++ option ∷ [] in
    subst InEach (sym (entries-insert nat_cmp_total kept number options))
    (all_put number options (entries kept) (all_of_both (options_under kept number) (option ∷ []) found (is, tt)) all)

-- some options more
all_added : (list : List DhcpV6Option) (kept : OptionLists) → AreInRange kept → AllByRecursion IsInRange list → AreInRange (with_options kept list)
all_added [] kept all each = all
all_added (option ∷ list) kept all each = all_added list (with_option kept option) (one_more kept option all each.0) each.1

-- where there are none
none_kept : AreInRange empty
none_kept = none (entries empty) (sym (len-entries empty) ∙ len-empty nat_cmp (List DhcpV6Option))
  where
    none : (es : List (ℕ × List DhcpV6Option)) → length es ≡ 0 → InEach es
    none [] len = tt
    none (e ∷ es) len = absurd (omega (arith, len))

-- ---- the options of a row

has_type : (duid : DhcpV6Duid) → IsTrue (is_duid duid) → HasType duid
has_type duid is = leb-true _ _ (and_parts _ _ is).0

-- those of every message
client_in_range : (duid : DhcpV6Duid) → IsTrue (is_duid duid) → IsInRange (ClientId duid)
unfolding IsInRange
client_in_range duid is = has_type duid is

elapsed_in_range : (hundredths : ℕ) → AllByRecursion IsInRange (ElapsedTime hundredths ∷ [])
unfolding IsInRange
elapsed_in_range hundredths = (tt, tt)

server_in_range : (server : Option DhcpV6Duid) → IfSome server (λ duid. IsTrue (is_duid duid)) → AllByRecursion IsInRange (server_option server)
unfolding IsInRange
server_in_range None is = tt
server_in_range (Some duid) is = (has_type duid is, tt)

association_in_range : (association : Option DhcpV6Option) → IfSome association IsInRange → AllByRecursion IsInRange (association_option association)
association_in_range None is = tt
association_in_range (Some association) is = (is, tt)

request_in_range : (asks : Bool) (codes : List DhcpV6OptionCode) → AllByRecursion IsInRange (request_option asks codes)
unfolding IsInRange
request_in_range true codes = (tt, tt)
request_in_range false codes = tt

-- a row whose identifiers can be sent, with an association in range
pub record IsRow (config : Config) (row : RowParts) : Type 0 where
  pub client : IsTrue (is_duid config.duid)
  pub server : IfSome row.server (λ duid. IsTrue (is_duid duid))
  pub association : IfSome row.association IsInRange

row_in_range : (id : ℕ) (config : Config) (row : RowParts) → IsRow config row → AreInRange (table_message id config row).options
unfolding table_message
row_in_range id config row is =
    let server : List DhcpV6Option = server_option row.server in
    let association : List DhcpV6Option = association_option row.association in
    let requests : List DhcpV6Option = request_option row.asks config.request_opts in
    let both = all_of_both server association (server_in_range row.server is.server) (association_in_range row.association is.association) in
    let own = all_of_both (server ++ association) requests both (request_in_range row.asks config.request_opts) in
    let hundredths : ℕ = elapsed_hundredths row.elapsed_ms in
    all_added (options_of config row) empty none_kept
    (client_in_range config.duid is.client, all_of_both (server ++ association ++ requests) (ElapsedTime hundredths ∷ []) own (elapsed_in_range hundredths))

-- its id has three bytes
length-table_xid : (id : ℕ) (config : Config) (row : RowParts) → length (table_message id config row).xid ≡ 3
unfolding table_message
length-table_xid id config row = length-id_bytes id

-- the message of a row reads back, if options in range do
pub row_reads_back : (message : DhcpV6Message) → (AreInRange message.options → read_options (written_options message.options) ≡ options_read_back message.options) →
    (id : ℕ) (config : Config) (row : RowParts) → IsRow config row → ReadsBackAs message (table_message id config row)
row_reads_back message back id config row is same =
    let built : DhcpV6Message = table_message id config row in
    let whole : length message.xid ≡ 3 = ap (λ (message : DhcpV6Message). length message.xid) same ∙ length-table_xid id config row in
    let range : AreInRange message.options = subst (λ (message : DhcpV6Message). AreInRange message.options) (sym same) (row_in_range id config row is) in
    message_back message whole
    ∙ ap (λ options. Some (record message { options = options })) (back range)
    ∙ ap (λ message. Some (message_read_back message)) same

-- ---- the associations

-- what a client asks for has no status
pub mode_in_range : (mode : DhcpV6Mode) (iaid : ℕ) → IsInRange (association_of_mode mode iaid)
unfolding association_of_mode IsInRange
mode_in_range modes.NonTemporaryAddresses iaid = (tt, tt)
mode_in_range modes.TemporaryAddresses iaid = (tt, tt)
mode_in_range (modes.PrefixDelegation length) iaid = (tt, tt)

type_in_range : (ia_type : DhcpV6IaType) (lease : Lease) → IsInRange (association_of_type ia_type lease)
unfolding association_of_type IsInRange
type_in_range types.NonTemporaryAddresses lease = (tt, tt)
type_in_range types.TemporaryAddresses lease = (tt, tt)
type_in_range types.PrefixDelegation lease = (tt, tt)

-- nor has that of a lease
pub lease_in_range : (lease : Lease) → IfSome (lease_association lease) IsInRange
lease_in_range lease = typed lease.ia_type
  where
    typed : (ia_type : Option DhcpV6IaType) → IfSome (option_map (λ ia_type. association_of_type ia_type lease) ia_type) IsInRange
    typed None = tt
    typed (Some ia_type) = type_in_range ia_type lease
