-- Options that are added one after the other.
use Rattle.std.proofs.Common.{◌≡◌, ℕ, List, [], ◌∷◌, ◌++◌, refl, sym, ap, ◌∙◌}
use Rattle.std.specs.FinMap as map
use Rattle.dhcp6_opt.specs.declared.duid.DhcpV6Duid.{DhcpV6Duid}
use Rattle.dhcp6_opt.specs.declared.option.DhcpV6Option.{DhcpV6Option}
use Rattle.dhcp6_opt.specs.declared.option.DhcpV6Option.TheVariants.{ClientId, ElapsedTime}
use Rattle.dhcp6_opt.specs.Options.{OptionLists, with_option, with_options}
use Rattle.dhcp6_msg.specs.declared.message.DhcpV6Message.{DhcpV6Message}
use Rattle.dhcp6_msg.specs.declared.message_type.DhcpV6MessageType.{DhcpV6MessageType}
use Rattle.dhcp6_msg.specs.Config.{Config}
use Rattle.dhcp6_msg.specs.Message.{elapsed_hundredths, message_with, with_more}
use Rattle.dhcp6_msg.specs.MessageTable.{RowParts, own_options, options_of, table_message}

-- more options after some
pub with_options-append : (options : OptionLists) (some more : List DhcpV6Option) → with_options options (some ++ more) ≡ with_options (with_options options some) more
with_options-append options [] more = refl
with_options-append options (option ∷ some) more = with_options-append (with_option options option) some more

-- options in three steps
pub with_three : (old first second new : OptionLists) (a b c : List DhcpV6Option) → first ≡ with_options old a → second ≡ with_options first b → new ≡ with_options second c → new ≡ with_options old (a ++ b ++ c)
with_three old first second new a b c is_first is_second is_new =
    is_new
    ∙ ap (λ options. with_options options c) (is_second ∙ ap (λ options. with_options options b) is_first ∙ sym (with_options-append old a b))
    ∙ sym (with_options-append old (a ++ b) c)

-- the message of a row: the client's identifier, then the row's own options, then the elapsed time
pub row_message : (begun message : DhcpV6Message) (options : OptionLists) (id : ℕ) (config : Config) (row : RowParts) (msg_type : DhcpV6MessageType) (elapsed_ms : ℕ) (duid : DhcpV6Duid) →
    msg_type ≡ row.msg_type → elapsed_ms ≡ row.elapsed_ms → duid ≡ config.duid →
    begun ≡ message_with msg_type id (ClientId duid ∷ []) →
    options ≡ with_options begun.options (own_options config row) →
    message ≡ with_more (record begun { options = options }) (ElapsedTime (elapsed_hundredths elapsed_ms) ∷ []) →
    message ≡ table_message id config row
unfolding table_message
row_message begun message options id config row msg_type elapsed_ms duid is_type is_elapsed is_duid is_begun is_options is_message =
    let every : DhcpV6Message = message_with row.msg_type id (ClientId config.duid ∷ []) in
    let elapsed : List DhcpV6Option = ElapsedTime (elapsed_hundredths row.elapsed_ms) ∷ [] in
    let same : begun ≡ every =
    is_begun
    ∙ ap (λ kind. message_with kind id (ClientId duid ∷ [])) is_type
    ∙ ap (λ duid. message_with row.msg_type id (ClientId duid ∷ [])) is_duid in
    let all : with_options options elapsed ≡ with_options map.empty (options_of config row) =
    ap (λ (options : OptionLists). with_options options elapsed) (is_options ∙ ap (λ (message : DhcpV6Message). with_options message.options (own_options config row)) same)
    ∙ sym (with_options-append every.options (own_options config row) elapsed) in
    is_message
    ∙ ap (λ (ms : ℕ). with_more (record begun { options = options }) (ElapsedTime (elapsed_hundredths ms) ∷ [])) is_elapsed
    ∙ ap (λ (message : DhcpV6Message). record message { options = with_options options elapsed }) same
    ∙ ap (λ (options : OptionLists). record every { options = options }) all
