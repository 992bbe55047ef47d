-- A configuration that a poll reports was read from a packet that the poll was given.
use Rattle.std.proofs.Common.{◌≡◌, ◌⊎◌, inl, inr, ℕ, Bool, refl, sym, ap, ◌∙◌}
use Rattle.std.specs.Prelude.{Option, Some}
use Rattle.dhcp_clock.specs.declared.link.Packet.{Packet}
use Rattle.dhcp_history.specs.HeardBy.{IsEnded, IsHeard}
use Rattle.dhcp_history.specs.Machine.{View}
use Rattle.dhcp6_msg.specs.Config.{Config}
use Rattle.dhcp6_info.specs.declared.client_state.ClientState.{ClientState}
use Rattle.dhcp6_info.specs.declared.client_state.ClientState.TheVariants.{Inform, Done}
use Rattle.dhcp6_info.specs.declared.client_state.Exchange.{Exchange}
use Rattle.dhcp6_info.specs.declared.info.DhcpV6Info.{DhcpV6Info}
use Rattle.dhcp6_info.specs.declared.state.PlainInfoState.{PlainInfoState}
use Rattle.dhcp6_info.specs.declared.state.PlainInfoState.TheVariants as plain
use Rattle.dhcp6_info.specs.Answer.{info_in}
use Rattle.dhcp6_info.specs.Given.{IsGiven}
use Rattle.dhcp6_info.specs.Rules.{after_answer, after_end, answer_of, protocol, public_state}

info_of_state : PlainInfoState → DhcpV6Info → DhcpV6Info
info_of_state (plain.Done info) other = info
info_of_state plain.Inform other = other

same_info : (one other : DhcpV6Info) → plain.Done one ≡ plain.Done other → one ≡ other
unfolding info_of_state
same_info one other e = ap (λ (state : PlainInfoState). info_of_state state one) e

-- no state that ends leads to one that is reported with a configuration
ended_has_none : (state : ClientState) (exchange : Exchange) (info : DhcpV6Info) → public_state (after_end state exchange).state ≡ plain.Done info → ⊥
ended_has_none Inform exchange info e = absurd (cc e)
ended_has_none (Done bound) exchange info e = absurd (cc e)

-- an answer after which a configuration is reported is that configuration
given_by : (state : ClientState) (answer info : DhcpV6Info) (now : ℕ) (exchange : Exchange) → public_state (after_answer state answer now exchange).state ≡ plain.Done info → answer ≡ info
given_by Inform answer info now exchange e = same_info answer info e
given_by (Done bound) answer info now exchange e = same_info answer info e

-- only a client that asks reads an answer
record Reads (state : ClientState) (exchange : Exchange) (heard : Packet) (info : DhcpV6Info) : Type 0 where
  awaits : state ≡ Inform
  gives : info_in exchange.xid heard ≡ Some info

reads : (state : ClientState) (exchange : Exchange) (heard : Packet) (info : DhcpV6Info) → answer_of state exchange heard ≡ Some info → Reads state exchange heard info
reads Inform exchange heard info e = record { awaits = refl; gives = e }
reads (Done bound) exchange heard info e = absurd (cc e)

-- over every link: a configuration that is reported was read from a packet that this poll was given
pub info_is_given : (config : Config) (now : ℕ) (refuse : Bool) (packet : Option Packet) (info : DhcpV6Info) (old new : View ClientState Exchange) →
    IsEnded (protocol config) now old new ⊎ IsHeard (protocol config) now refuse packet old new → public_state new.state ≡ plain.Done info → IsGiven config now refuse packet info old
info_is_given config now refuse packet info old new (inl ended) says = absurd (ended_has_none old.state _ info (sym (ap public_state ended) ∙ says))
info_is_given config now refuse packet info old new (inr h) says =
    let same : h.answer ≡ info = given_by old.state h.answer info now h.exchange (sym (ap public_state h.next) ∙ says) in
    let read = reads old.state h.exchange h.heard info (h.read ∙ ap (λ (one : DhcpV6Info). Some one) same) in
    record {
      heard = h.heard;
      exchange = h.exchange;
      asked = h.asked;
      given = h.given;
      awaits = read.awaits;
      open_attempt = h.open_attempt;
      gives = read.gives;
    }
