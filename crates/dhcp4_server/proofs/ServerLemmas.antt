-- An answer by the bindings is one by the Acks.
use Rattle.std.proofs.Common.{◌≡◌, ℕ, zero, suc, ◌+◌, ◌-◌, List, [], refl, sym, ap, ◌∙◌, subst, Bool, true, false, Option, Some, None}
use Rattle.std.specs.Net.Addr.{ipv4_bits}
use Rattle.std.specs.Prelude.{option_map, nat_le, length, replicate, slice_get, if◌then◌else◌}
use Rattle.dhcp_clock.specs.declared.link.PacketKind.{PacketKind}
use Rattle.dhcp4_msg.specs.declared.message.DhcpV4Message.{DhcpV4Message}
use Rattle.dhcp4_server.specs.declared.decision.Query.{Query}
use Rattle.dhcp4_server.specs.declared.binding.Binding.{Binding}
use Rattle.dhcp4_server.specs.declared.decision.Decision.{Decision}
use Rattle.dhcp4_server.specs.Answer.{answer_query, silent}
use Rattle.dhcp4_server.specs.Binding.{Stands, bound_at, bound_in}
use Rattle.dhcp4_server.specs.Decision.{BindsBy, decide, decide_by}
use Rattle.dhcp4_server.specs.Config.{kept_ms, pool_of}
use Rattle.dhcp4_server.specs.Reply.{packet_of, reply_by}
use Rattle.dhcp4_server.specs.Server.{AnswersBy, Server, StandsFor, begun, bindings_of, packet_in}
use Rattle.dhcp4_server.specs.Table.{BindingTable, bound, pool_in}
use Rattle.dhcp4_server.specs.declared.config.ServerConfig.{ServerConfig}
use Rattle.dhcp4_server.specs.declared.server.ServerAnswer.{ServerAnswer}
use Rattle.dhcp4_server.specs.declared.server.ServerAnswer.TheVariants.{Silent}
use Rattle.dhcp4_server.proofs.BindingLemmas.{decided_same, stands_decided, stands_later}

pub silence_answers : (server : Server) (now : ℕ) → AnswersBy silent now Silent server server
silence_answers server now latest acks stands le =
    record { reply = refl; acks = stands_later (kept_ms server.config) latest (bindings_of server) acks stands now le }

pub decision_answers : (before after : Server) (now : ℕ) (kind : PacketKind) (message : DhcpV4Message) (query : Query) (decision : Decision) (result : ServerAnswer) →
    after.config ≡ before.config → decision ≡ decide_by (pool_of before.config) (bindings_of before) message.xid now query →
    packet_in result ≡ option_map (packet_of before.config kind) (reply_by before.config message decision) →
    BindsBy message.xid (now + kept_ms before.config) decision (bindings_of before) (bindings_of after) →
    AnswersBy (λ acks. answer_query before.config acks now kind message (Some query)) now result before after
decision_answers before after now kind message query decision result same decided replies binds latest acks stands le =
    let by_acks : decision ≡ decide (kept_ms before.config) (pool_of before.config) acks message.xid now query =
    decided ∙ decided_same (kept_ms before.config) latest (bindings_of before) acks stands (pool_of before.config) message.xid now query le in
    let stands_then : Stands (kept_ms before.config) now (bindings_of after) (answer_query before.config acks now kind message (Some query)).acks =
    subst (λ (one : Decision). Stands (kept_ms before.config) now (bindings_of after) (answer_query before.config acks now kind message (Some query)).acks) by_acks
    (stands_decided (kept_ms before.config) latest now message.xid (bindings_of before) (bindings_of after) acks (pool_of before.config) query stands le
    (subst (λ (one : Decision). BindsBy message.xid (now + kept_ms before.config) one (bindings_of before) (bindings_of after)) decided binds)) in
    record {
      reply = replies ∙ ap (λ (one : Decision). option_map (packet_of before.config kind) (reply_by before.config message one)) by_acks;
      acks = subst (λ (config : ServerConfig). Stands (kept_ms config) now (bindings_of after) (answer_query before.config acks now kind message (Some query)).acks) (sym same) stands_then;
    }

-- the same over the table of the bindings, which has the pool of the configuration
pub table_answers : (config : ServerConfig) (before after : BindingTable) (now : ℕ) (kind : PacketKind) (message : DhcpV4Message) (query : Query) (decision : Decision) (result : ServerAnswer) →
    before.first ≡ ipv4_bits config.first → length before.places ≡ config.count → after.first ≡ before.first →
    decision ≡ decide_by (pool_in before) (bound before) message.xid now query →
    packet_in result ≡ option_map (packet_of config kind) (reply_by config message decision) →
    BindsBy message.xid (now + kept_ms config) decision (bound before) (bound after) →
    AnswersBy (λ acks. answer_query config acks now kind message (Some query)) now result (record { config = config; places = before.places }) (record { config = config; places = after.places })
table_answers config before after now kind message query decision result first count kept decided replies binds =
    decision_answers (record { config = config; places = before.places }) (record { config = config; places = after.places }) now kind message query decision result refl
    (subst (λ (from : ℕ). decision ≡ decide_by (record { first = from; count = config.count }) (bound_in from before.places) message.xid now query) first
    (subst (λ (many : ℕ). decision ≡ decide_by (record { first = before.first; count = many }) (bound before) message.xid now query) count decided))
    replies
    (subst (λ (from : ℕ). BindsBy message.xid (now + kept_ms config) decision (bound_in from before.places) (bound_in from after.places)) first
    (subst (λ (from : ℕ). BindsBy message.xid (now + kept_ms config) decision (bound before) (bound_in from after.places)) kept binds))

-- a table without bindings stands for no Acks
abbrev no_bindings : ℕ → List (Option Binding)
no_bindings count = replicate count None

none_at : (count place : ℕ) → bound_at (slice_get (no_bindings count) place) ≡ None
none_at zero place = refl
none_at (suc count) zero = refl
none_at (suc count) (suc place) = none_at count place

none_bound : (first count address : ℕ) → bound_in first (no_bindings count) address ≡ None
none_bound first count address = go (nat_le first address)
  where
    go : (test : Bool) → (if test then bound_at (slice_get (no_bindings count) (address - first)) else None) ≡ None
    go true = none_at count (address - first)
    go false = refl

pub begun_stands : (config : ServerConfig) (latest : ℕ) → StandsFor (begun config) latest []
begun_stands config latest = record {
  rising = tt;
  last = λ address. none_bound (ipv4_bits config.first) config.count address;
  over = λ address last is. absurd (cc is);
}
