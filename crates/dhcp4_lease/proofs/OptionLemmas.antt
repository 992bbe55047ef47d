-- The options of a row can be written.
use Rattle.std.proofs.Common.{◌≡◌, ℕ, zero, suc, ◌≤◌, ◌==◌, Bool, true, false, not, List, [], ◌∷◌, ◌++◌, length, length-append, take, IsTrue, refl, sym, arith}
use Rattle.std.specs.List.{list_any}
use Rattle.std.specs.Net.Addr.{IsIpv4Addr}
use Rattle.std.specs.declared.net.Ipv4Addr.{Ipv4Addr}
use Rattle.std.proofs.lemmas.Bool.{and_parts, and_from, or_parts, eqb-false, le-leb, leb-true}
use Rattle.std.proofs.lemmas.Bool.Decides.{nat_tests}
use Rattle.std.proofs.lemmas.Grind.{common_steps}
use Rattle.std.proofs.lemmas.List.{length-map, length-take}
use Rattle.dhcp_wire.specs.Field.{HasNoZero}
use Rattle.dhcp4_msg.specs.declared.message_type.DhcpV4MessageType.{DhcpV4MessageType}
use Rattle.dhcp4_msg.specs.declared.option_code.DhcpV4OptionCode.{DhcpV4OptionCode}
use Rattle.dhcp4_msg.specs.declared.option.DhcpV4Option.TheVariants.{HostName, RequestedIpAddress, MessageType, ServerIdentifier, ParameterRequestList, ClientIdentifier}
use Rattle.dhcp4_msg.specs.OptionCode.{number_of}
use Rattle.dhcp4_msg.specs.Value.{fits, written_value}
use Rattle.dhcp4_lease.specs.Config.{Config, is_within_limits}

-- a text is cut to so many bytes
cut_text : (text : List ℕ) → length (take 254 text ++ 0 ∷ []) ≤ 255
cut_text text = simp (length-append, length-take) (omega arith)

-- a text is cut, so that it always fits
pub host_name_fits : (text : List ℕ) → IsTrue (fits (HostName text))
unfolding fits written_value
host_name_fits text = let short : length (take 254 text ++ 0 ∷ []) ≤ 255 = cut_text text in grind (arith, nat_tests)

pub requested_fits : (address : Ipv4Addr) → IsIpv4Addr address → IsTrue (fits (RequestedIpAddress address))
unfolding fits written_value
requested_fits address is = and_from _ _ (le-leb _ _ (omega (arith, is.0))) refl

pub server_fits : (address : Ipv4Addr) → IsIpv4Addr address → IsTrue (fits (ServerIdentifier address))
unfolding fits written_value
server_fits address is = and_from _ _ (le-leb _ _ (omega (arith, is.0))) refl

pub type_fits : (kind : DhcpV4MessageType) → IsTrue (fits (MessageType kind))
unfolding fits written_value
type_fits kind = refl

-- The values of a configuration that fit their options.
pub record Limits (config : Config) : Type 0 where
  pub host_name_len : length config.host_name ≤ 254
  pub host_name : HasNoZero config.host_name
  pub client_id : length config.client_id ≤ 255
  pub request_opts : length config.request_opts ≤ 255

-- where no element passes the test for zero, none is zero
no_zero : (bytes : List ℕ) → list_any (λ byte. byte == 0) bytes ≡ false → HasNoZero bytes
no_zero [] none k d below = absurd (omega arith)
no_zero (byte ∷ bytes) none zero d below = eqb-false byte 0 (or_parts _ _ none).0
no_zero (byte ∷ bytes) none (suc k) d below = no_zero bytes (or_parts _ _ none).1 k d (omega arith)

-- a configuration within its limits has such values
pub limits_of : (config : Config) → IsTrue (is_within_limits config) → Limits config
unfolding is_within_limits
limits_of config within =
    let parts = and_parts _ _ within in
    let before = and_parts _ _ parts.0 in
    let texts = and_parts _ _ before.0 in
    record {
      host_name_len = leb-true _ _ texts.0;
      host_name = no_zero config.host_name (fails _ texts.1);
      client_id = leb-true _ _ before.1;
      request_opts = leb-true _ _ parts.1;
    }
  where
    fails : (b : Bool) → IsTrue (not b) → b ≡ false
    fails b = elim b as (λ b. not b ≡ true → b ≡ false) [ true ↦ λ no. sym no | false ↦ λ no. refl ]

pub requests_fit : (codes : List DhcpV4OptionCode) (config : Config) → codes ≡ config.request_opts → IsTrue (is_within_limits config) → IsTrue (fits (ParameterRequestList codes))
unfolding fits written_value
requests_fit codes config is within =
    let few = (limits_of config within).request_opts in
    rw is (and_from _ _ (le-leb _ _ (omega (arith, few, length-map config.request_opts number_of))) refl)

pub client_fits : (bytes : List ℕ) (config : Config) → bytes ≡ config.client_id → IsTrue (is_within_limits config) → IsTrue (fits (ClientIdentifier bytes))
unfolding fits written_value
client_fits bytes config is within = rw is (and_from _ _ (le-leb _ _ (limits_of config within).client_id) refl)

pub ruleset fitting = (common_steps, host_name_fits, requested_fits, server_fits, type_fits)
