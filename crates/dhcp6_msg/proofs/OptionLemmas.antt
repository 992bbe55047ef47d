-- The options of a row can be written.
use Rattle.std.proofs.Common.{◌≡◌, ℕ, ◌*◌, ◌≤◌, List, [], ◌∷◌, length, length-append, IsTrue, refl, arith}
use Rattle.std.specs.List.{flat_map}
use Rattle.std.proofs.lemmas.Bool.{and_parts, le-leb, leb-true}
use Rattle.dhcp6_opt.specs.declared.duid.DhcpV6Duid.{DhcpV6Duid}
use Rattle.dhcp6_opt.specs.declared.option.DhcpV6Option.TheVariants.{ClientId, ServerId, OptionRequestOption, ElapsedTime}
use Rattle.dhcp6_opt.specs.declared.option_code.DhcpV6OptionCode.{DhcpV6OptionCode}
use Rattle.dhcp6_opt.specs.Duid.{written_duid}
use Rattle.dhcp6_opt.specs.Value.{fits, written_value, written_code}
use Rattle.dhcp6_msg.specs.Config.{Config, is_within_limits}

-- an identifier of at most 65,535 bytes
pub client_fits : (duid : DhcpV6Duid) → length (written_duid duid) ≤ 65535 → IsTrue (fits (ClientId duid))
unfolding fits written_value
client_fits duid short = rw (le-leb _ _ short) refl

pub server_fits : (duid : DhcpV6Duid) → length (written_duid duid) ≤ 65535 → IsTrue (fits (ServerId duid))
unfolding fits written_value
server_fits duid short = rw (le-leb _ _ short) refl

-- a number of two bytes
pub elapsed_fits : (hundredths : ℕ) → IsTrue (fits (ElapsedTime hundredths))
unfolding fits written_value
elapsed_fits hundredths = refl

-- each code is written as two bytes
pub length-written_codes : (requested : List DhcpV6OptionCode) → length (flat_map written_code requested) ≡ 2 * length requested
length-written_codes [] = refl
length-written_codes (code ∷ requested) =
    omega (arith, length-append (written_code code) (flat_map written_code requested), length-written_codes requested)

-- at most 32,767 codes
pub requests_fit : (requested : List DhcpV6OptionCode) → length requested ≤ 32767 → IsTrue (fits (OptionRequestOption requested))
unfolding fits written_value
requests_fit requested few =
    let short : length (flat_map written_code requested) ≤ 65535 = omega (arith, few, length-written_codes requested) in
    rw (le-leb _ _ short) refl

-- the values of a configuration within its limits
pub requests_within : (requested : List DhcpV6OptionCode) (config : Config) → requested ≡ config.request_opts → IsTrue (is_within_limits config) → IsTrue (fits (OptionRequestOption requested))
unfolding is_within_limits
requests_within requested config same within =
    rw same (requests_fit config.request_opts (leb-true _ _ (and_parts _ _ within).1))

pub client_within : (config : Config) → IsTrue (is_within_limits config) → length (written_duid config.duid) ≤ 65535
unfolding is_within_limits
client_within config within = leb-true _ _ (and_parts _ _ within).0
