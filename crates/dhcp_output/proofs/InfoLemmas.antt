-- The fields of a configuration, by the pieces that are put.
use Rattle.std.proofs.Common.{◌≡◌, ℕ, List, [], ◌∷◌, ◌++◌, append_assoc}
use Rattle.std.specs.Fmt.{decimal}
use Rattle.dhcp_stream.specs.HexText.{hex_text}
use Rattle.dhcp_script.specs.Field.{unless_none}
use Rattle.dhcp6_opt.specs.Duid.{written_duid}
use Rattle.dhcp6_info.specs.declared.info.DhcpV6Info.{DhcpV6Info}
use Rattle.dhcp_output.specs.Info.{addresses_text, info_text, names_text, time_servers_text}

five : (a b c d e : List ℕ) → a ++ 32 ∷ (b ++ 32 ∷ (c ++ 32 ∷ (d ++ 32 ∷ e))) ≡ (a ++ 32 ∷ (b ++ 32 ∷ [])) ++ (c ++ 32 ∷ (d ++ 32 ∷ [])) ++ e
five a b c d e = simp append_assoc

pub info_text-pieces : (info : DhcpV6Info) → info_text info
    ≡ (hex_text (written_duid info.srv_duid) ++ 32 ∷ (unless_none addresses_text info.dns_srvs ++ 32 ∷ []))
    ++ (unless_none names_text info.domains ++ 32 ∷ (unless_none time_servers_text info.ntp ++ 32 ∷ []))
    ++ decimal info.refresh_sec
unfolding info_text
info_text-pieces info =
    five (hex_text (written_duid info.srv_duid)) (unless_none addresses_text info.dns_srvs) (unless_none names_text info.domains) (unless_none time_servers_text info.ntp) (decimal info.refresh_sec)
