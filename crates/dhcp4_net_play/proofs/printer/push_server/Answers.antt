-- Piece by piece.
use Rattle.std.proofs.Common.{◌≡◌, ℕ, List, [], ◌∷◌, ◌++◌, append_assoc, codes}
use Rattle.std.specs.Fmt.{decimal}
use Rattle.hex.specs.Hex.{encode_lower}
use Rattle.dhcp_stream.specs.Line.{line}
use Rattle.dhcp_stream.specs.Number.{address_text}
use Rattle.dhcp_script.proofs.PrintLemmas.{pushed4}
use Rattle.dhcp4_net_play.specs.NetScript.{server_text}
use Rattle.dhcp4_net_play.proofs.printer.push_server.Goals as goal

pieces : (tag ip mac mask first count lease bound : List ℕ) → line (tag ++ (ip ++ 32 ∷ (mac ++ 32 ∷ (mask ++ 32 ∷ (first ++ 32 ∷ (count ++ 32 ∷ (lease ++ 32 ∷ bound)))))))
    ≡ (tag ++ ip ++ codes " " ++ mac) ++ codes " " ++ (mask ++ 32 ∷ (first ++ 32 ∷ (count ++ 32 ∷ []))) ++ line (lease ++ codes " " ++ bound)
pieces tag ip mac mask first count lease bound = simp append_assoc

pub returns : goal.returns
returns c =
    let server = c.args.server.now in
    let three = address_text server.mask ++ 32 ∷ (address_text server.first ++ 32 ∷ (decimal server.count ++ 32 ∷ [])) in
    pushed4 c.push_server_times.result _ _ _ _ _ (codes "server " ++ address_text server.ip ++ codes " " ++ encode_lower server.mac) (codes " ") three
    (line (decimal server.lease_sec ++ codes " " ++ decimal server.bound_ms)) (line (codes "server " ++ server_text server))
    c.push_server_times.ensures c.in_ok-push_three_more.ensures c.in_ok-push_str.ensures.bytes c.in_ok-push_server_names.ensures
    (pieces (codes "server ") (address_text server.ip) (encode_lower server.mac) (address_text server.mask) (address_text server.first) (decimal server.count) (decimal server.lease_sec) (decimal server.bound_ms))
