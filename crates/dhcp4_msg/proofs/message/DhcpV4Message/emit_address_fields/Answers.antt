-- The addresses, and the hardware address.
use Rattle.std.proofs.Common.{◌≡◌, List, ℕ, [], ◌∷◌, ◌++◌, append_assoc, append-nil, arith, subst}
use Rattle.std.specs.Net.Addr.{ipv4_octets}
use Rattle.std.specs.declared.net.Ipv4Addr.{Ipv4Addr}
use Rattle.dhcp_wire.specs.Outcome.{AppendsFront, Emits}
use Rattle.dhcp_wire.proofs.EmitLemmas.{emits_exit, emits_last, emits_appends, front_first}
use Rattle.dhcp4_msg.specs.Value.{written_addresses}
use Rattle.dhcp4_msg.proofs.message.DhcpV4Message.emit_address_fields.Goals as goal

-- four addresses and what comes after them
four : (a b c d : Ipv4Addr) (later : List ℕ) →
    written_addresses (a ∷ b ∷ c ∷ d ∷ []) ++ later ≡ ipv4_octets a ++ (ipv4_octets b ++ (ipv4_octets c ++ (ipv4_octets d ++ later)))
four a b c d later = grind (arith, append_assoc, append-nil)

pub returns-in_err-emit_addresses : goal.returns-in_err-emit_addresses
returns-in_err-emit_addresses c =
    let message = c.args.self.now in
    emits_exit _ _ _ _ _ c.from_residual.ensures.1 c.in_err-emit_addresses.ensures.0
    (subst (AppendsFront _ _) (four message.ciaddr message.yiaddr message.siaddr message.giaddr message.chaddr)
    (front_first _ _ _ message.chaddr c.in_err-emit_addresses.ensures.1))

pub returns : goal.returns
returns c =
    let message = c.args.self.now in
    subst (Emits _ _ _) (four message.ciaddr message.yiaddr message.siaddr message.giaddr message.chaddr)
    (emits_last _ _ _ _ _ message.chaddr c.in_ok-emit_addresses.ensures (emits_appends _ _ _ _ c.write_bytes.ensures))
