-- The definitions worked out on the examples of the standards, so that a wrong rule among them does
-- not check.
use Rattle.std.proofs.Common.{◌≡◌, ℕ, List, [], ◌∷◌, ◌++◌, Some, refl}
use Rattle.std.specs.Int.{w32, to_be_bytes}
use Rattle.std.specs.List.{flat_map}
use Rattle.std.specs.declared.net.Ipv4Addr.{Ipv4Addr}
use Rattle.dhcp_wire.specs.Field.{address_of, bytes_at}
use Rattle.dhcp4_msg.specs.Message.{magic_cookie}
use Rattle.dhcp4_msg.specs.Route.{route_at, routes_of, routes_within, written_route}
use Rattle.dhcp4_msg.specs.declared.route.DhcpV4ClasslessRoute.{DhcpV4ClasslessRoute}

-- RFC 2131, section 3: the first four octets of the options have the decimal values 99, 130, 83
-- and 99
pub cookie : to_be_bytes w32 magic_cookie ≡ 99 ∷ 130 ∷ 83 ∷ 99 ∷ []
cookie = refl

-- the address of these octets
abbrev address : ℕ → ℕ → ℕ → ℕ → Ipv4Addr
address a b c d = address_of (a ∷ b ∷ c ∷ d ∷ [])

-- a route by the router 192.0.2.1 to the network of this address, with a mask of this width
abbrev route : Ipv4Addr → ℕ → DhcpV4ClasslessRoute
route destination width =
    record { destination = destination; prefix_length = width; router = address 192 0 2 1 }

-- the bytes of such a route, with this destination descriptor
abbrev with_router : List ℕ → List ℕ
with_router descriptor = descriptor ++ 192 ∷ 0 ∷ 2 ∷ 1 ∷ []

-- the examples of RFC 3442, subnet numbers and masks: 0, 10.0.0.0 with 255.0.0.0, 10.0.0.0 with
-- 255.255.255.0, and so on
abbrev table_routes : List DhcpV4ClasslessRoute
table_routes =
    route (address 0 0 0 0) 0
    ∷ route (address 10 0 0 0) 8
    ∷ route (address 10 0 0 0) 24
    ∷ route (address 10 17 0 0) 16
    ∷ route (address 10 27 129 0) 24
    ∷ route (address 10 229 0 128) 25
    ∷ route (address 10 198 122 47) 32
    ∷ []

-- its destination descriptors, each with the router
abbrev table_bytes : List ℕ
table_bytes =
    with_router (0 ∷ [])
    ++ with_router (8 ∷ 10 ∷ [])
    ++ with_router (24 ∷ 10 ∷ 0 ∷ 0 ∷ [])
    ++ with_router (16 ∷ 10 ∷ 17 ∷ [])
    ++ with_router (24 ∷ 10 ∷ 27 ∷ 129 ∷ [])
    ++ with_router (25 ∷ 10 ∷ 229 ∷ 0 ∷ 128 ∷ [])
    ++ with_router (32 ∷ 10 ∷ 198 ∷ 122 ∷ 47 ∷ [])

pub table-reads : routes_of table_bytes ≡ Some table_routes
unfolding routes_within route_at bytes_at
table-reads = refl

pub table-written : flat_map written_route table_routes ≡ table_bytes
unfolding written_route
table-written = refl
