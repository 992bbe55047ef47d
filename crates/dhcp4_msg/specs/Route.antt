-- A classless static route, RFC 3442: the width of a subnet mask, the significant octets of the
-- destination, the router.
use Rattle.std.specs.Prelude.{ℕ, zero, suc, ◌+◌, ◌-◌, ◌/◌, min, List, [], ◌∷◌, ◌++◌, length, take, replicate, Option, Some, None}
use Rattle.std.specs.Int.{w8}
use Rattle.std.specs.Ordering.{nat_cmp, ordering_then}
use Rattle.std.specs.contracts.net.ipv4_addr.Ipv4AddrOrd.TheImpl as addresses
use Rattle.std.specs.declared.cmp.Ordering.{Ordering}
use Rattle.std.specs.Net.Addr.{ipv4_octets}
use Rattle.dhcp_wire.specs.Field.{Read, ◌>>=◌, bytes_at, number_at, address_of, address_at}
use Rattle.dhcp4_msg.specs.declared.route.DhcpV4ClasslessRoute.{DhcpV4ClasslessRoute}

-- how many octets of a destination stand for a mask of this width: as many as its bits touch, four
-- at most
abbrev pub significant_octets : ℕ → ℕ
significant_octets width = min 4 ((width + 7) / 8)

-- the address that begins with these octets; those not given are zero
abbrev pub padded_octets : List ℕ → List ℕ
padded_octets octets = octets ++ replicate (4 - length octets) 0

-- how a route stands to another: by destination, then by the length of the prefix, then by router
abbrev pub route_order : DhcpV4ClasslessRoute → DhcpV4ClasslessRoute → Ordering
route_order first second =
    ordering_then (addresses.ghosts.cmp first.destination second.destination)
    (ordering_then (nat_cmp first.prefix_length second.prefix_length)
    (addresses.ghosts.cmp first.router second.router))

-- one route
unfoldable pub route_at : List ℕ → Read DhcpV4ClasslessRoute
route_at bytes = do
  width ← number_at w8 bytes
  octets ← bytes_at (significant_octets width.0) width.1
  router ← address_at octets.1
  Some (
    record {
      destination = address_of (padded_octets octets.0);
      prefix_length = width.0;
      router = router.0;
    },
    router.1,
  )

-- routes one after the other that fill the bytes exactly, at most so many as there are bytes
unfoldable pub routes_within : ℕ → List ℕ → Option (List DhcpV4ClasslessRoute)
routes_within fuel [] = Some []
routes_within zero (byte ∷ bytes) = None
routes_within (suc fuel) (byte ∷ bytes) = do
  route ← route_at (byte ∷ bytes)
  routes ← routes_within fuel route.1
  Some (route.0 ∷ routes)

-- routes that fill the bytes exactly
abbrev pub routes_of : List ℕ → Option (List DhcpV4ClasslessRoute)
routes_of bytes = routes_within (length bytes) bytes

-- the bytes of a route
unfoldable pub written_route : DhcpV4ClasslessRoute → List ℕ
written_route route =
    let width = route.prefix_length in
    width ∷ take (significant_octets width) (ipv4_octets route.destination)
    ++ ipv4_octets route.router
