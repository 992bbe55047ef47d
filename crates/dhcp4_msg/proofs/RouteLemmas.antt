-- Classless routes: each takes some bytes, so that a list of bytes has no more of them than bytes.
use Rattle.std.proofs.Common.{◌≡◌, ℕ, zero, suc, ◌+◌, ◌<◌, ◌≤◌, List, [], ◌∷◌, ◌++◌, append_assoc, append-nil, length, take, Option, Some, None, option_map, refl, sym, ap, subst, ◌∙◌, arith}
use Rattle.std.specs.Int.{w8, from_be_bytes}
use Rattle.std.proofs.lemmas.Option.{none-some, same_Some, option_and_then_some}
use Rattle.std.proofs.lemmas.List.{take_at}
use Rattle.std.specs.List.{flat_map}
use Rattle.dhcp_wire.specs.Field.{Read, ◌>>=◌, bytes_at, number_at, address_at, address_of}
use Rattle.dhcp4_msg.specs.declared.route.DhcpV4ClasslessRoute.{DhcpV4ClasslessRoute}
use Rattle.dhcp4_msg.specs.Route.{significant_octets, padded_octets, written_route, route_at, routes_within, routes_of}
use Rattle.dhcp_wire.proofs.FieldLaws.{bytes_at_cut}
use Rattle.dhcp_wire.proofs.FieldLemmas.{number_at-split, address_at-split, Within, Within-then, Within-map, Within-bytes_at}

-- the significant octets of a destination are four at most
pub significant_octets-le : (width : ℕ) (bytes octets rest : List ℕ) → bytes_at (significant_octets width) bytes ≡ Some (octets, rest) → length octets ≤ 4
significant_octets-le width bytes octets rest is = let many = (bytes_at_cut _ bytes octets rest is).0 in omega arith

-- a route takes at least one byte
pub Within-route_at : (n : ℕ) (bytes : List ℕ) → length bytes ≤ n + 1 → Within n (route_at bytes)
unfolding route_at
Within-route_at n bytes few =
    Within-then n (number_at w8 bytes) _ (Within-map n (bytes_at 1 bytes) (from_be_bytes w8) (Within-bytes_at n 1 bytes few))
    (λ width less. Within-then n (bytes_at (significant_octets width.0) width.1) _ (Within-bytes_at n _ width.1 (omega arith))
    (λ octets fewer. Within-then n (address_at octets.1) _ (Within-map n (bytes_at 4 octets.1) address_of (Within-bytes_at n 4 octets.1 (omega arith)))
    (λ router least. least)))

-- a route, and the routes that follow it
abbrev after : (List ℕ → Option (List DhcpV4ClasslessRoute)) → Read DhcpV4ClasslessRoute → Option (List DhcpV4ClasslessRoute)
after later read = read >>= λ route. later route.1 >>= λ routes. Some (route.0 ∷ routes)

after_same : (n : ℕ) (one other : List ℕ → Option (List DhcpV4ClasslessRoute)) (read : Read DhcpV4ClasslessRoute) → Within n read → ((rest : List ℕ) → length rest ≤ n → one rest ≡ other rest) → after one read ≡ after other read
after_same n one other None within same = refl
after_same n one other (Some route) within same = ap (λ routes. routes >>= λ routes. Some (route.0 ∷ routes)) (same route.1 within)

-- once it is enough, more fuel changes nothing
pub routes_within-enough : (fuel more : ℕ) (bytes : List ℕ) → length bytes ≤ fuel → length bytes ≤ more → routes_within fuel bytes ≡ routes_within more bytes
unfolding routes_within
routes_within-enough zero zero bytes few less = refl
routes_within-enough zero (suc more) [] few less = refl
routes_within-enough zero (suc more) (byte ∷ bytes) few less = absurd (omega arith)
routes_within-enough (suc fuel) zero [] few less = refl
routes_within-enough (suc fuel) zero (byte ∷ bytes) few less = absurd (omega arith)
routes_within-enough (suc fuel) (suc more) [] few less = refl
routes_within-enough (suc fuel) (suc more) (byte ∷ bytes) few less =
    after_same (length bytes) (routes_within fuel) (routes_within more) (route_at (byte ∷ bytes)) (Within-route_at (length bytes) (byte ∷ bytes) (omega arith))
    (λ rest within. routes_within-enough fuel more rest (omega arith) (omega arith))

-- the routes of some bytes: the first, and those of the rest
pub routes_of-cons : (byte : ℕ) (bytes : List ℕ) → routes_of (byte ∷ bytes) ≡ after routes_of (route_at (byte ∷ bytes))
unfolding routes_within
routes_of-cons byte bytes =
    after_same (length bytes) (routes_within (length bytes)) routes_of (route_at (byte ∷ bytes)) (Within-route_at (length bytes) (byte ∷ bytes) (omega arith))
    (λ rest within. routes_within-enough (length bytes) (length rest) rest within (omega arith))

-- no bytes are no routes
pub routes_of-nil : routes_of [] ≡ Some []
unfolding routes_within
routes_of-nil = refl

-- where no route reads, and there are bytes, there are no routes
pub routes_of-refused : (bytes : List ℕ) → (bytes ≡ [] → ⊥) → route_at bytes ≡ None → routes_of bytes ≡ None
routes_of-refused [] some is = absurd (some refl)
routes_of-refused (byte ∷ bytes) some is = routes_of-cons byte bytes ∙ ap (after routes_of) is

-- what reads as a route has a byte
none_at_end : route_at [] ≡ None
unfolding route_at bytes_at
none_at_end = refl

-- where a route reads, the routes are it and those of the rest
pub routes_of-read : (bytes rest : List ℕ) (route : DhcpV4ClasslessRoute) → route_at bytes ≡ Some (route, rest) → routes_of bytes ≡ (routes_of rest >>= λ routes. Some (route ∷ routes))
routes_of-read [] rest route is = absurd (none-some _ (sym none_at_end ∙ is))
routes_of-read (byte ∷ bytes) rest route is = routes_of-cons byte bytes ∙ ap (after routes_of) is

-- what follows a route is shorter
pub route_at-shorter : (bytes rest : List ℕ) (route : DhcpV4ClasslessRoute) → route_at bytes ≡ Some (route, rest) → length rest < length bytes
route_at-shorter [] rest route is = absurd (none-some _ (sym none_at_end ∙ is))
route_at-shorter (byte ∷ bytes) rest route is =
    let within = subst (Within (length bytes)) is (Within-route_at (length bytes) (byte ∷ bytes) (omega arith)) in omega (arith, within)

-- The steps of a reader that keeps the routes so far. With one more route,
pub routes_more : (done : List DhcpV4ClasslessRoute) (bytes rest : List ℕ) (route : DhcpV4ClasslessRoute) (all : Option (List DhcpV4ClasslessRoute)) → option_map (λ later. done ++ later) (routes_of bytes) ≡ all → route_at bytes ≡ Some (route, rest) → option_map (λ later. (done ++ route ∷ []) ++ later) (routes_of rest) ≡ all
routes_more done bytes rest route all so_far is =
    sym (joined (routes_of rest)) ∙ ap (option_map (λ later. done ++ later)) (sym (routes_of-read bytes rest route is)) ∙ so_far
  where
    joined : (later : Option (List DhcpV4ClasslessRoute)) → option_map (λ later. done ++ later) (later >>= λ routes. Some (route ∷ routes)) ≡ option_map (λ later. (done ++ route ∷ []) ++ later) later
    joined None = refl
    joined (Some routes) = ap Some (sym (append_assoc done (route ∷ []) routes))

-- at bytes that are no route,
pub routes_refused : (done : List DhcpV4ClasslessRoute) (bytes : List ℕ) (all : Option (List DhcpV4ClasslessRoute)) → option_map (λ later. done ++ later) (routes_of bytes) ≡ all → (bytes ≡ [] → ⊥) → route_at bytes ≡ None → all ≡ None
routes_refused done bytes all so_far some is = sym so_far ∙ ap (option_map (λ later. done ++ later)) (routes_of-refused bytes some is)

-- and at the end.
pub routes_end : (done : List DhcpV4ClasslessRoute) (bytes : List ℕ) (all : Option (List DhcpV4ClasslessRoute)) → option_map (λ later. done ++ later) (routes_of bytes) ≡ all → bytes ≡ [] → all ≡ Some done
routes_end done bytes all so_far is = sym so_far ∙ ap (λ rest. option_map (λ later. done ++ later) (routes_of rest)) is ∙ ap (option_map (λ later. done ++ later)) routes_of-nil ∙ ap Some (append-nil done)

-- the octets that were given begin the address that they are padded to
take-padded : (n : ℕ) (octets : List ℕ) → length octets ≡ n → take n (padded_octets octets) ≡ octets
take-padded n octets is = take_at octets _ n is

-- what reads as a route is written as the same bytes
pub written_route-route_at : (bytes rest : List ℕ) (route : DhcpV4ClasslessRoute) → route_at bytes ≡ Some (route, rest) → bytes ≡ written_route route ++ rest
unfolding route_at written_route
written_route-route_at bytes rest route is =
    option_and_then_some _ (number_at w8 bytes) _ is (λ width at_width then_octets.
    option_and_then_some _ (bytes_at (significant_octets width.0) width.1) _ then_octets (λ octets at_octets then_router.
    option_and_then_some _ (address_at octets.1) _ then_router (λ router at_router made.
    let at_front = bytes_at_cut _ width.1 _ _ at_octets in
    subst (λ pair. bytes ≡ written_route pair.0 ++ pair.1) (same_Some _ _ made)
    (number_at-split bytes _ _ at_width
    ∙ ap (λ after. width.0 ∷ after)
    (at_front.1 ∙ ap (λ after. octets.0 ++ after) (address_at-split octets.1 _ _ at_router).0
    ∙ ap (λ front. front ++ (router.0.octets ++ router.1)) (sym (take-padded _ octets.0 at_front.0))
    ∙ sym (append_assoc (take (significant_octets width.0) (padded_octets octets.0)) router.0.octets router.1))))))

-- what reads as routes is written as the same bytes
pub written_routes-routes_within : (fuel : ℕ) (value : List ℕ) (routes : List DhcpV4ClasslessRoute) → routes_within fuel value ≡ Some routes → flat_map written_route routes ≡ value
unfolding routes_within
written_routes-routes_within zero [] routes is = ap (flat_map written_route) (sym (same_Some _ _ is))
written_routes-routes_within zero (byte ∷ bytes) routes is = absurd (none-some _ is)
written_routes-routes_within (suc fuel) [] routes is = ap (flat_map written_route) (sym (same_Some _ _ is))
written_routes-routes_within (suc fuel) (byte ∷ bytes) routes is =
    option_and_then_some _ (route_at (byte ∷ bytes)) _ is (λ route at_route then_routes.
    option_and_then_some _ (routes_within fuel route.1) _ then_routes (λ later at_later made.
    ap (flat_map written_route) (sym (same_Some _ _ made))
    ∙ ap (λ bytes. written_route route.0 ++ bytes) (written_routes-routes_within fuel route.1 later at_later)
    ∙ sym (written_route-route_at (byte ∷ bytes) route.1 route.0 at_route)))
