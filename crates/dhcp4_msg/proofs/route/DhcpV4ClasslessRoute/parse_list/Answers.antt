-- Each turn takes one route from the bytes to the list.
use Rattle.std.proofs.Common.{ap, inr, sym, ◌∙◌, Err, ok_or}
use Rattle.std.proofs.lemmas.Bool.{both_ways}
use Rattle.std.proofs.lemmas.Result.{err_from_is_err_and}
use Rattle.dhcp_wire.specs.declared.error.ErrorKind.TheVariants.{InvalidDhcpMessage}
use Rattle.dhcp4_msg.proofs.RouteLemmas.{routes_more, routes_refused, routes_end, route_at-shorter}
use Rattle.dhcp4_msg.proofs.route.DhcpV4ClasslessRoute.parse_list.Goals as goal

pub returns-in_err-parse : goal.returns-in_err-parse
returns-in_err-parse c =
    let exit = err_from_is_err_and c.from_residual.result c.from_residual.ensures.1 in
    let none = routes_refused _ _ _ c.loop-rest.invariant (λ is. both_ways _ c.loop-rest-test.true (c.is_empty.ensures.1 is)) c.in_err-parse.ensures.1 in
    rw (exit.1, exit.2) (inr (ap (λ routes. ok_or routes InvalidDhcpMessage) none ∙ ap Err (sym c.in_err-parse.ensures.0)))

pub loop-rest-smaller : goal.loop-rest-smaller
loop-rest-smaller c = route_at-shorter _ _ _ c.in_ok-parse.ensures

pub loop-rest-preserved : goal.loop-rest-preserved
loop-rest-preserved c = rw c.in_ok-push.ensures (routes_more _ _ _ _ _ c.loop-rest.invariant c.in_ok-parse.ensures)

pub returns : goal.returns
returns c = ap (λ routes. ok_or routes InvalidDhcpMessage) (routes_end _ _ _ c.loop-rest.invariant (c.is_empty.ensures.0 c.loop-rest-test.false))
