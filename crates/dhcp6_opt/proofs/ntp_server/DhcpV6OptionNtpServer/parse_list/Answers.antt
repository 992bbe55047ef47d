-- Each turn takes one suboption from the bytes to the list.
use Rattle.std.proofs.Common.{◌≡◌, ap, inl, inr, sym, ◌∙◌, length, Err, ok_or, arith}
use Rattle.std.proofs.lemmas.Result.{err_from_is_err_and}
use Rattle.dhcp_wire.specs.Field.{◌>>=◌}
use Rattle.dhcp_wire.specs.RawOption.{filling_options}
use Rattle.dhcp_wire.specs.declared.error.ErrorKind.TheVariants.{InvalidDhcpMessage}
use Rattle.dhcp_wire.specs.declared.raw_option.OptionFormat.TheVariants.{DhcpV6}
use Rattle.dhcp_wire.proofs.OutcomeLemmas.{given_read, refused_read}
use Rattle.dhcp_wire.proofs.RawOptionLemmas.{raw_option_at-shorter}
use Rattle.dhcp6_opt.specs.NtpServer.{ntp_server_of, ntp_servers_in, ntp_servers_of}
use Rattle.dhcp6_opt.specs.RawOption.{parts_of}
use Rattle.dhcp6_opt.proofs.NtpLemmas.{servers_more, servers_refused, servers_truncated, servers_end, servers_first}
use Rattle.dhcp6_opt.proofs.ntp_server.DhcpV6OptionNtpServer.parse_list.Goals as goal

pub loop-rest-init : goal.loop-rest-init
unfolding ntp_servers_in
loop-rest-init c = rw c.new-servers.ensures (servers_first (filling_options DhcpV6 c.args.value.now >>= ntp_servers_of))

pub returns-in_default : goal.returns-in_default
returns-in_default c =
    let some : length c.loop-rest.rest.now ≡ 0 → ⊥ = λ none. grind (arith, c.loop-rest-test.true, c.is_empty.ensures, none) in
    let all = servers_truncated _ _ _ c.loop-rest.invariant some c.in_default.ensures.found in
    inr (ap (λ servers. ok_or servers InvalidDhcpMessage) all ∙ ap Err (sym (ap (λ e. e.kind) c.invalid_message.ensures)))

pub returns-in_err-parse : goal.returns-in_err-parse
returns-in_err-parse c =
    let exit = err_from_is_err_and c.from_residual.result c.from_residual.ensures.1 in
    rw (exit.1, exit.2) (elim c.in_err-parse.ensures [
      | inl memory ↦ inl memory
      | inr is ↦
          let refused = refused_read (ntp_server_of (parts_of c.in-Some.raw)) InvalidDhcpMessage _ is in
          let all = servers_refused _ _ _ _ _ c.loop-rest.invariant c.in-Some.ensures.found refused.0 in
          inr (ap (λ servers. ok_or servers InvalidDhcpMessage) all ∙ ap Err (sym refused.1))
    ])

pub loop-rest-smaller : goal.loop-rest-smaller
loop-rest-smaller c = raw_option_at-shorter DhcpV6 _ _ _ c.in-Some.ensures.found

pub loop-rest-preserved : goal.loop-rest-preserved
loop-rest-preserved c =
    let reads = given_read (ntp_server_of (parts_of c.in-Some.raw)) InvalidDhcpMessage _ c.in_ok-parse.ensures in
    rw c.in_ok-push.ensures (servers_more _ _ _ _ _ _ c.loop-rest.invariant c.in-Some.ensures.found reads)

pub returns : goal.returns
returns c =
    let none : length c.loop-rest.rest.now ≡ 0 = grind (arith, c.loop-rest-test.false, c.is_empty.ensures) in
    ap (λ servers. ok_or servers InvalidDhcpMessage) (servers_end _ _ _ c.loop-rest.invariant none)
