-- What a client begins with.
use Rattle.std.proofs.Common.{◌≡◌, true, ap, ◌∙◌, rules}
use Rattle.std.specs.Prelude.{Option}
use Rattle.dhcp_history.specs.declared.client.Standing.{Standing}
use Rattle.dhcp6_msg.specs.Config.{Config}
use Rattle.dhcp6_msg.specs.Lease.{Lease, is_duid}
use Rattle.dhcp6_client.specs.Client.{can_begin}
use Rattle.dhcp6_client.specs.Held.{has_times_in_order}
use Rattle.dhcp6_client.specs.declared.client_state.Exchange.{Exchange}
use Rattle.dhcp6_client.proofs.Beginnings.{begins_given, stands_unpolled, with_own}
use Rattle.dhcp6_client.proofs.Held.{first_ordered}
use Rattle.dhcp6_client.proofs.Limits.{stays_within}
use Rattle.dhcp6_client.proofs.client.DhcpV6Client.init.Goals as goal

pub invariant_of-result : goal.invariant_of-result
invariant_of-result g c =
    let both = c.in_ok-config.ensures.ok in
    let same : c.in_ok-config.config ≡ c.first_id-xid.new.config = ap (λ (kept : Config × Option Lease). kept.0) both.0 in
    let can : can_begin c.args.config c.args.lease ≡ true = rw both.1 at c.first_id-xid.ensures.begins in
    let set : c.first_id-xid.new.config ≡ record c.args.config { duid = c.first_id-xid.new.config.duid } = rw both.1 at c.first_id-xid.ensures.set in
    let sendable : is_duid c.first_id-xid.new.config.duid ≡ true = rw both.1 at c.first_id-xid.ensures.sendable in
    record { within = rw same (stays_within c.args.config c.first_id-xid.new.config c.args.lease can set sendable) }

pub invariant_of-result-2 : goal.invariant_of-result-2
invariant_of-result-2 g c =
    let both = c.in_ok-config.ensures.ok in
    let same : c.in_ok-config.config ≡ c.first_id-xid.new.config = ap (λ (kept : Config × Option Lease). kept.0) both.0 in
    let held : c.in_ok-config.lease ≡ c.args.lease = ap (λ (kept : Config × Option Lease). kept.1) both.0 in
    let can : can_begin c.args.config c.args.lease ≡ true = rw both.1 at c.first_id-xid.ensures.begins in
    let set : c.first_id-xid.new.config ≡ record c.args.config { duid = c.first_id-xid.new.config.duid } = rw both.1 at c.first_id-xid.ensures.set in
    let begins = begins_given c.args.config _ _ c.args.lease _ _ c.args.now (same ∙ set) held (ap (λ (config : Config). config.mode) c.config.view_is) in
    (search rules, ap has_times_in_order (c.new.ensures.state ∙ c.first_state-state.ensures ∙ begins) ∙ first_ordered c.args.config c.args.lease c.args.now can)

pub returns-clause-begun : goal.returns-clause-begun
returns-clause-begun g c =
    let both = c.in_ok-config.ensures.ok in
    let same : c.in_ok-config.config ≡ c.first_id-xid.new.config = ap (λ (kept : Config × Option Lease). kept.0) both.0 in
    let held : c.in_ok-config.lease ≡ c.args.lease = ap (λ (kept : Config × Option Lease). kept.1) both.0 in
    let set : c.first_id-xid.new.config ≡ record c.args.config { duid = c.first_id-xid.new.config.duid } = rw both.1 at c.first_id-xid.ensures.set in
    let sendable : is_duid c.first_id-xid.new.config.duid ≡ true = rw both.1 at c.first_id-xid.ensures.sendable in
    record {
      config = with_own c.args.config _ _ (same ∙ set);
      duid = rw same sendable;
      begins = record {
        state =
            c.new.ensures.state ∙ c.first_state-state.ensures
            ∙ begins_given c.args.config _ _ c.args.lease _ _ c.args.now (same ∙ set) held (ap (λ (config : Config). config.mode) c.config.view_is);
        standing = stands_unpolled c.new.result.standing c.first_exchange.result c.in_ok-config.xid c.new.ensures.standing c.first_exchange.ensures;
        timeout = c.new.ensures.timeout ∙ ap (λ (config : Config). config.timeout_sec) (c.config.view_is ∙ same ∙ set);
        moment = c.new.ensures.moment;
      };
    }

pub returns-clause-given : goal.returns-clause-given
returns-clause-given g c =
    let both = c.in_ok-config.ensures.ok in
    let same : c.in_ok-config.config ≡ c.first_id-xid.new.config = ap (λ (kept : Config × Option Lease). kept.0) both.0 in
    let xid : c.new.result.standing.exchange.xid ≡ c.in_ok-config.xid =
    ap (λ (standing : Standing Exchange). standing.exchange.xid) c.new.ensures.standing ∙ ap (λ (exchange : Exchange). exchange.xid) c.first_exchange.ensures in
    rw (same, xid) (rw both.1 at c.first_id-xid.ensures.given)
