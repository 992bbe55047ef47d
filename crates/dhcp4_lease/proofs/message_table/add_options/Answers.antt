-- The lists of a configuration within its limits fit their options.
use Rattle.std.proofs.Common.{ap, ◌∙◌}
use Rattle.dhcp4_lease.specs.Config.{Config}
use Rattle.dhcp4_lease.proofs.OptionLemmas.{requests_fit, client_fits}
use Rattle.dhcp4_lease.proofs.message_table.add_options.Goals as goal

pub insert-requires-2 : goal.insert-requires-2
insert-requires-2 c =
    let same = ap (λ (config : Config). config.request_opts) c.config.view_is in
    requests_fit _ c.args.config.now (c.in_ok-try_clone-2.ensures ∙ same) c.requires

pub add_client-requires : goal.add_client-requires
add_client-requires c =
    let same = ap (λ (config : Config). config.client_id) c.config.view_is in
    client_fits _ c.args.config.now (c.in_ok-try_clone-3.ensures ∙ same) c.requires
