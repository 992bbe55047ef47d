-- The codes of a configuration within its limits fit their option.
use Rattle.std.proofs.Common.{ap, ◌∙◌}
use Rattle.dhcp6_msg.specs.Config.{Config}
use Rattle.dhcp6_msg.proofs.OptionLemmas.{requests_within}
use Rattle.dhcp6_msg.proofs.message_table.add_requests.Goals as goal

pub insert-requires : goal.insert-requires
insert-requires c =
    let same = ap (λ (config : Config). config.request_opts) c.config.view_is in
    requests_within _ c.args.config.now (c.in_ok-try_clone.ensures ∙ same) c.requires
