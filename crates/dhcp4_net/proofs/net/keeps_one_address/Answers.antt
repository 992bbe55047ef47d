-- A network within its limits keeps One-address.
use Rattle.std.proofs.Common.{subst}
use Rattle.std.specs.Prelude.{All}
use Rattle.dhcp4_net.specs.Clients.{IsTypedClient}
use Rattle.dhcp4_net.proofs.ScriptLemmas.{ends_with_one_address, ends_with_one_holder, within_limits}
use Rattle.dhcp4_net.proofs.net.keeps_one_address.Goals as goal

pub returns-clause-within : goal.returns-clause-within
returns-clause-within c = within_limits c.args.script.now c.requires

pub returns-clause-address : goal.returns-clause-address
returns-clause-address c =
    let typed : All IsTypedClient c.args.script.now.clients = subst (All IsTypedClient) c.as_slice.ensures c.are_typed.ensures in
    ends_with_one_address c.args.script.now c.requires c.a_configuration_is_typed.ensures typed

pub returns-clause-holder : goal.returns-clause-holder
returns-clause-holder c =
    let typed : All IsTypedClient c.args.script.now.clients = subst (All IsTypedClient) c.as_slice.ensures c.are_typed.ensures in
    ends_with_one_holder c.args.script.now c.requires c.a_configuration_is_typed.ensures typed
