-- The options of a row are added to those of every message.
use Rattle.std.proofs.Common.{ap, subst, length, ◌≤◌, sym}
use Rattle.dhcp6_opt.specs.Duid.{written_duid}
use Rattle.dhcp6_msg.specs.Config.{Config}
use Rattle.dhcp6_msg.specs.MessageTable.{RowParts}
use Rattle.dhcp6_msg.proofs.OptionLemmas.{client_within}
use Rattle.dhcp6_msg.proofs.TableLemmas.{row_message}
use Rattle.dhcp6_msg.proofs.message_table.message_of.Goals as goal

pub of_client-begun-requires : goal.of_client-begun-requires
of_client-begun-requires c =
    subst (λ (config : Config). length (written_duid config.duid) ≤ 65535) (sym c.config.view_is) (client_within c.args.config.now c.requires.limits)

pub returns : goal.returns
returns c =
    row_message c.in_ok-row.message _ _ c.args.xid c.args.config.now c.args.row _ _ _
    (ap (λ (row : RowParts). row.msg_type) c.row.view_is)
    (ap (λ (row : RowParts). row.elapsed_ms) c.row.view_is)
    (ap (λ (config : Config). config.duid) c.config.view_is)
    (rw c.in_ok-row.ensures.ok.1 at c.of_client-begun.ensures)
    (rw c.in_ok-row.ensures.ok.0 at c.in_ok-add_options.ensures)
    c.in_ok-add_elapsed_time.ensures.ok
