-- Where there is no table, End alone is written.
use Rattle.std.proofs.Common.{sym, subst}
use Rattle.dhcp_wire.specs.Outcome.{Emits}
use Rattle.dhcp_wire.proofs.EmitLemmas.{emits_appends}
use Rattle.dhcp4_msg.proofs.RiseLemmas.{written_none}
use Rattle.dhcp4_msg.proofs.options.DhcpV4Options.emit.Goals as goal

pub returns-in-None : goal.returns-in-None
returns-in-None c =
    rw (← c.self.view_is, c.in-None.is) (subst (Emits c.write_u8.result c.args.buf.now c.write_u8.new.self) (sym written_none)
    (emits_appends _ _ _ _ c.write_u8.ensures))
