use Rattle.std.proofs.Common.{sym, arith}
use Rattle.dhcp_inspect.proofs.HeaderLemmas.{read_header-found}
use Rattle.dhcp_inspect.proofs.header.Header.read.Goals as goal

pub returns-clause-found : goal.returns-clause-found
returns-clause-found c =
    read_header-found c.args.file.now c.in_ok-header.header (omega arith) (sym c.in_ok-header.ensures)
