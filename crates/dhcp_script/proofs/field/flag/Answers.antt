use Rattle.std.proofs.Common.{sym, ◌∙◌}
use Rattle.dhcp_script.proofs.FieldLemmas.{flag_in-set, flag_in-unset, flag_in-none}
use Rattle.dhcp_script.proofs.field.flag.Goals as goal

pub returns-then-eq : goal.returns-then-eq
returns-then-eq c = flag_in-set c.args.set.now c.args.unset.now c.args.field.now (sym c.eq.ensures ∙ c.if-eq.true)

pub returns-then-eq-2 : goal.returns-then-eq-2
returns-then-eq-2 c =
    flag_in-unset c.args.set.now c.args.unset.now c.args.field.now (sym c.eq.ensures ∙ c.if-eq.false) (sym c.eq-else-eq.ensures ∙ c.if-eq-2.true)

pub returns-else-eq-2 : goal.returns-else-eq-2
returns-else-eq-2 c =
    flag_in-none c.args.set.now c.args.unset.now c.args.field.now (sym c.eq.ensures ∙ c.if-eq.false) (sym c.eq-else-eq.ensures ∙ c.if-eq-2.false)
