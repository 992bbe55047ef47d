-- The labels, and the zero byte.
use Rattle.std.proofs.Common.{sym, ◌∙◌}
use Rattle.std.proofs.lemmas.Bool.{false≢true}
use Rattle.dhcp_wire.proofs.EmitLemmas.{emits_appends, emits_exit, emits_last, front_first}
use Rattle.dhcp6_opt.proofs.NameLemmas.{written_name-nil, written_name-some}
use Rattle.dhcp6_opt.proofs.domain_name.TextWritten.emit.Goals as goal

pub returns-then-is_empty : goal.returns-then-is_empty
returns-then-is_empty c =
    rw (written_name-nil c.args.self.now (c.is_empty.ensures.0 c.if-is_empty.true)) (emits_appends _ _ _ _ c.write_u8.ensures)

pub returns-in_err-emit_labels : goal.returns-in_err-emit_labels
returns-in_err-emit_labels c =
    rw (written_name-some c.args.self.now (λ none. false≢true (sym c.if-is_empty.false ∙ c.is_empty.ensures.1 none)), ← c.as_str.ensures.same)
    (emits_exit _ _ _ _ _ c.from_residual.ensures.1 c.in_err-emit_labels.ensures.0 (front_first _ _ _ _ c.in_err-emit_labels.ensures.1))

pub returns : goal.returns
returns c =
    rw (written_name-some c.args.self.now (λ none. false≢true (sym c.if-is_empty.false ∙ c.is_empty.ensures.1 none)), ← c.as_str.ensures.same)
    (emits_last _ _ _ _ _ _ c.in_ok-emit_labels.ensures (emits_appends _ _ _ _ c.write_u8-2.ensures))
