-- Each turn takes the label at the front, or ends at the zero byte or the end.
use Rattle.std.proofs.Common.{◌≡◌, ap, inr, sym, subst, ◌∙◌, Ok, Err, Some, ok_or, string_bytes}
use Rattle.std.proofs.lemmas.Result.{err_from_is_err_and}
use Rattle.dhcp_wire.specs.declared.error.ErrorKind.TheVariants.{InvalidDhcpMessage}
use Rattle.dhcp_wire.proofs.OutcomeLemmas.{given_read, refused_read}
use Rattle.dhcp6_opt.specs.DomainName.{name_at, label_at}
use Rattle.dhcp6_opt.proofs.NameLemmas.{named_after, name_more, name_refused, name_ended, name_open, label_at-shorter}
use Rattle.dhcp6_opt.proofs.domain_name.name_at.Goals as goal

pub returns-then-length-eq0 : goal.returns-then-length-eq0
returns-then-length-eq0 c =
    let split = c.in-Some.ensures.cases.0 in
    let so_far = subst (λ bytes. named_after (string_bytes c.loop-length.text) bytes ≡ name_at c.args.bytes.now) split c.loop-length.invariant in
    ap (λ read. ok_or read InvalidDhcpMessage) (name_ended _ _ _ _ so_far c.if-length-eq0.true ∙ ap (λ text. Some (text, c.in-Some.later.now)) (sym c.from.ensures))

pub returns-in_err-label : goal.returns-in_err-label
returns-in_err-label c =
    let split = c.in-Some.ensures.cases.0 in
    let so_far = subst (λ bytes. named_after (string_bytes c.loop-length.text) bytes ≡ name_at c.args.bytes.now) split c.loop-length.invariant in
    let refused = refused_read (label_at c.loop-length.rest.now) InvalidDhcpMessage _ c.in_err-label.ensures in
    let none = name_refused _ _ _ _ so_far c.if-length-eq0.false (ap label_at (sym split) ∙ refused.0) in
    let exit = err_from_is_err_and c.from_residual-in_err-label.result c.from_residual-in_err-label.ensures.1 in
    rw (exit.1, exit.2) (inr (ap (λ read. ok_or read InvalidDhcpMessage) none ∙ ap Err (sym refused.1)))

pub loop-length-smaller : goal.loop-length-smaller
loop-length-smaller c =
    let split = c.in-Some.ensures.cases.0 in
    let reads = given_read (label_at c.loop-length.rest.now) InvalidDhcpMessage _ c.in_ok-label.ensures in
    let shorter = label_at-shorter _ _ _ _ (ap label_at (sym split) ∙ reads) in
    rw split shorter

pub loop-length-preserved : goal.loop-length-preserved
loop-length-preserved c =
    let split = c.in-Some.ensures.cases.0 in
    let so_far = subst (λ bytes. named_after (string_bytes c.loop-length.text) bytes ≡ name_at c.args.bytes.now) split c.loop-length.invariant in
    let reads = given_read (label_at c.loop-length.rest.now) InvalidDhcpMessage _ c.in_ok-label.ensures in
    let more = name_more _ _ _ _ _ _ so_far c.if-length-eq0.false (ap label_at (sym split) ∙ reads) in
    rw c.in_ok-push_label.ensures more

pub returns : goal.returns
returns c =
    ap (λ read. ok_or read InvalidDhcpMessage) (name_open _ _ _ c.loop-length.invariant c.in_default.ensures.cases)
    ∙ ap (λ text. Ok (text, c.loop-length.rest.now)) (sym c.from-2.ensures)
