-- Each label takes one byte more, and the name its zero byte.
use Rattle.std.proofs.Common.{length, sym, ap, ◌∙◌, arith}
use Rattle.std.proofs.lemmas.Bool.{false≢true}
use Rattle.dhcp6_opt.proofs.NameLemmas.{empty_of_length, length-written_name-nil, length-written_name-some}
use Rattle.dhcp6_opt.proofs.domain_name.TextWritten.written_len.Goals as goal

pub returns-then-is_empty-clause-value : goal.returns-then-is_empty-clause-value
returns-then-is_empty-clause-value c =
    sym (length-written_name-nil c.args.self.now (ap length (c.is_empty.ensures.0 c.if-is_empty.true)))

pub returns-else-is_empty-clause-value : goal.returns-else-is_empty-clause-value
returns-else-is_empty-clause-value c =
    let long = length-written_name-some c.args.self.now (λ none. false≢true (sym c.if-is_empty.false ∙ c.is_empty.ensures.1 (empty_of_length _ none))) in
    let same = c.as_str.ensures.same in
    grind (arith, long)
