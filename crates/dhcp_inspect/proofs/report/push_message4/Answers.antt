-- The addresses, and what is pushed after them.
use Rattle.std.proofs.Common.{◌≡◌, ℕ, List, [], ◌∷◌, ◌++◌, string_bytes, subst}
use Rattle.std.specs.Prelude.{OnOk}
use Rattle.dhcp_stream.specs.Number.{address_text}
use Rattle.dhcp_inspect.specs.Report.{content4_text}
use Rattle.dhcp_inspect.proofs.TextLemmas.{pushed_after, two_fields}
use Rattle.dhcp_inspect.proofs.report.push_message4.Goals as goal

pub returns : goal.returns
returns c =
    let source = address_text c.args.message.now.source in
    let destination = address_text c.args.message.now.destination in
    let content = content4_text c.args.message.now in
    subst (λ (line : List ℕ). OnOk c.push_content4.result (string_bytes c.push_content4.new.text ≡ string_bytes c.args.text.now ++ line))
    (two_fields source destination content)
    (pushed_after c.push_content4.result (string_bytes c.args.text.now) (string_bytes c.write.new.self) (string_bytes c.push_content4.new.text)
    (118 ∷ 52 ∷ 32 ∷ (source ++ 32 ∷ (destination ++ 32 ∷ []))) content c.in_ok-write.ensures.bytes c.push_content4.ensures)
