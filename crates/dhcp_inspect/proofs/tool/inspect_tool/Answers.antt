-- What the clauses of every program say of a file.
use Rattle.std.proofs.Common.{◌≡◌, ◌≤◌, ◌⊎◌, List, ℕ, length, Option, refl, sym, subst, arith}
use Rattle.std.specs.Prelude.{IfSome}
use Rattle.std.proofs.lemmas.Bool.{false≢true}
use Rattle.dhcp_stream.specs.Whole.{most_bytes}
use Rattle.dhcp_tool.specs.Texts.{IsNoText}
use Rattle.dhcp_inspect.specs.Header.{IsCapture}
use Rattle.dhcp_inspect.specs.Tool.{captures}
use Rattle.dhcp_inspect.proofs.tool.inspect_tool.Goals as goal

pub returns-clause-every_record_once : goal.returns-clause-every_record_once
returns-clause-every_record_once g c = λ file asked capture left short kept sink_kept.
    (c.run_tool.ensures.ends (record {}) asked).complete file capture refl left short kept sink_kept

pub returns-clause-no_capture : goal.returns-clause-no_capture
returns-clause-no_capture g c = λ file asked other left short kept.
    subst (λ (before : Option (List ℕ)). IfSome before (λ bytes. length bytes ≤ most_bytes → IsNoText captures bytes → (c.run_tool.result ≡ 5) ⊎ (c.run_tool.result ≡ 2))) left
    ((c.run_tool.ensures.ends (record {}) asked).refuses kept) short (λ script text. other (subst IsCapture text.spells text.is_script))

pub returns-clause-ends : goal.returns-clause-ends
returns-clause-ends g c = λ asked. c.run_tool.ensures.ends (record {}) asked

pub returns-clause-wrong_words : goal.returns-clause-wrong_words
returns-clause-wrong_words g c =
    (λ is asked. c.run_tool.ensures.wrong_words.0 is (record {}) asked, λ not. c.run_tool.ensures.wrong_words.1 (λ request asked. not asked))

pub returns-clause-no_other : goal.returns-clause-no_other
returns-clause-no_other g c =
    let seven : c.run_tool.result ≡ 7 → ⊥ = λ is.
    let asked = c.run_tool.ensures.asked (λ one. absurd (omega (arith, is, one))) in
    false≢true (sym ((c.run_tool.ensures.ends asked.0 asked.1).invalid is).1.1) in
    omega (arith, c.run_tool.ensures.no_other, seven)
