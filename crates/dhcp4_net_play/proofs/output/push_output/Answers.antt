-- A hold, piece by piece.
use Rattle.std.proofs.Common.{◌≡◌, ℕ, List, [], ◌∷◌, ◌++◌, append_assoc, codes}
use Rattle.std.specs.Fmt.{decimal}
use Rattle.dhcp_stream.specs.Line.{line}
use Rattle.dhcp_stream.specs.Number.{address_text}
use Rattle.dhcp_script.proofs.PrintLemmas.{pushed3}
use Rattle.dhcp4_net_play.specs.Output.{output_line}
use Rattle.dhcp4_net_play.proofs.output.push_output.Goals as goal

pieces : (event client address from until : List ℕ) → line (event ++ 32 ∷ (codes "hold" ++ 32 ∷ (client ++ 32 ∷ (address ++ 32 ∷ (from ++ 32 ∷ until)))))
    ≡ (event ++ (codes " hold " ++ (client ++ 32 ∷ []))) ++ address ++ line (32 ∷ (from ++ 32 ∷ until))
pieces event client address from until = simp append_assoc

pub returns-in_ok-push_to-in-Hold : goal.returns-in_ok-push_to-in-Hold
returns-in_ok-push_to-in-Hold c =
    pushed3 c.push_span.result _ _ _ _ (decimal c.args.output.now.event ++ (codes " hold " ++ (decimal c.in-Hold.client ++ 32 ∷ []))) (address_text c.in-Hold.address)
    (line (32 ∷ (decimal c.in-Hold.from ++ 32 ∷ decimal c.in-Hold.until))) (output_line c.args.output.now)
    c.push_span.ensures c.in_ok-push_to-in-Hold.ensures c.in_ok-write-in-Hold.ensures.bytes
    (rw c.in-Hold.is (pieces (decimal c.args.output.now.event) (decimal c.in-Hold.client) (address_text c.in-Hold.address) (decimal c.in-Hold.from) (decimal c.in-Hold.until)))
