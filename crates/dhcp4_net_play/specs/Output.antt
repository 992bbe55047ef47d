-- The text of what is reported of a network.
use Rattle.std.specs.Prelude.{ℕ, List, [], ◌∷◌, ◌++◌, codes}
use Rattle.std.specs.Fmt.{decimal}
use Rattle.std.specs.List.{flat_map}
use Rattle.dhcp_stream.specs.Line.{line, spaced}
use Rattle.dhcp_stream.specs.Number.{address_text}
use Rattle.dhcp4_net.specs.declared.output.NetOutput.{NetOutput}
use Rattle.dhcp4_net.specs.declared.output.NetWhat.{NetWhat}
use Rattle.dhcp4_net.specs.declared.output.NetWhat.TheVariants.{Sent, Hold, Failed}

-- what is reported, field by field
abbrev pub what_fields : NetWhat → List (List ℕ)
what_fields (Sent packet) = codes "sent" ∷ decimal packet ∷ []
what_fields (Hold client address from until) =
    codes "hold" ∷ decimal client ∷ address_text address ∷ decimal from ∷ decimal until ∷ []
what_fields (Failed client) = codes "failed" ∷ decimal client ∷ codes "io_error" ∷ []

-- the line of an output: the number of its event, and what is reported of it
abbrev pub output_line : NetOutput → List ℕ
output_line output = line (spaced (decimal output.event ∷ what_fields output.what))

-- the lines of outputs, and the last line
unfoldable pub outputs_text : List NetOutput → List ℕ
outputs_text outputs = flat_map output_line outputs ++ line (codes "ok")
