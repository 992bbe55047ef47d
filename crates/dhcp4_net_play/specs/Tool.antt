-- What the program of scripts of networks answers.
use Rattle.std.specs.Prelude.{◌≡◌, ◌⊎◌, ℕ, List, [], Bool, true, false, length, unwrap_or, is_some, IfSome, Result, Ok, Err}
use Rattle.dhcp_wire.specs.Error.{ErrorParts, no_memory}
use Rattle.dhcp_wire.specs.declared.error.ErrorKind.{ErrorKind}
use Rattle.dhcp_wire.specs.declared.error.ErrorKind.TheVariants.{InvalidArgument, OutOfMemory}
use Rattle.dhcp_tool.specs.Texts.{Texts}
use Rattle.dhcp_tool.specs.declared.status.Status.{Status}
use Rattle.dhcp_tool.specs.declared.status.Status.TheVariants.{Invalid, NoMemory}
use Rattle.dhcp4_net.specs.Net.{Net}
use Rattle.dhcp4_net.specs.OneAddress.{OneAddress, OneHolder}
use Rattle.dhcp4_net.specs.Script.{net_at_end, outputs_at_end}
use Rattle.dhcp4_net.specs.declared.script.NetScript.{NetScript}
use Rattle.dhcp4_net_play.specs.NetScript.{IsNetScript, net_script_text}
use Rattle.dhcp4_net_play.specs.Output.{outputs_text}

-- whether a script is valid: it is within its limits, and each of its events may come
abbrev pub is_valid : NetScript → Bool
is_valid script = is_some (net_at_end script)

-- what is printed for a valid script: the text of what its network reports
unfoldable pub printed : NetScript → List ℕ
printed script = outputs_text (unwrap_or (outputs_at_end script) [])

-- No address has two holders in a network: by what it reports, and by the states of its clients
-- after the last event.
pub record KeepsOneAddress (script : NetScript) (net : Net) : Type 0 where
  pub one_address : OneAddress net.outputs
  pub one_holder : OneHolder (length script.clients) net

-- no address has two holders in the network of a script
abbrev pub KeepsOneAddressIn : NetScript → Type 0
KeepsOneAddressIn script = IfSome (net_at_end script) (KeepsOneAddress script)

-- scripts of networks
abbrev pub net_scripts : Texts NetScript
net_scripts = record {
  text = net_script_text;
  IsOne = IsNetScript;
  is_valid = is_valid;
  printed = printed;
  IsKept = KeepsOneAddressIn;
}

-- What a run of a script gives: what is printed, if it is valid, and what is promised of it is
-- kept; else a refusal. Out of memory is allowed of any script.
abbrev pub AnswersRun : Result (List ℕ) ErrorParts → NetScript → Type 0
AnswersRun (Ok text) script =
    (is_valid script ≡ true) × (text ≡ printed script) × KeepsOneAddressIn script
AnswersRun (Err e) script =
    (e ≡ no_memory) ⊎ ((e.kind ≡ InvalidArgument) × (is_valid script ≡ false))

-- the status of an error of such a run
abbrev pub status_of : ErrorKind → Status
status_of OutOfMemory = NoMemory
status_of _ = Invalid
