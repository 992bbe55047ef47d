-- What a program answers to the script of a network.
use Rattle.std.proofs.Common.{◌≡◌, ◌⊎◌, inl, inr, ℕ, true, false, List, [], length, Option, Some, None, unwrap_or, option_map, is_some, refl, sym, subst, ap, ◌∙◌}
use Rattle.std.specs.Prelude.{IfOk, IfSome, Result, Ok, Err, ok_or}
use Rattle.dhcp_wire.specs.Error.{ErrorParts, no_memory}
use Rattle.dhcp_wire.specs.Outcome.{Gives, Makes}
use Rattle.dhcp_wire.specs.declared.error.ErrorKind.{ErrorKind}
use Rattle.dhcp_wire.specs.declared.error.ErrorKind.TheVariants.{InvalidArgument}
use Rattle.dhcp_tool.specs.Texts.{AnswersScript, AreKept}
use Rattle.dhcp_tool.specs.declared.status.Status.{Status}
use Rattle.dhcp4_net.specs.Net.{Net}
use Rattle.dhcp4_net.specs.OneAddress.{OneAddress, OneHolder}
use Rattle.dhcp4_net.specs.Script.{net_at_end, outputs_at_end}
use Rattle.dhcp4_net.specs.declared.output.NetOutput.{NetOutput}
use Rattle.dhcp4_net.specs.declared.script.NetScript.{NetScript}
use Rattle.dhcp4_net_play.specs.NetScript.{IsNetScript, net_script_text}
use Rattle.dhcp4_net_play.specs.Output.{outputs_text}
use Rattle.dhcp4_net_play.specs.Tool.{AnswersRun, KeepsOneAddress, KeepsOneAddressIn, is_valid, net_scripts, printed, status_of}

-- what is promised of the script whose text the source held
pub kept_of : (left : Option (List ℕ)) (script : NetScript) → IsNetScript script → left ≡ Some (net_script_text script) → IfSome left (AreKept net_scripts) → KeepsOneAddressIn script
kept_of left script one is kept =
    let all = subst (λ (bytes : Option (List ℕ)). IfSome bytes (AreKept net_scripts)) is kept in
    all script (record { is_script = one; spells = refl })

-- a script that was run
module _ (script : NetScript) (outputs : List NetOutput) (text : List ℕ) where
  -- it is valid, and these are the outputs of its network
  ran : (end : Option Net) → ok_or (option_map (λ (net : Net). net.outputs) end) InvalidArgument ≡ Ok outputs → OneAddress outputs → IfSome end (OneHolder (length script.clients))
      → (is_some end ≡ true) × (outputs ≡ unwrap_or (option_map (λ (net : Net). net.outputs) end) []) × IfSome end (KeepsOneAddress script)
  ran None gives address holder = cc gives
  ran (Some net) gives address holder =
      let same : net.outputs ≡ outputs = cc gives in
      (refl, sym same, record { one_address = subst OneAddress (sym same) address; one_holder = holder })

  pub run_answers : ok_or (outputs_at_end script) InvalidArgument ≡ Ok outputs → OneAddress outputs → IfSome (net_at_end script) (OneHolder (length script.clients))
      → text ≡ outputs_text outputs → AnswersRun (Ok text) script
  unfolding printed
  run_answers gives address holder is =
      let parts = ran (net_at_end script) gives address holder in
      (parts.0, is ∙ ap outputs_text parts.1, parts.2)

-- a script that was refused, or out of memory
pub run_refused : (script : NetScript) (e : ErrorParts) → (e ≡ no_memory) ⊎ (ok_or (outputs_at_end script) InvalidArgument ≡ Err e.kind) → AnswersRun (Err e) script
run_refused script e (inl memory) = inl memory
run_refused script e (inr refused) = inr (by_end (net_at_end script) refused)
  where
    by_end : (end : Option Net) → ok_or (option_map (λ (net : Net). net.outputs) end) InvalidArgument ≡ Err e.kind → (e.kind ≡ InvalidArgument) × (is_some end ≡ false)
    by_end None refused = (cc refused, refl)
    by_end (Some net) refused = cc refused

-- what is printed of a script that was run
pub ran_answers : (result : Result (List ℕ) ErrorParts) (script : NetScript) (outputs : List NetOutput) → ok_or (outputs_at_end script) InvalidArgument ≡ Ok outputs → OneAddress outputs
    → IfSome (net_at_end script) (OneHolder (length script.clients)) → Makes (λ text. text) result (outputs_text outputs) → AnswersRun result script
ran_answers (Ok text) script outputs gives address holder made = run_answers script outputs text gives address holder made
ran_answers (Err e) script outputs gives address holder made = inl made

-- the status of an error
pub refused_answers : (script : NetScript) (e : ErrorParts) → AnswersRun (Err e) script → AnswersScript net_scripts (Err (status_of e.kind)) script
refused_answers script e (inl memory) = rw memory tt
refused_answers script e (inr refused) = rw refused.0 refused.1
