-- Scripts of a client, of either family: their limits and their texts.
use Rattle.std.specs.Prelude.{◌≡◌, ℕ, Bool, List, Option, Some, None, Result, Ok, Err}
use Rattle.dhcp_wire.specs.Error.{ErrorParts, no_memory}
use Rattle.dhcp_script.specs.declared.script.Script.{Script}
use Rattle.dhcp_script.specs.declared.script.Script.TheVariants.{V4, V6}
use Rattle.dhcp_script.specs.declared.version.Version.{Version}
use Rattle.dhcp_script.specs.declared.version.Version.TheVariants.{One, Later}
use Rattle.dhcp_script.specs.Script4 as v4
use Rattle.dhcp_script.specs.Script4.{IsScript4, script4_text}
use Rattle.dhcp_script.specs.Script6 as v6
use Rattle.dhcp_script.specs.Script6.{IsScript6, script6_text}

-- whether a script is valid
abbrev pub is_valid : Script → Bool
is_valid (V4 script) = v4.is_valid script
is_valid (V6 script) = v6.is_valid script

-- the text of a script in a version
abbrev pub text_in : Version → Script → List ℕ
text_in version (V4 script) = script4_text version script
text_in version (V6 script) = script6_text version script

-- a script that has a text in a version
abbrev pub HasTextIn : Version → Script → Type 0
HasTextIn version (V4 script) = IsScript4 version script
HasTextIn version (V6 script) = IsScript6 version script

-- the text of a script: that of version 2; of version 3 if it is of an IPv4 client and says the
-- forms of its messages
abbrev pub script_text : Script → List ℕ
script_text script = text_in Later script

-- a script whose numbers, addresses and bytes fit their types, and the names of whose IPv4 lease,
-- if it has one, are UTF-8
abbrev pub IsScript : Script → Type 0
IsScript script = HasTextIn Later script

-- the version 1 text of a script
abbrev pub script_text_v1 : Script → List ℕ
script_text_v1 script = text_in One script

-- the same that says no forms of messages, and whose lease, if there is one, has in all fields that
-- version 1 does not name those of the empty lease
abbrev pub IsScriptV1 : Script → Type 0
IsScriptV1 script = HasTextIn One script

-- What an upgrade of a text returns: the text of the script that has this text in version 1; none
-- if no script has.
abbrev pub IsUpgrade : Option (List ℕ) → List ℕ → Type 0
IsUpgrade (Some new) old =
    (script : Script) × IsScriptV1 script × (script_text_v1 script ≡ old)
    × (script_text script ≡ new)
IsUpgrade None old = (script : Script) → IsScriptV1 script → script_text_v1 script ≡ old → ⊥

-- The same, or out of memory.
abbrev pub GivesUpgrade : Result (Option (List ℕ)) ErrorParts → List ℕ → Type 0
GivesUpgrade (Ok answer) old = IsUpgrade answer old
GivesUpgrade (Err e) old = e ≡ no_memory
