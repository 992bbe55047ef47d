-- Version 3 of the text of a script of an IPv4 client, beside version 2.
use Rattle.std.specs.Prelude.{◌≡◌, ℕ, List, ◌++◌, codes, Some}
use Rattle.dhcp_stream.specs.HexText.{hex_text}
use Rattle.dhcp_stream.specs.Line.{line}
use Rattle.dhcp4_lease.specs.declared.message_forms.DhcpV4MessageForms.{DhcpV4MessageForms}
use Rattle.dhcp_script.specs.declared.script4.Script4.{Script4}
use Rattle.dhcp_script.specs.declared.script.Script.TheVariants.{V4}
use Rattle.dhcp_script.specs.Codes.{listed_text}
use Rattle.dhcp_script.specs.Field.{unless_none}
use Rattle.dhcp_script.specs.Lease4.{lease_text}
use Rattle.dhcp_script.specs.Life.{life_text}
use Rattle.dhcp_script.specs.Script.{script_text}
use Rattle.dhcp_script.specs.Script4.{forms_word, iface_text}

-- a script that says these forms of its client's messages
abbrev pub saying : DhcpV4MessageForms → Script4 → Script4
saying forms script = record script { forms = Some forms }

-- the lines that both versions have after those of the interface and of the forms
unfoldable pub later_lines : Script4 → List ℕ
later_lines script =
    line (codes "host " ++ hex_text script.host)
    ++ line (codes "client " ++ hex_text script.client)
    ++ line (codes "codes " ++ listed_text hex_text script.codes)
    ++ line (codes "lease " ++ unless_none lease_text script.lease)
    ++ life_text script.words script.start script.events

-- The text of a script is of version 2, and that of the same with these forms of version 3: they
-- differ in the number of the version, and in the line of the forms after that of the interface.
pub record DifferInForms (forms : DhcpV4MessageForms) (script : Script4) : Type 0 where
  pub version_2 : script_text (V4 script)
      ≡ line (codes "dhcp4 2") ++ line (codes "iface " ++ iface_text script) ++ later_lines script
  pub version_3 : script_text (V4 (saying forms script))
      ≡ line (codes "dhcp4 3") ++ line (codes "iface " ++ iface_text script)
      ++ line (codes "forms " ++ forms_word forms) ++ later_lines script
