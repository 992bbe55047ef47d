-- A script of version 2 beside the same of version 3.
use Rattle.std.proofs.Common.{◌≡◌, ℕ, List, [], ◌++◌, None, refl, ap, ◌∙◌, append_assoc, codes}
use Rattle.std.specs.Prelude.{Option}
use Rattle.dhcp_stream.specs.HexText.{hex_text}
use Rattle.dhcp_stream.specs.Line.{line}
use Rattle.dhcp4_lease.specs.declared.message_forms.DhcpV4MessageForms.{DhcpV4MessageForms}
use Rattle.dhcp4_lease.specs.declared.message_forms.DhcpV4MessageForms.TheVariants.{Mozim}
use Rattle.dhcp_script.specs.declared.script4.Script4.{Script4}
use Rattle.dhcp_script.specs.declared.version.Version.TheVariants.{Later}
use Rattle.dhcp_script.specs.Codes.{listed_text}
use Rattle.dhcp_script.specs.Field.{unless_none}
use Rattle.dhcp_script.specs.Lease4.{lease_text}
use Rattle.dhcp_script.specs.Life.{life_text}
use Rattle.dhcp_script.specs.Script4.{config_of, forms_word, iface_text, script4_text}
use Rattle.dhcp_script.specs.Version3.{DifferInForms, later_lines, saying}

-- a client with the forms of mozim has the configuration of one whose script says none
pub same_config : (script : Script4) → script.forms ≡ None → config_of (saying Mozim script) ≡ config_of script
unfolding config_of
same_config script none = rw none refl

-- the lines of a text without and with one of forms
without_forms : (family number iface host client listed held life : List ℕ) → family ++ number ++ iface ++ [] ++ host ++ client ++ listed ++ held ++ life ≡ (family ++ number) ++ iface ++ (host ++ client ++ listed ++ held ++ life)
without_forms family number iface host client listed held life = simp append_assoc

with_forms : (family number iface said host client listed held life : List ℕ) →
    family ++ number ++ iface ++ said ++ host ++ client ++ listed ++ held ++ life ≡ (family ++ number) ++ iface ++ said ++ (host ++ client ++ listed ++ held ++ life)
with_forms family number iface said host client listed held life = simp append_assoc

pub differ_in_forms : (forms : DhcpV4MessageForms) (script : Script4) → script.forms ≡ None → DifferInForms forms script
unfolding script4_text later_lines
differ_in_forms forms script none =
    let iface = line (codes "iface " ++ iface_text script) in
    let host = line (codes "host " ++ hex_text script.host) in
    let client = line (codes "client " ++ hex_text script.client) in
    let listed = line (codes "codes " ++ listed_text hex_text script.codes) in
    let held = line (codes "lease " ++ unless_none lease_text script.lease) in
    let life = life_text script.words script.start script.events in
    record {
      version_2 = ap (λ (said : Option DhcpV4MessageForms). script4_text Later (record script { forms = said })) none ∙ without_forms (codes "dhcp4 ") (line (codes "2")) iface host client listed held life;
      version_3 = with_forms (codes "dhcp4 ") (line (codes "3")) iface (line (codes "forms " ++ forms_word forms)) host client listed held life;
    }
