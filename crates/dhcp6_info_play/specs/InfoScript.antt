-- Scripts of a client for configuration alone, and their text: those of an IPv6 client, whose mode
-- is not written, without a lease and without an event `release`.
use Rattle.std.specs.Prelude.{◌≡◌, ℕ, Bool, true, false, List, [], ◌∷◌, ◌++◌, codes, None}
use Rattle.std.specs.List.{list_any}
use Rattle.std.specs.Fmt.{decimal}
use Rattle.std.specs.Int.{w16}
use Rattle.dhcp_stream.specs.HexText.{address6_text, hex_text, numbers_text}
use Rattle.dhcp_stream.specs.Line.{line, spaced}
use Rattle.dhcp6_msg.specs.declared.mode.DhcpV6Mode.TheVariants.{NonTemporaryAddresses}
use Rattle.dhcp_script.specs.declared.event.Event.{Event}
use Rattle.dhcp_script.specs.declared.event.EventWhat.{EventWhat}
use Rattle.dhcp_script.specs.declared.event.EventWhat.TheVariants.{Nothing, Frame, Payload, Release, CleanUp}
use Rattle.dhcp_script.specs.declared.script6.Script6.{Script6}
use Rattle.dhcp_script.specs.declared.version.Version.TheVariants.{Later}
use Rattle.dhcp_script.specs.Codes.{listed_text}
use Rattle.dhcp_script.specs.Life.{life_text}
use Rattle.dhcp_script.specs.Script6.{IsScript6, mac_text}

-- the first line
abbrev pub first_line : List ℕ
first_line = line (codes "dhcp6info 1")

-- the interface
abbrev pub iface_text : Script6 → List ℕ
iface_text script =
    spaced (decimal script.iface_index ∷ address6_text script.src_ip ∷ mac_text script.mac
    ∷ decimal script.timeout_sec ∷ [])

-- the lines up to that of the identifier
abbrev pub first_lines : Script6 → List ℕ
first_lines script =
    first_line
    ++ line (codes "iface " ++ iface_text script)
    ++ line (codes "duid " ++ hex_text script.duid)

-- the text of a script
unfoldable pub info_script_text : Script6 → List ℕ
info_script_text script =
    first_lines script
    ++ line (codes "codes " ++ listed_text (numbers_text w16) script.codes)
    ++ life_text script.words script.start script.events

-- whether a release happens
abbrev pub is_release_what : EventWhat → Bool
is_release_what Nothing = false
is_release_what (Frame bytes) = false
is_release_what (Payload bytes) = false
is_release_what Release = true
is_release_what CleanUp = false

abbrev pub is_release : Event → Bool
is_release event = is_release_what event.what

abbrev pub has_release : List Event → Bool
has_release events = list_any is_release events

-- A script that has a text: one of an IPv6 client whose mode is that of IA_NA, as no other is read,
-- that holds no lease and releases none.
pub record IsInfoScript (script : Script6) : Type 0 where
  pub fits : IsScript6 Later script
  pub mode : script.mode ≡ NonTemporaryAddresses
  pub lease : script.lease ≡ None
  pub releases : has_release script.events ≡ false
