-- The reading of a script of a client for configuration alone.
use Rattle.std.specs.Prelude.{ℕ, ◌==◌, if◌then◌else◌, List, codes, length, Option, Some, None}
use Rattle.std.specs.declared.net.Ipv6Addr.{Ipv6Addr}
use Rattle.dhcp_wire.specs.Field.{Read, ◌>>=◌}
use Rattle.dhcp_stream.specs.TextReader.{address6_in, after_tag, both, in_field, made_of}
use Rattle.dhcp6_msg.specs.declared.mode.DhcpV6Mode.TheVariants.{NonTemporaryAddresses}
use Rattle.dhcp_script.specs.declared.life.Life.{Life}
use Rattle.dhcp_script.specs.declared.script6.Script6.{Script6}
use Rattle.dhcp_script.specs.declared.script6.reader.Identity6.{Identity6}
use Rattle.dhcp_script.specs.FieldReader.{u32_at}
use Rattle.dhcp_script.specs.LifeReader as lives
use Rattle.dhcp_script.specs.ScriptReader.{identity6_at, mac_or_none_in}
use Rattle.dhcp6_info_play.specs.declared.reader.Iface.{Iface}
use Rattle.dhcp6_info_play.specs.InfoScript.{first_line, has_release}

abbrev pub iface_of : ℕ × (Ipv6Addr × (Option (List ℕ) × ℕ)) → Iface
iface_of parts = record {
  index = parts.0;
  src_ip = parts.1.0;
  mac = parts.1.1.0;
  timeout_sec = parts.1.1.1;
}

-- the interface
unfoldable pub iface_at : List ℕ → Read Iface
iface_at text =
    made_of iface_of (after_tag (codes "iface ") (both (u32_at 32) (both (in_field address6_in 32)
    (both (in_field mac_or_none_in 32) (u32_at 10))))) text

-- the words, the start and the events, none of which is a release
unfoldable pub life_at : List ℕ → Read Life
life_at text = do
  life ← lives.life_at text
  if has_release life.0.events then None else Some life

abbrev pub script_of : Iface × (Identity6 × Life) → Script6
script_of parts = record {
  iface_index = parts.0.index;
  src_ip = parts.0.src_ip;
  mac = parts.0.mac;
  mode = NonTemporaryAddresses;
  timeout_sec = parts.0.timeout_sec;
  duid = parts.1.0.duid;
  codes = parts.1.0.codes;
  lease = None;
  words = parts.1.1.words;
  start = parts.1.1.start;
  events = parts.1.1.events;
}

-- a script, from the front of a text
unfoldable pub script_at : List ℕ → Read Script6
script_at text =
    made_of script_of (after_tag first_line (both iface_at (both identity6_at life_at))) text

-- a script, which is the whole text
unfoldable pub script_in : List ℕ → Option Script6
script_in text = do
  read ← script_at text
  if length read.1 == 0 then Some read.0 else None
