-- A message in the bytes that it was received in.
use Rattle.std.specs.Prelude.{◌≡◌, ℕ, ◌==◌, List, [], ◌∷◌, Result, Ok, Err, Option, Some, None, if◌then◌else◌}
use Rattle.std.specs.Option.{option_or}
use Rattle.std.specs.Int.{w8, w16, w32}
use Rattle.std.specs.declared.net.Ipv4Addr.{Ipv4Addr}
use Rattle.dhcp_wire.specs.declared.error.ErrorKind.TheVariants.{InvalidDhcpMessage}
use Rattle.dhcp_wire.specs.Error.{ErrorParts}
use Rattle.dhcp_wire.specs.Field.{◌>>=◌, Read, number_at, address_at}
use Rattle.dhcp_wire.specs.RawOption.{RawOptionParts}
use Rattle.dhcp4_msg.specs.declared.message.DhcpV4Message.{DhcpV4Message}
use Rattle.dhcp4_msg.specs.declared.view.DhcpV4View.TheInside.{Inside}
use Rattle.dhcp4_msg.specs.Options.{read_options}

-- the message of its fields
abbrev pub message_of : Inside → DhcpV4Message
message_of view = record {
  op = view.op;
  htype = view.htype;
  hlen = view.hlen;
  hops = view.hops;
  xid = view.xid;
  secs = view.secs;
  flags = view.flags;
  ciaddr = view.ciaddr;
  yiaddr = view.yiaddr;
  siaddr = view.siaddr;
  giaddr = view.giaddr;
  chaddr = view.chaddr;
  sname = view.sname.now;
  file = view.file.now;
  options = read_options view.options.now;
}

-- the value of a raw option, if it has this number and reads
abbrev pub value_under : {X : Type 0} → (List ℕ → Option X) → ℕ → RawOptionParts → Option X
value_under value_in number raw = if number == raw.code then value_in raw.value else None

-- that of the last of some raw options of this number that reads
abbrev pub last_value : {X : Type 0} → (List ℕ → Option X) → ℕ → List RawOptionParts → Option X
last_value value_in number [] = None
last_value value_in number (raw ∷ later) =
    option_or (last_value value_in number later) (value_under value_in number raw)

-- ---- the parts that are read one after the other

-- A read of several fields, with `new` left: the values and the bytes left that the definition
-- gives; where it gives none the refusal.
abbrev pub ReadsInPart : {X Y : Type 0}
    → (X → Y) → Result X ErrorParts → List ℕ → Option (Y × List ℕ) → Type 0
ReadsInPart view (Ok x) new expected = expected ≡ Some (view x, new)
ReadsInPart view (Err e) new expected = (e.kind ≡ InvalidDhcpMessage) × (expected ≡ None)

-- the numbers before the addresses: op, htype, hlen, hops, xid, secs and flags
abbrev pub numbers_at : List ℕ → Read (ℕ × ℕ × ℕ × ℕ × ℕ × ℕ × ℕ)
numbers_at bytes = do
  op ← number_at w8 bytes
  htype ← number_at w8 op.1
  hlen ← number_at w8 htype.1
  hops ← number_at w8 hlen.1
  xid ← number_at w32 hops.1
  secs ← number_at w16 xid.1
  flags ← number_at w16 secs.1
  Some ((op.0, htype.0, hlen.0, hops.0, xid.0, secs.0, flags.0), flags.1)

-- the addresses: ciaddr, yiaddr, siaddr and giaddr
abbrev pub addresses_at : List ℕ → Read (Ipv4Addr × Ipv4Addr × Ipv4Addr × Ipv4Addr)
addresses_at bytes = do
  ciaddr ← address_at bytes
  yiaddr ← address_at ciaddr.1
  siaddr ← address_at yiaddr.1
  giaddr ← address_at siaddr.1
  Some ((ciaddr.0, yiaddr.0, siaddr.0, giaddr.0), giaddr.1)
