-- The script of a demonstration: a client takes a lease, renews it and releases it, again and
-- again.
use Rattle.std.specs.Prelude.{◌≡◌, ℕ, ◌+◌, ◌*◌, false, List, [], ◌∷◌, ◌++◌, replicate, Some, None, Result, Ok, Err}
use Rattle.std.specs.List.{flat_map, range_with_len}
use Rattle.dhcp_wire.specs.Error.{ErrorParts, no_memory}
use Rattle.dhcp_script.specs.declared.event.Event.{Event}
use Rattle.dhcp_script.specs.declared.event.EventWhat.{EventWhat}
use Rattle.dhcp_script.specs.declared.event.EventWhat.TheVariants.{Nothing, Frame, Payload, Release}
use Rattle.dhcp_script.specs.declared.script4.Script4.{Script4}

-- how many rounds there are at most
abbrev pub most_rounds : ℕ
most_rounds = 2000

-- the types of an offer and of an acknowledgement (RFC 2132 section 9.6)
abbrev pub offer : ℕ
offer = 2

abbrev pub ack : ℕ
ack = 5

-- the MAC address of the client, and the addresses that it takes and that the server has
abbrev pub client_mac : List ℕ
client_mac = 2 ∷ 0 ∷ 0 ∷ 0 ∷ 0 ∷ 1 ∷ []

abbrev pub leased_address : List ℕ
leased_address = 192 ∷ 0 ∷ 2 ∷ 10 ∷ []

abbrev pub server_address : List ℕ
server_address = 192 ∷ 0 ∷ 2 ∷ 1 ∷ []

-- the options of a reply of this type: the server, and a lease of 100 seconds that is renewed after
-- 50 and rebound after 80
abbrev pub reply_options : ℕ → List ℕ
reply_options kind =
    (53 ∷ 1 ∷ kind ∷ [])
    ++ (54 ∷ 4 ∷ server_address)
    ++ (51 ∷ 4 ∷ 0 ∷ 0 ∷ 0 ∷ 100 ∷ [])
    ++ (58 ∷ 4 ∷ 0 ∷ 0 ∷ 0 ∷ 50 ∷ [])
    ++ (59 ∷ 4 ∷ 0 ∷ 0 ∷ 0 ∷ 80 ∷ [])
    ++ (255 ∷ [])

-- A reply of this type (RFC 2131 section 2): op 2, an Ethernet address of 6 bytes, no hops; id,
-- secs, flags and ciaddr are 0; yiaddr, siaddr, no giaddr; chaddr, sname and file, the last ones
-- empty; the cookie and the options.
unfoldable pub reply : ℕ → List ℕ
reply kind =
    (2 ∷ 1 ∷ 6 ∷ 0 ∷ replicate 12 0)
    ++ (leased_address ++ server_address ++ replicate 4 0)
    ++ client_mac ++ replicate 202 0
    ++ (99 ∷ 130 ∷ 83 ∷ 99 ∷ [])
    ++ reply_options kind

-- The headers of a reply, with checksums 0: Ethernet to all from 02:00:00:00:00:02; IPv4 of 296
-- bytes to all (RFC 791 section 3.1); UDP of 276 bytes from port 67 to port 68 (RFC 768).
abbrev pub reply_headers : List ℕ
reply_headers =
    (replicate 6 255 ++ 2 ∷ 0 ∷ 0 ∷ 0 ∷ 0 ∷ 2 ∷ 8 ∷ 0 ∷ [])
    ++ (69 ∷ 0 ∷ 1 ∷ 40 ∷ 0 ∷ 0 ∷ 0 ∷ 0 ∷ 64 ∷ 17 ∷ 0 ∷ 0 ∷ [])
    ++ server_address ++ replicate 4 255
    ++ (0 ∷ 67 ∷ 0 ∷ 68 ∷ 1 ∷ 20 ∷ 0 ∷ 0 ∷ [])

-- the frame of a reply
unfoldable pub reply_frame : ℕ → List ℕ
reply_frame kind = reply_headers ++ reply kind

-- an event at which the link refuses nothing
abbrev pub event_at : ℕ → EventWhat → Event
event_at moment what = record { moment = moment; refuse = false; what = what }

-- A round from this moment on: the client is offered a lease and takes it, comes to T1 and renews
-- it, and releases it.
unfoldable pub round : ℕ → List Event
round start =
    event_at (start + 10) (Frame (reply_frame offer))
    ∷ event_at (start + 20) (Frame (reply_frame ack))
    ∷ event_at (start + 50020) Nothing
    ∷ event_at (start + 50030) (Payload (reply ack))
    ∷ event_at (start + 50040) Release ∷ []

-- the events of n rounds, one every 51 seconds, after a first one
unfoldable pub demo_events : ℕ → List Event
demo_events n = event_at 0 Nothing ∷ flat_map (λ i. round (51000 * i)) (range_with_len 0 n)

-- the script of n rounds: it asks for the subnet mask, routers and name servers
unfoldable pub demo_script : ℕ → Script4
demo_script n = record {
  iface_index = 1;
  mac = client_mac;
  is_proxy = false;
  timeout_sec = 0;
  forms = None;
  host = [];
  client = [];
  codes = Some (1 ∷ 3 ∷ 6 ∷ []);
  lease = None;
  words = [];
  start = 0;
  events = demo_events n;
}

-- a round was put at the end of a list, unless out of memory
abbrev pub AddsRound : {X : Type 0} → Result X ErrorParts → List Event → List Event → ℕ → Type 0
AddsRound (Ok _) old new start = new ≡ old ++ round start
AddsRound (Err e) old new start = e ≡ no_memory
