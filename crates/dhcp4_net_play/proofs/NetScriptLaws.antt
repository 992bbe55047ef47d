-- The script of a network is read in one way alone.
use Rattle.std.proofs.Common.{◌≡◌, ℕ, ◌<◌, List, [], ◌∷◌, ◌++◌, length, Some, None, refl, ap, ◌∙◌, append_assoc, arith, codes}
use Rattle.std.specs.Prelude.{All}
use Rattle.std.specs.Fmt.{decimal}
use Rattle.std.specs.List.{flat_map}
use Rattle.dhcp_stream.specs.Line.{line}
use Rattle.dhcp_stream.specs.TextReader.{tag_at}
use Rattle.dhcp_stream.proofs.CodecLaws.{IsCodec, IsCodec-after_tag, IsCodec-as, IsCodec-both, IsCodec-made_of, IsValue}
use Rattle.dhcp_stream.proofs.PartialCodecs.{IsValue-whole, none-found, one-found}
use Rattle.dhcp_script.proofs.Lease4Laws.{address_field}
use Rattle.dhcp_script.proofs.ValueLaws.{u32_field}
use Rattle.dhcp4_server.specs.declared.config.ServerConfig.{ServerConfig}
use Rattle.dhcp4_net.specs.declared.script.NetClient.{NetClient}
use Rattle.dhcp4_net.specs.declared.script.NetEvent.{NetEvent}
use Rattle.dhcp4_net.specs.declared.script.NetScript.{NetScript}
use Rattle.dhcp4_net_play.specs.Lines.{lines_at}
use Rattle.dhcp4_net_play.specs.NetScript.{IsClient, IsEvent, IsNetScript, IsServer, client_line, client_text, event_line, event_text, events_text, first_line, first_lines, net_script_text, server_text}
use Rattle.dhcp4_net_play.specs.Reader.{ServerParts, client_at, event_at, script_at, script_in, script_of, server_at, server_of}
use Rattle.dhcp4_net_play.proofs.FieldLaws.{IsCodec-client, IsCodec-event, mac_field, u64_field}
use Rattle.dhcp4_net_play.proofs.LineLaws.{IsCodec-lines, lines_text}

-- ---- the server

server_parts : ServerConfig → ServerParts
server_parts server = (server.ip, (server.mac, (server.mask, (server.first, (server.count, (server.lease_sec, server.bound_ms))))))

codec_server : IsCodec (λ server. line (codes "server " ++ server_text server)) IsServer server_at
unfolding server_at server_parts
codec_server =
    IsCodec-as (IsCodec-made_of (IsCodec-after_tag (codes "server ")
    (IsCodec-both address_field (IsCodec-both mac_field (IsCodec-both address_field
    (IsCodec-both address_field (IsCodec-both (u32_field 32 (omega arith)) (IsCodec-both (u32_field 32 (omega arith)) (u64_field 10 (omega arith))))))))) server_of server_parts (λ x. refl) (λ y. refl))
    (λ server. simp append_assoc)
    (λ server fits. record {
      ip = fits.0;
      mac = fits.1.0;
      mask = fits.1.1.0;
      first = fits.1.1.1.0;
      count = (let small = fits.1.1.1.1.0 in omega arith);
      lease_sec = (let small = fits.1.1.1.1.1.0 in omega arith);
      bound_ms = (let small = fits.1.1.1.1.1.1 in omega arith);
    })
    (λ server fits. (
      fits.ip,
      (
        fits.mac,
        (
          fits.mask,
          (
            fits.first,
            ((let small = fits.count in omega arith), ((let small = fits.lease_sec in omega arith), (let small = fits.bound_ms in omega arith))),
          ),
        ),
      ),
    ))

-- ---- the clients and the events

clients_print : List NetClient → List ℕ
clients_print clients = lines_text (codes "client ") (λ (client : NetClient). line (client_text client)) (codes "start ") clients

no_client : (rest : List ℕ) → tag_at (codes "client ") (codes "start " ++ rest) ≡ None
unfolding tag_at
no_client rest = refl

codec_clients : IsCodec clients_print (All IsClient) (lines_at (codes "client ") client_at (codes "start "))
unfolding clients_print
codec_clients = IsCodec-lines (codes "client ") (codes "start ") (λ (client : NetClient). line (client_text client)) IsClient client_at (omega arith) no_client IsCodec-client

events_print : List NetEvent → List ℕ
events_print events = lines_text (codes "at ") (λ (event : NetEvent). line (event_text event)) (codes "end\n") events

no_event : (rest : List ℕ) → tag_at (codes "at ") (codes "end\n" ++ rest) ≡ None
unfolding tag_at
no_event rest = refl

codec_events : IsCodec events_print (All IsEvent) (lines_at (codes "at ") event_at (codes "end\n"))
unfolding events_print
codec_events = IsCodec-lines (codes "at ") (codes "end\n") (λ (event : NetEvent). line (event_text event)) IsEvent event_at (omega arith) no_event IsCodec-event

-- ---- the script

script_parts : NetScript → ServerConfig × (List NetClient × (ℕ × List NetEvent))
script_parts script = (script.server, (script.clients, (script.start, script.events)))

-- lines as they are read, and as they are printed
as_lines : (first server clients tag start feed events end : List ℕ)
    → first ++ (server ++ ((clients ++ tag) ++ ((start ++ feed) ++ (events ++ end)))) ≡ (first ++ server ++ clients) ++ ((tag ++ start) ++ feed) ++ (events ++ end)
as_lines first server clients tag start feed events end = simp append_assoc

printed : (script : NetScript) → first_line ++ (line (codes "server " ++ server_text script.server)
    ++ (clients_print script.clients ++ ((decimal script.start ++ 10 ∷ []) ++ events_print script.events))) ≡ net_script_text script
unfolding net_script_text clients_print events_print
printed script =
    as_lines first_line (line (codes "server " ++ server_text script.server)) (flat_map client_line script.clients) (codes "start ") (decimal script.start) (10 ∷ [])
    (flat_map event_line script.events) (codes "end\n")

-- the text of a script, by its lines
pub text_lines : (script : NetScript) → net_script_text script
    ≡ first_lines script ++ line (codes "start " ++ decimal script.start) ++ events_text script.events
unfolding net_script_text
text_lines script = refl

IsCodec-script : IsCodec net_script_text IsNetScript script_at
unfolding script_at script_parts
IsCodec-script =
    IsCodec-as (IsCodec-made_of (IsCodec-after_tag first_line (IsCodec-both codec_server (IsCodec-both codec_clients (IsCodec-both (u64_field 10 (omega arith)) codec_events))))
    script_of script_parts (λ x. refl) (λ y. refl))
    printed
    (λ script fits. record { server = fits.0; clients = fits.1.0; start = (let small = fits.1.1.0 in omega arith); events = fits.1.1.1 })
    (λ script fits. (fits.server, (fits.clients, ((let small = fits.start in omega arith), fits.events))))

-- the whole text
IsValue-script : IsValue net_script_text IsNetScript script_in
unfolding script_in
IsValue-script = IsValue-whole IsCodec-script

-- what the reader returns is a reading, and the one script that has the text
pub reading-found : (text : List ℕ) (script : NetScript) → script_in text ≡ Some script → (net_script_text script ≡ text) × IsNetScript script
reading-found text script h = IsValue-script.sound text script h

pub reading-none : (text : List ℕ) → script_in text ≡ None → (script : NetScript) → IsNetScript script → net_script_text script ≡ text → ⊥
reading-none = none-found IsValue-script

pub reading-one : (text : List ℕ) (found script : NetScript) → script_in text ≡ Some found → IsNetScript script → net_script_text script ≡ text → Some found ≡ Some script
reading-one = one-found IsValue-script
