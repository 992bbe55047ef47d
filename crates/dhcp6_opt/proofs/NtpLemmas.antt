-- The suboptions of the NTP server option, one after the other.
use Rattle.std.proofs.Common.{◌≡◌, ℕ, List, [], ◌∷◌, ◌++◌, append_assoc, append-nil, length, Option, Some, None, option_map, refl, sym, ap, ◌∙◌, arith}
use Rattle.dhcp_wire.specs.Field.{◌>>=◌}
use Rattle.dhcp_wire.specs.RawOption.{RawOptionParts, filling_options, raw_option_at}
use Rattle.dhcp_wire.specs.declared.raw_option.OptionFormat.TheVariants.{DhcpV6}
use Rattle.dhcp_wire.proofs.FillingLemmas.{filling_options-nil, filling_options-read, filling_options-refused}
use Rattle.dhcp6_opt.specs.declared.ntp_server.DhcpV6OptionNtpServer.{DhcpV6OptionNtpServer}
use Rattle.dhcp6_opt.specs.NtpServer.{ntp_server_of, ntp_servers_of}

-- the servers so far, and those of some suboptions
abbrev and_servers : List DhcpV6OptionNtpServer → Option (List RawOptionParts) → Option (List DhcpV6OptionNtpServer)
and_servers done raws = option_map (λ later. done ++ later) (raws >>= ntp_servers_of)

-- the servers so far, and those of the suboptions that fill some bytes
abbrev pub servers_after : List DhcpV6OptionNtpServer → List ℕ → Option (List DhcpV6OptionNtpServer)
servers_after done bytes = and_servers done (filling_options DhcpV6 bytes)

-- a suboption in front of others
abbrev in_front : RawOptionParts → Option (List RawOptionParts) → Option (List RawOptionParts)
in_front raw later = later >>= λ more. Some (raw ∷ more)

-- The steps of a reader that keeps the servers so far. With one more server,
pub servers_more : (done : List DhcpV6OptionNtpServer) (bytes later : List ℕ) (raw : RawOptionParts) (server : DhcpV6OptionNtpServer) (all : Option (List DhcpV6OptionNtpServer)) → servers_after done bytes ≡ all → raw_option_at DhcpV6 bytes ≡ Some (raw, later) → ntp_server_of raw ≡ Some server → servers_after (done ++ server ∷ []) later ≡ all
servers_more done bytes later raw server all so_far is reads =
    sym (joined (filling_options DhcpV6 later)) ∙ ap (and_servers done) (sym (filling_options-read DhcpV6 bytes later raw refl is)) ∙ so_far
  where
    of_more : (more : Option (List DhcpV6OptionNtpServer)) → option_map (λ later. done ++ later) (more >>= λ servers. Some (server ∷ servers)) ≡ option_map (λ later. (done ++ server ∷ []) ++ later) more
    of_more None = refl
    of_more (Some servers) = ap Some (sym (append_assoc done (server ∷ []) servers))

    joined : (later : Option (List RawOptionParts)) → and_servers done (in_front raw later) ≡ and_servers (done ++ server ∷ []) later
    joined None = refl
    joined (Some more) =
        ap (λ read. option_map (λ later. done ++ later) (read >>= λ server. ntp_servers_of more >>= λ servers. Some (server ∷ servers))) reads ∙ of_more (ntp_servers_of more)

-- at one that does not read,
pub servers_refused : (done : List DhcpV6OptionNtpServer) (bytes later : List ℕ) (raw : RawOptionParts) (all : Option (List DhcpV6OptionNtpServer)) → servers_after done bytes ≡ all → raw_option_at DhcpV6 bytes ≡ Some (raw, later) → ntp_server_of raw ≡ None → all ≡ None
servers_refused done bytes later raw all so_far is refused =
    sym so_far ∙ ap (and_servers done) (filling_options-read DhcpV6 bytes later raw refl is) ∙ joined (filling_options DhcpV6 later)
  where
    joined : (later : Option (List RawOptionParts)) → and_servers done (in_front raw later) ≡ None
    joined None = refl
    joined (Some more) = ap (λ read. option_map (λ later. done ++ later) (read >>= λ server. ntp_servers_of more >>= λ servers. Some (server ∷ servers))) refused

-- where no whole one is at the front of bytes that are left,
pub servers_truncated : (done : List DhcpV6OptionNtpServer) (bytes : List ℕ) (all : Option (List DhcpV6OptionNtpServer)) → servers_after done bytes ≡ all → (length bytes ≡ 0 → ⊥) → raw_option_at DhcpV6 bytes ≡ None → all ≡ None
servers_truncated done bytes all so_far some is =
    sym so_far ∙ ap (and_servers done) (filling_options-refused DhcpV6 bytes (λ none. some (ap length none)) is)

-- and at the end.
pub servers_end : (done : List DhcpV6OptionNtpServer) (bytes : List ℕ) (all : Option (List DhcpV6OptionNtpServer)) → servers_after done bytes ≡ all → length bytes ≡ 0 → all ≡ Some done
servers_end done [] all so_far is = sym so_far ∙ ap (and_servers done) (filling_options-nil DhcpV6) ∙ ap Some (append-nil done)
servers_end done (byte ∷ bytes) all so_far is = absurd (omega (arith, is))

-- with none so far they are those of the value
pub servers_first : (read : Option (List DhcpV6OptionNtpServer)) → option_map (λ later. [] ++ later) read ≡ read
servers_first None = refl
servers_first (Some servers) = refl
