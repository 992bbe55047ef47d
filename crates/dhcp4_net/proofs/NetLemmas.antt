-- The network of any lawful server and any clients with different transaction ids keeps One-address.
use Rattle.std.proofs.Common.{◌≡◌, ℕ, ◌<◌, List, length, refl, true, false, IsTrue, Some}
use Rattle.std.specs.Prelude.{All}
use Rattle.std.proofs.lemmas.List.Elements.{All-get_or}
use Rattle.std.proofs.lemmas.Str.{IsUtf8-nil}
use Rattle.dhcp_wire.specs.OptionCodes.{rising_codes}
use Rattle.dhcp4_lease.specs.Config as configs
use Rattle.dhcp4_lease.specs.Config.{Config, is_within_limits}
use Rattle.dhcp4_lease.specs.Laws as leases
use Rattle.dhcp4_server.specs.Answer.{answer_to as serve}
use Rattle.dhcp4_server.specs.Config.{is_lawful}
use Rattle.dhcp4_server.specs.declared.config.ServerConfig.{ServerConfig}
use Rattle.dhcp4_server.specs.Config.{IsTyped}
use Rattle.dhcp4_net.specs.Clients.{HaveDistinctIds, IsTypedClient, client_at, config_of, net_at, net_of, no_client, xid_of}
use Rattle.dhcp4_net.specs.declared.script.NetClient.{NetClient}
use Rattle.dhcp4_net.specs.Net.{Net}
use Rattle.dhcp4_net.specs.declared.script.NetEvent.{NetEvent}
use Rattle.dhcp4_net.specs.OneAddress.{OneAddress, OneHolder}
use Rattle.dhcp4_net.proofs.RunLemmas as runs
use Rattle.dhcp4_net.proofs.RunLemmas.{IsClient}
use Rattle.dhcp4_net.proofs.ServeLemmas.{serves_soundly}

within : (client : NetClient) → IsTrue (is_within_limits (config_of client))
unfolding is_within_limits config_of configs.config_of rising_codes
within client = refl

typed : (client : NetClient) → IsTypedClient client → leases.IsTyped (config_of client)
unfolding config_of configs.config_of
typed client is = record { src_mac = is.mac; host_name = IsUtf8-nil }

no_proxy : (client : NetClient) → (config_of client).is_proxy ≡ false
unfolding config_of configs.config_of
no_proxy client = refl

module _ (server : ServerConfig) (is_typed : IsTyped server) (lawful : is_lawful server ≡ true) (clients : List NetClient) (are_typed : All IsTypedClient clients) (distinct : HaveDistinctIds clients) where
  abbrev ids : ℕ → ℕ
  ids number = xid_of (client_at clients number)

  abbrev all_configs : ℕ → Config
  all_configs number = config_of (client_at clients number)

  are : (number : ℕ) → number < length clients → IsClient (all_configs number) (ids number)
  are number inside =
      let is : IsTypedClient (client_at clients number) = All-get_or IsTypedClient clients number no_client inside are_typed in
      record { within = within (client_at clients number); typed = typed (client_at clients number) is; no_proxy = no_proxy (client_at clients number); small = is.xid }

  begun_safe : (start : ℕ) → runs.IsSafeNet (serve server) all_configs ids server.lease_sec server.bound_ms (length clients) (net_at start clients)
  begun_safe start = runs.begun_safe (serve server) all_configs ids server.lease_sec server.bound_ms (length clients) start (net_at start clients).clients
      (λ number inside. record { xid = refl; whole = tt; backed = tt })

  pub keeps_one_address : (start : ℕ) (events : List NetEvent) (end : Net) → net_of server clients start events ≡ Some end → OneAddress end.outputs
  keeps_one_address start events end is =
      runs.one_address (serve server) all_configs ids server.lease_sec server.bound_ms (length clients) distinct end
      (runs.net_safe (serve server) all_configs ids server.lease_sec server.bound_ms (length clients) (serves_soundly server is_typed lawful) are (net_at start clients) 1 events end (begun_safe start) is)

  pub keeps_one_holder : (start : ℕ) (events : List NetEvent) (end : Net) → net_of server clients start events ≡ Some end → OneHolder (length clients) end
  keeps_one_holder start events end is =
      runs.one_holder (serve server) all_configs ids server.lease_sec server.bound_ms (length clients) distinct end
      (runs.net_safe (serve server) all_configs ids server.lease_sec server.bound_ms (length clients) (serves_soundly server is_typed lawful) are (net_at start clients) 1 events end (begun_safe start) is)
