-- The options with which a client asks.
use Rattle.std.specs.Prelude.{ℕ, Some, None}
use Rattle.dhcp6_opt.specs.Ia.{plain_prefix, unspecified}
use Rattle.dhcp6_opt.specs.declared.option.DhcpV6Option.{DhcpV6Option}
use Rattle.dhcp6_opt.specs.declared.option.DhcpV6Option.TheVariants.{IAPD}

-- the association that asks for a prefix of this length in bits, with this identifier
abbrev pub prefix_request : ℕ → ℕ → DhcpV6Option
prefix_request prefix_len iaid = IAPD record {
  iaid = iaid;
  t1_sec = 0;
  t2_sec = 0;
  prefix = Some (plain_prefix unspecified prefix_len 0 0);
  status = None;
}
