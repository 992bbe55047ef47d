-- A message in the bytes that it was received in.
use Rattle.dhcp6_opt.specs.Options.{read_options}
use Rattle.dhcp6_msg.specs.declared.message.DhcpV6Message.{DhcpV6Message}
use Rattle.dhcp6_msg.specs.declared.view.DhcpV6View.TheInside.{Inside}

-- the message of its fields
abbrev pub message_of : Inside → DhcpV6Message
message_of view = record {
  msg_type = view.msg_type;
  xid = view.xid;
  options = read_options view.options.now;
}
