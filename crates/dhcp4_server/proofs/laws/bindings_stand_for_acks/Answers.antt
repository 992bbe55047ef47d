-- What is kept of the last Acks tells what is free.
use Rattle.dhcp4_server.proofs.BindingLemmas.{decided_same, stands_decided, stands_later}
use Rattle.dhcp4_server.proofs.laws.bindings_stand_for_acks.Goals as goal

pub returns : goal.returns
returns c = record {
  decided = λ kept latest now xid bindings acks pool query stands le. decided_same kept latest bindings acks stands pool xid now query le;
  answered = λ kept latest now xid bindings after acks pool query stands le binds. stands_decided kept latest now xid bindings after acks pool query stands le binds;
  later = λ kept latest now bindings acks stands le. stands_later kept latest bindings acks stands now le;
}
