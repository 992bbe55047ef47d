-- T1 is drawn, and T2 after it.
use Rattle.dhcp4_msg.specs.OptionCode.{number_of}
use Rattle.dhcp4_lease.proofs.TakenTimes.{taken_times}
use Rattle.dhcp4_lease.proofs.TimesLemmas.{draws_times}
use Rattle.dhcp4_lease.proofs.lease.times.times_of.Goals as goal

pub returns-clause-drawn : goal.returns-clause-drawn
unfolding number_of
returns-clause-drawn g c =
    let t1 = c.said_or_drawn-t1_sec in
    let t2 = c.said_or_drawn-t2_sec in
    draws_times _ _ _ c.args.options.now c.args.lease_time_sec _ _ c.default_rebinding_time.result t1.result t2.result
    c.seconds-renewal.ensures c.seconds-rebinding.ensures c.default_rebinding_time.ensures (rw c.default_renewal_time.ensures at t1.ensures.drawn) t2.ensures.drawn

pub returns-clause-taken : goal.returns-clause-taken
unfolding number_of
returns-clause-taken g c =
    let t1 = c.said_or_drawn-t1_sec in
    let t2 = c.said_or_drawn-t2_sec in
    taken_times g.W.Words.gives _ _ _ c.args.options.now c.args.lease_time_sec _ _ c.default_rebinding_time.result t1.result t2.result
    c.seconds-renewal.ensures c.seconds-rebinding.ensures c.default_rebinding_time.ensures (rw c.default_renewal_time.ensures at t1.ensures.taken) t2.ensures.taken
