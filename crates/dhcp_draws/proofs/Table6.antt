-- How many words the table of states of an IPv6 client draws, and how many a new client.
use Rattle.std.proofs.Common.{ℕ, ◌+◌, ◌-◌, List, []}
use Rattle.std.specs.Prelude.{Option, Some, None, Bool, true, false, min, nat_le}
use Rattle.dhcp_clock.specs.Wait.{bounded_time, draw, randomized_time, next_time, retransmit_wait}
use Rattle.dhcp_clock.specs.Words.{drawn_then, drawn_word, undrawn}
use Rattle.dhcp_history.specs.declared.rules.AttemptStart.{AttemptStart}
use Rattle.dhcp6_opt.specs.Duid.{random_duid}
use Rattle.dhcp6_opt.specs.declared.duid.DhcpV6Duid.{DhcpV6Duid}
use Rattle.dhcp6_opt.specs.declared.duid.DhcpV6Duid.TheVariants.{Raw}
use Rattle.dhcp6_msg.specs.Config.{Config, client_duid, duid_or_made}
use Rattle.dhcp6_msg.specs.Exchange.{new_id}
use Rattle.dhcp6_client.specs.Client.{first_draws}
use Rattle.dhcp6_client.specs.Rules.{association_id, attempt, attempt_with, id_for, pause, protocol, transaction_id, wait, wait_until}
use Rattle.dhcp6_client.specs.declared.client_state.ClientState.{ClientState}
use Rattle.dhcp6_client.specs.declared.client_state.ClientState.TheVariants.{Solicit, Request, Done, Temporary, Renew, Rebind}
use Rattle.dhcp6_client.specs.declared.client_state.Exchange.{Exchange}
use Rattle.dhcp_draws.specs.Draws.{DrawsAtMost, DrawsWithin}
use Rattle.dhcp_draws.specs.Tables.{limits6}
use Rattle.dhcp_draws.proofs.Drawing.{draws_both, draws_either, draws_made, draws_nothing, draws_word}

-- the next word, and what is made of it
next_draws : DrawsAtMost 1 drawn_word
next_draws = draws_word (λ word. word)

made_draws : {X : Type 0} (of : ℕ → X) → DrawsAtMost 1 (drawn_then drawn_word (λ word. undrawn (of word)))
made_draws of = draws_word of

-- the pause
pause_draws : (state : ClientState) (exchange : Exchange) → DrawsAtMost 1 (pause state exchange)
pause_draws Solicit exchange = made_draws (draw 0 1000)
pause_draws (Request offer) exchange = draws_nothing 1 0
pause_draws (Done bound) exchange = draws_nothing 1 0
pause_draws (Temporary bound) exchange = draws_nothing 1 0
pause_draws (Renew bound) exchange = draws_nothing 1 0
pause_draws (Rebind bound) exchange = draws_nothing 1 0

-- the wait of an attempt
bounded_draws : (mrt time : ℕ) → DrawsAtMost 1 (bounded_time mrt time)
bounded_draws mrt time = draws_either 1 (nat_le time mrt) (undrawn time) (drawn_then drawn_word (λ word. undrawn (randomized_time mrt word))) (draws_nothing 1 time) (made_draws (randomized_time mrt))

retransmit_draws : (previous irt mrt : ℕ) → DrawsAtMost 2 (retransmit_wait previous irt mrt)
retransmit_draws previous irt mrt = draws_both 1 1 drawn_word (λ word. bounded_time mrt (next_time previous irt word)) next_draws (λ word. bounded_draws mrt (next_time previous irt word))

until_draws : (moment : ℕ) (exchange : Exchange) (now : ℕ) → DrawsAtMost 2 (wait_until moment exchange now)
until_draws moment exchange now = draws_made 2 (retransmit_wait exchange.previous_wait 10000 600000) (min (moment - now)) (retransmit_draws exchange.previous_wait 10000 600000)

wait_draws : (state : ClientState) (exchange : Exchange) (now : ℕ) → DrawsAtMost 2 (wait state exchange now)
wait_draws Solicit exchange now = retransmit_draws exchange.previous_wait 1000 3600000
wait_draws (Request offer) exchange now = retransmit_draws exchange.previous_wait 1000 30000
wait_draws (Done bound) exchange now = until_draws _ exchange now
wait_draws (Temporary bound) exchange now = until_draws _ exchange now
wait_draws (Renew bound) exchange now = until_draws _ exchange now
wait_draws (Rebind bound) exchange now = until_draws _ exchange now

-- the transaction id of an attempt
id_draws : (first : Bool) (exchange : Exchange) → DrawsAtMost 1 (id_for first exchange)
id_draws true exchange = made_draws new_id
id_draws false exchange = draws_nothing 1 exchange.xid

-- an attempt, by what is drawn for its id and its association
parts_draw : (ids associations : ℕ) (config : Config) (state : ClientState) (exchange : Exchange) (start : AttemptStart) →
    DrawsAtMost ids (transaction_id state start.is_first exchange) → DrawsAtMost associations (association_id state) → DrawsAtMost (ids + (2 + associations)) (attempt config state exchange start)
parts_draw ids associations config state exchange start id association =
    draws_both ids (2 + associations) (transaction_id state start.is_first exchange) _ id
    (λ xid. draws_both 2 associations (wait state exchange start.now) _ (wait_draws state exchange start.now)
    (λ time. draws_made associations (association_id state) (attempt_with config state exchange start xid time) association))

attempt_draws : (config : Config) (state : ClientState) (exchange : Exchange) (start : AttemptStart) → DrawsAtMost 3 (attempt config state exchange start)
attempt_draws config Solicit exchange start = parts_draw 0 1 config Solicit exchange start (draws_nothing 0 exchange.xid) next_draws
attempt_draws config (Request offer) exchange start = parts_draw 1 0 config (Request offer) exchange start (id_draws start.is_first exchange) (draws_nothing 0 0)
attempt_draws config (Done bound) exchange start = parts_draw 1 0 config (Done bound) exchange start (id_draws start.is_first exchange) (draws_nothing 0 0)
attempt_draws config (Temporary bound) exchange start = parts_draw 1 0 config (Temporary bound) exchange start (id_draws start.is_first exchange) (draws_nothing 0 0)
attempt_draws config (Renew bound) exchange start = parts_draw 1 0 config (Renew bound) exchange start (id_draws start.is_first exchange) (draws_nothing 0 0)
attempt_draws config (Rebind bound) exchange start = parts_draw 1 0 config (Rebind bound) exchange start (id_draws start.is_first exchange) (draws_nothing 0 0)

pub table6_draws : (config : Config) → DrawsWithin limits6 (protocol config)
table6_draws config = record {
  pauses = pause_draws;
  attempts = attempt_draws config;
  readings = λ state exchange packet. draws_nothing 0 _;
}

-- a new client: its identifier, if it is made of words, and its transaction id
duid_draws : (duid : DhcpV6Duid) (mac : Option (List ℕ)) → DrawsAtMost 4 (duid_or_made duid mac)
duid_draws (Raw []) None = draws_both 1 3 drawn_word _ next_draws (λ a. draws_both 1 2 drawn_word _ next_draws (λ b. draws_both 1 1 drawn_word _ next_draws (λ c. made_draws (random_duid a b c))))
duid_draws (Raw []) (Some mac) = draws_nothing 4 _
duid_draws duid mac = draws_nothing 4 duid

pub first_draw : (config : Config) → DrawsAtMost 5 (first_draws config)
first_draw config = draws_both 4 1 (client_duid config) _ (duid_draws config.duid config.src_mac) (λ duid. made_draws (λ word. record { config = record config { duid = duid }; xid = new_id word }))
