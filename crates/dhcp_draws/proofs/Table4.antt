-- How many words the table of states of an IPv4 client draws.
use Rattle.std.proofs.Common.{ℕ, ◌+◌, ◌*◌, ◌/◌, ◌%◌, ◌-◌}
use Rattle.std.specs.Prelude.{◌==◌, nat_lt, Option, Some, None, drop, option_map, if◌then◌else◌}
use Rattle.dhcp_clock.specs.Wait.{discovery_wait, draw}
use Rattle.dhcp_clock.specs.Words.{next_of, undrawn}
use Rattle.dhcp_history.specs.declared.rules.AttemptStart.{AttemptStart}
use Rattle.dhcp4_msg.specs.Options.{OptionMap, said_by}
use Rattle.dhcp4_msg.specs.Value.{seconds_said}
use Rattle.dhcp4_msg.specs.declared.message.DhcpV4Message.{DhcpV4Message}
use Rattle.dhcp4_lease.specs.Config.{Config}
use Rattle.dhcp4_lease.specs.Lease.{are_in_order, lease_of, ordered_times, read_lease, read_times, said_or_drawn, times_of}
use Rattle.dhcp4_client.specs.Answer.{answer_of, awaited, is_of_type, reading_of}
use Rattle.dhcp4_client.specs.Message.{attempt_message}
use Rattle.dhcp4_client.specs.Rules.{attempt, message_in, pause, protocol, wait}
use Rattle.dhcp4_client.specs.declared.answer.Answer.TheVariants.{Granted, Refused}
use Rattle.dhcp4_client.specs.declared.answer.Awaited.{Awaited}
use Rattle.dhcp4_client.specs.declared.client_state.ClientState.{ClientState}
use Rattle.dhcp4_client.specs.declared.client_state.ClientState.TheVariants.{InitReboot, Selecting, Rebooting, Done, Renewing, Rebinding}
use Rattle.dhcp4_client.specs.declared.client_state.Exchange.{Exchange}
use Rattle.dhcp_draws.specs.Draws.{DrawsAtMost, DrawsWithin}
use Rattle.dhcp_draws.specs.Tables.{limits4}
use Rattle.dhcp_draws.proofs.Drawing.{draws_both, draws_either, draws_made, draws_nothing, draws_word}

-- the pause
pause_draws : (state : ClientState) (exchange : Exchange) → DrawsAtMost 1 (pause state exchange)
pause_draws InitReboot exchange = draws_either 1 (exchange.retry_count == 0) (λ words. record { value = draw 0 200 (next_of words); left = drop 1 words }) (undrawn 0) (draws_word (draw 0 200)) (draws_nothing 1 0)
pause_draws (Selecting offer) exchange = draws_nothing 1 0
pause_draws (Rebooting held) exchange = draws_nothing 1 0
pause_draws (Done bound) exchange = draws_nothing 1 0
pause_draws (Renewing bound) exchange = draws_nothing 1 0
pause_draws (Rebinding bound) exchange = draws_nothing 1 0

-- the wait of an attempt
wait_draws : (state : ClientState) (exchange : Exchange) (now : ℕ) → DrawsAtMost 1 (wait state exchange now)
wait_draws InitReboot exchange now = draws_word (discovery_wait exchange.retry_count)
wait_draws (Selecting offer) exchange now = draws_word (discovery_wait exchange.retry_count)
wait_draws (Rebooting held) exchange now = draws_word (discovery_wait exchange.retry_count)
wait_draws (Done bound) exchange now = draws_nothing 1 _
wait_draws (Renewing bound) exchange now = draws_nothing 1 _
wait_draws (Rebinding bound) exchange now = draws_nothing 1 _

attempt_draws : (config : Config) (state : ClientState) (exchange : Exchange) (start : AttemptStart) → DrawsAtMost 1 (attempt config state exchange start)
attempt_draws config state exchange start =
    draws_made 1 (wait state exchange start.now) (λ wait. record { wait = wait; message = attempt_message exchange.xid config state; exchange = exchange }) (wait_draws state exchange start.now)

-- the times of a lease
time_draws : (said : Option ℕ) (base : ℕ) → DrawsAtMost 1 (said_or_drawn said base)
unfolding said_or_drawn
time_draws (Some seconds) base = draws_nothing 1 seconds
time_draws None base = draws_either 1 (nat_lt base 20) (undrawn base) (λ words. record { value = base + next_of words % 4 - 2; left = drop 1 words }) (draws_nothing 1 base) (draws_word (λ word. base + word % 4 - 2))

times_draw : (options : OptionMap) (lease_time : ℕ) → DrawsAtMost 2 (times_of options lease_time)
unfolding times_of
times_draw options lease_time =
    draws_both 1 1 (said_or_drawn (said_by seconds_said options 58) (lease_time / 2)) _ (time_draws (said_by seconds_said options 58) (lease_time / 2))
    (λ t1. draws_made 1 (said_or_drawn (said_by seconds_said options 59) (7 * lease_time / 8)) (λ t2. record { t1_sec = t1; t2_sec = t2; lease_time_sec = lease_time }) (time_draws (said_by seconds_said options 59) (7 * lease_time / 8)))

ordered_draw : (options : OptionMap) (said : Option ℕ) → DrawsAtMost 2 (λ words. ordered_times options words said)
ordered_draw options None = draws_nothing 2 None
ordered_draw options (Some lease_time) = draws_made 2 (times_of options lease_time) (λ times. if are_in_order times then Some times else None) (times_draw options lease_time)

lease_draws : (message : DhcpV4Message) → DrawsAtMost 2 (read_lease message)
unfolding read_times
lease_draws message = draws_made 2 (read_times message.options) (option_map (lease_of message)) (ordered_draw message.options (said_by seconds_said message.options 51))

-- what a packet answers
answer_draws : (awaited : Awaited) (message : DhcpV4Message) → DrawsAtMost 2 (answer_of awaited message)
answer_draws awaited message =
    draws_either 2 (is_of_type awaited.grant message) (λ words. record { value = option_map Granted (read_lease message words).value; left = (read_lease message words).left }) (undrawn (Some Refused))
    (draws_made 2 (read_lease message) (option_map Granted) (lease_draws message)) (draws_nothing 2 (Some Refused))

reading_draws : (awaited : Option Awaited) (message : Option DhcpV4Message) → DrawsAtMost 2 (reading_of awaited message)
reading_draws None message = draws_nothing 2 None
reading_draws (Some awaited) None = draws_nothing 2 None
reading_draws (Some awaited) (Some message) = answer_draws awaited message

pub table4_draws : (config : Config) → DrawsWithin limits4 (protocol config)
table4_draws config = record {
  pauses = pause_draws;
  attempts = attempt_draws config;
  readings = λ state exchange packet. reading_draws (awaited config.message_forms state) (message_in config.message_forms state exchange packet);
}
