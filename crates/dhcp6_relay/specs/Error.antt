-- What is printed of an error.
use Rattle.std.specs.Prelude.{ℕ, List, codes}
use Rattle.dhcp6_relay.specs.declared.error.RelayError.{RelayError}
use Rattle.dhcp6_relay.specs.declared.error.RelayError.TheVariants.{NotRelay, Short, NoMessage, TooManyHops, TooLong, OutOfMemory}

-- the text of an error, for people
unfoldable pub text_of : RelayError → List ℕ
text_of NotRelay = codes "not a relay message"
text_of Short = codes "unexpected end of data"
text_of NoMessage = codes "no relayed message"
text_of TooManyHops = codes "too many hops"
text_of TooLong = codes "the message is too long"
text_of OutOfMemory = codes "out of memory"
