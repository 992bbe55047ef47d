-- The bytes of a run with the status 0, over a reader and a writer of std.
use Rattle.std.specs.Prelude.{ℕ, List, ◌++◌}
use Rattle.std.specs.Io.KnownBytes.{Appends, Consumes}
use Rattle.dhcp_dialogue.specs.Dialogue.{Turn}
use Rattle.dhcp_dialogue.specs.Standard.{StdDialogueView, to_hear}
use Rattle.dhcp_script.specs.declared.script.Script.{Script}
use Rattle.dhcp_tool.specs.declared.status.Status.TheVariants.{Done}
use Rattle.dhcp_live.specs.Tool.{IsHead, IsSessionOf}
use Rattle.dhcp_live.specs.Transcript.{heard_in, said_in}

-- A session was held: its head and its lines are the front of the bytes that were to be heard, and
-- what was said is added to those that the writer held.
pub record HoldsSessionInBytes (old new : StdDialogueView) : Type 0 where
  pub head : List ℕ
  pub script : Script
  pub turns : List Turn
  pub head_is : IsHead head script
  pub session : IsSessionOf script turns Done
  pub heard : Consumes (to_hear old) (to_hear new) (head ++ heard_in turns)
  pub said : Appends old.sink.contents new.sink.contents (said_in turns)
