-- The exit statuses of a program.
use Rattle.std.specs.Prelude.{ℕ}
use Rattle.dhcp_tool.specs.declared.status.Status.{Status}
use Rattle.dhcp_tool.specs.declared.status.Status.TheVariants.{Done, WrongWords, NoScript, ReadFault, WriteFault, NoMemory, TooLong, Invalid}

-- the number of a status
abbrev pub status_number : Status → ℕ
status_number Done = 0
status_number WrongWords = 1
status_number NoScript = 2
status_number ReadFault = 3
status_number WriteFault = 4
status_number NoMemory = 5
status_number TooLong = 6
status_number Invalid = 7
