-- What is promised of the client of every script, of either family.
use Rattle.dhcp_script.specs.declared.script.Script.{Script}
use Rattle.dhcp_script.specs.declared.script.Script.TheVariants.{V4, V6}
use Rattle.dhcp_replay.specs.Promises4.{KeepsPromisesOfV4}
use Rattle.dhcp_replay.specs.Promises6.{KeepsPromisesOfV6}

abbrev pub KeepsPromisesOf : Script → Type 0
KeepsPromisesOf (V4 script) = KeepsPromisesOfV4 script
KeepsPromisesOf (V6 script) = KeepsPromisesOfV6 script
