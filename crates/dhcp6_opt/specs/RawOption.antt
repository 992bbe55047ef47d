-- A raw option as contracts see it.
use Rattle.dhcp_wire.specs.RawOption.{RawOptionParts}
use Rattle.dhcp_wire.specs.declared.raw_option.RawOption.{RawOption}

-- its code and the bytes of its value
abbrev pub parts_of : RawOption → RawOptionParts
parts_of raw = record { code = raw.code; value = raw.value.now }
