-- An address that an interface has after a state is one that it had, or that of the lease of the state.
use Rattle.std.proofs.Common.{◌≡◌, ◌⊎◌, inl, inr, refl, ap}
use Rattle.std.specs.Prelude.{Option, Some, None}
use Rattle.std.specs.declared.net.Ipv4Addr.{Ipv4Addr}
use Rattle.std.specs.declared.net.Ipv6Addr.{Ipv6Addr}
use Rattle.dhcp4_lease.specs.Lease as lease4
use Rattle.dhcp4_client.specs.declared.state.PlainState as plain4
use Rattle.dhcp4_client.specs.declared.state.PlainState.TheVariants as states4
use Rattle.dhcp6_msg.specs.Lease as lease6
use Rattle.dhcp6_client.specs.declared.state.PlainState as plain6
use Rattle.dhcp6_client.specs.declared.state.PlainState.TheVariants as states6
use Rattle.uses.specs.Manager.{address_after, address_after6}

abbrev pub TakesOn : plain4.PlainState → Ipv4Addr → Type 0
TakesOn state address = (lease : lease4.Lease) × ((state ≡ states4.Done lease) × (lease.yiaddr ≡ address))

abbrev pub TakesOn6 : plain6.PlainState → Ipv6Addr → Type 0
TakesOn6 state address = (lease : lease6.Lease) × ((state ≡ states6.Done lease) × (lease.address ≡ address))

unwrapped : {A : Type 0} → A → Option A → A
unwrapped other None = other
unwrapped other (Some value) = value

same_value : {A : Type 0} (one other : A) → Some one ≡ Some other → one ≡ other
unfolding unwrapped
same_value one other e = ap (unwrapped one) e

pub takes_on : (state : plain4.PlainState) (before : Option Ipv4Addr) (address : Ipv4Addr) → address_after state before ≡ Some address → (before ≡ Some address) ⊎ TakesOn state address
takes_on (states4.Done lease) before address e = inr (lease, (refl, same_value lease.yiaddr address e))
takes_on states4.InitReboot before address e = absurd (cc e)
takes_on states4.Selecting before address e = absurd (cc e)
takes_on states4.Renewing before address e = inl e
takes_on states4.Rebinding before address e = inl e

pub takes_on6 : (state : plain6.PlainState) (before : Option Ipv6Addr) (address : Ipv6Addr) → address_after6 state before ≡ Some address → (before ≡ Some address) ⊎ TakesOn6 state address
takes_on6 (states6.Done lease) before address e = inr (lease, (refl, same_value lease.address address e))
takes_on6 states6.Solicit before address e = absurd (cc e)
takes_on6 states6.Request before address e = absurd (cc e)
takes_on6 states6.Renew before address e = inl e
takes_on6 states6.Rebind before address e = inl e
