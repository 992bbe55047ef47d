pub mod LayerLemmas
pub mod LayersLemmas
pub mod RelayLemmas
pub mod RequestLemmas
pub mod RoundTripLemmas
pub mod StandardFacts
pub mod StepLemmas
pub mod ToolLemmas
