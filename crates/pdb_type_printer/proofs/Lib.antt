pub mod GoesLemmas
pub mod StandsLemmas
pub mod OtherKinds
pub mod TurnLemmas
pub mod ReadLemmas
pub mod ElementLemmas
pub mod LoopLemmas
pub mod LaterLemmas
