pub mod Fronts
pub mod SigFound
pub mod SigSound
pub mod SigSteps
pub mod SignalLaws
pub mod SignalsEven
