pub use Rattle.hc_steps.specs.Plan
pub use Rattle.hc_steps.specs.Tables
pub use Rattle.hc_steps.specs.Crossing
pub use Rattle.hc_steps.specs.Views
pub use Rattle.hc_steps.specs.Compiled
