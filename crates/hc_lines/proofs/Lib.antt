pub mod ItemParts
pub mod LineLaws
pub mod LineParts
pub mod LineSteps
pub mod Lines
pub mod Parts
pub mod RegParts
