pub mod Lists
pub mod Named
pub mod Apart
pub mod Wanted
pub mod Slots
pub mod Taking
pub mod Marks
pub mod Takeable
