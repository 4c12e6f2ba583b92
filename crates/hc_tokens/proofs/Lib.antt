pub mod Cut
pub mod Digits
pub mod NumbersFound
pub mod NumbersSound
