pub mod BitVector
pub mod Catalogue
pub mod Digits
