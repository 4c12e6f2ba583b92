pub mod FlatText
