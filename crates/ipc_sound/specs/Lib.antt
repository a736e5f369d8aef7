pub mod SoundTest
pub mod Border
