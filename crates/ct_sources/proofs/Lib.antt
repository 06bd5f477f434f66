pub mod Listed
pub mod Wasm
