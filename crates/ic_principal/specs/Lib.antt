pub mod Bits
pub mod CanisterId
pub mod Checksum
pub mod Base32
pub mod Text
pub mod IsPrincipal
pub mod Padded
pub mod HasChecksum
