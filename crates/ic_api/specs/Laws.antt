-- What the host keeps, with its proofs. The members of its traits (`lawful` of `Host`, `kept` and `is_kept` of `Keeps`) cite
-- these proofs, and what a trait's member cites has to be in specs/: so they are here, and no contract needs to be read with
-- them.
pub mod Records
pub mod Lists
pub mod Rows
pub mod Hosts
pub mod Listening
