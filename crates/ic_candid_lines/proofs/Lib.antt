mod ExpectedTypes
mod Refused
mod DecodePrints
mod Encodings
mod Verdicts
mod FilesSay
