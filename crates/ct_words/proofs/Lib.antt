mod Command
mod Refused
