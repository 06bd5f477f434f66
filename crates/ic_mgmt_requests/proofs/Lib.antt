mod Named
mod Typed
mod Read
