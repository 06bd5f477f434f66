mod Cuts
mod Workers
mod Traces
mod Told
mod Finals
mod Promises
mod Refusals
