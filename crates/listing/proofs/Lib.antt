mod Putting
mod Telling
mod Writing
