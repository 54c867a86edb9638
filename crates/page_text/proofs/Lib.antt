mod Bands
mod Answered
