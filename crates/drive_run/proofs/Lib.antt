mod Agreeing
mod Plays
mod Turns
