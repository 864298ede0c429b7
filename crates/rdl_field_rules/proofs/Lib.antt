mod Agreeing
mod Noted
mod Told
mod Turns
