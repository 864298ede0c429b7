mod Each
mod Found
mod Noted
mod Numbers
mod Ranges
mod Related
mod Reset
mod Said
