mod Bits
mod Lists
mod Saturating
mod Wraps
