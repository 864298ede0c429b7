mod Classes
mod Digits
mod Firsts
