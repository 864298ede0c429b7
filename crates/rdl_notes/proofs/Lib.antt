mod Adding
mod Enumerating
mod Growing
mod Listed
mod Rows
mod Top
mod Whole
