mod Cutting
mod Halves
mod Joined
mod Ranges
mod Spans
mod Spreading
mod Testing
