mod Blocks
mod Ends
mod Firsts
pub mod Fitting
mod Loops
mod Marks
mod Ranges
mod Spanning
mod Taking
mod Terms
mod Trees
mod Walking
mod Whole
