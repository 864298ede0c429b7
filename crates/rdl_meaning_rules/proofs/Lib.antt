mod Bodies
mod Levels
mod Narrow
mod Put
mod Rows
mod Walk
mod Whole
