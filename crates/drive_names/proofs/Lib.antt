pub mod Narrow
mod Tables
