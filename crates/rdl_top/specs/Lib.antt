pub mod Topped
