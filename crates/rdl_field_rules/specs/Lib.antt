pub mod Judged
