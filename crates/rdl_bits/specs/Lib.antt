pub mod Failing
pub mod Found
pub mod Judged
pub mod Tabled
pub mod Widths
pub mod Written
