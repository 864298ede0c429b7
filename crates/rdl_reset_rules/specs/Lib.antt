pub mod Judged
pub mod Known
pub mod Nearest
pub mod Said
