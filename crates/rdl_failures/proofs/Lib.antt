pub mod Around
pub mod Noting
pub mod Sets
