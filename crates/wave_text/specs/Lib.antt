pub mod Dumped
pub mod Pieces
pub mod Ready
