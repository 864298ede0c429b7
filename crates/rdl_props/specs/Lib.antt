pub mod On
pub mod Same
pub mod Table
