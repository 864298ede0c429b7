pub mod Lines
pub mod LineColumns
