mod Ahead
mod Beginnings
pub mod Cutting
mod FirstProblem
pub mod Fitting
mod Headers
mod Keeping
mod LikeRows
mod Lines
mod NumberCells
mod Picking
mod PlainRows
mod PlainTables
mod Positions
mod RecordsLeft
mod RowCells
mod Rows
mod Watching
mod Widths
