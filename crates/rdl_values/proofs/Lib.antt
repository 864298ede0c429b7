mod Around
pub mod Changing
pub mod Clean
pub mod Copied
mod Count
mod Fronts
pub mod Given
pub mod Growing
pub mod Keeping
mod LookUps
pub mod Named
mod Nearest
pub mod Numbered
pub mod Overlays
mod Paths
pub mod Plains
mod Powers
mod Primary
pub mod ReadBy
pub mod Reading
mod Rows
pub mod Sorted
pub mod Steps
mod Tables
pub mod Touched
pub mod Walking
