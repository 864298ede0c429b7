pub mod Children
pub mod ItemUses
pub mod Items
