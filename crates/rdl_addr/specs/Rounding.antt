-- What addresses are rounded up to.
pub use Rattle.rdl_layout.specs.Rounding.{IsLeastFrom, IsLeastPower, doubled, holds, is_multiple, multiple_from, up}
