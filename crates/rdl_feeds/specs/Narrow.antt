-- What a counter's rules give of the widths of its pins.
use Rattle.std.specs.Prelude.{◌≡◌, ℕ, ◌<◌}
use Rattle.rdl_props.specs.declared.prop.Prop.TheVariants as prop
use Rattle.rdl_values.specs.Instances.{Instance}
use Rattle.rdl_layers.specs.Settings.{number, setting}

-- No width of a pin of a counter is above a byte: F10 lets none be above the counter's own.
pub record AreNarrow (n : Instance) : Type 0 where
  pub up : (w : ℕ) → setting n prop.Incrwidth ≡ number w → w < 256
  pub down : (w : ℕ) → setting n prop.Decrwidth ≡ number w → w < 256
