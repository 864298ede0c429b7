-- Fields that hardware leaves alone.
use Rattle.std.specs.Prelude.{◌≡◌, false, None}
use Rattle.rb_model.specs.declared.kinds.Feed.TheVariants as feed
use Rattle.rb_model.specs.declared.kinds.Latch.TheVariants as latch
use Rattle.rb_model.specs.declared.block.Field.{Field}

-- hardware doesn't write, count, latch, set, clear or pulse the field
pub record IsQuiet (f : Field) : Type 0 where
  pub unwritten : f.hw_writes ≡ false
  pub uncounted : f.count ≡ None
  pub unlatched : f.latch ≡ latch.Off
  pub unset : f.set ≡ feed.Off
  pub uncleared : f.clear ≡ feed.Off
  pub unpulsed : f.pulse ≡ false
