-- What software makes of a field's value (SystemRDL 2.0, 9.6).
use Rattle.std.specs.Prelude.{ℕ, ◌==◌, ◌&&◌, if◌then◌else◌}
use Rattle.rb_model.specs.Effects.{acts, written, after_read}
use Rattle.rb_model.specs.declared.block.View.{View}

-- the value v of width w after an access through a view: a write of bits that acts, or else a read
abbrev pub software_of : View → (w v write read bits gate done : ℕ) → ℕ
software_of view w v write read bits gate done =
    if write == 1 && acts view gate done then written view.on_write w v bits else (if read == 1 then after_read view.on_read w v else v)
