-- How the fields of a block are reset.
use Rattle.std.specs.Prelude.{◌≡◌, ℕ, false, None, Some, List, Contains, slice_get}
use Rattle.v_design.specs.Expr.{Values}
use Rattle.rb_model.specs.declared.kinds.ResetBy.{ResetBy}
use Rattle.rb_model.specs.declared.block.Block.{Block}
use Rattle.rb_model.specs.declared.block.Field.{Field}
use Rattle.rb_model.specs.Machine.{is_asserted}

-- each field is reset in one of these ways
abbrev pub AreWays : List Field → List ResetBy → Type 0
AreWays fields ways = (k : ℕ) (f : Field) → slice_get fields k ≡ Some f → Contains ways f.reset_by

-- no field is under reset
abbrev pub NoneReset : Block → Values → Type 0
NoneReset b p = (k : ℕ) (f : Field) → slice_get b.fields k ≡ Some f → is_asserted b p f.reset_by ≡ false

-- the way of a field that there is not
abbrev pub no_way : ResetBy
no_way = record { signal = None; low = false; sync = false }
