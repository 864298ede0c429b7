-- The values that a block keeps from one clock edge to the next.
use Rattle.std.specs.Prelude.{ℕ, ◌^◌, ◌<◌, ◌==◌, Bool, true, false, if◌then◌else◌, List, [], ◌∷◌, ◌++◌, codes, slice_get, map, All}
use Rattle.std.specs.List.{enumerate_from, flat_map}
use Rattle.std.specs.Option.{option_map_or}
use Rattle.rb_base.specs.declared.ports.Pin.{Pin}
use Rattle.rb_base.specs.declared.trigger.Trigger.{Trigger}
use Rattle.rb_base.specs.declared.trigger.Trigger.TheVariants as trigger
use Rattle.rb_model.specs.declared.kinds.Class.{Class}
use Rattle.rb_model.specs.declared.kinds.Class.TheVariants.{Storage, Wire, Constant}
use Rattle.rb_model.specs.declared.kinds.Latch.{Latch}
use Rattle.rb_model.specs.declared.kinds.Latch.TheVariants as latch
use Rattle.rb_model.specs.declared.block.Block.{Block}
use Rattle.rb_model.specs.declared.block.Field.{Field}

-- Of the field of a number its value, its last input, and that it was written. Of a bus with a wait state that the vector
-- before carried an access, and the data and the error that answer it.
pub data Kept : Type 0 where
  Val Last Done : ℕ → Kept
  Waited Data Error : Kept

-- a number for each kept value
abbrev pub Map : Type 0
Map = Kept → ℕ

abbrev pub is_storage : Class → Bool
is_storage Storage = true
is_storage Wire = false
is_storage Constant = false

abbrev pub waits_for_change : Trigger → Bool
waits_for_change trigger.Level = false
waits_for_change trigger.Posedge = true
waits_for_change trigger.Negedge = true
waits_for_change trigger.Bothedge = true
waits_for_change trigger.Nonsticky = false

abbrev pub keeps_last : Latch → Bool
keeps_last latch.Off = false
keeps_last (latch.Bits e) = waits_for_change e
keeps_last (latch.Whole e) = waits_for_change e
keeps_last latch.Plain = false

-- the list of x alone, or of nothing
abbrev pub when : {X : Type 0} → Bool → X → List X
when b x = if b then x ∷ [] else []

abbrev pub kept_of : ℕ × Field → List Kept
kept_of f = when (is_storage f.1.class) (Val f.0) ++ when (keeps_last f.1.latch) (Last f.0) ++ when f.1.once (Done f.0)

abbrev pub has_wait : Block → Bool
has_wait b = b.waits == 1

-- the kept values of the fields, without those of the bus
abbrev pub field_kept : Block → List Kept
field_kept b = flat_map kept_of (enumerate_from 0 b.fields)

abbrev pub kept : Block → List Kept
kept b = field_kept b ++ (if has_wait b then Waited ∷ Data ∷ Error ∷ [] else [])

-- g of the field of this number, or other where there is none
abbrev pub of_field : {X : Type 0} → Block → ℕ → X → (Field → X) → X
of_field b k other g = option_map_or g (slice_get b.fields k) other

abbrev pub is_kept : Block → Kept → Bool
is_kept b (Val k) = of_field b k false (λ f. is_storage f.class)
is_kept b (Last k) = of_field b k false (λ f. keeps_last f.latch)
is_kept b (Done k) = of_field b k false (λ f. f.once)
is_kept b Waited = has_wait b
is_kept b Data = has_wait b
is_kept b Error = has_wait b

-- the map with 0 where nothing is kept
abbrev pub only_kept : Block → Map → Map
only_kept b m k = if is_kept b k then m k else 0

-- the register of a kept value in the module
abbrev pub register_name : Block → Kept → List ℕ
register_name b (Val k) = codes "val$" ++ of_field b k [] (λ f. f.path)
register_name b (Last k) = codes "last$" ++ of_field b k [] (λ f. f.path)
register_name b (Done k) = codes "done$" ++ of_field b k [] (λ f. f.path)
register_name b Waited = codes "apb$wait"
register_name b Data = codes "apb$data"
register_name b Error = codes "apb$error"

abbrev pub register_width : Block → Kept → ℕ
register_width b (Val k) = of_field b k 0 (λ f. f.width)
register_width b (Last k) = of_field b k 0 (λ f. f.width)
register_width b (Done k) = 1
register_width b Waited = 1
register_width b Data = 32
register_width b Error = 1

-- the register of a kept value, as a pin
abbrev pub kept_pin : Block → Kept → Pin
kept_pin b k = record { name = register_name b k; width = register_width b k }

abbrev pub kept_pins : Block → List Pin
kept_pins b = map (kept_pin b) (kept b)

-- each kept value is within its width
abbrev pub Fits : Block → Map → Type 0
Fits b m = All (λ k. m k < 2 ^ register_width b k) (kept b)
