-- What hardware makes of the values of fields.
use Rattle.std.specs.Prelude.{◌≡◌, ℕ, Bool, not, ◌&&◌, if◌then◌else◌, Some, ◌++◌, codes, slice_get}
use Rattle.rtl_net.specs.Net.{Net, Stands}
use Rattle.rtl_net.specs.declared.node.Id.{Id}
use Rattle.rb_model.specs.declared.block.Block.{Block}
use Rattle.rb_model.specs.declared.block.Field.{Field}
use Rattle.rb_model.specs.Kept.{is_storage}
use Rattle.rb_model.specs.Effects.{finished}
use Rattle.rb_model.specs.Items.{Now, ItemValues, fed, mask_value}
use Rattle.rb_model.specs.Machine.{hardware}
use Rattle.gen_scene.specs.declared.base.Inlet.{Inlet}
use Rattle.gen_scene.specs.declared.scene.Scene.{Scene}
use Rattle.gen_scene.specs.Bases.{IsBase}
use Rattle.gen_scene.specs.Fields.{HasField}
use Rattle.gen_scene.specs.Worth.{IsWorth}

-- a node of width w is what a step makes of another, whatever that is worth
pub record IsMade (b : Block) (a : Inlet) (old new : Net) (v id : Id) (w : ℕ) (step : Now → ItemValues → ℕ → ℕ) : Type 0 where
  pub stands : Stands new id w
  pub worth : (g : Now → ItemValues → ℕ) → IsWorth b a old v w g → IsWorth b a new id w (λ n u. step n u (g n u))

-- a netlist has the nodes of what hardware refers to in all fields
pub record HasFields (net : Net) (s : Scene) : Type 0 where
  pub base : IsBase net s.base.now
  pub each : (k : ℕ) (f : Field) → slice_get s.base.now.block.now.fields k ≡ Some f → HasField net s k f

-- the field keeps a value on which hardware has the last word, or on which software has it
abbrev pub moves_in : Bool → Field → Bool
moves_in last f = is_storage f.class && (if last then f.hw_first else not f.hw_first)

-- hardware moves the fields of which that is so
abbrev pub moved_in : Bool → Now → ItemValues → ℕ → Field → ℕ → ℕ
moved_in last n v k f x = if moves_in last f then hardware n v k f x else x

-- a node is what the last steps of hardware make of the nodes old and v, whatever these are worth
pub record IsFinished (b : Block) (a : Inlet) (before new : Net) (f : Field) (old v id : Id) : Type 0 where
  pub stands : Stands new id f.width
  pub worth : (g h : Now → ItemValues → ℕ) → IsWorth b a before old f.width g → IsWorth b a before v f.width h
      → IsWorth b a new id f.width (λ n u. finished f (g n u) (h n u) (fed n u f.set (codes "hwset$" ++ f.path)) (fed n u f.clear (codes "hwclr$" ++ f.path)) (mask_value u f.keep))
