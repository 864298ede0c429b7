-- Tables of nodes, one for each field of a block, and what changes them.
use Rattle.std.specs.Prelude.{◌≡◌, ℕ, Some, List, length, slice_get}
use Rattle.rtl_net.specs.Net.{Net, Stands}
use Rattle.rtl_net.specs.Ids.{at}
use Rattle.rtl_net.specs.declared.node.Id.{Id}
use Rattle.rb_model.specs.declared.block.Block.{Block}
use Rattle.rb_model.specs.declared.block.Field.{Field}
use Rattle.rb_model.specs.declared.block.View.{View}
use Rattle.rb_model.specs.Items.{Now, ItemValues}
use Rattle.gen_scene.specs.declared.base.Inlet.{Inlet}
use Rattle.gen_scene.specs.declared.scene.Scene.{Scene}
use Rattle.gen_scene.specs.Bases.{IsBase}
use Rattle.gen_scene.specs.Fields.{HasView}
use Rattle.gen_scene.specs.Worth.{IsWorth}

-- a node of this width for each field
pub record AreNodes (b : Block) (net : Net) (ids : List Id) (width : Field → ℕ) : Type 0 where
  pub long : length ids ≡ length b.fields
  pub each : (k : ℕ) (f : Field) → slice_get b.fields k ≡ Some f → Stands net (at ids k) (width f)

-- what the nodes are worth
pub record AreWorth (b : Block) (a : Inlet) (net : Net) (ids : List Id) (width : Field → ℕ) (g : ℕ → Field → Now → ItemValues → ℕ) : Type 0 where
  pub each : (k : ℕ) (f : Field) → slice_get b.fields k ≡ Some f → IsWorth b a net (at ids k) (width f) (g k f)

-- what an edge makes of a number of field k
abbrev pub Step : Type 0
Step = Now → ItemValues → ℕ → Field → ℕ → ℕ

-- whatever the nodes before are worth, those after are worth what the step makes of it
pub record Changes (b : Block) (a : Inlet) (old new : Net) (before after : List Id) (width : Field → ℕ) (step : Step) : Type 0 where
  pub worth : (g : ℕ → Field → Now → ItemValues → ℕ) → AreWorth b a old before width g → AreWorth b a new after width (λ k f n v. step n v k f (g k f n v))

-- a netlist has the nodes of the gates of all views
pub record HasViews (net : Net) (s : Scene) : Type 0 where
  pub base : IsBase net s.base.now
  pub each : (k : ℕ) (u : View) → slice_get s.base.now.block.now.views k ≡ Some u → HasView net s k u
