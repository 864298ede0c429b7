-- A register machine, and the map that it holds.
use Rattle.std.specs.Prelude.{◌≡◌, ℕ, ◌<◌, Bool, Some, List, length, map, slice_get}
use Rattle.rb_model.specs.declared.kinds.RefItem.{RefItem}
use Rattle.rb_model.specs.declared.block.Block.{Block}
use Rattle.rb_model.specs.Items.{Access, Now}
use Rattle.rb_model.specs.Run.{pins_of}
use Rattle.rb_machine.specs.declared.scene.Held.{Held}
use Rattle.rb_model.specs.Kept.{Map}
use Rattle.rb_model.specs.Ports.{input_pins}
use Rattle.rb_model.specs.Sound.{IsSound}
use Rattle.rb_machine.specs.declared.machine.Machine.{Machine}
use Rattle.block_plan.specs.Plan.{IsPlanOf}
use Rattle.rb_machine.specs.Keeping.{AreMarksOf, AreMoving}
use Rattle.rb_machine.specs.Plain.{AreSteps}
use Rattle.rb_machine.specs.Quiet.{AreNextBusy, brief_of}
use Rattle.rb_machine.specs.Resets.{AreWays}
use Rattle.block_plan.specs.Wanted.{AreInOrder, IsAllWanted}
use Rattle.rb_machine.specs.Scene.{HoldsKept, map_of}
use Rattle.rb_machine.specs.Sources.{AreSources}
use Rattle.rb_machine.specs.Table.{place_of}
use Rattle.rb_machine.specs.Transfers.{IsThere, access_seen}

-- the map that a machine holds
abbrev pub held_map : Machine → Map
held_map m = map_of m.held

-- a machine is ready: its block is sound, and it has what was looked up, the wanted items in order, and the room for it all
pub record IsReady (m : Machine) : Type 0 where
  pub sound : IsSound m.block.now
  pub planned : IsPlanOf m.block.now m.plan
  pub held : length m.held.fields.items ≡ length m.block.now.fields
  pub resets : AreWays m.block.now.fields m.resets.items
  pub briefs : m.briefs.items ≡ map brief_of m.block.now.fields
  pub next : AreNextBusy m.block.now.fields m.next.items
  pub steps : AreSteps m.block.now.fields m.plan.fields.items m.steps.items
  pub moving : AreMoving m.block.now.fields m.moving.items
  pub shown : m.shown.items ≡ map (λ o. place_of o.item) m.plan.outlets.items
  pub sources : AreSources m.block.now m.order.items m.sources.items
  pub kept : HoldsKept m.block.now.fields m.held.fields.items
  pub pins : length m.pins.items ≡ length (input_pins m.block.now)
  pub last : IsThere m.block.now m.last
  pub marks : length m.marks.items ≡ length m.block.now.fields
  pub marked : AreMarksOf m.block.now (access_seen m.last) m.marks.items
  pub states : m.states.items ≡ m.held.fields.items
  pub wanted : List Bool
  pub needs : IsAllWanted m.block.now wanted
  pub listed : AreInOrder m.block.now wanted m.order.items
  pub places : m.places.items ≡ map place_of m.order.items
  pub room : (k : ℕ) (i : RefItem) → slice_get m.order.items k ≡ Some i → place_of i < length m.table.items

-- what an access finds at an edge
abbrev pub at_edge : Block → List ℕ → Held → Access → Now
at_edge b x h a = record { access = a; pins = pins_of b x; kept = map_of h }
