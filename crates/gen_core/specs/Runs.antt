-- Runs of a block's core: a list of edges of its netlist, and the machine behind any bus along it.
use Rattle.std.specs.Prelude.{◌≡◌, List, [], ◌∷◌, map, Contains}
use Rattle.rtl_net.specs.Value.{At}
use Rattle.rtl_net.specs.Net.{Net, Settles}
use Rattle.rtl_net.specs.Run.{SameAt, registers}
use Rattle.rtl_net.specs.declared.node.Id.{Id}
use Rattle.v_design.specs.Expr.{Values}
use Rattle.rb_model.specs.declared.block.Block.{Block}
use Rattle.rb_model.specs.Kept.{Kept, Map, register_name, field_kept}
use Rattle.rb_model.specs.Ports.{outlets}
use Rattle.block_plan.specs.Behind.{InnerEdge}
use Rattle.gen_scene.specs.Worth.{access_at}
use Rattle.gen_scene.specs.declared.base.Inlet.{Inlet}

-- from these contents the netlist goes through these edges, one after the other
abbrev pub Goes : Net → Values → List At → Type 0
Goes net contents [] = Unit {0}
Goes net contents (v ∷ vs) = Settles net v × SameAt v.kept contents (registers net) × Goes net v.after vs

-- from these kept values the block's machine, with the accesses that the edges say and their pins, shows and answers what they do
abbrev pub InnerRun : Block → Inlet → Id → Map → List At → Type 0
InnerRun b a answer m [] = Unit {0}
InnerRun b a answer m (v ∷ vs) = (after : Map) × InnerEdge b m (access_at a v) v.ins (map (λ o. v.outs o.name) (outlets b)) (v.node answer.0) after × InnerRun b a answer after vs

-- the registers contain what the fields keep
abbrev pub HoldsFields : Block → Map → Values → Type 0
HoldsFields b m contents = (k : Kept) → Contains (field_kept b) k → contents (register_name b k) ≡ m k
