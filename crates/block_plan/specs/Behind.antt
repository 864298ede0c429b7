-- The machine of a block behind any bus, at one edge.
use Rattle.std.specs.Prelude.{◌≡◌, ℕ, ◌<◌, List, Contains, length}
use Rattle.v_design.specs.Expr.{Values}
use Rattle.rb_model.specs.declared.block.Block.{Block}
use Rattle.rb_model.specs.Kept.{Kept, Map, field_kept}
use Rattle.rb_model.specs.Items.{Access, NoAccess, Read, Write, Now, ItemValues, AreItemValues}
use Rattle.rb_model.specs.Machine.{held, next, outputs, read_data}

-- the word of an access is there
abbrev pub IsThere : Block → Access → Type 0
IsThere b NoAccess = Unit {0}
IsThere b (Read i) = i < length b.reads
IsThere b (Write i d) = i < length b.writes

-- what an edge finds of an access, these pins and these kept values, once asynchronous resets have acted
abbrev pub found : Block → Access → Values → Map → Now
found b a p m = record { access = a; pins = p; kept = held b p m }

-- At one edge, from the kept values m, the outputs behind those of the bus are these, a read is answered this, and the fields
-- keep these values after it.
pub record InnerEdge (b : Block) (m : Map) (a : Access) (p : Values) (outs : List ℕ) (answer : ℕ) (after : Map) : Type 0 where
  pub items : ItemValues
  pub valued : AreItemValues b (found b a p m) items
  pub seen : outs ≡ outputs b items
  pub answered : answer ≡ read_data b items a
  pub moved : (k : Kept) → Contains (field_kept b) k → after k ≡ next b (found b a p m) items k
