-- When each edge of a netlist is one of a block's machine behind a bus.
use Rattle.std.specs.Prelude.{◌≡◌}
use Rattle.v_design.specs.Expr.{Values}
use Rattle.rtl_net.specs.Value.{At}
use Rattle.rtl_net.specs.Net.{Net, Settles}
use Rattle.rtl_net.specs.Run.{values_at}
use Rattle.rb_model.specs.Items.{ItemValues, AreItemValues}
use Rattle.rb_model.specs.Front.{Contain, Front, front_outputs}

-- Where the registers contain what is kept, and the pins are as they may be at a vector, the outputs are the machine's, and the registers
-- contain what it keeps after that.
pub record EdgesAre (F : Front) (MayBe : Values → Type 0) (net : Net) : Type 0 where
  pub shown : (v : At) → Settles net v → (k : F.Kept) → Contain F k v.kept → MayBe v.ins → (items : ItemValues) → AreItemValues F.block (F.found v.ins k) items
      → values_at v.outs (front_outputs F) ≡ F.shown v.ins k items
  pub kept : (v : At) → Settles net v → (k : F.Kept) → Contain F k v.kept → MayBe v.ins → (items : ItemValues) → AreItemValues F.block (F.found v.ins k) items
      → Contain F (F.next v.ins k items) v.after
