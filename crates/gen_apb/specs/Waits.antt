-- The registers of a wait state.
use Rattle.std.specs.Prelude.{true, codes}
use Rattle.rtl_net.specs.Net.{Net, Awaits, IsNode}
use Rattle.rtl_net.specs.declared.node.Id.{Id}
use Rattle.rtl_net.specs.declared.node.NetReset.TheVariants as resets
use Rattle.gen_apb.specs.declared.waiting.Held.{Held}
use Rattle.gen_apb.specs.Bus.{cleared}

-- registers that PRESETn clears, still to be driven
pub record AreHeld (net : Net) (resetn : Id) (h : Held) : Type 0 where
  pub waited : Awaits net h.waited (codes "apb$wait") 1 (resets.Async resetn true 0)
  pub error : Awaits net h.error (codes "apb$error") 1 (resets.Async resetn true 0)
  pub waited_node : IsNode net h.waited 1 (cleared (codes "apb$wait"))
  pub error_node : IsNode net h.error 1 (cleared (codes "apb$error"))
