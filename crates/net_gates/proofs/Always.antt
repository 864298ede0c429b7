-- Nodes that are constants.
use Rattle.std.proofs.Common.{◌≡◌, ℕ, ◌<◌, ◌^◌, Some, None, Option, List, length, slice_get, get_or, refl, ap, sym, subst, ◌∙◌}
use Rattle.std.specs.Prelude.{IfSome, option_and_then}
use Rattle.std.proofs.lemmas.Option.{slice_get_read}
use Rattle.rtl_net.specs.Fold.{constant, constant_at}
use Rattle.rtl_net.specs.Net.{Net, width_in}
use Rattle.rtl_net.specs.Made.{IsMade}
use Rattle.rtl_net.specs.declared.node.Id.{Id}
use Rattle.rtl_net.specs.declared.node.NetNode.{NetNode}
use Rattle.rtl_net.proofs.Values.{constant_value, constant_fits_if}
use Rattle.net_gates.specs.Gates.{IsAlways}

read_at : (net : Net) (ns : List NetNode) (id : Id) (o : Option ℕ) (n : NetNode) → ns ≡ net.nodes → id.0 < length net.nodes → n ≡ get_or ns id.0 n → o ≡ constant n → o ≡ constant_at net.nodes id.0
read_at net ns id o n same low is e =
    let low' : id.0 < length ns = subst (λ l. id.0 < length l) (sym same) low in
    let here : slice_get net.nodes id.0 ≡ Some n = ap (λ l. slice_get l id.0) (sym same) ∙ slice_get_read ns (length ns) id.0 n refl low' is in
    e ∙ sym (ap (option_and_then constant) here)

always : (net : Net) (id : Id) (o : Option ℕ) → o ≡ constant_at net.nodes id.0 → IfSome o (IsAlways net id)
always net id None e = tt
always net id (Some x) e = record { value = λ v s. constant_value net v s id x (sym e) }

-- a node that was read as a constant is that number at every edge, and its width holds it
pub always_of : (net : Net) (ns : List NetNode) (id : Id) (o : Option ℕ) (n : NetNode) → ns ≡ net.nodes → id.0 < length net.nodes → n ≡ get_or ns id.0 n → o ≡ constant n → IfSome o (IsAlways net id)
always_of net ns id o n same low is e = always net id o (read_at net ns id o n same low is e)

pub fits_of : (net : Net) (ns : List NetNode) (id : Id) (o : Option ℕ) (n : NetNode) → IsMade net → ns ≡ net.nodes → id.0 < length net.nodes → n ≡ get_or ns id.0 n → o ≡ constant n → IfSome o (λ k. k < 2 ^ width_in net id)
fits_of net ns id o n made same low is e = constant_fits_if net made id o (read_at net ns id o n same low is e)
