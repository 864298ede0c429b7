-- What was found of the tree of the settings.
use Rattle.std.proofs.Common.{◌≡◌, ℕ, ◌<◌, Bool, List, length, Vec, sym, subst, arith}
use Rattle.std.specs.Global.{Global}
use Rattle.rdl_tree.specs.declared.node.Elab.{Elab}
use Rattle.rdl_values.specs.Elaborated.{nodes_of}
use Rattle.rdl_values.specs.Elaboration.{IsClean}
use Rattle.rdl_nodes.proofs.Members.{get-within}
use Rattle.rdl_sizes.proofs.Facts.{count-is, nodes-many}
use Rattle.rdl_refs.specs.Tables.{list_at}
use Rattle.rdl_refs.specs.declared.refs.Target.{Target}
use Rattle.rdl_bind.specs.Given.{NameItems}
use Rattle.rdl_bind.specs.Targeted.{AreTargets}
use Rattle.rdl_members.specs.Covered.{AreTests}
use Rattle.rdl_fields.specs.Touched.{AreTouches, touches}

pub as-tests : (e m : Elab) → m ≡ e → IsClean e → (ts : List Bool) → AreTouches m e.count ts → AreTests e touches ts
as-tests e m same clean ts h = λ k n here. (subst (λ x. AreTouches x e.count ts) same h).each k n (let l = get-within (nodes_of e) k n here in let c = count-is e clean in let a = nodes-many e in omega (arith, l, c, a)) here

-- the items that the settings of each node name
abbrev pub Names : Elab → List (Vec Target Global) → Type 0
Names e ts = (length ts ≡ e.count) × ((j : ℕ) → j < e.count → NameItems e j (list_at ts j))

pub as-named : (e m : Elab) → m ≡ e → (ts us : List (Vec Target Global)) → us ≡ ts → AreTargets e ts → Names m us
as-named e m same ts us is h = subst (λ x. Names x us) (sym same) (subst (Names e) (sym is) (h.many, λ j low p. h.named j p low))
