-- A field or signal, and its text.
use Rattle.std.proofs.Common.{◌≡◌, ◌∙◌, ℕ, List, [], None, Some, MatchOption, slice_get, sym, ap, subst}
use Rattle.std.specs.Borrow.{Bor}
use Rattle.std.specs.Option.{option_copied}
use Rattle.rdl_tree.specs.declared.item.Inst.{Inst}
use Rattle.rdl_tree.specs.declared.item.Kind.TheVariants as kind
use Rattle.rdl_tree.specs.declared.node.Node.{Node, out-Node}
use Rattle.rdl_values.specs.Bodies.{around}
use Rattle.rdl_values.specs.Chained.{chained}
use Rattle.rdl_values.specs.Elaborated.{Says}
use Rattle.rdl_values.specs.Instances.{Instance, kind_of}
use Rattle.rdl_values.specs.Uses.{form_of}
use Rattle.rdl_failures.specs.Shown.{IsAlike}
use Rattle.rdl_merge.specs.Widths.{IsOfText}
use Rattle.rdl_bodies.specs.declared.bodies.Bodies.{Bodies}
use Rattle.rdl_bodies.specs.declared.bodies.Body.{Body}
use Rattle.rdl_open_bodies.specs.Spots.{HasParts, Sees}

-- The names that its text sees.

pub seen_by : (t : Bodies) (n : Instance) (k : ℕ) (x : Body) → Sees t k (around n.use_.scope) → slice_get t.list.items k ≡ Some x → IsAlike (chained t.tables.items x.numbers.now) (around n.use_.scope)
seen_by t n k x h at =
    let both : Some h.open_ ≡ Some x = sym h.here ∙ at in
    let same : h.open_ ≡ x = cc in
    subst (λ (y : Body). IsAlike (chained t.tables.items y.numbers.now) (around n.use_.scope)) same h.alike

-- Its instance.

module _ (beside : List Node) (r : Node) (n : Instance) (says : Says beside r n) (parts : HasParts n) where
  pub of_text : (i : Bor Inst) → (out-Node r).inst ≡ Some i → IsOfText i.now n
  of_text i some =
      let is : n.use_.inst ≡ Some i.now = sym says.inst ∙ ap option_copied some in
      let p = subst (λ j. MatchOption j ((kind_of n ≡ kind.Addrmap) × (n.use_.dims ≡ []) × (n.use_.form.range ≡ None) × (n.use_.form.reset ≡ None)) (λ j. (n.use_.dims ≡ j.dims.now) × (n.use_.form ≡ form_of j))) is parts in
      record { dims = p.0; range = ap (λ f. f.range) p.1 }
