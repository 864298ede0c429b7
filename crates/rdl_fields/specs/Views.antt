-- What the fields of a register and their bits are of.
use Rattle.std.specs.Prelude.{◌≡◌, true, false, List, [], ◌∷◌, ◌++◌, Some, slice_get}
use Rattle.rdl_tree.specs.declared.item.Kind.TheVariants as kind
use Rattle.rdl_tree.specs.declared.node.Elab.{Elab}
use Rattle.rdl_tree.specs.declared.node.Node.{Node, out-Node}
use Rattle.rdl_tree.specs.Kinds.{same_kind}
use Rattle.rdl_values.specs.Elaborated.{nodes_of}
use Rattle.rdl_layers.specs.Fields.{is_a}
use Rattle.rdl_addr.specs.Answers.{AreBitsAt}
use Rattle.rdl_addr.specs.Bits.{Bits}
use Rattle.rdl_fields.specs.declared.view.View.{View}

-- A view of the code is a field of a register with its bits.
pub record IsViewOf (e : Elab) (v : View) (b : Bits) : Type 0 where
  pub here : slice_get (nodes_of e) (out-Node v.node.now).id ≡ Some b.node
  pub field : is_a kind.Field b.node ≡ true
  pub name_ : (out-Node v.node.now).name.now ≡ b.node.use_.name.text.now
  pub place_ : (out-Node v.node.now).place ≡ b.node.use_.name.place
  pub high_ : v.high ≡ b.high
  pub low_ : v.low ≡ b.low

-- one by one
abbrev pub AreViewsOf : Elab → List View → List Bits → Type 0
AreViewsOf e [] [] = Unit {0}
AreViewsOf e (v ∷ vs) (b ∷ bs) = IsViewOf e v b × AreViewsOf e vs bs
AreViewsOf e _ _ = ⊥

-- A node behind the others, with its bits.
pub record IsPushed (e : Elab) (r : Node) (old new : List View) : Type 0 where
  pub view : View
  pub of : view.node.now ≡ r
  pub bits : AreBitsAt e (out-Node r).id (view.high, view.low)
  pub behind : new ≡ old ++ (view ∷ [])

-- It is put there where it is a field.
pub record IsAdded (e : Elab) (r : Node) (old new : List View) : Type 0 where
  pub field : same_kind kind.Field (out-Node r).kind ≡ true → IsPushed e r old new
  pub other : same_kind kind.Field (out-Node r).kind ≡ false → new ≡ old
