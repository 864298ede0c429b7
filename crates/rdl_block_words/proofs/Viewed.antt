-- The fields of a register, one by one.
use Rattle.std.proofs.Common.{◌≡◌, ℕ, zero, suc, ◌<◌, List, [], ◌∷◌, length, get_or, slice_get, Some, refl, ap, arith}
use Rattle.rdl_tree.specs.declared.node.Elab.{Elab}
use Rattle.rdl_addr.specs.Bits.{Bits}
use Rattle.rdl_fields.specs.declared.view.View.{View}
use Rattle.rdl_fields.specs.Views.{AreViewsOf, IsViewOf}

pub view-at : (e : Elab) (vs : List View) (bs : List Bits) → AreViewsOf e vs bs → (i : ℕ) (d : View) → i < length vs → (b : Bits) × (slice_get bs i ≡ Some b) × IsViewOf e (get_or vs i d) b
view-at e [] bs h i d l = absurd (omega (arith, l))
view-at e (v ∷ vs) [] h i d l = absurd h
view-at e (v ∷ vs) (b ∷ bs) h zero d l = (b, refl, h.0)
view-at e (v ∷ vs) (b ∷ bs) h (suc i) d l = view-at e vs bs h.1 i d (omega (arith, l))

pub as-many : (e : Elab) (vs : List View) (bs : List Bits) → AreViewsOf e vs bs → length vs ≡ length bs
as-many e [] [] h = refl
as-many e [] (b ∷ bs) h = absurd h
as-many e (v ∷ vs) [] h = absurd h
as-many e (v ∷ vs) (b ∷ bs) h = ap suc (as-many e vs bs h.1)
