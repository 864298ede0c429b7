-- Rows that are added one after the other.
use Rattle.std.proofs.Common.{◌≡◌, ◌∙◌, ℕ, ◌+◌, ◌<◌, ◌≤◌, Option, Some, List, [], ◌∷◌, ◌++◌, length, get_or, take, sym, ap, subst, append_assoc, append-nil}
use Rattle.std.proofs.lemmas.List.{take_more}
use Rattle.plain_lemmas.proofs.Lists.{take-all as take-whole}
use Rattle.rdl_tree.specs.declared.node.Node.{Node, out-Node}
use Rattle.rdl_nodes.specs.declared.table.Row.{Row}
use Rattle.rdl_nodes.specs.Below.{AreBelow, IsBelow, row, no_rows, more_rows}

below-push : {parent : Option ℕ} {rs : List Node} {r : Node} {xs ys : List Row} → AreBelow parent rs xs → IsBelow parent r ys → AreBelow parent (rs ++ r ∷ []) (xs ++ ys)
below-push {parent = p} {r = r} {ys = ys} no_rows h = subst (AreBelow p (r ∷ [])) (append-nil ys) (more_rows h no_rows)
below-push {parent = p} {r = r} {ys = ys} (more_rows {r = q} {rs = qs} {xs = us} {ys = vs} a b) h = subst (AreBelow p (q ∷ qs ++ r ∷ [])) (sym (append_assoc us vs ys)) (more_rows a (below-push b h))

-- what was added to some rows
abbrev pub Added : Option ℕ → List Node → List Row → List Row → Type 0
Added parent rs old new = (added : List Row) × AreBelow parent rs added × (new ≡ old ++ added)

abbrev pub AddedOne : Option ℕ → Node → List Row → List Row → Type 0
AddedOne parent r old new = (added : List Row) × IsBelow parent r added × (new ≡ old ++ added)

pub none-added : (parent : Option ℕ) (old : List Row) → Added parent [] old old
none-added parent old = ([], no_rows, sym (append-nil old))

pub one-added : (parent : Option ℕ) (rs : List Node) (i : ℕ) (r : Node) (start old new : List Row) → i < length rs → r ≡ get_or rs i r → Added parent (take i rs) start old → AddedOne parent r old new → Added parent (take (i + 1) rs) start new
one-added parent rs i r start old new l is (xs, a, e) (ys, b, f) = (
  xs ++ ys,
  subst (λ t. AreBelow parent t (xs ++ ys)) (sym (take_more rs i r l)) (below-push a (subst (λ q. IsBelow parent q ys) is b)),
  f ∙ (ap (λ o. o ++ ys) e ∙ append_assoc start xs ys),
)

pub all-added : (parent : Option ℕ) (rs : List Node) (n : ℕ) (old new : List Row) → length rs ≤ n → Added parent (take n rs) old new → Added parent rs old new
all-added parent rs n old new l (xs, a, e) = (xs, subst (λ t. AreBelow parent t xs) (take-whole rs n l) a, e)

pub node-added : (parent : Option ℕ) (r : Node) (x : Row) (old pushed new : List Row) → x.node.now ≡ r → x.parent ≡ parent → pushed ≡ old ++ x ∷ [] → Added (Some (out-Node r).id) (out-Node r).children.now pushed new → AddedOne parent r old new
node-added parent r x old pushed new n p e (xs, a, f) = (x ∷ xs, row n p a, f ∙ (ap (λ o. o ++ xs) e ∙ append_assoc old (x ∷ []) xs))
