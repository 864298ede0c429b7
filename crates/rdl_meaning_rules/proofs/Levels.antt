-- A node holds a register where it is one, or a node in its body holds one.
use Rattle.std.proofs.Common.{◌≡◌, ◌∙◌, ℕ, ◌+◌, Bool, ◌||◌, List, [], ◌∷◌, ◌++◌, flat_map, slice_get, Some, refl, sym, ap, subst, arith}
use Rattle.std.specs.List.{AllByRecursion, list_any}
use Rattle.std.proofs.lemmas.List.Folds.{list_any-append}
use Rattle.rdl_tree.specs.declared.item.Kind.TheVariants as kind
use Rattle.rdl_tree.specs.declared.node.Elab.{Elab}
use Rattle.rdl_values.specs.Bodies.{Path, below_top, of_signal}
use Rattle.rdl_values.specs.Elaborated.{top_name}
use Rattle.rdl_values.specs.Instances.{Instance, children, with_below}
use Rattle.rdl_values.specs.Lineages.{Lineage, lineages_of}
use Rattle.plain_lemmas.proofs.Lists.{each-imp}
use Rattle.rdl_values.proofs.Numbered.{At, Deep, lower}
use Rattle.rdl_layers.specs.Fields.{is_a}
use Rattle.rdl_addr.proofs.Covers.{deep_enough}
use Rattle.rdl_nodes.proofs.Order.{shallow-at}
use Rattle.rdl_meaning_rules.specs.Filled.{holds_register}

raise : (j k : ℕ) (n : Instance) → Deep k n → Deep (j + k) n
raise j k n d = by n.path refl d
  where
    by : (p : Path) → n.path ≡ p → At p k n → At n.path (j + k) n
    by (of_signal t) e d = subst (λ p. At p (j + k) n) (sym e) d
    by (below_top ss) e d = let more : At (below_top ss) (j + k) n = omega (arith, d) in subst (λ p. At p (j + k) n) (sym e) more

pub deep-at : (e : Elab) (k : ℕ) (l : Lineage) → slice_get (lineages_of e) k ≡ Some l → Deep 31 l.node
deep-at e k l at = let s = shallow-at (Some (top_name e)) e.source.now k l at in subst (λ j. Deep j l.node) s.1 (raise _ s.0 l.node s.2)

any-flat : {X Y : Type 0} (p : Y → Bool) (f : X → List Y) (xs : List X) → list_any p (flat_map f xs) ≡ list_any (λ x. list_any p (f x)) xs
any-flat p f [] = refl
any-flat p f (x ∷ xs) = list_any-append p (f x) (flat_map f xs) ∙ ap (λ b. list_any p (f x) || b) (any-flat p f xs)

any-each : {X : Type 0} (p q : X → Bool) (xs : List X) → AllByRecursion (λ x. p x ≡ q x) xs → list_any p xs ≡ list_any q xs
any-each p q [] h = refl
any-each p q (x ∷ xs) h = (λ i. h.0 i || any-each p q xs h.1 i)

enough : (n : Instance) → Deep 30 n → list_any (is_a kind.Reg) (with_below 31 n) ≡ holds_register n
unfolding holds_register
enough n d = ap (list_any (is_a kind.Reg)) (sym (deep_enough 31 n (raise 1 30 n d)))

pub holds-next : (n : Instance) → Deep 31 n → (is_a kind.Reg n || list_any holds_register (children n)) ≡ holds_register n
unfolding holds_register
holds-next n d =
    ap (λ b. is_a kind.Reg n || b) (sym (any-flat (is_a kind.Reg) (with_below 31) (children n) ∙ any-each (λ c. list_any (is_a kind.Reg) (with_below 31 c)) holds_register (children n) (each-imp (Deep 30) _ (children n) enough (lower 30 n d))))
