-- The nodes in a body, one by one, and the fields among them.
use Rattle.std.proofs.Common.{◌≡◌, ◌∙◌, ℕ, ◌+◌, ◌<◌, ◌≤◌, Bool, true, false, ◌&&◌, ◌||◌, cond, List, [], ◌∷◌, length, filter, get_or, take, slice_get, Some, refl, sym, ap, subst, arith}
use Rattle.std.specs.List.{All, list_any}
use Rattle.std.proofs.lemmas.List.{take_all}
use Rattle.std.proofs.lemmas.List.Folds.{list_any_at, list_any_more}
use Rattle.rdl_tree.specs.declared.item.Kind.TheVariants as kinds
use Rattle.rdl_tree.specs.declared.node.Elab.{Elab}
use Rattle.rdl_tree.specs.declared.node.Node.{Node, out-Node}
use Rattle.rdl_values.specs.Elaborated.{nodes_of}
use Rattle.rdl_values.specs.Elaboration.{IsClean}
use Rattle.rdl_values.specs.Instances.{Instance, children, kind_of}
use Rattle.rdl_values.specs.Lineages.{lineages_of}
use Rattle.rdl_layers.specs.Fields.{fields_of, is_a}
use Rattle.rdl_nodes.specs.Rows.{AreInside}
use Rattle.rdl_nodes.proofs.Members.{any-default, get-read, get-within}
use Rattle.rdl_sizes.proofs.Facts.{count-is, node-at}
use Rattle.rdl_sizes.proofs.Turns.{as-many, inside-at, read-at}

any-fields : (p : Instance → Bool) (ns : List Instance) → list_any (λ c. is_a kinds.Field c && p c) ns ≡ list_any p (filter (is_a kinds.Field) ns)
any-fields p [] = refl
any-fields p (n ∷ ns) = go (is_a kinds.Field n) (any-fields p ns)
  where
    go : (b : Bool) → list_any (λ c. is_a kinds.Field c && p c) ns ≡ list_any p (filter (is_a kinds.Field) ns) → ((b && p n) || list_any (λ c. is_a kinds.Field c && p c) ns) ≡ list_any p (cond b (n ∷ filter (is_a kinds.Field) ns) (filter (is_a kinds.Field) ns))
    go true e = ap (λ x. p n || x) e
    go false e = e

pub all-below : (e : Elab) → IsClean e → (up : List Instance) (rs : List Node) (ns : List Instance) → AreInside (lineages_of e) up rs rs ns → All (λ r. (out-Node r).id < e.count) rs
all-below e clean up rs ns h = λ i r low.
    let m = inside-at (lineages_of e) up rs rs ns h i (get_or rs i r) (read-at rs i (get_or rs i r) low (again rs i r low)) in
    let in_list = get-within (lineages_of e) (out-Node (get_or rs i r)).id (record { node = m.0; ancestors = up }) m.2.here in
    let n = count-is e clean in
    omega (arith, in_list, n)
  where
    again : (xs : List Node) (i : ℕ) (d : Node) → i < length xs → get_or xs i d ≡ get_or xs i (get_or xs i d)
    again xs i d low = any-default xs i d (get_or xs i d) low

module _ (e : Elab) (up : List Instance) (n : Instance) (rs : List Node) (h : AreInside (lineages_of e) up rs rs (children n)) (p : Instance → Bool) where
  abbrev q : Instance → Bool
  q c = is_a kinds.Field c && p c

  abbrev Told : Node → Bool → Type 0
  Told r b = (c : Instance) → slice_get (nodes_of e) (out-Node r).id ≡ Some c → (out-Node r).kind ≡ kind_of c → b ≡ q c

  pub one-is : (i : ℕ) (r : Node) → i < length rs → r ≡ get_or rs i r → (b : Bool) → Told r b → b ≡ true → true ≡ list_any p (fields_of n)
  one-is i r low is b told t =
      let m = inside-at (lineages_of e) up rs rs (children n) h i r (read-at rs i r low is) in
      let here = node-at e (out-Node r).id (record { node = m.0; ancestors = up }) m.2.here in
      sym (list_any_at q (children n) i m.0 (get-within (children n) i m.0 m.1) (ap q (get-read (children n) i m.0 m.0 m.1) ∙ (sym (told m.0 here m.2.says.kind) ∙ t))) ∙ any-fields p (children n)

  pub none-so-far : (i : ℕ) (r : Node) → i < length rs → r ≡ get_or rs i r → (b : Bool) → Told r b → b ≡ false → list_any q (take i (children n)) ≡ false → list_any q (take (i + 1) (children n)) ≡ false
  none-so-far i r low is b told t before =
      let m = inside-at (lineages_of e) up rs rs (children n) h i r (read-at rs i r low is) in
      let here = node-at e (out-Node r).id (record { node = m.0; ancestors = up }) m.2.here in
      list_any_more q (children n) i m.0 (get-within (children n) i m.0 m.1) ∙ (λ j. before j || (ap q (get-read (children n) i m.0 m.0 m.1) ∙ (sym (told m.0 here m.2.says.kind) ∙ t)) j)

  pub none-is : (i : ℕ) → length rs ≤ i → list_any q (take i (children n)) ≡ false → false ≡ list_any p (fields_of n)
  none-is i past before =
      let many = as-many (lineages_of e) up rs rs (children n) h in
      sym before ∙ (ap (list_any q) (take_all i (children n) (omega (arith, many, past))) ∙ any-fields p (children n))
