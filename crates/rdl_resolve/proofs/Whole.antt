-- A whole reference.
use Rattle.std.proofs.Common.{◌≡◌, ◌∙◌, ℕ, ◌≤◌, ◌<◌, Bool, true, false, cond, List, [], ◌∷◌, length, get_or, map, Option, None, Some, option_map, refl, sym, ap, subst, arith}
use Rattle.std.specs.Cmp.Lexicographic.{nat_list_eq_equiv}
use Rattle.plain_lemmas.proofs.Lists.{length-map as long-map, list_any-alike as any-same}
use Rattle.rdl_tree.specs.declared.expr.Path as code
use Rattle.rdl_tree.specs.declared.expr.Step.{Step}
use Rattle.rdl_tree.specs.declared.node.Elab.{Elab}
use Rattle.rdl_values.specs.Bodies.{Layer, Path, Scope, around}
use Rattle.rdl_values.specs.Elaborated.{nodes_of}
use Rattle.rdl_values.specs.Lineages.{Lineage, children_in, lineages_of}
use Rattle.rdl_values.specs.Values.{Around}
use Rattle.rdl_values.specs.Views.{steps_of}
use Rattle.rdl_layers.specs.Assignments.{led_down}
use Rattle.rdl_layers.specs.Says.{IsBodyNumber}
use Rattle.rdl_refs.specs.Leads.{has_first, has_name_of, led_in, led_to, members_of, nearest_with}
use Rattle.rdl_members.specs.Found.{is_named, members_at}
use Rattle.rdl_resolve.specs.Led.{is_exactly}
use Rattle.rdl_resolve.specs.Outward.{IsNearest, IsNumberOf, first_with}
use Rattle.rdl_resolve.proofs.Chaining.{path-of}

pub bodies-many : (scope : Scope) (env : Around) (n : ℕ) → around scope ≡ env → n ≡ length env → n ≡ length (map (λ l. l.node) scope)
bodies-many scope env n seen is = is ∙ (ap length (sym seen) ∙ (long-map (λ l. l.names) scope ∙ sym (long-map (λ l. l.node) scope)))

agree : (all : List Lineage) (t : Step) (ts : List Step) (scope : Scope) → first_with all t.name.text.now (map (λ l. l.node) scope) ≡ option_map (λ l. l.node) (nearest_with all (t ∷ ts) scope)
agree all t ts [] = refl
agree all t ts (l ∷ outer) =
    ap (λ b. cond b (Some l.node) (first_with all t.name.text.now (map (λ l. l.node) outer))) (any-same (λ n. is_named t.name.text.now n.node) (has_name_of (t ∷ ts)) (members_of all l.node) (λ n. nat_list_eq_equiv.symm n.node.use_.name.text.now t.name.text.now))
    ∙ go (has_first all (t ∷ ts) l) (agree all t ts outer)
  where
    go : (b : Bool) → first_with all t.name.text.now (map (λ l. l.node) outer) ≡ option_map (λ l. l.node) (nearest_with all (t ∷ ts) outer)
        → cond b (Some l.node) (first_with all t.name.text.now (map (λ l. l.node) outer)) ≡ option_map (λ l. l.node) (cond b (Some l) (nearest_with all (t ∷ ts) outer))
    go true h = refl
    go false h = h

nothing-led : (all : List Lineage) (scope : Scope) (o : Option Layer) → led_in all [] scope o ≡ []
nothing-led all scope None = refl
nothing-led all scope (Some l) = refl

pub no-steps : (e : Elab) (p : code.Path) (scope : Scope) (ts : List Step) → steps_of p ≡ ts → length ts < 1 → led_to (lineages_of e) p scope ≡ []
unfolding led_to
no-steps e p scope [] is l = ap (λ ts. led_in (lineages_of e) ts scope (nearest_with (lineages_of e) ts scope)) is ∙ nothing-led (lineages_of e) scope (nearest_with (lineages_of e) [] scope)
no-steps e p scope (t ∷ ts) is l = absurd (omega (arith, l))

pub led-nowhere : (e : Elab) (p : code.Path) (scope : Scope) (ts : List Step) (d : Step) → steps_of p ≡ ts → 1 ≤ length ts → IsNearest e (get_or ts 0 d).name.text.now (map (λ l. l.node) scope) None → led_to (lineages_of e) p scope ≡ []
unfolding led_to
led-nowhere e p scope [] d is l near = absurd (omega (arith, l))
led-nowhere e p scope (t ∷ ts) d is l near =
    ap (λ us. led_in (lineages_of e) us scope (nearest_with (lineages_of e) us scope)) is
    ∙ by (nearest_with (lineages_of e) (t ∷ ts) scope) (subst (λ o. IsNumberOf e o None) (agree (lineages_of e) t ts scope) near)
  where
    by : (o : Option Layer) → IsNumberOf e (option_map (λ l. l.node) o) None → led_in (lineages_of e) (t ∷ ts) scope o ≡ []
    by None h = refl
    by (Some l) h = cc (h.1)

pub led-there : (e : Elab) (p : code.Path) (scope : Scope) (ts : List Step) (d : Step) (body : ℕ) → steps_of p ≡ ts → 1 ≤ length ts → IsNearest e (get_or ts 0 d).name.text.now (map (λ l. l.node) scope) (Some body)
    → (o : Option Path) × IsBodyNumber (nodes_of e) o body × (led_to (lineages_of e) p scope ≡ led_down children_in (is_exactly (around scope)) (members_at (lineages_of e) body) ts)
unfolding led_to
led-there e p scope [] d body is l near = absurd (omega (arith, l))
led-there e p scope (t ∷ ts) d body is l near = by (nearest_with (lineages_of e) (t ∷ ts) scope) refl (subst (λ o. IsNumberOf e o (Some body)) (agree (lineages_of e) t ts scope) near)
  where
    by : (o : Option Layer) → nearest_with (lineages_of e) (t ∷ ts) scope ≡ o → IsNumberOf e (option_map (λ l. l.node) o) (Some body)
        → (o : Option Path) × IsBodyNumber (nodes_of e) o body × (led_in (lineages_of e) (steps_of p) scope (nearest_with (lineages_of e) (steps_of p) scope) ≡ led_down children_in (is_exactly (around scope)) (members_at (lineages_of e) body) (t ∷ ts))
    by None q h = cc h
    by (Some l) q h =
        let same : body ≡ h.0 = cc (h.1) in
        let number = subst (IsBodyNumber (nodes_of e) l.node) (sym same) h.2 in (
          l.node,
          number,
          ap (λ us. led_in (lineages_of e) us scope (nearest_with (lineages_of e) us scope)) is
              ∙ (ap (led_in (lineages_of e) (t ∷ ts) scope) q
              ∙ ap (λ o. led_down children_in (is_exactly (around scope)) (members_of (lineages_of e) o) (t ∷ ts)) (sym (path-of e l.node body number))),
        )
