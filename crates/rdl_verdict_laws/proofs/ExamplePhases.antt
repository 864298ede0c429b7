-- The tree of the first example breaks no rule.
use Rattle.std.proofs.Common.{◌≡◌, ℕ, zero, suc, ◌<◌, ◌⊎◌, inr, true, false, Option, Some, None, List, [], ◌∷◌, get_or, slice_get, Contains, refl, sym, ap, ◌∙◌, subst, arith}
use Rattle.std.specs.Fmt.{digits}
use Rattle.std.specs.List.Sorted.{IsStrictlySortedBy}
use Rattle.rdl_base.specs.declared.fault.Fault.{Fault}
use Rattle.rb_base.specs.declared.place.Place.{Place}
use Rattle.rdl_base.specs.declared.rule.Rule.{Rule}
use Rattle.rdl_base.specs.declared.rule.Rule.TheVariants as rules
use Rattle.rdl_tree.specs.declared.expr.Path.{roll-Path}
use Rattle.rdl_props.specs.Table.{reference_props, props}
use Rattle.rdl_values.specs.Faults.{at_}
use Rattle.rdl_values.specs.Instances.{nodes}
use Rattle.rdl_values.specs.Lineages.{lineages}
use Rattle.rdl_values.specs.Phase3.{failures3, fails3}
use Rattle.rdl_values.specs.Verdict.{Fails, FirstOf, IsListOf}
use Rattle.rdl_layers.specs.Phase4.{failures4, fails4}
use Rattle.rdl_layers.specs.Settings.{setting}
use Rattle.rdl_addr.specs.Layout.{layout}
use Rattle.rdl_addr.specs.Rules.{failures_ab, all_groups}
use Rattle.rdl_refs.specs.Follows.{FailsR7, edges_of}
use Rattle.rdl_refs.specs.Graph.{Edges, GoesOn}
use Rattle.rdl_refs.specs.Items.{failures_r, items}
use Rattle.rdl_refs.specs.Leads.{led_to}
use Rattle.rdl_rules.specs.Phase5.{failures5, fails5}
use Rattle.rdl_rules.specs.Phase6.{failures6, fails6}
use Rattle.rdl_verdict.specs.Verdict.{tree_phases}
use Rattle.rdl_verdict_laws.proofs.BlockSources.{one_register}

none_in : (xs : List Fault) (f : Fault) → xs ≡ [] → Contains xs f → ⊥
none_in xs f e c = let d = subst (λ ys. Contains ys f) e c in omega (arith, d.1)

-- where nothing fails, the list of failures is empty
no_failure : (P : Fails) → ((r : Rule) (p : Place) → P r p → ⊥) → IsListOf P []
unfolding IsStrictlySortedBy
no_failure P none = record { ordered = tt; exact = λ f. (λ c. absurd (none_in [] f refl c), λ h. absurd (none f.rule f.place h)) }

clean3 : failures3 None one_register ≡ []
unfolding nodes lineages setting items led_to layout all_groups failures3 digits props reference_props roll-Path denote.Hole.Carrier.roll Rattle.rdl_tree.specs.declared.expr.Expr.TheBlock.hidden-the_row-Step-1 denote.Hole.Carrier.hidden Rattle.rdl_tree.specs.declared.item.Item.TheBlock.hidden-the_row-Item-0
clean3 = refl

clean4 : failures4 None one_register ≡ []
unfolding nodes lineages setting items led_to layout all_groups failures4 digits props reference_props roll-Path denote.Hole.Carrier.roll Rattle.rdl_tree.specs.declared.expr.Expr.TheBlock.hidden-the_row-Step-1 denote.Hole.Carrier.hidden Rattle.rdl_tree.specs.declared.item.Item.TheBlock.hidden-the_row-Item-0
clean4 = refl

clean5 : failures5 None one_register ≡ []
unfolding nodes lineages setting items led_to layout all_groups failures_ab failures_r digits props reference_props roll-Path denote.Hole.Carrier.roll Rattle.rdl_tree.specs.declared.expr.Expr.TheBlock.hidden-the_row-Step-1 denote.Hole.Carrier.hidden Rattle.rdl_tree.specs.declared.item.Item.TheBlock.hidden-the_row-Item-0
clean5 = refl

clean6 : failures6 None one_register ≡ []
unfolding nodes lineages setting items led_to layout all_groups failures6 digits props reference_props roll-Path denote.Hole.Carrier.roll Rattle.rdl_tree.specs.declared.expr.Expr.TheBlock.hidden-the_row-Step-1 denote.Hole.Carrier.hidden Rattle.rdl_tree.specs.declared.item.Item.TheBlock.hidden-the_row-Item-0
clean6 = refl

-- the reductions of the field's value refer to it, and nothing else refers to anything
abbrev edges : Edges
edges = [] ∷ [] ∷ [] ∷ (2 ∷ []) ∷ (2 ∷ []) ∷ (2 ∷ []) ∷ [] ∷ [] ∷ [] ∷ [] ∷ [] ∷ [] ∷ []

edges_are : edges_of (lineages None one_register) ≡ edges
unfolding nodes lineages setting items led_to layout all_groups edges_of digits props reference_props roll-Path denote.Hole.Carrier.roll Rattle.rdl_tree.specs.declared.expr.Expr.TheBlock.hidden-the_row-Step-1 denote.Hole.Carrier.hidden Rattle.rdl_tree.specs.declared.item.Item.TheBlock.hidden-the_row-Item-0
edges_are = refl

-- from there nothing can be followed for two steps
abbrev Step : ℕ → ℕ → Type 0
Step a b = (bs : List ℕ) × (slice_get edges a ≡ Some bs) × Contains bs b

some_is : (x y : List ℕ) → Some x ≡ Some y → x ≡ y
some_is x y e = cc

none_from : (bs : List ℕ) (b : ℕ) → [] ≡ bs → Contains bs b → ⊥
none_from bs b e c = let d : Contains [] b = subst (λ xs. Contains xs b) (sym e) c in omega (arith, d.1)

first_of : (bs : List ℕ) (b : ℕ) → 2 ∷ [] ≡ bs → Contains bs b → b ≡ 2
first_of bs b e c = let d : Contains (2 ∷ []) b = subst (λ xs. Contains xs b) (sym e) c in at d.0 d.1 d.2
  where
    at : (k : ℕ) → k < 1 → get_or (2 ∷ []) k b ≡ b → b ≡ 2
    at zero l e = sym e
    at (suc k) l e = absurd (omega (arith, l))

-- only the field's value is referred to, which is item 2
to_value : (a b : ℕ) → Step a b → b ≡ 2
to_value zero b s = absurd (none_from s.0 b (some_is [] s.0 s.1) s.2)
to_value (suc zero) b s = absurd (none_from s.0 b (some_is [] s.0 s.1) s.2)
to_value (suc (suc zero)) b s = absurd (none_from s.0 b (some_is [] s.0 s.1) s.2)
to_value (suc (suc (suc zero))) b s = first_of s.0 b (some_is (2 ∷ []) s.0 s.1) s.2
to_value (suc (suc (suc (suc zero)))) b s = first_of s.0 b (some_is (2 ∷ []) s.0 s.1) s.2
to_value (suc (suc (suc (suc (suc zero))))) b s = first_of s.0 b (some_is (2 ∷ []) s.0 s.1) s.2
to_value (suc (suc (suc (suc (suc (suc zero)))))) b s = absurd (none_from s.0 b (some_is [] s.0 s.1) s.2)
to_value (suc (suc (suc (suc (suc (suc (suc zero))))))) b s = absurd (none_from s.0 b (some_is [] s.0 s.1) s.2)
to_value (suc (suc (suc (suc (suc (suc (suc (suc zero)))))))) b s = absurd (none_from s.0 b (some_is [] s.0 s.1) s.2)
to_value (suc (suc (suc (suc (suc (suc (suc (suc (suc zero))))))))) b s = absurd (none_from s.0 b (some_is [] s.0 s.1) s.2)
to_value (suc (suc (suc (suc (suc (suc (suc (suc (suc (suc zero)))))))))) b s = absurd (none_from s.0 b (some_is [] s.0 s.1) s.2)
to_value (suc (suc (suc (suc (suc (suc (suc (suc (suc (suc (suc zero))))))))))) b s = absurd (none_from s.0 b (some_is [] s.0 s.1) s.2)
to_value (suc (suc (suc (suc (suc (suc (suc (suc (suc (suc (suc (suc k)))))))))))) b s = let e : None ≡ Some s.0 = s.1 in cc

two_steps : (a : ℕ) → GoesOn edges 2 a → ⊥
two_steps a g = let there : Step g.0 g.2.0 = g.2.1 in
    let here : Step 2 g.2.0 = subst (λ z. Step z g.2.0) (to_value a g.0 g.1) there in
    none_from here.0 g.2.0 (some_is [] here.0 here.1) here.2

no_circle : (p : Place) → FailsR7 (lineages None one_register) p → ⊥
no_circle p h = two_steps h.0 (subst (λ (es : Edges). GoesOn es 2 h.0) edges_are (h.3 2))

no_meaning : (r : Rule) (p : Place) → fails6 None one_register r p → ⊥
no_meaning rules.R7 p h = no_circle p h
no_meaning r p h = none_in (failures6 None one_register) (at_ r p) clean6 h

pub phases_clean : FirstOf (tree_phases None one_register) []
phases_clean =
    inr (
      no_failure (fails3 None one_register) (λ r p h. none_in (failures3 None one_register) (at_ r p) clean3 h),
      inr (
        no_failure (fails4 None one_register) (λ r p h. none_in (failures4 None one_register) (at_ r p) clean4 h),
        inr (
          no_failure (fails5 None one_register) (λ r p h. none_in (failures5 None one_register) (at_ r p) clean5 h),
          inr (no_failure (fails6 None one_register) no_meaning, refl),
        ),
      ),
    )
