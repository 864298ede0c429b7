-- The use of a definition as the top: what fails of it, and the node that it gives.
use Rattle.std.proofs.Common.{◌≡◌, ◌∙◌, ℕ, Bool, true, false, not, ◌&&◌, ◌||◌, cond, nat_lt, List, [], ◌∷◌, ◌++◌, map, flat_map, reverse, Option, None, Some, option_to_list, option_and_then, Ok, Err, refl, sym, ap, append_assoc, append-nil, inl, inr}
use Rattle.rdl_base.specs.declared.fault.Fault.{Fault}
use Rattle.rdl_base.specs.declared.rule.Rule.TheVariants as rules
use Rattle.rdl_tree.specs.declared.expr.Name.{Name}
use Rattle.rdl_tree.specs.declared.item.Def.{Def}
use Rattle.rdl_tree.specs.declared.item.Item.{Item}
use Rattle.rdl_tree.specs.declared.item.Kind.{Kind}
use Rattle.rdl_tree.specs.declared.item.Source.{Source}
use Rattle.rdl_values.specs.Bodies.{Closure, Scope, below_top, around, component_of, scope_at, standing, standing_from}
use Rattle.rdl_values.specs.Faults.{at_, failures, when}
use Rattle.rdl_values.specs.Instances.{Instance, elements, given_by, judged_nodes, top_of}
use Rattle.rdl_values.specs.NoNode.{no_node}
use Rattle.rdl_values.specs.Parameters.{Bound, bound_of}
use Rattle.rdl_values.specs.Parts.{bad_array, dims_of, is_empty, is_long, is_unit, long_path}
use Rattle.rdl_values.specs.Paths.{nowhere}
use Rattle.rdl_values.specs.Phase3.{bad_form, bare_assignments, failures3, is_field, many_parameters, no_top, of_judged, of_node, of_use, too_many_nodes}
use Rattle.rdl_values.specs.Top.{is_addrmap, is_wanted, root, top_at, top_named, top_seen, top_use, top_use_of}
use Rattle.rdl_values.specs.Uses.{Use, seen, values}
use Rattle.rdl_values.specs.Values.{Outcome}
use Rattle.rdl_values.specs.Views.{item_is}
use Rattle.rdl_values.proofs.Clean.{Somewhere, nearest_is, top_nil, unreversed}
use Rattle.rdl_children.proofs.Reached.{Holds}

module _ (scope : Scope) (d : Def) (n : Name) where
  abbrev pub use_at : Use
  use_at = top_use scope d n

  abbrev pub closure_at : Closure
  closure_at = record { def = d; scope = scope }

  abbrev of_bound : List Fault
  of_bound = failures (bound_of use_at closure_at)

  array_none : (k : Kind) → bad_array use_at k ≡ []
  array_none k = go (is_unit k)
    where
      go : (b : Bool) → when (cond b (nat_lt 1 0) (nat_lt 8 0 || false)) (at_ rules.E10 n.place) ≡ []
      go true = refl
      go false = refl

  dims_none : (k : Kind) → dims_of use_at k ≡ Ok []
  dims_none k = go (is_unit k)
    where
      go : (b : Bool) → cond b (Ok []) (values (around scope) []) ≡ Ok []
      go true = refl
      go false = refl

  path_none : (k : Kind) → long_path nowhere use_at k ≡ []
  path_none k = ap (λ o. when (is_long nowhere use_at o) (at_ rules.E11 n.place)) (dims_none k)

  form_none : (k : Kind) → bad_form use_at k ≡ []
  form_none k = go (is_field k) (is_unit k)
    where
      go : (f u : Bool) → when ((not f && (false || false)) || (u && (false || false || false)) || (false && false) || (false && true)) (at_ rules.E12 n.place) ≡ []
      go true true = refl
      go true false = refl
      go false true = refl
      go false false = refl

  nils : (fs : List Fault) → ((((fs ++ []) ++ []) ++ []) ++ []) ++ [] ≡ fs
  nils fs = append-nil ((((fs ++ []) ++ []) ++ []) ++ []) ∙ append-nil (((fs ++ []) ++ []) ++ []) ∙ append-nil ((fs ++ []) ++ []) ∙ append-nil (fs ++ []) ∙ append-nil fs

  -- a top fails in its parameters alone
  top_fails : no_node (top_seen use_at) ≡ of_bound
  top_fails =
      ap (λ b. ((((of_bound ++ []) ++ []) ++ b) ++ long_path nowhere use_at d.kind) ++ []) (array_none d.kind)
      ∙ ap (λ p. ((((of_bound ++ []) ++ []) ++ []) ++ p) ++ []) (path_none d.kind)
      ∙ nils of_bound

  -- and where it has too many
  pub top_use_fails : of_use (top_seen use_at) ≡ of_bound ++ many_parameters closure_at
  top_use_fails =
      ap (λ fs. fs ++ ((many_parameters closure_at ++ bad_form use_at d.kind) ++ [])) top_fails
      ∙ ap (λ b. of_bound ++ ((many_parameters closure_at ++ b) ++ [])) (form_none d.kind)
      ∙ ap (λ fs. of_bound ++ fs) (append-nil (many_parameters closure_at ++ []) ∙ append-nil (many_parameters closure_at))

  abbrev pub node_at : Bound → Instance
  node_at b = record { above = []; path = below_top []; use_ = use_at; closure = closure_at; bound = b }

  abbrev given_for : List Fault → Outcome Bound → List Instance
  given_for fs o = cond (is_empty fs) (elements (top_seen use_at) closure_at o (dims_of use_at d.kind) ++ []) []

  pub top_given : (b : Bound) → bound_of use_at closure_at ≡ Ok b → given_by (top_seen use_at) ≡ node_at b ∷ []
  top_given b e =
      ap (λ fs. given_for fs (bound_of use_at closure_at)) top_fails
      ∙ ap (λ o. given_for (failures o) o) e
      ∙ ap (λ ds. elements (top_seen use_at) closure_at (Ok b) ds ++ []) (dims_none d.kind)

  pub top_not_given : (f : Fault) → bound_of use_at closure_at ≡ Err f → given_by (top_seen use_at) ≡ []
  top_not_given f e = ap (λ fs. given_for fs (bound_of use_at closure_at)) top_fails ∙ ap (λ o. given_for (failures o) o) e

-- The top of a source.

module _ (w : Option (List ℕ)) (s : Source) (u : Use) (is : top_use_of w s ≡ Some u) where
  pub tops_fail : flat_map of_use (map top_seen (option_to_list (top_use_of w s))) ≡ of_use (top_seen u)
  tops_fail = ap (λ o. flat_map of_use (map top_seen (option_to_list o))) is ∙ append-nil (of_use (top_seen u))

  pub tops_given : top_of w s ≡ given_by (top_seen u)
  tops_given = ap (λ o. flat_map (λ u. given_by (top_seen u)) (option_to_list o)) is ∙ append-nil (given_by (top_seen u))

-- The top is a definition among the items of the root.
pub record IsHeld (s : Source) (u : Use) : Type 0 where
  pub before : List Item
  pub def : Def
  pub name : Name
  pub use_is : u ≡ top_use (scope_at (root s) before) def name
  pub holds : Holds s.items.now before def

abbrev IsUseOf : Scope → Def → Use → Type 0
IsUseOf scope d u = (n : Name) × (u ≡ top_use scope d n)

named_def : (w : Option (List ℕ)) (scope : Scope) (d : Def) (u : Use) (o : Option Name) → top_named w scope d o ≡ Some u → IsUseOf scope d u
named_def w scope d u None e = cc
named_def w scope d u (Some n) e = go (is_addrmap d.kind && is_wanted w n) e
  where
    go : (b : Bool) → cond b (Some (top_use scope d n)) None ≡ Some u → IsUseOf scope d u
    go true q = let same : top_use scope d n ≡ u = cc in (n, sym same)
    go false q = cc

held_at : (w : Option (List ℕ)) (s : Source) (before : List Item) (x : Item) (rest : List Item) (u : Use) → s.items.now ≡ before ++ (x ∷ rest) → top_at w s (before, x) ≡ Some u → IsHeld s u
held_at w s before x rest u split e = go (component_of (item_is x)) refl e
  where
    go : (o : Option Def) → component_of (item_is x) ≡ o → option_and_then (λ d. top_named w (scope_at (root s) before) d d.name) o ≡ Some u → IsHeld s u
    go None q h = cc
    go (Some d) q h =
        let named = named_def w (scope_at (root s) before) d u d.name h in
        record { before = before; def = d; name = named.0; use_is = named.1; holds = record { item = x; rest = rest; split = split; is = q } }

held_from : (w : Option (List ℕ)) (s : Source) (before is : List Item) (u : Use) → before ++ is ≡ s.items.now → Somewhere (λ i. top_at w s i ≡ Some u) (standing_from before is) → IsHeld s u
held_from w s before [] u e f = absurd f
held_from w s before (i ∷ is) u e (inl f) = held_at w s before i is u (sym e) f
held_from w s before (i ∷ is) u e (inr f) = held_from w s (before ++ (i ∷ [])) is u (append_assoc before (i ∷ []) is ∙ e) f

pub top_held : (w : Option (List ℕ)) (s : Source) (u : Use) → top_use_of w s ≡ Some u → IsHeld s u
top_held None s u e = held_from None s [] s.items.now u refl (unreversed (λ i. top_at None s i ≡ Some u) (standing s.items.now) (nearest_is (top_at None s) (reverse (standing s.items.now)) u e))
top_held (Some w) s u e = held_from (Some w) s [] s.items.now u refl (nearest_is (top_at (Some w) s) (standing s.items.now) u e)

-- Where nothing fails, there is a top, and it gives a node.

left-nil : (xs ys : List Fault) → xs ++ ys ≡ [] → xs ≡ []
left-nil [] ys e = refl
left-nil (x ∷ xs) ys e = cc

right-nil : (xs ys : List Fault) → xs ++ ys ≡ [] → ys ≡ []
right-nil [] ys e = e
right-nil (x ∷ xs) ys e = cc

module _ (w : Option (List ℕ)) (s : Source) (clean : failures3 w s ≡ []) where
  tops_clean : flat_map of_use (map top_seen (option_to_list (top_use_of w s))) ≡ []
  unfolding failures3
  tops_clean =
      let bare = no_top (top_use_of w s) ++ bare_assignments s in
      let tops = flat_map of_use (map top_seen (option_to_list (top_use_of w s))) in
      let own = of_judged (seen [] (root s)) (root s) in
      let nodes = flat_map of_node (judged_nodes w s) in
      right-nil bare tops (left-nil (bare ++ tops) own (left-nil ((bare ++ tops) ++ own) nodes (left-nil (((bare ++ tops) ++ own) ++ nodes) (too_many_nodes w s) clean)))

  pub top_stands : top_of w s ≡ [] → ⊥
  top_stands none = go (top_use_of w s) refl
    where
      go : (o : Option Use) → top_use_of w s ≡ o → ⊥
      go None e = let no = sym (ap no_top e) ∙ top_nil w s clean in cc
      go (Some u) e = by (bound_of (use_at scope h.def h.name) (closure_at scope h.def h.name)) refl
        where
          h : IsHeld s u
          h = top_held w s u e

          scope : Scope
          scope = scope_at (root s) h.before

          by : (o : Outcome Bound) → bound_of (use_at scope h.def h.name) (closure_at scope h.def h.name) ≡ o → ⊥
          by (Ok b) q = let no = sym (tops_given w s u e ∙ ap (λ v. given_by (top_seen v)) h.use_is ∙ top_given scope h.def h.name b q) ∙ none in cc
          by (Err f) q =
              let all = sym (tops_fail w s u e ∙ ap (λ v. of_use (top_seen v)) h.use_is ∙ top_use_fails scope h.def h.name ∙ ap (λ o. failures o ++ many_parameters (closure_at scope h.def h.name)) q) ∙ tops_clean in
              cc
