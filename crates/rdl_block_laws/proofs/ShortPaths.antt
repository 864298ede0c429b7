-- The path of a register is shorter than that of any of its fields, which has 900 bytes at most.
use Rattle.std.proofs.Common.{◌≡◌, ◌∙◌, inl, inr, ℕ, zero, suc, ◌+◌, ◌<◌, ◌≤◌, Bool, true, false, not, cond, nat_lt, List, [], ◌∷◌, ◌++◌, append_assoc, flat_map, length, map, Option, Some, None, Ok, Err, refl, sym, ap, subst, arith}
use Rattle.std.specs.Prelude.{option_to_list}
use Rattle.std.specs.List.{join_with_byte}
use Rattle.std.proofs.lemmas.Bool.{ltb-false}
use Rattle.std.proofs.lemmas.List.{length-append}
use Rattle.rdl_base.specs.declared.fault.Fault.{Fault}
use Rattle.rdl_base.specs.declared.rule.Rule.TheVariants as rules
use Rattle.rdl_tree.specs.declared.item.Kind.TheVariants as kind
use Rattle.rdl_tree.specs.declared.node.Elab.{Elab}
use Rattle.rdl_values.specs.Bodies.{Body, Closure, Path}
use Rattle.rdl_values.specs.Elaborated.{nodes_of}
use Rattle.rdl_values.specs.Faults.{at_, failures, when}
use Rattle.rdl_values.specs.Instances.{Instance, body, children, elements, given_by, is_empty, kind_of, rows, seen_in}
use Rattle.rdl_values.specs.NoNode.{bad_alias, may_hold, most_names, name_twice, no_node, of_closure, of_type}
use Rattle.rdl_values.specs.Parameters.{Bound, bad_arguments, bound_of}
use Rattle.rdl_values.specs.Parts.{bad_array, bad_parts, dims_of, is_long, last_step, long_path}
use Rattle.rdl_values.specs.Paths.{Step, depth_in, in_node, joined, path_text, steps_in, steps_of, words_of}
use Rattle.rdl_values.specs.Uses.{Seen, Use, parent_of, seen, uses}
use Rattle.rdl_values.specs.Values.{Outcome}
use Rattle.rdl_values.specs.Verdict.{IsListOf}
use Rattle.rdl_layers.specs.Fields.{fields_of, is_a}
use Rattle.rdl_nodes.proofs.Members.{In, flat-in, map-in}
use Rattle.rdl_fields.proofs.Lists.{filter-in, filter-true}
use Rattle.rdl_rules.specs.Answers.{meaning_fails}
use Rattle.rdl_rules.specs.FieldRules.{at_node, of_view}
use Rattle.rdl_rules.specs.Numbers.{registers}
use Rattle.rdl_sound_laws.proofs.Faultless.{register-nil}
use Rattle.rdl_sound_laws.proofs.Placed.{nil-left, nil-right, when-nil}
use Rattle.rdl_sound_laws.proofs.RegisterNames.{field-kind}

-- Texts of paths.

longer : (first : List ℕ) (ws vs : List (List ℕ)) → length (join_with_byte 36 (first ∷ ws)) ≤ length (join_with_byte 36 ((first ∷ ws) ++ vs))
longer first [] [] = omega arith
longer first [] (v ∷ vs) = let whole = length-append first (36 ∷ join_with_byte 36 (v ∷ vs)) in omega (arith, whole)
longer first (w ∷ ws) vs =
    let rest = longer w ws vs in
    let own = length-append first (36 ∷ join_with_byte 36 (w ∷ ws)) in
    let more = length-append first (36 ∷ join_with_byte 36 ((w ∷ ws) ++ vs)) in
    omega (arith, rest, own, more)

longer-words : (ws vs : List (List ℕ)) → length (join_with_byte 36 ws) ≤ length (join_with_byte 36 (ws ++ vs))
longer-words [] vs = omega arith
longer-words (w ∷ ws) vs = longer w ws vs

pub words-append : (ss ts : List Step) → flat_map words_of (ss ++ ts) ≡ flat_map words_of ss ++ flat_map words_of ts
words-append [] ts = refl
words-append (s ∷ ss) ts = ap (λ ws. words_of s ++ ws) (words-append ss ts) ∙ sym (append_assoc (words_of s) (flat_map words_of ss) (flat_map words_of ts))

longer-path : (ss : List Step) (s : Step) → length (joined ss) ≤ length (joined (ss ++ (s ∷ [])))
longer-path ss s =
    let more = longer-words (flat_map words_of ss) (flat_map words_of (s ∷ [])) in
    subst (λ ws. length (joined ss) ≤ length (join_with_byte 36 ws)) (sym (words-append ss (s ∷ []))) more

-- The use of a field.

is-nil : {X : Type 0} (xs : List X) → is_empty xs ≡ true → xs ≡ []
is-nil [] e = refl
is-nil (x ∷ xs) e = cc e

-- what a use that gives a node has
record Gives (u : Seen) (n : Instance) : Type 0 where
  of : Closure
  closure : u.use_.closure ≡ Some of
  none : no_node u ≡ []
  same : n.closure ≡ of

gives : (u : Seen) (n : Instance) → In (given_by u) n → Gives u n
gives u n h = go (is_empty (no_node u)) refl h
  where
    from : (o : Option Closure) → u.use_.closure ≡ o → no_node u ≡ [] → In (flat_map (λ c. elements u c (bound_of u.use_ c) (dims_of u.use_ c.def.kind)) (option_to_list o)) n → Gives u n
    from None e none h = absurd h
    from (Some c) e none h = let f = flat-in (λ c. elements u c (bound_of u.use_ c) (dims_of u.use_ c.def.kind)) (c ∷ []) n h in by f.0 f.1 f.2
      where
        in-rows : (d : Closure) (b : Outcome Bound) (ds : Outcome (List ℕ)) → In (elements u d b ds) n → n.closure ≡ d
        in-rows d (Ok b) (Ok ds) i = let m = map-in _ (rows ds) n i in ap (λ (x : Instance). x.closure) (sym m.2)
        in-rows d (Ok b) (Err f) i = absurd i
        in-rows d (Err f) ds i = absurd i

        by : (d : Closure) → In (c ∷ []) d → In (elements u d (bound_of u.use_ d) (dims_of u.use_ d.def.kind)) n → Gives u n
        by d (inl q) i = record { of = c; closure = e; none = none; same = in-rows d (bound_of u.use_ d) (dims_of u.use_ d.def.kind) i ∙ sym q }
        by d (inr x) i = absurd x

    go : (t : Bool) → is_empty (no_node u) ≡ t → In (cond t (flat_map (λ c. elements u c (bound_of u.use_ c) (dims_of u.use_ c.def.kind)) (option_to_list u.use_.closure)) []) n → Gives u n
    go true e h = from u.use_.closure refl (is-nil (no_node u) e) h
    go false e h = absurd h

-- a use that gives a node has no long path
not-long : (u : Seen) (n : Instance) → Gives u n → is_long u.parent u.use_ (dims_of u.use_ (kind_of n)) ≡ false
not-long u n g =
    let c = g.of in
    let k = c.def.kind in
    let type : of_closure u c ≡ [] = ap (of_type u) (sym g.closure) ∙ nil-right (name_twice u) (of_type u u.use_.closure) g.none in
    let front = when (not (may_hold u.parent k)) (at_ rules.E5 u.use_.name.place) ++ bad_arguments u.use_ c ++ failures (bound_of u.use_ c) ++ bad_parts u.use_ ++ when (nat_lt most_names (depth_in u.parent)) (at_ rules.E8 u.use_.name.place) ++ bad_array u.use_ k in
    let path = nil-right front (long_path u.parent u.use_ k) (nil-left (front ++ long_path u.parent u.use_ k) (bad_alias u.earlier u.use_) type) in
    ap (λ (x : Closure). is_long u.parent u.use_ (dims_of u.use_ x.def.kind)) g.same ∙ when-nil (is_long u.parent u.use_ (dims_of u.use_ k)) (at_ rules.E11 u.use_.name.place) path

-- what stands in a node's body stands in the node
in-body : (r : Instance) (u : Seen) → In (seen_in r) u → u.parent ≡ in_node r.path (kind_of r)
in-body r u h = let m = map-in _ _ u h in ap (λ (x : Seen). x.parent) (sym m.2)

short-field : (r f : Instance) → In (fields_of r) f → length (path_text r.path) ≤ 900
short-field r f h =
    let child = flat-in given_by (seen_in r) f (filter-in (is_a kind.Field) (children r) f h) in
    let u = child.0 in
    let long = not-long u f (gives u f child.2) in
    let field : kind_of f ≡ kind.Field = field-kind f (filter-true (is_a kind.Field) (children r) f h) in
    let dims : dims_of u.use_ (kind_of f) ≡ Ok [] = ap (dims_of u.use_) field in
    let last = last_step u.use_ [] in
    let few = ltb-false 900 (length (joined (steps_in u.parent last))) (sym (ap (is_long u.parent u.use_) dims) ∙ long) in
    let at : steps_in u.parent last ≡ steps_of r.path ++ (last ∷ []) = ap (λ p. steps_in p last) (in-body r u child.1) in
    let same = ap (λ ss. length (joined ss)) at in
    let more = longer-path (steps_of r.path) last in
    omega (arith, few, same, more)

-- a register has a field, and so a short path
pub short-register : (e : Elab) → IsListOf (meaning_fails e) [] → (r : Instance) → In (registers (nodes_of e)) r → length (path_text r.path) ≤ 900
short-register e clean r h = some (fields_of r) refl
  where
    none : is_empty (fields_of r) ≡ false
    none = when-nil (is_empty (fields_of r)) (at_ rules.F14 r.use_.name.place) (nil-right _ (at_node rules.F14 r (is_empty (fields_of r))) (register-nil e clean r h))

    some : (fs : List Instance) → fields_of r ≡ fs → length (path_text r.path) ≤ 900
    some [] q = let bad : true ≡ false = sym (ap is_empty q) ∙ none in cc bad
    some (f ∷ fs) q = short-field r f (subst (λ gs. In gs f) (sym q) (inl refl))
