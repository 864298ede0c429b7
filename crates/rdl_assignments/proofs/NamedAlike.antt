-- Look-ups in bodies that are named alike.
use Rattle.std.proofs.Common.{◌≡◌, ◌∙◌, ℕ, Bool, true, false, ◌||◌, List, [], ◌∷◌, is_some, bytes_eq, map, Option, None, Some, Ok, refl, sym, ap}
use Rattle.std.specs.List.{list_any}
use Rattle.std.specs.Option.{option_or}
use Rattle.rdl_base.specs.declared.rule.Rule.TheVariants as rules
use Rattle.rdl_tree.specs.declared.expr.Expr.{Expr}
use Rattle.rdl_tree.specs.declared.expr.Expr.TheVariants as expr
use Rattle.rdl_tree.specs.declared.expr.Path.{Path}
use Rattle.rdl_tree.specs.declared.expr.Name.{Name}
use Rattle.rdl_values.specs.Values.{Around, bare_name, entry_named, entry_value, nearest, number, or_fails, parameter, parameter_of, path_place, then, value_of, visible_enum}
use Rattle.rdl_values.specs.Views.{steps_of}
use Rattle.rdl_values.specs.Visible.{enum_before}
use Rattle.rdl_assignments.specs.Steady.{AreNamedAs, IsSteady, enums_of, parameter_names}

-- Parameters.

-- whether one of some names is this
abbrev has-name : List ℕ → List (List ℕ) → Bool
has-name n ns = list_any (λ m. bytes_eq m n) ns

named-in : {A : Type 0} (n : List ℕ) (xs : List (List ℕ × A)) → is_some (entry_named n xs) ≡ has-name n (map (λ x. x.0) xs)
named-in n [] = refl
named-in n (x ∷ xs) = go (bytes_eq x.0 n) refl (named-in n xs)
  where
    go : (b : Bool) → bytes_eq x.0 n ≡ b → is_some (entry_named n xs) ≡ has-name n (map (λ y. y.0) xs) → is_some (entry_named n (x ∷ xs)) ≡ has-name n (map (λ y. y.0) (x ∷ xs))
    go true e rest = rw (e) refl
    go false e rest = rw (e) rest

either : {A : Type 0} (o p : Option A) → is_some (option_or o p) ≡ is_some o || is_some p
either (Some x) p = refl
either None p = refl

named-along : (n : List ℕ) (ws : Around) → is_some (parameter ws n) ≡ list_any (has-name n) (parameter_names ws)
named-along n [] = refl
named-along n (w ∷ ws) = either (entry_named n w.bound) (parameter ws n) ∙ (λ j. named-in n w.bound j || named-along n ws j)

is-none : {A : Type 0} (o : Option A) → is_some o ≡ false → o ≡ None
is-none None e = refl
is-none (Some x) e = cc

pub none_alike : (v w : Around) (o : Option Name) → parameter_names w ≡ parameter_names v → parameter_of v o ≡ None → parameter_of w o ≡ None
none_alike v w None e h = refl
none_alike v w (Some n) e h =
    is-none (parameter w n.text.now) (named-along n.text.now w ∙ ap (list_any (has-name n.text.now)) e ∙ sym (named-along n.text.now v) ∙ ap is_some h)

-- the name of no parameter in these bodies is none in those that are named as they are
pub ref_steady : (same : Bool) (v : Around) (e : Expr) (path : Path) (item : Option Name) → e ≡ expr.Ref path item → parameter_of v (bare_name path item) ≡ None → IsSteady same v e
ref_steady same v e path item is none u w a b =
    let left = ap (λ o. or_fails o rules.V1 (path_place (steps_of path))) (none_alike v u (bare_name path item) a.parameters none) in
    let right = ap (λ o. or_fails o rules.V1 (path_place (steps_of path))) (none_alike v w (bare_name path item) b.parameters none) in
    ap (value_of u) is ∙ left ∙ sym right ∙ ap (value_of w) (sym is)

-- Enumerations.

pub enums_along : (n : Name) (ws : Around) → visible_enum ws n ≡ nearest (λ es. enum_before n (record { bound = []; enums = es })) (enums_of ws)
enums_along n [] = refl
enums_along n (w ∷ ws) = ap (option_or (enum_before n w)) (enums_along n ws)

pub enum_alike : (u w : Around) (n : Name) → enums_of u ≡ enums_of w → visible_enum u n ≡ visible_enum w n
enum_alike u w n e = enums_along n u ∙ ap (nearest (λ es. enum_before n (record { bound = []; enums = es }))) e ∙ sym (enums_along n w)

pub entry_alike : (u w : Around) (e n : Name) → enums_of u ≡ enums_of w → entry_value u e n ≡ entry_value w e n
entry_alike u w e n same = ap (λ o. then (or_fails o rules.V1 e.place) λ v. then (or_fails (entry_named n.text.now v.entries) rules.V1 n.place) λ k. Ok (number k)) (enum_alike u w e same)

pub same_enums : (same : Bool) (v u w : Around) → same ≡ true → AreNamedAs same v u → AreNamedAs same v w → enums_of u ≡ enums_of w
same_enums same v u w e a b = a.enums e ∙ sym (b.enums e)

pub entry_steady : (same : Bool) (v : Around) (e : Expr) (n m : Name) → e ≡ expr.EntryOf n m → same ≡ true → IsSteady same v e
entry_steady same v e n m is t u w a b = ap (value_of u) is ∙ entry_alike u w n m (same_enums same v u w t a b) ∙ ap (value_of w) (sym is)
