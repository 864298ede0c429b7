-- What the nodes of a use have, and that none stand too deep or in a signal.
use Rattle.std.proofs.Common.{◌≡◌, ℕ, Bool, true, false, not, cond, nat_lt, List, [], ◌∷◌, ◌++◌, map, flat_map, Option, None, Some, option_to_list, Ok, Err, refl, subst}
use Rattle.std.specs.List.{AllByRecursion}
use Rattle.rdl_base.specs.declared.fault.Fault.{Fault}
use Rattle.rdl_base.specs.declared.rule.Rule.TheVariants as rules
use Rattle.rdl_tree.specs.declared.item.Source.{Source}
use Rattle.rdl_values.specs.Bodies.{Body, Closure, below_top, standing}
use Rattle.rdl_values.specs.Faults.{at_, when, failures}
use Rattle.rdl_values.specs.Instances.{Instance, kind_of, body, elements, given_by, seen_in, children, signals, top_of, rows, most_names}
use Rattle.rdl_values.specs.NoNode.{no_node, name_twice, of_closure, of_type, may_hold, bad_alias}
use Rattle.rdl_values.specs.Parameters.{Bound, bound_of, bad_arguments}
use Rattle.rdl_values.specs.Parts.{dims_of, bad_parts, bad_array, long_path, is_empty}
use Rattle.rdl_values.specs.Paths.{at_root, in_node, depth_in}
use Rattle.rdl_values.specs.Top.{root, top_seen, top_use_of}
use Rattle.rdl_values.specs.Uses.{Use, Seen, seen, uses, parent_of}
use Rattle.rdl_values.specs.Given.{IsGivenBy}
use Rattle.rdl_values.specs.Values.{Outcome}
use Rattle.plain_lemmas.proofs.Lists.{each-append, each-flat_map, each-imp}

-- Lists.

pub each-map : {X Y : Type 0} (P : Y → Type 0) (f : X → Y) (xs : List X) → ((x : X) → P (f x)) → AllByRecursion P (map f xs)
each-map P f [] h = tt
each-map P f (x ∷ xs) h = (h x, each-map P f xs h)

pub none_in : (xs ys : List Fault) → is_empty (xs ++ ys) ≡ true → (is_empty xs ≡ true) × (is_empty ys ≡ true)
none_in [] ys h = (refl, h)
none_in (x ∷ xs) ys h = cc

pub when_none : (t : Bool) (f : Fault) → is_empty (when t f) ≡ true → t ≡ false
when_none false f h = refl
when_none true f h = cc

-- the nodes of a use are given by it

pub given-all : (s : Seen) → AllByRecursion (IsGivenBy s) (given_by s)
given-all s = clean (is_empty (no_node s)) refl
  where
    elements_given : (c : Closure) → is_empty (no_node s) ≡ true → s.use_.closure ≡ Some c → (b : Outcome Bound) → bound_of s.use_ c ≡ b → (d : Outcome (List ℕ)) → dims_of s.use_ c.def.kind ≡ d → AllByRecursion (IsGivenBy s) (elements s c b d)
    elements_given c h e (Ok bound) p (Ok dims) q = each-map (IsGivenBy s) _ (rows dims) (λ is. record { clean = h; use_is = refl; closure_is = e; bound_is = p; above_is = refl; index = is; path_is = refl })
    elements_given c h e (Ok bound) p (Err f) q = tt
    elements_given c h e (Err f) p d q = tt

    closures : is_empty (no_node s) ≡ true → (o : Option Closure) → s.use_.closure ≡ o → AllByRecursion (IsGivenBy s) (flat_map (λ c. elements s c (bound_of s.use_ c) (dims_of s.use_ c.def.kind)) (option_to_list o))
    closures h None e = tt
    closures h (Some c) e = each-append (IsGivenBy s) _ [] (elements_given c h e (bound_of s.use_ c) refl (dims_of s.use_ c.def.kind) refl) tt

    clean : (b : Bool) → is_empty (no_node s) ≡ b → AllByRecursion (IsGivenBy s) (cond b (flat_map (λ c. elements s c (bound_of s.use_ c) (dims_of s.use_ c.def.kind)) (option_to_list s.use_.closure)) [])
    clean true h = closures h s.use_.closure refl
    clean false h = tt

-- Of what a use fails nothing.

pub of_visible : (s : Seen) (c : Closure) → s.use_.closure ≡ Some c → is_empty (no_node s) ≡ true → is_empty (of_closure s c) ≡ true
of_visible s c e h = (none_in (name_twice s) (of_closure s c) (subst (λ o. is_empty (name_twice s ++ of_type s o) ≡ true) e h)).1

abbrev pub AllEmpty : List (List Fault) → Type 0
AllEmpty [] = Unit {0}
AllEmpty (xs ∷ more) = (is_empty xs ≡ true) × AllEmpty more

abbrev joined_to : List Fault → List (List Fault) → List Fault
joined_to before [] = before
joined_to before (xs ∷ more) = joined_to (before ++ xs) more

pub all_empty : (before : List Fault) (lists : List (List Fault)) → is_empty (joined_to before lists) ≡ true → (is_empty before ≡ true) × AllEmpty lists
all_empty before [] h = (h, tt)
all_empty before (xs ∷ more) h = let r = all_empty (before ++ xs) more h in let p = none_in before xs r.0 in (p.0, (p.1, r.1))

-- what is judged of a use whose type is visible
abbrev pub judged_of : Seen → Closure → List (List Fault)
judged_of s c =
    when (not (may_hold s.parent c.def.kind)) (at_ rules.E5 s.use_.name.place)
    ∷ bad_arguments s.use_ c
    ∷ failures (bound_of s.use_ c)
    ∷ bad_parts s.use_
    ∷ when (nat_lt most_names (depth_in s.parent)) (at_ rules.E8 s.use_.name.place)
    ∷ bad_array s.use_ c.def.kind
    ∷ long_path s.parent s.use_ c.def.kind
    ∷ bad_alias s.earlier s.use_
    ∷ []

pub nothing_fails : (s : Seen) (n : Instance) → IsGivenBy s n → AllEmpty (judged_of s n.closure)
nothing_fails s n g = (all_empty [] (judged_of s n.closure) (of_visible s n.closure g.closure_is g.clean)).1

-- a node stands in a body that holds its kind
pub held : (s : Seen) (n : Instance) → IsGivenBy s n → may_hold s.parent (kind_of n) ≡ true
held s n g = not_false _ (when_none (not (may_hold s.parent (kind_of n))) (at_ rules.E5 s.use_.name.place) (nothing_fails s n g).0)
  where
    not_false : (b : Bool) → not b ≡ false → b ≡ true
    not_false true h = refl
    not_false false h = cc

-- and no deeper than names may lead
pub shallow : (s : Seen) (n : Instance) → IsGivenBy s n → nat_lt most_names (depth_in s.parent) ≡ false
shallow s n g = when_none (nat_lt most_names (depth_in s.parent)) (at_ rules.E8 s.use_.name.place) (nothing_fails s n g).1.1.1.1.0

-- the uses of a body stand in it
pub seen-parents : (above : List Body) (b : Body) → AllByRecursion (λ s. s.parent ≡ parent_of b) (seen above b)
seen-parents above b = each-map (λ s. s.parent ≡ parent_of b) _ (standing (uses b)) (λ u. refl)

-- a node in the body of a node, by a use there
pub record IsChildOf (n c : Instance) : Type 0 where
  pub by : Seen
  pub in_body : by.parent ≡ in_node n.path (kind_of n)
  pub given_ : IsGivenBy by c

pub children-given : (n : Instance) → AllByRecursion (IsChildOf n) (children n)
children-given n = each-flat_map (IsChildOf n) given_by (seen_in n) (each-imp (λ s. s.parent ≡ parent_of (body n)) (λ s. AllByRecursion (IsChildOf n) (given_by s)) (seen_in n) (λ s e. each-imp (IsGivenBy s) (IsChildOf n) (given_by s) (λ c g. record { by = s; in_body = e; given_ = g }) (given-all s)) (seen-parents _ (body n)))

pub record IsAtRoot (c : Instance) : Type 0 where
  pub by : Seen
  pub in_body : by.parent ≡ at_root
  pub given_ : IsGivenBy by c

pub signals-given : (s : Source) → AllByRecursion IsAtRoot (signals s)
signals-given s = each-flat_map IsAtRoot given_by (seen [] (root s)) (each-imp (λ u. u.parent ≡ parent_of (root s)) (λ u. AllByRecursion IsAtRoot (given_by u)) (seen [] (root s)) (λ u e. each-imp (IsGivenBy u) IsAtRoot (given_by u) (λ c g. record { by = u; in_body = e; given_ = g }) (given-all u)) (seen-parents [] (root s)))

pub tops-given : (wanted : Option (List ℕ)) (s : Source) → AllByRecursion (λ n. n.path ≡ below_top []) (top_of wanted s)
tops-given wanted s = each-flat_map (λ n. n.path ≡ below_top []) _ (option_to_list (top_use_of wanted s)) (all (top_use_of wanted s))
  where
    all : (o : Option Use) → AllByRecursion (λ u. AllByRecursion (λ n. n.path ≡ below_top []) (given_by (top_seen u))) (option_to_list o)
    all None = tt
    all (Some u) = (each-imp (IsGivenBy (top_seen u)) (λ n. n.path ≡ below_top []) (given_by (top_seen u)) (λ n g. g.path_is) (given-all (top_seen u)), tt)
