-- Nodes to which the dynamic assignments in the body of another assign nothing: those that don't stand below it.
use Rattle.std.proofs.Common.{◌≡◌, ◌≢◌, Bool, true, false, bytes_eq, ◌&&◌, ◌||◌, List, [], ◌∷◌, ◌++◌, flat_map, filter, refl, sym, ap, subst, ◌∙◌, append_assoc}
use Rattle.std.specs.Cmp.Lexicographic.{bytes_decides}
use Rattle.std.specs.List.{AllByRecursion, list_any}
use Rattle.plain_lemmas.proofs.Bools.{and-both as both_true}
use Rattle.plain_lemmas.proofs.Lists.{bytes_eq-itself as same-bytes, each-filter as kept, each-flat_map, each-imp, filter-none}
use Rattle.rdl_tree.specs.declared.expr.Step as tree
use Rattle.rdl_values.specs.Bodies.{Path, Step, of_signal, below_top, around}
use Rattle.rdl_values.specs.Instances.{Instance, children}
use Rattle.rdl_nodes.proofs.Paths.{IsChild, are_children}
use Rattle.rdl_layers.specs.Assignments.{Dynamic, targets, led_down, is_step, is_among, same_path, same_step, same_steps, dynamics}
use Rattle.rdl_layers.specs.Settings.{from_above, gives}
use Rattle.rdl_layers.specs.Judged.{failures_of_dynamic, sound}
use Rattle.rdl_layers.specs.Nested.{nested}

-- Lists.

pub flat-none : {X Y : Type 0} (f : X → List Y) (xs : List X) → AllByRecursion (λ x. f x ≡ []) xs → flat_map f xs ≡ []
flat-none f [] h = refl
flat-none f (x ∷ xs) h = ap (λ ys. ys ++ flat_map f xs) h.0 ∙ flat-none f xs h.1

none-passes : {X : Type 0} (f : X → Bool) (xs : List X) → AllByRecursion (λ x. f x ≡ false) xs → list_any f xs ≡ false
none-passes f [] h = refl
none-passes f (x ∷ xs) h = ap (λ b. b || list_any f xs) h.0 ∙ none-passes f xs h.1

-- Paths.

equal_step : (s t : Step) → s.name ≡ t.name → s.index ≡ t.index → s ≡ t
equal_step s t e g i = record { name = e i; index = g i }

is_same_step : (s t : Step) → same_step s t ≡ true → s ≡ t
is_same_step s t e =
    let p = both_true (bytes_eq s.name t.name) (bytes_eq s.index t.index) e in
    equal_step s t ((bytes_decides s.name t.name).0 p.0) ((bytes_decides s.index t.index).0 p.1)

are_same_steps : (ss ts : List Step) → same_steps ss ts ≡ true → ss ≡ ts
are_same_steps [] [] e = refl
are_same_steps [] (t ∷ ts) e = cc
are_same_steps (s ∷ ss) [] e = cc
are_same_steps (s ∷ ss) (t ∷ ts) e = let p = both_true (same_step s t) (same_steps ss ts) e in ap (λ x. x ∷ ss) (is_same_step s t p.0) ∙ ap (λ xs. t ∷ xs) (are_same_steps ss ts p.1)

is_same_path : (p q : Path) → same_path p q ≡ true → p ≡ q
is_same_path (of_signal s) (of_signal t) e = ap of_signal (is_same_step s t (both_true (same_step s t) true e).0)
is_same_path (below_top ss) (below_top ts) e = ap below_top (are_same_steps ss ts e)
is_same_path (of_signal s) (below_top ts) e = cc
is_same_path (below_top ss) (of_signal t) e = cc

pub other-path : (p q : Path) → p ≢ q → same_path p q ≡ false
other-path p q differ = go (same_path p q) refl
  where
    go : (b : Bool) → same_path p q ≡ b → b ≡ false
    go true e = absurd (differ (is_same_path p q e))
    go false e = refl

same-steps-self : (ss : List Step) → same_steps ss ss ≡ true
same-steps-self [] = refl
same-steps-self (s ∷ ss) = ap (λ b. (b && bytes_eq s.index s.index) && same_steps ss ss) (same-bytes s.name) ∙ ap (λ b. b && same_steps ss ss) (same-bytes s.index) ∙ same-steps-self ss

pub same-self : (p : Path) → same_path p p ≡ true
same-self (of_signal s) = same-steps-self (s ∷ [])
same-self (below_top ss) = same-steps-self ss

-- Targets stand below the body that the assignment stands in.

-- the node stands below the one of this path
abbrev pub IsInside : List Step → Instance → Type 0
IsInside ss n = (t : Step) × (ts : List Step) × (n.path ≡ below_top (ss ++ (t ∷ ts)))

child-inside : (ss : List Step) (c : Instance) → IsChild ss c → IsInside ss c
child-inside ss c h = (h.0, [], h.1)

further : (ss : List Step) (n : Instance) → IsInside ss n → AllByRecursion (IsInside ss) (children n)
further ss n h = each-imp (IsChild (ss ++ (h.0 ∷ h.1))) (IsInside ss) (children n)
    (λ c g. (h.0, h.1 ++ (g.0 ∷ []), g.1 ∙ ap below_top (append_assoc ss (h.0 ∷ h.1) (g.0 ∷ [])))) (are_children n (ss ++ (h.0 ∷ h.1)) h.2)

led-inside : (ss : List Step) (test : tree.Step → Instance → Bool) (ns : List Instance) (ts : List tree.Step) → AllByRecursion (IsInside ss) ns → AllByRecursion (IsInside ss) (led_down children test ns ts)
led-inside ss test ns [] h = tt
led-inside ss test ns (t ∷ []) h = kept (IsInside ss) (test t) ns h
led-inside ss test ns (t ∷ u ∷ ts) h = led-inside ss test (flat_map children (filter (test t) ns)) (u ∷ ts)
    (each-flat_map (IsInside ss) children (filter (test t) ns) (each-imp (IsInside ss) (λ n. AllByRecursion (IsInside ss) (children n)) (filter (test t) ns) (further ss) (kept (IsInside ss) (test t) ns h)))

pub targets-inside : (m : Instance) (ss : List Step) → m.path ≡ below_top ss → (d : Dynamic) → AllByRecursion (IsInside ss) (targets (nested m) d)
targets-inside m ss e d = led-inside ss (is_step (around d.assigns.scope)) (children m) d.steps (each-imp (IsChild ss) (IsInside ss) (children m) (child-inside ss) (are_children m ss e))

-- A node to which no target leads gets nothing.

-- the assignments in the body of one node assign nothing to another
abbrev pub Spares : Instance → Instance → Type 0
Spares n m = from_above n (nested m) ≡ []

spared : (n m : Instance) → ((d : Dynamic) → AllByRecursion (λ t. t.path ≢ n.path) (targets (nested m) d)) → Spares n m
spared n m h = ap (flat_map (λ d. gives _ d.assigns)) (filter-none (λ d. is_among (targets (nested m) d) n) (sound (failures_of_dynamic (nested m)) (dynamics (nested m).1)) missed)
  where
    missed : (d : Dynamic) → is_among (targets (nested m) d) n ≡ false
    missed d = none-passes (λ t. same_path t.path n.path) (targets (nested m) d) (each-imp (λ t. t.path ≢ n.path) (λ t. same_path t.path n.path ≡ false) (targets (nested m) d) (λ t g. other-path t.path n.path g) (h d))

-- one that doesn't stand inside the node
pub spares-outside : (n m : Instance) (ss : List Step) → m.path ≡ below_top ss → ((t : Step) (ts : List Step) → below_top (ss ++ (t ∷ ts)) ≢ n.path) → Spares n m
spares-outside n m ss e out = spared n m (λ d. each-imp (IsInside ss) (λ t. t.path ≢ n.path) (targets (nested m) d) (λ t h g. out h.0 h.1 (sym h.2 ∙ g)) (targets-inside m ss e d))

-- the body of a node without anything in it
pub spares-empty : (n m : Instance) → children m ≡ [] → Spares n m
spares-empty n m e = spared n m (λ d. subst (λ ns. AllByRecursion (λ t. t.path ≢ n.path) (led_down children (is_step (around d.assigns.scope)) ns d.steps)) (sym e) (none d d.steps))
  where
    none : (d : Dynamic) (ts : List tree.Step) → AllByRecursion (λ t. t.path ≢ n.path) (led_down children (is_step (around d.assigns.scope)) [] ts)
    none d [] = tt
    none d (t ∷ []) = tt
    none d (t ∷ u ∷ ts) = none d (u ∷ ts)
