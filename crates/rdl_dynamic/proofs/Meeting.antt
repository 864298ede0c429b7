-- Assignments that lead to a common node.
use Rattle.std.proofs.Common.{◌≡◌, ◌∙◌, Bool, true, false, ◌&&◌, ◌||◌, cond, List, [], ◌∷◌, map, filter, option_to_list, refl, sym, ap}
use Rattle.std.specs.List.{list_any}
use Rattle.std.proofs.lemmas.List.Folds.{list_any-append}
use Rattle.plain_lemmas.proofs.Lists.{bytes_eq-swap as bytes-turn}
use Rattle.rdl_props.specs.declared.prop.Prop.{Prop}
use Rattle.rdl_values.specs.Bodies.{Path, of_signal, below_top}
use Rattle.rdl_values.specs.Bodies as bodies
use Rattle.rdl_values.specs.Instances.{Instance}
use Rattle.rdl_layers.specs.Assignments.{Dynamic, Nested, is_among, meet, same_path, same_step, same_steps, targets}
use Rattle.rdl_layers.specs.Judged.{props_of}
use Rattle.rdl_layers.specs.Meanings.{prop_of}
use Rattle.rdl_dynamic.specs.Marked.{assigned_at}

-- Tests of lists.

module _ {X : Type 0} where
  any-or : (f g : X → Bool) (xs : List X) → list_any (λ x. f x || g x) xs ≡ (list_any f xs || list_any g xs)
  any-or f g [] = refl
  any-or f g (x ∷ xs) = ap (λ b. (f x || g x) || b) (any-or f g xs) ∙ turn (f x) (g x) (list_any f xs) (list_any g xs)
    where
      turn : (a b c d : Bool) → ((a || b) || (c || d)) ≡ ((a || c) || (b || d))
      turn true b c d = refl
      turn false true true d = refl
      turn false true false d = refl
      turn false false c d = refl

  any-false : (xs : List X) → list_any (λ x. false) xs ≡ false
  any-false [] = refl
  any-false (x ∷ xs) = any-false xs

  any-and : (f : X → Bool) (b : Bool) (xs : List X) → list_any (λ x. f x && b) xs ≡ (list_any f xs && b)
  any-and f b [] = refl
  any-and f b (x ∷ xs) = ap (λ c. (f x && b) || c) (any-and f b xs) ∙ spread (f x) b (list_any f xs)
    where
      spread : (a b c : Bool) → ((a && b) || (c && b)) ≡ ((a || c) && b)
      spread true true c = refl
      spread true false true = refl
      spread true false false = refl
      spread false b c = refl

  any-same : (f g : X → Bool) → ((x : X) → f x ≡ g x) → (xs : List X) → list_any f xs ≡ list_any g xs
  any-same f g h [] = refl
  any-same f g h (x ∷ xs) = ap (λ b. b || list_any f xs) (h x) ∙ ap (λ b. g x || b) (any-same f g h xs)

  any-filter : (f g : X → Bool) (xs : List X) → list_any g (filter f xs) ≡ list_any (λ x. f x && g x) xs
  any-filter f g [] = refl
  any-filter f g (x ∷ xs) = go (f x) (any-filter f g xs)
    where
      go : (b : Bool) → list_any g (filter f xs) ≡ list_any (λ y. f y && g y) xs → list_any g (cond b (x ∷ filter f xs) (filter f xs)) ≡ ((b && g x) || list_any (λ y. f y && g y) xs)
      go true h = ap (λ c. g x || c) h
      go false h = h

swap : {X Y : Type 0} (r : X → Y → Bool) (xs : List X) (ys : List Y) → list_any (λ x. list_any (r x) ys) xs ≡ list_any (λ y. list_any (λ x. r x y) xs) ys
swap r [] ys = sym (any-false ys)
swap r (x ∷ xs) ys = ap (λ b. list_any (r x) ys || b) (swap r xs ys) ∙ sym (any-or (r x) (λ y. list_any (λ z. r z y) xs) ys)

-- Two paths are the same either way.

both : (a b c d : Bool) → a ≡ b → c ≡ d → (a && c) ≡ (b && d)
both a b c d e f = ap (λ x. x && c) e ∙ ap (λ x. b && x) f

step-turn : (s t : bodies.Step) → same_step s t ≡ same_step t s
step-turn s t = both _ _ _ _ (bytes-turn s.name t.name) (bytes-turn s.index t.index)

steps-turn : (ss ts : List bodies.Step) → same_steps ss ts ≡ same_steps ts ss
steps-turn [] [] = refl
steps-turn [] (t ∷ ts) = refl
steps-turn (s ∷ ss) [] = refl
steps-turn (s ∷ ss) (t ∷ ts) = both _ _ _ _ (step-turn s t) (steps-turn ss ts)

path-turn : (p q : Path) → same_path p q ≡ same_path q p
path-turn (of_signal s) (of_signal t) = steps-turn (s ∷ []) (t ∷ [])
path-turn (below_top ss) (below_top ts) = steps-turn ss ts
path-turn (of_signal s) (below_top ts) = refl
path-turn (below_top ss) (of_signal t) = refl

-- one is among the others, or one of the others among these
turned : (ns ms : List Instance) → list_any (is_among ns) ms ≡ list_any (is_among ms) ns
turned ns ms = swap (λ (m : Instance) (n : Instance). same_path n.path m.path) ms ns ∙ any-same _ _ (λ n. any-same _ _ (λ m. path-turn n.path m.path) ms) ns

-- What earlier assignments assign at a node.

abbrev passes : (Prop → Bool) → Dynamic → Bool
passes f d = list_any f (option_to_list (prop_of d.assigns))

any-props : (f : Prop → Bool) (ds : List Dynamic) → list_any f (props_of (map (λ d. d.assigns) ds)) ≡ list_any (passes f) ds
any-props f [] = refl
any-props f (d ∷ ds) = list_any-append f (option_to_list (prop_of d.assigns)) (props_of (map (λ e. e.assigns) ds)) ∙ ap (λ b. passes f d || b) (any-props f ds)

any-at : (f : Prop → Bool) (b : Nested) (earlier : List Dynamic) (n : Instance) → list_any f (assigned_at b earlier n) ≡ list_any (λ e. is_among (targets b e) n && passes f e) earlier
any-at f b earlier n = any-props f (filter (λ d. is_among (targets b d) n) earlier) ∙ any-filter (λ e. is_among (targets b e) n) (passes f) earlier

-- of those that meet an assignment, one passes a test exactly where at one of its targets one does
pub at_targets : (f : Prop → Bool) (b : Nested) (d : Dynamic) (earlier : List Dynamic) → list_any (λ n. list_any f (assigned_at b earlier n)) (targets b d) ≡ list_any f (props_of (map (λ e. e.assigns) (filter (meet b d) earlier)))
at_targets f b d earlier =
    any-same _ _ (any-at f b earlier) (targets b d)
    ∙ swap (λ (n : Instance) (e : Dynamic). is_among (targets b e) n && passes f e) (targets b d) earlier
    ∙ any-same _ _ (λ e. any-and (is_among (targets b e)) (passes f e) (targets b d) ∙ ap (λ x. x && passes f e) (turned (targets b e) (targets b d))) earlier
    ∙ sym (any-props f (filter (meet b d) earlier) ∙ any-filter (meet b d) (passes f) earlier)
