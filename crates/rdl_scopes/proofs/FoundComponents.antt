-- The first component of a name among the items of a body.
use Rattle.std.proofs.Common.{◌≡◌, ◌∙◌, ◌⊎◌, inl, inr, ℕ, zero, suc, ◌+◌, ◌<◌, ◌≤◌, Bool, true, false, cond, List, [], ◌∷◌, ◌++◌, length, get_or, take, slice_get, Option, None, Some, option_map, is_some, refl, sym, ap, subst, append-nil, append_assoc, arith, bytes_eq}
use Rattle.std.specs.Option.{option_or}
use Rattle.std.proofs.lemmas.List.{take_more}
use Rattle.std.proofs.lemmas.Option.{slice_get_cases, slice_get_read}
use Rattle.rdl_tree.specs.declared.expr.Name.{Name}
use Rattle.rdl_tree.specs.declared.item.Def.{Def}
use Rattle.rdl_tree.specs.declared.item.Item.{Item}
use Rattle.rdl_values.specs.Bodies.{component_of, found, if_named, is_component, is_named, standing, standing_from}
use Rattle.rdl_values.specs.Values.{nearest}
use Rattle.rdl_values.specs.Views.{item_is}
use Rattle.rdl_values.specs.Firsts.{place_of}
use Rattle.rdl_values.specs.declared.firsts.Firsts.{Firsts}
use Rattle.rdl_values.proofs.Named.{IsPut}
use Rattle.rdl_scopes.specs.Named.{Knows, component_named, first_of, has_component, name_in, text_of}

abbrev is_start : ℕ → Bool
is_start zero = true
is_start (suc k) = false

none_at : {X : Type 0} (a b : ℕ) → a ≡ b → is_start a ≡ true → is_start b ≡ false → X
none_at a b e p q = let r : true ≡ false = sym p ∙ ap is_start e ∙ q in cc

-- One thing more.

suc-or : (o p : Option ℕ) → option_map (λ k. suc k) (option_or o p) ≡ option_or (option_map (λ k. suc k) o) (option_map (λ k. suc k) p)
suc-or None p = refl
suc-or (Some k) p = refl

suc-cond : (b : Bool) (k : ℕ) → option_map (λ k. suc k) (cond b (Some k) None) ≡ cond b (Some (suc k)) None
suc-cond true k = refl
suc-cond false k = refl

first-push : {X : Type 0} (f : X → Bool) (xs : List X) (y : X) → first_of f (xs ++ (y ∷ [])) ≡ option_or (first_of f xs) (cond (f y) (Some (length xs)) None)
first-push f [] y = go (f y)
  where
    go : (b : Bool) → cond b (Some 0) (option_map (λ k. suc k) None) ≡ cond b (Some 0) None
    go true = refl
    go false = refl
first-push f (x ∷ xs) y = go (f x) (first-push f xs y)
  where
    rest : first_of f (xs ++ (y ∷ [])) ≡ option_or (first_of f xs) (cond (f y) (Some (length xs)) None)
        → option_map (λ k. suc k) (first_of f (xs ++ (y ∷ []))) ≡ option_or (option_map (λ k. suc k) (first_of f xs)) (cond (f y) (Some (suc (length xs))) None)
    rest h = ap (option_map (λ k. suc k)) h ∙ suc-or (first_of f xs) (cond (f y) (Some (length xs)) None) ∙ ap (option_or (option_map (λ k. suc k) (first_of f xs))) (suc-cond (f y) (length xs))

    go : (b : Bool) → first_of f (xs ++ (y ∷ [])) ≡ option_or (first_of f xs) (cond (f y) (Some (length xs)) None)
        → cond b (Some 0) (option_map (λ k. suc k) (first_of f (xs ++ (y ∷ [])))) ≡ option_or (cond b (Some 0) (option_map (λ k. suc k) (first_of f xs))) (cond (f y) (Some (suc (length xs))) None)
    go true h = refl
    go false h = rest h

pub knows_none : (t : Firsts) → ((n : List ℕ) → place_of t n ≡ None) → Knows t []
knows_none t h = record { at = h }

has-name : (o : Option Def) (n m : List ℕ) → name_in o ≡ Some m → is_some (if_named n o) ≡ bytes_eq m n
has-name None n m e = cc
has-name (Some d) n m e = go d.name e
  where
    bit : (b : Bool) → is_some (cond b (Some d) None) ≡ b
    bit true = refl
    bit false = refl

    go : (name : Option Name) → text_of name ≡ Some m → is_some (cond (is_named n name) (Some d) None) ≡ bytes_eq m n
    go None q = cc
    go (Some x) q = bit (bytes_eq x.text.now n) ∙ ap (λ o. bytes_eq o n) (inside q)
      where
        inside : Some x.text.now ≡ Some m → x.text.now ≡ m
        inside r = cc

has-none : (o : Option Def) (n : List ℕ) → name_in o ≡ None → is_some (if_named n o) ≡ false
has-none None n e = refl
has-none (Some d) n e = go d.name e
  where
    go : (name : Option Name) → text_of name ≡ None → is_some (cond (is_named n name) (Some d) None) ≡ false
    go None q = refl
    go (Some x) q = cc

none-or : (o : Option ℕ) → option_or o None ≡ o
none-or None = refl
none-or (Some k) = refl

pub knows_more : (old new : Firsts) (xs : List Item) (i : ℕ) (x : Item) (name : List ℕ) → i < length xs → x ≡ get_or xs i x → component_named x ≡ Some name → length (take i xs) ≡ i
    → Knows old (take i xs) → IsPut name i old new → Knows new (take (i + 1) xs)
knows_more old new xs i x name l at is long h put =
    let last : take (i + 1) xs ≡ take i xs ++ (x ∷ []) = take_more xs i x l ∙ ap (λ y. take i xs ++ (y ∷ [])) (sym at) in
    record {
      at = λ n.
          let here : cond (has_component n x) (Some (length (take i xs))) None ≡ cond (bytes_eq name n) (Some i) None =
          ap (λ b. cond b (Some (length (take i xs))) None) (has-name (component_of (item_is x)) n name is) ∙ ap (λ k. cond (bytes_eq name n) (Some k) None) long in
          put n ∙ ap (λ o. option_or o (cond (bytes_eq name n) (Some i) None)) (h.at n) ∙ ap (option_or (first_of (has_component n) (take i xs))) (sym here)
          ∙ sym (first-push (has_component n) (take i xs) x) ∙ ap (first_of (has_component n)) (sym last);
    }

pub knows_other : (t : Firsts) (xs : List Item) (i : ℕ) (x : Item) → i < length xs → x ≡ get_or xs i x → component_named x ≡ None → Knows t (take i xs) → Knows t (take (i + 1) xs)
knows_other t xs i x l at is h =
    let last : take (i + 1) xs ≡ take i xs ++ (x ∷ []) = take_more xs i x l ∙ ap (λ y. take i xs ++ (y ∷ [])) (sym at) in
    record {
      at = λ n.
          h.at n ∙ sym (none-or (first_of (has_component n) (take i xs))) ∙ ap (λ b. option_or (first_of (has_component n) (take i xs)) (cond b (Some (length (take i xs))) None)) (sym (has-none (component_of (item_is x)) n is))
          ∙ sym (first-push (has_component n) (take i xs) x) ∙ ap (first_of (has_component n)) (sym last);
    }

-- The first component of a name, behind some items.

module _ (n : List ℕ) where
  abbrev near : List Item → List Item → Option (List Item × Def)
  near before xs = nearest (found n) (standing_from before xs)

  abbrev here : List Item → Option Def → Option (List Item × Def)
  here before o = option_map (λ d. (before, d)) o

  none-near : (xs before : List Item) (u : ℕ) → first_of (has_component n) xs ≡ None → near before (take u xs) ≡ None
  none-near [] before zero h = refl
  none-near [] before (suc u) h = refl
  none-near (x ∷ xs) before zero h = refl
  none-near (x ∷ xs) before (suc u) h = go (is_component n (item_is x)) refl (none-near xs (before ++ (x ∷ [])) u)
    where
      go : (o : Option Def) → is_component n (item_is x) ≡ o → (first_of (has_component n) xs ≡ None → near (before ++ (x ∷ [])) (take u xs) ≡ None) → near before (x ∷ take u xs) ≡ None
      go None e again = ap (λ q. option_or (here before q) (near (before ++ (x ∷ [])) (take u xs))) e ∙ again (rest (first_of (has_component n) xs) (ap (λ q. cond (is_some q) (Some 0) (option_map (λ k. suc k) (first_of (has_component n) xs))) (sym e) ∙ h))
        where
          rest : (o : Option ℕ) → option_map (λ k. suc k) o ≡ None → o ≡ None
          rest None q = refl
          rest (Some k) q = cc
      go (Some d) e again = let q : Some 0 ≡ None = ap (λ q. cond (is_some q) (Some 0) (option_map (λ k. suc k) (first_of (has_component n) xs))) (sym e) ∙ h in cc

  late-near : (xs before : List Item) (u p : ℕ) → first_of (has_component n) xs ≡ Some p → u ≤ p → near before (take u xs) ≡ None
  late-near [] before zero p h l = refl
  late-near [] before (suc u) p h l = refl
  late-near (x ∷ xs) before zero p h l = refl
  late-near (x ∷ xs) before (suc u) p h l = go (is_component n (item_is x)) refl (late-near xs (before ++ (x ∷ [])) u)
    where
      go : (o : Option Def) → is_component n (item_is x) ≡ o → ((k : ℕ) → first_of (has_component n) xs ≡ Some k → u ≤ k → near (before ++ (x ∷ [])) (take u xs) ≡ None) → near before (x ∷ take u xs) ≡ None
      go None e again = ap (λ q. option_or (here before q) (near (before ++ (x ∷ [])) (take u xs))) e ∙ rest (first_of (has_component n) xs) refl (ap (λ q. cond (is_some q) (Some 0) (option_map (λ k. suc k) (first_of (has_component n) xs))) (sym e) ∙ h)
        where
          rest : (o : Option ℕ) → first_of (has_component n) xs ≡ o → option_map (λ k. suc k) o ≡ Some p → near (before ++ (x ∷ [])) (take u xs) ≡ None
          rest None r q = cc
          rest (Some k) r q = again k r (omega (arith, inside q, l))
            where
              inside : Some (suc k) ≡ Some p → suc k ≡ p
              inside s = cc
      go (Some d) e again = let q : Some 0 ≡ Some p = ap (λ q. cond (is_some q) (Some 0) (option_map (λ k. suc k) (first_of (has_component n) xs))) (sym e) ∙ h in none_at 0 1 (omega (arith, inside q, l)) refl refl
        where
          inside : Some 0 ≡ Some p → 0 ≡ p
          inside s = cc

  is-near : (xs before : List Item) (u p : ℕ) (i : Item) (d : Def) → first_of (has_component n) xs ≡ Some p → p < u → slice_get xs p ≡ Some i → is_component n (item_is i) ≡ Some d → near before (take u xs) ≡ Some (before ++ take p xs, d)
  is-near [] before u p i d h l at is = cc
  is-near (x ∷ xs) before zero p i d h l at is = none_at 0 1 (omega (arith, l)) refl refl
  is-near (x ∷ xs) before (suc u) p i d h l at is = go (is_component n (item_is x)) refl (λ k. is-near xs (before ++ (x ∷ [])) u k i d)
    where
      go : (o : Option Def) → is_component n (item_is x) ≡ o
          → ((k : ℕ) → first_of (has_component n) xs ≡ Some k → k < u → slice_get xs k ≡ Some i → is_component n (item_is i) ≡ Some d → near (before ++ (x ∷ [])) (take u xs) ≡ Some ((before ++ (x ∷ [])) ++ take k xs, d))
          → near before (x ∷ take u xs) ≡ Some (before ++ take p (x ∷ xs), d)
      go None e again = ap (λ q. option_or (here before q) (near (before ++ (x ∷ [])) (take u xs))) e ∙ rest (first_of (has_component n) xs) refl (ap (λ q. cond (is_some q) (Some 0) (option_map (λ k. suc k) (first_of (has_component n) xs))) (sym e) ∙ h)
        where
          rest : (o : Option ℕ) → first_of (has_component n) xs ≡ o → option_map (λ k. suc k) o ≡ Some p → near (before ++ (x ∷ [])) (take u xs) ≡ Some (before ++ take p (x ∷ xs), d)
          rest None r q = cc
          rest (Some k) r q =
              let s : suc k ≡ p = inside q in
              again k r (omega (arith, s, l)) (subst (λ j. slice_get (x ∷ xs) j ≡ Some i) (sym s) at) is
              ∙ ap (λ ys. Some (ys, d)) (append_assoc before (x ∷ []) (take k xs)) ∙ ap (λ j. Some (before ++ take j (x ∷ xs), d)) s
            where
              inside : Some (suc k) ≡ Some p → suc k ≡ p
              inside s = cc
      go (Some c) e again =
          let q : Some 0 ≡ Some p = ap (λ q. cond (is_some q) (Some 0) (option_map (λ k. suc k) (first_of (has_component n) xs))) (sym e) ∙ h in
          let z : 0 ≡ p = inside q in
          let same : x ≡ i = first (subst (λ j. slice_get (x ∷ xs) j ≡ Some i) (sym z) at) in
          let own : is_component n (item_is x) ≡ Some d = ap (λ j. is_component n (item_is j)) same ∙ is in
          ap (λ o. option_or (here before o) (near (before ++ (x ∷ [])) (take u xs))) own ∙ ap (λ ys. Some (ys, d)) (sym (append-nil before)) ∙ ap (λ j. Some (before ++ take j (x ∷ xs), d)) z
        where
          inside : Some 0 ≡ Some p → 0 ≡ p
          inside s = cc

          first : slice_get (x ∷ xs) 0 ≡ Some i → x ≡ i
          first s = cc

pub none_found : (n : List ℕ) (t : Firsts) (xs : List Item) (u : ℕ) → Knows t xs → place_of t n ≡ None → nearest (found n) (standing (take u xs)) ≡ None
none_found n t xs u h e = none-near n xs [] u (sym (h.at n) ∙ e)

pub late_found : (n : List ℕ) (t : Firsts) (xs : List Item) (u p : ℕ) → Knows t xs → place_of t n ≡ Some p → u ≤ p → nearest (found n) (standing (take u xs)) ≡ None
late_found n t xs u p h e l = late-near n xs [] u p (sym (h.at n) ∙ e) l

pub is_found : (n : List ℕ) (t : Firsts) (xs : List Item) (u p : ℕ) (i : Item) (d : Def) → Knows t xs → place_of t n ≡ Some p → p < u → slice_get xs p ≡ Some i → is_component n (item_is i) ≡ Some d
    → nearest (found n) (standing (take u xs)) ≡ Some (take p xs, d)
is_found n t xs u p i d h e l at is = is-near n xs [] u p i d (sym (h.at n) ∙ e) l at is

-- the place of a name is that of a component of this name

first-is : {X : Type 0} (f : X → Bool) (xs : List X) (p : ℕ) → first_of f xs ≡ Some p → (x : X) × (slice_get xs p ≡ Some x) × (f x ≡ true)
first-is f [] p h = cc
first-is f (x ∷ xs) p h = go (f x) refl (first-is f xs)
  where
    go : (b : Bool) → f x ≡ b → ((k : ℕ) → first_of f xs ≡ Some k → (y : _) × (slice_get xs k ≡ Some y) × (f y ≡ true)) → (y : _) × (slice_get (x ∷ xs) p ≡ Some y) × (f y ≡ true)
    go true e again = let q : Some 0 ≡ Some p = ap (λ b. cond b (Some 0) (option_map (λ k. suc k) (first_of f xs))) (sym e) ∙ h in (x, ap (slice_get (x ∷ xs)) (sym (inside q)), e)
      where
        inside : Some 0 ≡ Some p → 0 ≡ p
        inside s = cc
    go false e again = rest (first_of f xs) refl (ap (λ b. cond b (Some 0) (option_map (λ k. suc k) (first_of f xs))) (sym e) ∙ h)
      where
        rest : (o : Option ℕ) → first_of f xs ≡ o → option_map (λ k. suc k) o ≡ Some p → (y : _) × (slice_get (x ∷ xs) p ≡ Some y) × (f y ≡ true)
        rest None r q = cc
        rest (Some k) r q = let there = again k r in (there.0, ap (slice_get (x ∷ xs)) (sym (inside q)) ∙ there.1, there.2)
          where
            inside : Some (suc k) ≡ Some p → suc k ≡ p
            inside s = cc

pub place_is : (n : List ℕ) (t : Firsts) (xs : List Item) (p : ℕ) → Knows t xs → place_of t n ≡ Some p → (i : Item) × (slice_get xs p ≡ Some i) × (has_component n i ≡ true)
place_is n t xs p h e = first-is (has_component n) xs p (sym (h.at n) ∙ e)

pub place_below : (n : List ℕ) (t : Firsts) (xs : List Item) (p : ℕ) → Knows t xs → place_of t n ≡ Some p → p < length xs
place_below n t xs p h e = let i = place_is n t xs p h e in go (slice_get_cases xs p).1 i.1
  where
    go : ((x : Item) × (p < length xs) × (slice_get xs p ≡ Some x) × (get_or xs p x ≡ x)) ⊎ ((length xs ≤ p) × (slice_get xs p ≡ None)) → {i : Item} → slice_get xs p ≡ Some i → p < length xs
    go (inl s) q = s.1
    go (inr s) q = let none = s.1 in cc

pub no_place : {X : Type 0} (n : List ℕ) (t : Firsts) (xs : List Item) (p : ℕ) (i : Item) → Knows t xs → place_of t n ≡ Some p → i ≡ get_or xs p i → is_component n (item_is i) ≡ None → X
no_place n t xs p i h e at none =
    let there = place_is n t xs p h e in
    let low = place_below n t xs p h e in
    let same : Some there.0 ≡ Some i = sym there.1 ∙ slice_get_read xs (length xs) p i refl low at in
    let off : true ≡ false = sym there.2 ∙ ap is_some (ap (λ o. option_component o) same ∙ none) in cc
  where
    option_component : Option Item → Option Def
    option_component None = None
    option_component (Some j) = is_component n (item_is j)
