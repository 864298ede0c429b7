-- Nodes whose containers all hold registers.
use Rattle.std.proofs.Common.{◌≡◌, ◌∙◌, ℕ, ◌&&◌, ◌||◌, inl, inr, Bool, true, false, not, List, [], ◌∷◌, refl, sym, ap, subst, arith}
use Rattle.std.specs.List.{list_any}
use Rattle.plain_lemmas.proofs.Bools.{false-of_not as not-true}
use Rattle.rdl_tree.specs.declared.item.Kind.{Kind}
use Rattle.rdl_tree.specs.declared.item.Kind.TheVariants as kind
use Rattle.rdl_values.specs.Bodies.{Path, below_top, of_signal}
use Rattle.rdl_values.specs.Instances.{Instance, children, kind_of, most_names, with_below}
use Rattle.rdl_values.proofs.Numbered.{At, Deep, lower}
use Rattle.rdl_layers.specs.Fields.{is_a, is_container}
use Rattle.rdl_nodes.proofs.Members.{In, each-in, in-flat}
use Rattle.rdl_addr.specs.Answers.{is_filled}
use Rattle.rdl_addr.specs.Layout.{has_address}
use Rattle.rdl_addr.proofs.Covers.{address_by_kind, deep_enough}

module _ {X : Type 0} (p : X → Bool) where
  pub any-in : (xs : List X) → list_any p xs ≡ true → (x : X) × In xs x × (p x ≡ true)
  any-in [] e = cc e
  any-in (x ∷ xs) e = go (p x) refl e (λ h. any-in xs h)
    where
      go : (b : Bool) → p x ≡ b → b || list_any p xs ≡ true → (list_any p xs ≡ true → (y : X) × In xs y × (p y ≡ true)) → (y : X) × In (x ∷ xs) y × (p y ≡ true)
      go true q h rest = (x, inl refl, q)
      go false q h rest = let r = rest h in (r.0, inr r.1, r.2)

  pub in-any : (xs : List X) (x : X) → In xs x → p x ≡ true → list_any p xs ≡ true
  in-any [] x h e = absurd h
  in-any (y ∷ ys) x (inl s) e = ap (λ b. b || list_any p ys) (ap p s ∙ e)
  in-any (y ∷ ys) x (inr h) e = go (p y) (in-any ys x h e)
    where
      go : (b : Bool) → list_any p ys ≡ true → b || list_any p ys ≡ true
      go true h = refl
      go false h = h

pub most-deep : (k : ℕ) (n : Instance) → Deep k n → Deep 31 n
most-deep k n d = by n.path d
  where
    by : (p : Path) → At p k n → At p 31 n
    by (of_signal t) d = d
    by (below_top ss) d = omega arith

pub child-deep : (n c : Instance) → Deep 31 n → In (children n) c → Deep 31 c
child-deep n c d i = most-deep 30 c (each-in (Deep 30) (children n) c (lower 30 n d) i)

abbrev pub bare : Instance → Bool
bare m = is_container m && not (list_any (is_a kind.Reg) (with_below most_names m))

pub below-child : (n c m : Instance) → Deep 31 c → In (children n) c → In (with_below most_names c) m → In (with_below most_names n) m
below-child n c m d i h = inr (in-flat (with_below 31) (children n) c m i (subst (λ xs. In xs m) (deep_enough 31 c d) h))

pub filled-child : (n c : Instance) → Deep 31 n → In (children n) c → is_filled n ≡ true → is_filled c ≡ true
filled-child n c d i filled = go (list_any bare (with_below most_names c)) refl
  where
    go : (b : Bool) → list_any bare (with_below most_names c) ≡ b → is_filled c ≡ true
    go false e = ap not e
    go true e =
        let m = any-in bare (with_below most_names c) e in
        let above = in-any bare (with_below most_names n) m.0 (below-child n c m.0 (child-deep n c d i) i m.1) m.2 in
        let two : true ≡ false = sym above ∙ not-true (list_any bare (with_below most_names n)) filled in
        cc two

pub filled-register : (n : Instance) → is_filled n ≡ true → is_container n ≡ true → (r : Instance) × In (with_below most_names n) r × (is_a kind.Reg r ≡ true)
filled-register n filled container = go (list_any (is_a kind.Reg) (with_below most_names n)) refl
  where
    go : (b : Bool) → list_any (is_a kind.Reg) (with_below most_names n) ≡ b → (r : Instance) × In (with_below most_names n) r × (is_a kind.Reg r ≡ true)
    go true e = any-in (is_a kind.Reg) (with_below most_names n) e
    go false e =
        let self : bare n ≡ true = (λ j. container j && not (e j)) in
        let above = in-any bare (with_below most_names n) n (inl refl) self in
        let two : true ≡ false = sym above ∙ not-true (list_any bare (with_below most_names n)) filled in
        cc two

pub contains : (n : Instance) → has_address n ≡ true → is_a kind.Reg n ≡ false → is_container n ≡ true
contains n placed unlike = by (kind_of n) refl
  where
    by : (k : Kind) → kind_of n ≡ k → is_container n ≡ true
    by kind.Addrmap e = rw e refl
    by kind.Regfile e = rw e refl
    by kind.Reg e = let is : is_a kind.Reg n ≡ true = rw e refl in let two : true ≡ false = sym is ∙ unlike in cc two
    by kind.Field e = let two : true ≡ false = sym placed ∙ address_by_kind n kind.Field e in cc two
    by kind.Signal e = let two : true ≡ false = sym placed ∙ address_by_kind n kind.Signal e in cc two
