-- Registers and views by their numbers.
use Rattle.std.proofs.Common.{◌≡◌, ◌∙◌, inl, inr, ℕ, zero, suc, ◌+◌, ◌<◌, List, [], ◌∷◌, ◌++◌, map, flat_map, length, slice_get, append_assoc, Option, Some, refl, sym, ap, subst, arith}
use Rattle.plain_lemmas.proofs.Lists.{get-front as get-left, get-map_at as get-map, length-append as length-join, length-map}
use Rattle.rdl_tree.specs.declared.item.Source.{Source}
use Rattle.rdl_values.specs.Instances.{Instance, nodes}
use Rattle.rdl_values.specs.Lineages.{Lineage, lineages}
use Rattle.rdl_nodes.proofs.Lineages.{all_nodes}
use Rattle.rdl_nodes.proofs.Members.{In}
use Rattle.rdl_layers.specs.Fields.{fields_of}
use Rattle.rdl_addr.specs.Layout.{Placed}
use Rattle.rdl_addr.specs.Rules as addr
use Rattle.rb_model.specs.declared.block.View.{View}
use Rattle.rdl_rules.specs.Block.{views}
use Rattle.rdl_rules.specs.Fields.{view_of}
use Rattle.rdl_rules.specs.Numbers.{Numbered, numbered, numbered_from, registers}
use Rattle.rdl_sound_laws.proofs.Placed.{same-registers}

-- Lists.

get-right : {X : Type 0} (xs ys : List X) (k j : ℕ) → k ≡ length xs + j → slice_get (xs ++ ys) k ≡ slice_get ys j
get-right [] ys k j e = ap (slice_get ys) (e ∙ none)
  where
    none : 0 + j ≡ j
    none = omega arith
get-right (x ∷ xs) ys zero j e = absurd (omega (arith, e))
get-right (x ∷ xs) ys (suc k) j e = get-right xs ys k j (omega (arith, e))

-- Registers.

pub number-below : (k v : ℕ) (ps : List Placed) (r : Numbered Placed) → In (numbered_from (λ p. p.node) k v ps) r → r.number < k + length ps
number-below k v [] r h = absurd h
number-below k v (p ∷ ps) r (inl e) = let same = ap (λ (x : Numbered Placed). x.number) e in omega (arith, same)
number-below k v (p ∷ ps) r (inr h) = let low = number-below (k + 1) (v + length (fields_of p.node)) ps r h in omega (arith, low)

pub as-many : (wanted : Option (List ℕ)) (s : Source) → length (addr.registers wanted s) ≡ length (registers (nodes wanted s))
as-many wanted s = sym (length-map (λ (p : Placed). p.node) (addr.registers wanted s)) ∙ ap length (same-registers wanted s)

-- Each field of a register is a view.

module _ (all : List Lineage) where
  abbrev views-of : Instance → List View
  views-of n = map (view_of all n) (fields_of n)

  view-from : (k v : ℕ) (before : List View) (ps : List Placed) (r : Numbered Placed) → length before ≡ v → In (numbered_from (λ p. p.node) k v ps) r → (j : ℕ) (f : Instance) → slice_get (fields_of r.register.node) j ≡ Some f
      → slice_get (before ++ flat_map views-of (map (λ p. p.node) ps)) (r.first_view + j) ≡ Some (view_of all r.register.node f)
  view-from k v before [] r long h j f at = absurd h
  view-from k v before (p ∷ ps) r long (inl e) j f at =
      subst (λ (x : Numbered Placed). slice_get (before ++ flat_map views-of (map (λ (q : Placed). q.node) (p ∷ ps))) (x.first_view + j) ≡ Some (view_of all x.register.node f)) e
      (get-right before (views-of p.node ++ flat_map views-of (map (λ (q : Placed). q.node) ps)) (v + j) j (omega (arith, long))
      ∙ get-left (views-of p.node) (flat_map views-of (map (λ (q : Placed). q.node) ps)) j (view_of all p.node f)
      (get-map (view_of all p.node) (fields_of p.node) j f (subst (λ (x : Numbered Placed). slice_get (fields_of x.register.node) j ≡ Some f) (sym e) at)))
  view-from k v before (p ∷ ps) r long (inr h) j f at =
      ap (λ vs. slice_get vs (r.first_view + j)) (sym (append_assoc before (views-of p.node) (flat_map views-of (map (λ (q : Placed). q.node) ps))))
      ∙ view-from (k + 1) (v + length (fields_of p.node)) (before ++ views-of p.node) ps r longer h j f at
    where
      longer : length (before ++ views-of p.node) ≡ v + length (fields_of p.node)
      longer = let join = length-join before (views-of p.node) in let own = length-map (view_of all p.node) (fields_of p.node) in omega (arith, join, own, long)

-- the view of a field, at its number
pub view-listed : (wanted : Option (List ℕ)) (s : Source) (r : Numbered Placed) → In (numbered (λ p. p.node) (addr.registers wanted s)) r → (j : ℕ) (f : Instance) → slice_get (fields_of r.register.node) j ≡ Some f
    → slice_get (views (lineages wanted s)) (r.first_view + j) ≡ Some (view_of (lineages wanted s) r.register.node f)
view-listed wanted s r h j f at =
    ap (λ ns. slice_get (flat_map (λ n. map (view_of (lineages wanted s) n) (fields_of n)) ns) (r.first_view + j)) (ap registers (all_nodes wanted s) ∙ sym (same-registers wanted s))
    ∙ view-from (lineages wanted s) 0 0 [] (addr.registers wanted s) r refl h j f at
