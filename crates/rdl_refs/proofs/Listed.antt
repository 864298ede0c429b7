-- Only the properties that take references can hold one.
use Rattle.std.proofs.Common.{◌≡◌, ◌∙◌, ℕ, Bool, true, false, cond, List, [], ◌∷◌, ◌++◌, flat_map, filter, Option, refl, sym, ap}
use Rattle.plain_lemmas.proofs.Lists.{flat_map-alike as each_same}
use Rattle.rb_base.specs.declared.place.Place.{Place}
use Rattle.rdl_tree.specs.declared.expr.Name.{Name}
use Rattle.rdl_tree.specs.declared.expr.Path.{Path}
use Rattle.rdl_tree.specs.declared.item.Source.{Source}
use Rattle.rdl_props.specs.Table.{props, reference_props, takes_of}
use Rattle.rdl_props.specs.declared.prop.Prop.{Prop}
use Rattle.rdl_values.specs.Bodies.{Scope}
use Rattle.rdl_values.specs.Instances.{nodes}
use Rattle.rdl_values.specs.Lineages.{Lineage, lineages}
use Rattle.rdl_layers.specs.Forms.{Meaning, reference, takes_reference}
use Rattle.rdl_layers.specs.Settings.{setting}
use Rattle.rdl_layers.proofs.Formed.{never_reference, references_listed}
use Rattle.rdl_refs.specs.Items.{target, bad_reference, failures_r}

pub kept : {X Y : Type 0} (f : X → List Y) (t : X → Bool) (xs : List X) → ((x : X) → t x ≡ false → f x ≡ []) → flat_map f (filter t xs) ≡ flat_map f xs
kept f t [] h = refl
kept f t (x ∷ xs) h = go (t x) refl (kept f t xs h)
  where
    go : (b : Bool) → t x ≡ b → flat_map f (filter t xs) ≡ flat_map f xs → flat_map f (cond b (x ∷ filter t xs) (filter t xs)) ≡ f x ++ flat_map f xs
    go true e k = ap (λ ys. f x ++ ys) k
    go false e k = k ∙ sym (ap (λ ys. ys ++ flat_map f xs) (h x e))

abbrev pub NeverReference : Meaning → Type 0
NeverReference m = (q : Path) (item : Option Name) (scope : Scope) (place : Place) → m ≡ reference q item scope place → ⊥

pub no_target : (all : List Lineage) (m : Meaning) → NeverReference m → target all m ≡ []
no_target all (reference q item scope place) h = absurd (h q item scope place refl)
no_target all m h = refl

nothing_bad : (all : List Lineage) (p : Prop) (m : Meaning) → NeverReference m → bad_reference all p m ≡ []
nothing_bad all p (reference q item scope place) h = absurd (h q item scope place refl)
nothing_bad all p m h = refl

-- over the listed properties and over all of them comes the same
pub over_all : {Y : Type 0} (f : Prop → List Y) → ((p : Prop) → takes_reference (takes_of p) ≡ false → f p ≡ []) → flat_map f reference_props ≡ flat_map f props
over_all f h = ap (flat_map f) (sym references_listed) ∙ kept f (λ p. takes_reference (takes_of p)) props h

pub all_judged : (wanted : Option (List ℕ)) (s : Source) → failures_r wanted s ≡ flat_map (λ n. flat_map (λ p. bad_reference (lineages wanted s) p (setting n p)) props) (nodes wanted s)
unfolding failures_r
all_judged wanted s = each_same (λ n. flat_map (λ p. bad_reference (lineages wanted s) p (setting n p)) reference_props) (λ n. flat_map (λ p. bad_reference (lineages wanted s) p (setting n p)) props) (nodes wanted s) (λ n. over_all (λ p. bad_reference (lineages wanted s) p (setting n p)) (λ p e. nothing_bad (lineages wanted s) p (setting n p) (λ q item scope place. never_reference n p q item scope place e)))
