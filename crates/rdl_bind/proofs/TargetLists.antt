-- The first item that a property names, among those of all properties that take references.
use Rattle.std.proofs.Common.{◌≡◌, ◌∙◌, Bool, true, false, ◌||◌, cond, List, [], ◌∷◌, ◌++◌, flat_map, map, Option, None, Some, option_map, refl, sym, ap, subst}
use Rattle.std.specs.List.{list_any}
use Rattle.rdl_props.specs.declared.prop.Prop.{Prop}
use Rattle.rdl_props.specs.declared.prop.Prop.TheVariants as prop
use Rattle.rdl_props.specs.Same.{same_prop}
use Rattle.rdl_props.specs.Table.{reference_props, takes_of}
use Rattle.rdl_tree.specs.declared.node.Elab.{Elab}
use Rattle.rdl_values.specs.Instances.{Instance}
use Rattle.rdl_values.specs.Lineages.{Lineage, lineages_of}
use Rattle.rdl_layers.specs.Forms.{takes_reference}
use Rattle.rdl_layers.specs.Settings.{setting}
use Rattle.rdl_layers.proofs.Formed.{never_reference}
use denote.Enum.Bare.{same_true}
use Rattle.rdl_props.specs.contracts.prop.Prop as of_prop
use Rattle.rdl_refs.specs.declared.refs.Target.{Target}
use Rattle.rdl_refs.specs.Answers.{IsNumberOf}
use Rattle.rdl_refs.specs.Follows.{item_number}
use Rattle.rdl_refs.specs.Items.{Item, target}
use Rattle.rdl_refs.specs.Tables.{item_at}
use Rattle.rdl_refs.proofs.Listed.{no_target}
use Rattle.rdl_resolve.specs.Named.{all_named, named_by}
use Rattle.rdl_bind.specs.Targeted.{AreNumbered}

listed : (p : Prop) → takes_reference (takes_of p) ≡ true → list_any (λ q. same_prop q p) reference_props ≡ true
unfolding reference_props
listed prop.Resetsignal e = refl
listed prop.Swwe e = refl
listed prop.Swwel e = refl
listed prop.We e = refl
listed prop.Wel e = refl
listed prop.Next e = refl
listed prop.Hwset e = refl
listed prop.Hwclr e = refl
listed prop.Hwenable e = refl
listed prop.Hwmask e = refl
listed prop.Incr e = refl
listed prop.Decr e = refl
listed prop.Incrvalue e = refl
listed prop.Decrvalue e = refl
listed prop.Incrsaturate e = refl
listed prop.Decrsaturate e = refl
listed prop.Incrthreshold e = refl
listed prop.Decrthreshold e = refl
listed prop.Enable e = refl
listed prop.Mask e = refl
listed prop.Haltenable e = refl
listed prop.Haltmask e = refl
listed _ e = cc e

-- the first item of a property, if it has any
abbrev first : Prop → List (Prop × Item) → Option Item
first p [] = None
first p (y ∷ ys) = cond (same_prop y.0 p) (Some y.1) (first p ys)

abbrev head : List Item → Option Item
head [] = None
head (i ∷ is) = Some i

numbered : (e : Elab) (p : Prop) (ts : List Target) (ys : List (Prop × Item)) → AreNumbered e ts ys → item_at p ts ≡ option_map (item_number (lineages_of e)) (first p ys)
numbered e p [] [] h = refl
numbered e p [] (y ∷ ys) h = absurd h
numbered e p (t ∷ ts) [] h = absurd h
numbered e p (t ∷ ts) (y ∷ ys) h =
    ap (λ q. cond (same_prop q p) (Some t.item) (item_at p ts)) h.0
    ∙ (ap (λ k. cond (same_prop y.0 p) (Some k) (item_at p ts)) h.1
    ∙ (ap (λ o. cond (same_prop y.0 p) (Some (item_number (lineages_of e) y.1)) o) (numbered e p ts ys h.2) ∙ go (same_prop y.0 p)))
  where
    go : (b : Bool) → cond b (Some (item_number (lineages_of e) y.1)) (option_map (item_number (lineages_of e)) (first p ys)) ≡ option_map (item_number (lineages_of e)) (cond b (Some y.1) (first p ys))
    go true = refl
    go false = refl

-- behind the items of a property
behind : (p q : Prop) (is : List Item) (ys : List (Prop × Item)) → same_prop q p ≡ false → first p (map (λ i. (q, i)) is ++ ys) ≡ first p ys
behind p q [] ys e = refl
behind p q (i ∷ is) ys e = ap (λ b. cond b (Some i) (first p (map (λ j. (q, j)) is ++ ys))) e ∙ behind p q is ys e

first-here : (p q : Prop) (is : List Item) (ys : List (Prop × Item)) → same_prop q p ≡ true → (b : Bool) → first p ys ≡ cond b (head is) None → first p (map (λ i. (q, i)) is ++ ys) ≡ head is
first-here p q [] ys e true h = h
first-here p q [] ys e false h = h
first-here p q (i ∷ is) ys e b h = ap (λ c. cond c (Some i) (first p (map (λ j. (q, j)) is ++ ys))) e

first-among : (all : List Lineage) (n : Instance) (p : Prop) (ps : List Prop) → first p (flat_map (named_by all n) ps) ≡ cond (list_any (λ q. same_prop q p) ps) (head (target all (setting n p))) None
first-among all n p [] = refl
first-among all n p (q ∷ ps) = go (same_prop q p) refl (first-among all n p ps)
  where
    go : (b : Bool) → same_prop q p ≡ b → first p (flat_map (named_by all n) ps) ≡ cond (list_any (λ r. same_prop r p) ps) (head (target all (setting n p))) None
        → first p (named_by all n q ++ flat_map (named_by all n) ps) ≡ cond (same_prop q p || list_any (λ r. same_prop r p) ps) (head (target all (setting n p))) None
    go true e more =
        let is : q ≡ p = same_true of_prop.the_type tt q p e in
        subst (λ r. first p (map (λ i. (q, i)) (target all (setting n r)) ++ flat_map (named_by all n) ps) ≡ head (target all (setting n p))) (sym is)
        (first-here p q (target all (setting n p)) (flat_map (named_by all n) ps) e (list_any (λ r. same_prop r p) ps) more)
        ∙ ap (λ b. cond (b || list_any (λ r. same_prop r p) ps) (head (target all (setting n p))) None) (sym e)
    go false e more =
        behind p q (target all (setting n q)) (flat_map (named_by all n) ps) e
        ∙ (more ∙ ap (λ b. cond (b || list_any (λ r. same_prop r p) ps) (head (target all (setting n p))) None) (sym e))

nothing-else : (all : List Lineage) (n : Instance) (p : Prop) → list_any (λ q. same_prop q p) reference_props ≡ false → target all (setting n p) ≡ []
nothing-else all n p none = no_target all (setting n p) (λ q item scope place. never_reference n p q item scope place (go (takes_reference (takes_of p)) refl))
  where
    go : (b : Bool) → takes_reference (takes_of p) ≡ b → b ≡ false
    go true e = let c : true ≡ false = sym (listed p e) ∙ none in cc c
    go false e = refl

pub is-number : (e : Elab) (n : Instance) (p : Prop) (ts : List Target) → AreNumbered e ts (all_named e n) → IsNumberOf (lineages_of e) (target (lineages_of e) (setting n p)) (item_at p ts)
is-number e n p ts h =
    go (target (lineages_of e) (setting n p)) (list_any (λ q. same_prop q p) reference_props) (numbered e p ts (all_named e n) h ∙ ap (option_map (item_number (lineages_of e))) (first-among (lineages_of e) n p reference_props)) (nothing-else (lineages_of e) n p)
  where
    go : (is : List Item) (b : Bool) → item_at p ts ≡ option_map (item_number (lineages_of e)) (cond b (head is) None) → (b ≡ false → is ≡ []) → IsNumberOf (lineages_of e) is (item_at p ts)
    go [] true q none = q
    go [] false q none = q
    go (i ∷ is) true q none = q
    go (i ∷ is) false q none = absurd (let c = none refl in cc c)
