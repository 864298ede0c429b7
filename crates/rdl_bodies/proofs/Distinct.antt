-- A table of parameters of which no two have one name.
use Rattle.std.proofs.Common.{◌≡◌, ◌∙◌, ℕ, ◌+◌, ◌<◌, Bool, true, false, ◌||◌, cond, List, [], ◌∷◌, ◌++◌, length, get_or, map, take, drop, Some, find, is_some, option_map, bytes_eq, refl, sym, ap, subst}
use Rattle.std.specs.List.{list_any}
use Rattle.std.proofs.lemmas.List.{at_drop_more, map-append, take_more}
use Rattle.rdl_tree.specs.declared.value.Bound.{Bound}
use Rattle.rdl_values.specs.Parameters as parameters
use Rattle.rdl_values.specs.Seen.{bound_of}
use Rattle.rdl_values.specs.Values.{Names, Val, entry_named}
use Rattle.rdl_bodies.specs.Kept.{AreDistinct}

named-some : (n : List ℕ) (bs : List (List ℕ × Val)) → is_some (entry_named n bs) ≡ list_any (λ x. bytes_eq x.0 n) bs
named-some n [] = refl
named-some n (b ∷ bs) = go (bytes_eq b.0 n) refl (named-some n bs)
  where
    go : (t : Bool) → bytes_eq b.0 n ≡ t → is_some (entry_named n bs) ≡ list_any (λ x. bytes_eq x.0 n) bs → is_some (entry_named n (b ∷ bs)) ≡ list_any (λ x. bytes_eq x.0 n) (b ∷ bs)
    go true e others = ap (λ t. is_some (option_map (λ x. x.1) (cond t (Some b) (find (λ x. bytes_eq x.0 n) bs)))) e ∙ ap (λ t. t || list_any (λ x. bytes_eq x.0 n) bs) (sym e)
    go false e others = ap (λ t. is_some (option_map (λ x. x.1) (cond t (Some b) (find (λ x. bytes_eq x.0 n) bs)))) e ∙ others ∙ ap (λ t. t || list_any (λ x. bytes_eq x.0 n) bs) (sym e)

-- the parameters so far, where the others have other names
abbrev pub Added : List Bound → ℕ → parameters.Bound → Type 0
Added bound k table = (table ≡ map bound_of (take k bound)) × AreDistinct table (map bound_of (drop k bound))

pub added_more : (bound : List Bound) (k : ℕ) (d : Bound) (table table' : parameters.Bound) → k < length bound → Added bound k table → table' ≡ cond (is_some (entry_named (get_or bound k d).name.text.now table)) table (table ++ (bound_of (get_or bound k d) ∷ [])) → Added bound (k + 1) table'
added_more bound k d table table' l h e =
    let x = get_or bound k d in
    let dropped = subst (AreDistinct table) (at_drop_more (map bound_of) bound k d l) h.1 in
    let new = named-some x.name.text.now table ∙ dropped.0 in
    let is = e ∙ ap (λ t. cond t table (table ++ (bound_of x ∷ []))) new in
    let taken = ap (map bound_of) (take_more bound k d l) ∙ map-append bound_of (take k bound) (x ∷ []) in
    (is ∙ ap (λ bs. bs ++ (bound_of x ∷ [])) h.0 ∙ sym taken, subst (λ bs. AreDistinct bs (map bound_of (drop (k + 1) bound))) (sym is) dropped.1)

pub is_table : (t : Names) (bound : parameters.Bound) → t.bound ≡ bound → t.enums ≡ [] → t ≡ record { bound = bound; enums = [] }
is_table t bound p q = ap (λ b. record { bound = b; enums = t.enums }) p ∙ ap (λ e. record { bound = bound; enums = e }) q
