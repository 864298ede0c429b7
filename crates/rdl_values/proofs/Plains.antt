-- The parameters of a text, with the values that they have by it.
use Rattle.std.proofs.Common.{◌≡◌, ◌∙◌, ℕ, zero, suc, List, [], ◌∷◌, ◌++◌, length, map, take, slice_get, Option, Some, refl, sym, ap, append_assoc, append-nil}
use Rattle.rdl_tree.specs.declared.item.Param.{Param}
use Rattle.rdl_values.specs.Overlaid.{Plain, plain_entry, plain_from, plain_of}

plain-append : (before : Plain) (ps qs : List Param) → plain_from before (ps ++ qs) ≡ plain_from before ps ++ plain_from (before ++ plain_from before ps) qs
plain-append before [] qs = ap (λ b. plain_from b qs) (sym (append-nil before))
plain-append before (p ∷ ps) qs =
    let x = plain_entry before p in
    let rest = plain_from (before ++ (x ∷ [])) ps in
    ap (λ r. x ∷ r) (plain-append (before ++ (x ∷ [])) ps qs ∙ ap (λ b. rest ++ plain_from b qs) (append_assoc before (x ∷ []) rest))

-- one more behind the others
pub plain-more : (ps : List Param) (p : Param) → plain_of (ps ++ (p ∷ [])) ≡ plain_of ps ++ (plain_entry (plain_of ps) p ∷ [])
plain-more ps p = plain-append [] ps (p ∷ [])

take-from : (before : Plain) (ps : List Param) (k : ℕ) → take k (plain_from before ps) ≡ plain_from before (take k ps)
take-from before ps zero = refl
take-from before [] (suc k) = refl
take-from before (p ∷ ps) (suc k) = ap (λ r. plain_entry before p ∷ r) (take-from (before ++ (plain_entry before p ∷ [])) ps k)

-- a front of them
pub plain-take : (ps : List Param) (k : ℕ) → take k (plain_of ps) ≡ plain_of (take k ps)
plain-take ps k = take-from [] ps k

at-from : (before : Plain) (ps : List Param) (k : ℕ) (p : Param) → slice_get ps k ≡ Some p → slice_get (plain_from before ps) k ≡ Some (plain_entry (before ++ take k (plain_from before ps)) p)
at-from before [] k p e = cc
at-from before (q ∷ ps) zero p e = let same : q ≡ p = cc in ap (λ b. Some (plain_entry b q)) (sym (append-nil before)) ∙ ap (λ r. Some (plain_entry (before ++ []) r)) same
at-from before (q ∷ ps) (suc k) p e =
    let x = plain_entry before q in
    at-from (before ++ (x ∷ [])) ps k p e ∙ ap (λ b. Some (plain_entry b p)) (append_assoc before (x ∷ []) (take k (plain_from (before ++ (x ∷ [])) ps)))

-- that at a place
pub plain-at : (ps : List Param) (k : ℕ) (p : Param) → slice_get ps k ≡ Some p → slice_get (plain_of ps) k ≡ Some (plain_entry (take k (plain_of ps)) p)
plain-at ps k p e = at-from [] ps k p e

length-from : (before : Plain) (ps : List Param) → length (plain_from before ps) ≡ length ps
length-from before [] = refl
length-from before (p ∷ ps) = ap suc (length-from (before ++ (plain_entry before p ∷ [])) ps)

pub plain-length : (ps : List Param) → length (plain_of ps) ≡ length ps
plain-length ps = length-from [] ps

names-from : (before : Plain) (ps : List Param) → map (λ x. x.0) (plain_from before ps) ≡ map (λ p. p.name.text.now) ps
names-from before [] = refl
names-from before (p ∷ ps) = ap (λ r. p.name.text.now ∷ r) (names-from (before ++ (plain_entry before p ∷ [])) ps)

pub plain-names : (ps : List Param) → map (λ x. x.0) (plain_of ps) ≡ map (λ p. p.name.text.now) ps
plain-names ps = names-from [] ps
