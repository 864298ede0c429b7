-- The fields of a block, by the numbers of their registers.
use Rattle.std.proofs.Common.{◌≡◌, ◌∙◌, inl, inr, ℕ, zero, suc, ◌+◌, ◌<◌, ◌==◌, Bool, true, false, not, ◌&&◌, ◌||◌, cond, List, [], ◌∷◌, map, filter, flat_map, length, Some, slice_get, refl, subst, arith}
use Rattle.std.specs.List.{list_any}
use Rattle.std.proofs.lemmas.List.Folds.{list_any-append}
use Rattle.plain_lemmas.proofs.Numbers.{differ as later-number, differ_above as other-number, eq-itself as same-number}
use Rattle.rdl_tree.specs.declared.item.Source.{Source}
use Rattle.rdl_values.specs.Instances.{Instance}
use Rattle.rdl_values.specs.Lineages.{Lineage}
use Rattle.rdl_nodes.proofs.Members.{In}
use Rattle.rdl_layers.specs.Fields.{fields_of, is_alias}
use Rattle.rb_model.specs.declared.block.Field.{Field}
use Rattle.rdl_rules.specs.Fields.{field_of}
use Rattle.rdl_rules.specs.Numbers.{Numbered, numbered_from}

module _ (s : Source) (all : List Lineage) (p : Field → Bool) (q : Instance → Bool) where
  abbrev of-number : ℕ → Field → Bool
  of-number k f = f.reg == k && p f

  abbrev with-fields : List (Numbered Lineage) → List Field
  with-fields rs = flat_map (λ r. map (field_of s all r) (fields_of r.register.node)) (filter (λ r. not (is_alias r.register.node)) rs)

  abbrev from : ℕ → ℕ → List Lineage → List Field
  from n v ls = with-fields (numbered_from (λ l. l.node) n v ls)

  -- the fields of one register
  mine : (r : Numbered Lineage) (fs : List Instance) → ((f : Instance) → In fs f → p (field_of s all r f) ≡ q f) → list_any (of-number r.number) (map (field_of s all r) fs) ≡ list_any q fs
  mine r [] h = refl
  mine r (f ∷ fs) h = go (r.number == r.number) (same-number r.number) (h f (inl refl)) (mine r fs (λ g i. h g (inr i)))
    where
      go : (b : Bool) → b ≡ true → p (field_of s all r f) ≡ q f → list_any (of-number r.number) (map (field_of s all r) fs) ≡ list_any q fs → ((b && p (field_of s all r f)) || list_any (of-number r.number) (map (field_of s all r) fs)) ≡ (q f || list_any q fs)
      go true e x y = rw x (rw y refl)
      go false e x y = cc

  not-mine : (k : ℕ) (r : Numbered Lineage) (fs : List Instance) → (r.number == k) ≡ false → list_any (of-number k) (map (field_of s all r) fs) ≡ false
  not-mine k r [] e = refl
  not-mine k r (f ∷ fs) e = rw e (not-mine k r fs e)

  -- the fields of a register before those of others
  before : (k : ℕ) (r : Numbered Lineage) (rs : List (Numbered Lineage)) → list_any (of-number k) (with-fields (r ∷ rs)) ≡ ((not (is_alias r.register.node) && list_any (of-number k) (map (field_of s all r) (fields_of r.register.node))) || list_any (of-number k) (with-fields rs))
  before k r rs = go (not (is_alias r.register.node))
    where
      go : (b : Bool) → list_any (of-number k) (flat_map (λ x. map (field_of s all x) (fields_of x.register.node)) (cond b (r ∷ filter (λ x. not (is_alias x.register.node)) rs) (filter (λ x. not (is_alias x.register.node)) rs))) ≡ ((b && list_any (of-number k) (map (field_of s all r) (fields_of r.register.node))) || list_any (of-number k) (with-fields rs))
      go true = list_any-append (of-number k) (map (field_of s all r) (fields_of r.register.node)) (with-fields rs)
      go false = refl

  or-false : (a b c : Bool) → b ≡ false → c ≡ false → ((a && b) || c) ≡ false
  or-false true b c x y = rw x y
  or-false false b c x y = y

  none-later : (k n v : ℕ) (ls : List Lineage) → k < n → list_any (of-number k) (from n v ls) ≡ false
  none-later k n v [] l = refl
  none-later k n v (x ∷ ls) l = before k (record { register = x; number = n; first_view = v }) (numbered_from (λ l. l.node) (n + 1) (v + length (fields_of x.node)) ls)
      ∙ or-false (not (is_alias x.node)) _ _ (not-mine k (record { register = x; number = n; first_view = v }) (fields_of x.node) (later-number n k l)) (none-later k (n + 1) (v + length (fields_of x.node)) ls (omega (arith, l)))

  or-last : (a b c d : Bool) → b ≡ d → c ≡ false → ((a && b) || c) ≡ (a && d)
  or-last true b c d x y = rw x (rw y (or-right d))
    where
      or-right : (e : Bool) → (e || false) ≡ e
      or-right true = refl
      or-right false = refl
  or-last false b c d x y = y

  or-first : (a b c : Bool) → b ≡ false → ((a && b) || c) ≡ c
  or-first true b c x = rw x refl
  or-first false b c x = refl

  head-fields : (n v : ℕ) (ls : List Lineage) (l : Lineage) → (is_alias l.node ≡ false → (r : Numbered Lineage) (f : Instance) → In (fields_of l.node) f → p (field_of s all r f) ≡ q f) → list_any (of-number (n + 0)) (from n v (l ∷ ls)) ≡ (not (is_alias l.node) && list_any q (fields_of l.node))
  head-fields n v ls l h = before (n + 0) r rs ∙ go (is_alias l.node) refl
    where
      r : Numbered Lineage
      r = record { register = l; number = n; first_view = v }

      rs : List (Numbered Lineage)
      rs = numbered_from (λ y. y.node) (n + 1) (v + length (fields_of l.node)) ls

      none : list_any (of-number (n + 0)) (with-fields rs) ≡ false
      none = none-later (n + 0) (n + 1) (v + length (fields_of l.node)) ls (omega arith)

      go : (b : Bool) → is_alias l.node ≡ b → ((not b && list_any (of-number (n + 0)) (map (field_of s all r) (fields_of l.node))) || list_any (of-number (n + 0)) (with-fields rs)) ≡ (not b && list_any q (fields_of l.node))
      go true e = none
      go false e = or-last true _ _ (list_any q (fields_of l.node)) (subst (λ m. list_any (of-number m) (map (field_of s all r) (fields_of l.node)) ≡ list_any q (fields_of l.node)) (omega arith) (mine r (fields_of l.node) (h e r))) none

  numbered-fields : (k n v : ℕ) (ls : List Lineage) (l : Lineage) → slice_get ls k ≡ Some l → (is_alias l.node ≡ false → (r : Numbered Lineage) (f : Instance) → In (fields_of l.node) f → p (field_of s all r f) ≡ q f) → list_any (of-number (n + k)) (from n v ls) ≡ (not (is_alias l.node) && list_any q (fields_of l.node))
  numbered-fields k n v [] l e h = cc e
  numbered-fields zero n v (x ∷ ls) l e h =
      let same : l ≡ x = cc e in
      subst (λ y. list_any (of-number (n + 0)) (from n v (y ∷ ls)) ≡ (not (is_alias l.node) && list_any q (fields_of l.node))) same (head-fields n v ls l h)
  numbered-fields (suc k) n v (x ∷ ls) l e h =
      before (n + suc k) (record { register = x; number = n; first_view = v }) (numbered_from (λ y. y.node) (n + 1) (v + length (fields_of x.node)) ls)
      ∙ or-first (not (is_alias x.node)) _ _ (not-mine (n + suc k) (record { register = x; number = n; first_view = v }) (fields_of x.node) (other-number n (n + suc k) (omega arith)))
      ∙ subst (λ m. list_any (of-number m) (from (n + 1) (v + length (fields_of x.node)) ls) ≡ (not (is_alias l.node) && list_any q (fields_of l.node))) (omega arith) (numbered-fields k (n + 1) (v + length (fields_of x.node)) ls l e h)

  -- the fields of the register of a number
  pub fields-at : (k : ℕ) (ls : List Lineage) (l : Lineage) → slice_get ls k ≡ Some l → (is_alias l.node ≡ false → (r : Numbered Lineage) (f : Instance) → In (fields_of l.node) f → p (field_of s all r f) ≡ q f) → list_any (of-number k) (from 0 0 ls) ≡ (not (is_alias l.node) && list_any q (fields_of l.node))
  fields-at k ls l e h = subst (λ m. list_any (of-number m) (from 0 0 ls) ≡ (not (is_alias l.node) && list_any q (fields_of l.node))) (omega arith) (numbered-fields k 0 0 ls l e h)
