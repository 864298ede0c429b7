-- The interrupts of each register.
use Rattle.std.proofs.Common.{◌≡◌, ℕ, zero, suc, ◌+◌, ◌<◌, ◌≤◌, ◌==◌, Bool, true, false, ◌&&◌, if◌then◌else◌, Some, List, [], ◌∷◌, ◌++◌, Vec, Global, length, get_or, take, map, filter, slice_get, refl, sym, ap, ◌∙◌, arith, inl, inr, ◌⊎◌, get_or-set_same, append-nil}
use Rattle.std.specs.List.{enumerate_from}
use Rattle.std.specs.Option.{option_map_or}
use Rattle.std.proofs.Math.ListN.{set}
use Rattle.std.proofs.lemmas.List.{length-set, length-take, map-append, take_more, take_all}
use Rattle.std.proofs.lemmas.List.Elements.{filter-append}
use Rattle.std.proofs.lemmas.Option.{slice_get-get_or, slice_get_read}
use Rattle.rb_model.specs.declared.block.Field.{Field}
use Rattle.rb_model.specs.Items.{is_interrupt}
use Rattle.rb_model.proofs.PortLists.{enumerate_from-push}
use Rattle.block_plan.specs.Plan.{is_member, members_among, members_at}

set_same : {X : Type 0} (xs : List X) (r : ℕ) (x : X) → r < length xs → slice_get (set xs r x) r ≡ Some x
set_same xs r x l =
    let low : r < length (set xs r x) = omega (arith, l, length-set xs r x) in
    let e : get_or (set xs r x) r x ≡ x = rw get_or-set_same refl in
    slice_get-get_or (set xs r x) r x low ∙ ap Some e

set_other : {X : Type 0} (xs : List X) (r s : ℕ) (x : X) → (s ≡ r → ⊥) → slice_get (set xs r x) s ≡ slice_get xs s
set_other [] r s x h = refl
set_other (y ∷ xs) zero zero x h = absurd (h refl)
set_other (y ∷ xs) zero (suc s) x h = refl
set_other (y ∷ xs) (suc r) zero x h = refl
set_other (y ∷ xs) (suc r) (suc s) x h = set_other xs r s x (λ e. h (ap (λ n. suc n) e))

same_or_other : (m n : ℕ) → ((m ≡ n) × ((m == n) ≡ true)) ⊎ ((n ≡ m → ⊥) × ((m == n) ≡ false))
same_or_other m n = grind arith

at_some : (all : List (Vec ℕ Global)) (r : ℕ) (v : Vec ℕ Global) → slice_get all r ≡ Some v → members_at all r ≡ v.items
at_some all r v e = ap (λ o. option_map_or (λ v. v.items) o []) e

-- one field more
more : (fields : List Field) (i r : ℕ) (g : Field) → i < length fields → g ≡ get_or fields i g → members_among (take (i + 1) fields) r ≡ members_among (take i fields) r ++ (if is_member r (i, g) then i ∷ [] else [])
more fields i r g low is =
    let long : 0 + length (take i fields) ≡ i = omega (arith, length-take i fields) in
    let t : take (i + 1) fields ≡ take i fields ++ g ∷ [] = take_more fields i g low ∙ ap (λ y. take i fields ++ y ∷ []) (sym is) in
    ap (λ ys. members_among ys r) t
    ∙ ap (λ es. map (λ (f : ℕ × Field). f.0) (filter (is_member r) es)) (enumerate_from-push 0 i (take i fields) g long)
    ∙ ap (map (λ (f : ℕ × Field). f.0)) (filter-append (is_member r) (enumerate_from 0 (take i fields)) ((i, g) ∷ []))
    ∙ map-append (λ (f : ℕ × Field). f.0) (filter (is_member r) (enumerate_from 0 (take i fields))) (filter (is_member r) ((i, g) ∷ []))
    ∙ ap (λ ys. members_among (take i fields) r ++ ys) (one (is_member r (i, g)))
  where
    one : (c : Bool) → map (λ (f : ℕ × Field). f.0) (if c then (i, g) ∷ [] else []) ≡ (if c then i ∷ [] else [])
    one true = refl
    one false = refl

-- one that is no interrupt
pub listed_none : (fields : List Field) (all : List (Vec ℕ Global)) (i : ℕ) (g : Field) → i < length fields → g ≡ get_or fields i g → is_interrupt g.latch ≡ false
    → ((r : ℕ) → members_at all r ≡ members_among (take i fields) r) → (r : ℕ) → members_at all r ≡ members_among (take (i + 1) fields) r
listed_none fields all i g low is non before r =
    before r ∙ sym (more fields i r g low is ∙ ap (λ c. members_among (take i fields) r ++ (if c && g.reg == r then i ∷ [] else [])) non ∙ append-nil (members_among (take i fields) r))

-- one interrupt
pub listed_more : (fields : List Field) (all : List (Vec ℕ Global)) (i : ℕ) (g : Field) (v v' : Vec ℕ Global) (n : ℕ) → i < length fields → g ≡ get_or fields i g → is_interrupt g.latch ≡ true → g.reg < length all → v ≡ get_or all g.reg v → n ≡ i
    → v'.items ≡ v.items ++ n ∷ [] → ((r : ℕ) → members_at all r ≡ members_among (take i fields) r) → (r : ℕ) → members_at (set all g.reg v') r ≡ members_among (take (i + 1) fields) r
listed_more fields all i g v v' n low is int room at e pushed before r = by (same_or_other g.reg r)
  where
    old : slice_get all g.reg ≡ Some v
    old = slice_get_read all (length all) g.reg v refl room at

    new : members_at (set all g.reg v') g.reg ≡ v.items ++ n ∷ []
    new = at_some (set all g.reg v') g.reg v' (set_same all g.reg v' room) ∙ pushed

    after : (c : Bool) → (g.reg == r) ≡ c → members_among (take (i + 1) fields) r ≡ members_among (take i fields) r ++ (if c then i ∷ [] else [])
    after c t = more fields i r g low is ∙ ap (λ d. members_among (take i fields) r ++ (if d && g.reg == r then i ∷ [] else [])) int ∙ ap (λ d. members_among (take i fields) r ++ (if d then i ∷ [] else [])) t

    by : ((g.reg ≡ r) × ((g.reg == r) ≡ true)) ⊎ ((r ≡ g.reg → ⊥) × ((g.reg == r) ≡ false)) → members_at (set all g.reg v') r ≡ members_among (take (i + 1) fields) r
    by (inl s) =
        ap (members_at (set all g.reg v')) (sym s.0) ∙ new ∙ ap (λ m. v.items ++ m ∷ []) e
        ∙ ap (λ ys. ys ++ i ∷ []) (sym (at_some all g.reg v old) ∙ before g.reg ∙ ap (members_among (take i fields)) s.0) ∙ sym (after true s.1)
    by (inr o) =
        ap (λ q. option_map_or (λ v. v.items) q []) (set_other all g.reg r v' o.0) ∙ before r ∙ sym (after false o.1 ∙ append-nil (members_among (take i fields) r))

-- all fields
pub listed_all : (fields : List Field) (all : List (Vec ℕ Global)) (i : ℕ) → length fields ≤ i → ((r : ℕ) → members_at all r ≡ members_among (take i fields) r) → (r : ℕ) → members_at all r ≡ members_among fields r
listed_all fields all i past before r = before r ∙ ap (λ ys. members_among ys r) (take_all i fields past)
