-- Which fields are listed for a register.
use Rattle.std.proofs.Common.{◌≡◌, ℕ, zero, suc, ◌+◌, ◌==◌, Bool, true, false, ◌&&◌, if◌then◌else◌, Some, List, [], ◌∷◌, map, filter, slice_get, sym, ap, ◌∙◌, subst, arith}
use Rattle.std.specs.Prelude.{Contains}
use Rattle.std.specs.List.{enumerate_from}
use Rattle.std.proofs.lemmas.Option.{same_Some}
use Rattle.rb_model.specs.declared.block.Field.{Field}
use Rattle.rb_model.specs.Items.{is_interrupt}
use Rattle.block_plan.specs.Plan.{is_member, members_among}
use Rattle.plain_lemmas.proofs.Numbers.{eq-itself as same_true}

later : (xs : List ℕ) (x k : ℕ) → Contains xs k → Contains (x ∷ xs) k
later xs x k (h, low, is) = (suc h, omega (arith, low), is)

kept_later : (c : Bool) (e : ℕ × Field) (es : List (ℕ × Field)) (k : ℕ) → Contains (map (λ (f : ℕ × Field). f.0) es) k → Contains (map (λ (f : ℕ × Field). f.0) (if c then e ∷ es else es)) k
kept_later true e es k h = later (map (λ (f : ℕ × Field). f.0) es) e.0 k h
kept_later false e es k h = h

listed_from : (n : ℕ) (fields : List Field) (r k : ℕ) (f : Field) → slice_get fields k ≡ Some f → is_member r (n + k, f) ≡ true → Contains (map (λ (e : ℕ × Field). e.0) (filter (is_member r) (enumerate_from n fields))) (n + k)
listed_from n [] r k f here t = cc
listed_from n (g ∷ fields) r zero f here t =
    let same : g ≡ f = same_Some g f here in
    let z : n + 0 ≡ n = omega arith in
    let is : is_member r (n, g) ≡ true = ap (λ h. is_member r (n, h)) same ∙ (ap (λ m. is_member r (m, f)) (sym z) ∙ t) in
    let e : (if is_member r (n, g) then (n, g) ∷ filter (is_member r) (enumerate_from (n + 1) fields) else filter (is_member r) (enumerate_from (n + 1) fields)) ≡ (n, g) ∷ filter (is_member r) (enumerate_from (n + 1) fields)
    = ap (λ c. if c then (n, g) ∷ filter (is_member r) (enumerate_from (n + 1) fields) else filter (is_member r) (enumerate_from (n + 1) fields)) is in
    let first : Contains (n ∷ map (λ (e : ℕ × Field). e.0) (filter (is_member r) (enumerate_from (n + 1) fields))) (n + 0) = (0, omega arith, sym z) in
    subst (λ es. Contains (map (λ (e : ℕ × Field). e.0) es) (n + 0)) (sym e) first
listed_from n (g ∷ fields) r (suc k) f here t =
    let z : n + 1 + k ≡ n + suc k = omega arith in
    let rest : Contains (map (λ (e : ℕ × Field). e.0) (filter (is_member r) (enumerate_from (n + 1) fields))) (n + 1 + k) = listed_from (n + 1) fields r k f here (ap (λ m. is_member r (m, f)) z ∙ t) in
    kept_later (is_member r (n, g)) (n, g) (filter (is_member r) (enumerate_from (n + 1) fields)) (n + suc k) (subst (Contains (map (λ (e : ℕ × Field). e.0) (filter (is_member r) (enumerate_from (n + 1) fields)))) z rest)

-- an interrupt is listed for its register
pub member_listed : (fields : List Field) (k : ℕ) (f : Field) → slice_get fields k ≡ Some f → is_interrupt f.latch ≡ true → Contains (members_among fields f.reg) k
member_listed fields k f here int =
    let z : 0 + k ≡ k = omega arith in
    let t : is_member f.reg (0 + k, f) ≡ true = ap (λ c. c && f.reg == f.reg) int ∙ same_true f.reg in
    subst (Contains (members_among fields f.reg)) z (listed_from 0 fields f.reg k f here t)
