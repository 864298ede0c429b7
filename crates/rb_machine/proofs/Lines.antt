-- Whether some field raises a register's line.
use Rattle.std.proofs.Common.{◌≡◌, ℕ, zero, suc, ◌+◌, ◌<◌, ◌≤◌, Bool, true, false, Option, Some, None, List, [], ◌∷◌, length, slice_get, get_or, refl, sym, ap, ◌∙◌, subst, arith}
use Rattle.std.specs.Prelude.{Contains}
use Rattle.std.specs.List.{enumerate_from, list_any}
use Rattle.std.specs.Option.{option_map_or}
use Rattle.std.proofs.lemmas.Map.Views.{exact_unsigned_eq}
use Rattle.rb_model.specs.declared.block.Block.{Block}
use Rattle.rb_model.specs.declared.block.Field.{Field}
use Rattle.rb_model.specs.declared.block.Signal.{Signal}
use Rattle.rb_model.specs.Items.{ItemValues, is_interrupt, is_on}
use Rattle.rb_model.proofs.OwnViews.{both_true}
use Rattle.rb_model.specs.Ports.{signal_name}
use Rattle.block_plan.specs.declared.plan.Plan.{Plan}
use Rattle.block_plan.specs.Plan.{IsPlaceOf, IsPlanOf, members_of}
use Rattle.block_plan.proofs.Interrupts.{member_listed}
use Rattle.rb_machine.specs.Scene.{raises_line}
use Rattle.std.proofs.lemmas.Option.{get_or_from_slice_get, slice_get_past, slice_get_read}
use Rattle.plain_lemmas.proofs.Bools.{or-true_right as or_true}

module _ {X : Type 0} (P : ℕ × X → Bool) where
  any_from : (n m : ℕ) (xs : List X) (k : ℕ) → n + k ≡ m → option_map_or (λ f. P (m, f)) (slice_get xs k) false ≡ true → list_any P (enumerate_from n xs) ≡ true
  any_from n m [] k e h = cc
  any_from n m (x ∷ xs) zero e h = let q : n ≡ m = omega arith in rw (q, h) refl
  any_from n m (x ∷ xs) (suc k) e h = or_true (P (n, x)) _ (any_from (n + 1) m xs k (omega arith) h)

  -- the test holds of the element of a number
  pub any_found : (xs : List X) (k : ℕ) → option_map_or (λ f. P (k, f)) (slice_get xs k) false ≡ true → list_any P (enumerate_from 0 xs) ≡ true
  any_found xs k h = any_from 0 k xs k (omega arith) h

  none_from : (n : ℕ) (xs : List X) → ((k : ℕ) (x : X) → slice_get xs k ≡ Some x → P (n + k, x) ≡ false) → list_any P (enumerate_from n xs) ≡ false
  none_from n [] h = refl
  none_from n (x ∷ xs) h =
      let e : n + 0 ≡ n = omega arith in
      let here : P (n, x) ≡ false = subst (λ m. P (m, x) ≡ false) e (h 0 x refl) in
      rw here (none_from (n + 1) xs (λ k y at. let f : n + suc k ≡ n + 1 + k = omega arith in subst (λ m. P (m, y) ≡ false) f (h (suc k) y at)))

  -- the test holds of none
  pub any_none : (xs : List X) → ((k : ℕ) (x : X) → slice_get xs k ≡ Some x → P (k, x) ≡ false) → list_any P (enumerate_from 0 xs) ≡ false
  any_none xs h = none_from 0 xs (λ k x at. let e : k ≡ 0 + k = omega arith in subst (λ m. P (m, x) ≡ false) e (h k x at))

-- a field that raises a line is an interrupt of the register
line_of : (v : ItemValues) (halt : Bool) (r : ℕ) (k : ℕ) (f : Field) → raises_line v halt r (k, f) ≡ true → (is_interrupt f.latch ≡ true) × (f.reg ≡ r)
line_of v true r k f h = let q = both_true _ _ (both_true _ _ (both_true (is_on f.halt) _ h).1).0 in (q.0, exact_unsigned_eq _ _ q.1)
line_of v false r k f h = let q = both_true _ _ (both_true _ _ h).0 in (q.0, exact_unsigned_eq _ _ q.1)

-- no field raises the line where none of those listed does
pub none_raised : (b : Block) (p : Plan) (v : ItemValues) (halt : Bool) (r n : ℕ) (ks : List ℕ) → IsPlanOf b p → ks ≡ members_of p r → length ks ≤ n
    → ((h : ℕ) → h < n → option_map_or (λ f. raises_line v halt r (get_or ks h 0, f)) (slice_get b.fields (get_or ks h 0)) false ≡ false)
    → list_any (raises_line v halt r) (enumerate_from 0 b.fields) ≡ false
none_raised b p v halt r n ks planned are past none = any_none (raises_line v halt r) b.fields (λ k f here. by k f here (raises_line v halt r (k, f)) refl)
  where
    by : (k : ℕ) (f : Field) → slice_get b.fields k ≡ Some f → (c : Bool) → raises_line v halt r (k, f) ≡ c → c ≡ false
    by k f here false e = refl
    by k f here true e =
        let of = line_of v halt r k f e in
        let (h, low, is) = subst (λ s. Contains (members_of p s) k) of.1 (subst (λ ks. Contains ks k) (sym (planned.members f.reg)) (member_listed b.fields k f here of.0)) in
        let members = members_of p r in
        let at : get_or ks h 0 ≡ k = ap (λ l. get_or l h 0) are ∙ get_or_from_slice_get members h k 0 (slice_get_read members (length members) h k refl low (sym is)) in
        let within : h < n = omega (arith, low, ap length are, past) in
        let no : option_map_or (λ g. raises_line v halt r (k, g)) (slice_get b.fields k) false ≡ false
        = subst (λ m. option_map_or (λ g. raises_line v halt r (m, g)) (slice_get b.fields m) false ≡ false) at (none h within) in
        sym e ∙ (ap (λ o. option_map_or (λ g. raises_line v halt r (k, g)) o false) (sym here) ∙ no)

-- a signal has a place
pub no_signal : (b : Block) (places : List ℕ) (g : Signal → ℕ) (k : ℕ) → ((k : ℕ) (s : Signal) → slice_get b.signals k ≡ Some s → (place : ℕ) × (slice_get places k ≡ Some place) × IsPlaceOf b (signal_name s) place)
    → length places ≤ k → 0 ≡ option_map_or g (slice_get b.signals k) 0
no_signal b places g k h past = by (slice_get b.signals k) refl
  where
    by : (o : Option Signal) → slice_get b.signals k ≡ o → 0 ≡ option_map_or g o 0
    by None e = refl
    by (Some s) e = let (place, there, is) = h k s e in let q : None ≡ Some place = sym (slice_get_past places k past) ∙ there in cc
