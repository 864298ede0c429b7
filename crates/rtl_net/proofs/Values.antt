-- The values of expressions.
use Rattle.std.specs.List.{slice_get, AllByRecursion, list_all}
use Rattle.std.proofs.Common.{ℕ, ◌≡◌, ◌<◌, ◌^◌, ◌==◌, true, false, List, [], ◌∷◌, Option, Some, None, is_some, unwrap_or, IfSome, refl, ap, sym, ◌∙◌, subst}
use Rattle.std.specs.Prelude.{count_ones, option_and_then}
use Rattle.std.proofs.lemmas.Bool.{and_parts}
use Rattle.std.proofs.lemmas.Option.{none-some}
use Rattle.rtl_net.specs.Value.{At, expr_width, expr_value, operands}
use Rattle.rtl_net.specs.Net.{Net, widths, width_in, Settles, CanWire}
use Rattle.rtl_net.specs.Made.{IsMade}
use Rattle.rtl_net.specs.Fold.{constant, constant_of, constant_at, is_constant, constant_values}
use Rattle.rtl_net.specs.declared.node.Id.{Id}
use Rattle.rtl_net.specs.declared.node.NetNode.{NetNode}
use Rattle.rtl_net.specs.declared.node.NetNode.TheVariants.{Input, Register, Wire}
use Rattle.rtl_net.specs.declared.node.NetExpr.{NetExpr}
use Rattle.rtl_net.specs.declared.node.NetExpr.TheVariants.{Const, Part, Cat, Not, All, Any, Odd, Add, Sub, And, Or, Xor, Eq, Lt, Pick}
use Rattle.rtl_net.proofs.Places.{slice_get-within}
use Rattle.rtl_net.proofs.Widths.{width_at, width_most}
use Rattle.rtl_net.proofs.Making.{wire_width}
use Rattle.rtl_net.proofs.Numbers.{bit_fits, odd_fits, mod_fits, cat_fits, and_fits, or_fits, xor_fits, not_fits, pick_fits}

-- an expression looks at its operands alone
pub expr_value-same : (ws : List ℕ) (f g : ℕ → ℕ) (e : NetExpr) → AllByRecursion (λ a. f a.0 ≡ g a.0) (operands e) → expr_value ws f e ≡ expr_value ws g e
expr_value-same ws f g (Const w x) h = refl
expr_value-same ws f g (Part a hi lo) h = rw h.0 refl
expr_value-same ws f g (Cat a b) h = rw (h.0, h.1.0) refl
expr_value-same ws f g (Not a) h = rw h.0 refl
expr_value-same ws f g (All a) h = rw h.0 refl
expr_value-same ws f g (Any a) h = rw h.0 refl
expr_value-same ws f g (Odd a) h = rw h.0 refl
expr_value-same ws f g (Add a b) h = rw (h.0, h.1.0) refl
expr_value-same ws f g (Sub a b) h = rw (h.0, h.1.0) refl
expr_value-same ws f g (And a b) h = rw (h.0, h.1.0) refl
expr_value-same ws f g (Or a b) h = rw (h.0, h.1.0) refl
expr_value-same ws f g (Xor a b) h = rw (h.0, h.1.0) refl
expr_value-same ws f g (Eq a b) h = rw (h.0, h.1.0) refl
expr_value-same ws f g (Lt a b) h = rw (h.0, h.1.0) refl
expr_value-same ws f g (Pick c a b) h = rw (h.0, h.1.0, h.1.1.0) refl

-- an expression's value is within its width, where those of its operands are
pub expr_fits : (net : Net) (v : ℕ → ℕ) (e : NetExpr) → CanWire net e → AllByRecursion (λ a. v a.0 < 2 ^ width_in net a) (operands e) → expr_value (widths net) v e < 2 ^ expr_width (widths net) e
expr_fits net v (Const w x) m h = m.2
expr_fits net v (Part a hi lo) m h = mod_fits _ _
expr_fits net v (Cat a b) m h = cat_fits (v a.0) (v b.0) (width_in net a) (width_in net b) h.0 h.1.0
expr_fits net v (Not a) m h = not_fits (v a.0) (width_in net a)
expr_fits net v (All a) m h = bit_fits _
expr_fits net v (Any a) m h = bit_fits _
expr_fits net v (Odd a) m h = odd_fits (count_ones (v a.0))
expr_fits net v (Add a b) m h = mod_fits _ _
expr_fits net v (Sub a b) m h = mod_fits _ _
expr_fits net v (And a b) m h = and_fits (v a.0) (v b.0) (width_in net a) h.0 (rw m.2 h.1.0)
expr_fits net v (Or a b) m h = or_fits (v a.0) (v b.0) (width_in net a) h.0 (rw m.2 h.1.0)
expr_fits net v (Xor a b) m h = xor_fits (v a.0) (v b.0) (width_in net a) h.0 (rw m.2 h.1.0)
expr_fits net v (Eq a b) m h = bit_fits _
expr_fits net v (Lt a b) m h = bit_fits _
expr_fits net v (Pick c a b) m h = pick_fits (v c.0 == 0) (v b.0) (v a.0) (2 ^ width_in net a) (rw m.4 h.1.1.0) h.1.0

-- a constant that stands
constant_wire : (ns : List NetNode) (i x : ℕ) → constant_at ns i ≡ Some x → (w : ℕ) × (slice_get ns i ≡ Some (Wire (Const w x)))
constant_wire ns i x h = by (slice_get ns i) refl
  where
    of_expr : (e : NetExpr) → constant_of e ≡ Some x → (w : ℕ) × (e ≡ Const w x)
    of_expr (Const w y) q = (w, ap (Const w) (let r : y ≡ x = cc in r))
    of_expr (Part a hi lo) q = absurd (none-some x q)
    of_expr (Cat a b) q = absurd (none-some x q)
    of_expr (Not a) q = absurd (none-some x q)
    of_expr (All a) q = absurd (none-some x q)
    of_expr (Any a) q = absurd (none-some x q)
    of_expr (Odd a) q = absurd (none-some x q)
    of_expr (Add a b) q = absurd (none-some x q)
    of_expr (Sub a b) q = absurd (none-some x q)
    of_expr (And a b) q = absurd (none-some x q)
    of_expr (Or a b) q = absurd (none-some x q)
    of_expr (Xor a b) q = absurd (none-some x q)
    of_expr (Eq a b) q = absurd (none-some x q)
    of_expr (Lt a b) q = absurd (none-some x q)
    of_expr (Pick c a b) q = absurd (none-some x q)

    of_node : (n : NetNode) → constant n ≡ Some x → (w : ℕ) × (n ≡ Wire (Const w x))
    of_node (Input name w) q = absurd (none-some x q)
    of_node (Register name w reset next) q = absurd (none-some x q)
    of_node (Wire e) q = let r = of_expr e q in (r.0, ap Wire r.1)

    by : (o : Option NetNode) → slice_get ns i ≡ o → (w : ℕ) × (slice_get ns i ≡ Some (Wire (Const w x)))
    by None e = absurd (none-some x (sym (ap (option_and_then constant) e) ∙ h))
    by (Some n) e = let r = of_node n (sym (ap (option_and_then constant) e) ∙ h) in (r.0, e ∙ ap Some r.1)

-- its value is within the node's width, and is the node's value in every run
pub constant_fits : (net : Net) → IsMade net → (id : Id) (x : ℕ) → constant_at net.nodes id.0 ≡ Some x → x < 2 ^ width_in net id
constant_fits net made id x h =
    let r = constant_wire net.nodes id.0 x h in
    let w : width_in net id ≡ r.0 = width_at net made id.0 (Wire (Const r.0 x)) r.1 (slice_get-within net.nodes id.0 _ r.1) in
    subst (λ u. x < 2 ^ u) (sym w) (made.nodes id.0 (Wire (Const r.0 x)) r.1).0.2

pub constant_fits_if : (net : Net) → IsMade net → (id : Id) (o : Option ℕ) → o ≡ constant_at net.nodes id.0 → IfSome o (λ x. x < 2 ^ width_in net id)
constant_fits_if net made id None e = tt
constant_fits_if net made id (Some x) e = constant_fits net made id x (sym e)

pub constant_value : (net : Net) (v : At) → Settles net v → (id : Id) (x : ℕ) → constant_at net.nodes id.0 ≡ Some x → v.node id.0 ≡ x
constant_value net v s id x h = let r = constant_wire net.nodes id.0 x h in s.edge.nodes id.0 _ r.1

-- where all operands are constants
some_value : (o : Option ℕ) → is_some o ≡ true → o ≡ Some (unwrap_or o 0)
some_value None h = absurd (let q : false ≡ true = h in cc)
some_value (Some x) h = refl

pub constants_all : (ns : List NetNode) (P : Id → ℕ → Type 0) → ((a : Id) (x : ℕ) → constant_at ns a.0 ≡ Some x → P a x) → (ids : List Id) → list_all (λ a. is_some (constant_at ns a.0)) ids ≡ true
    → AllByRecursion (λ a. P a (constant_values ns a.0)) ids
constants_all ns P h [] c = tt
constants_all ns P h (a ∷ ids) c =
    let q = and_parts (is_some (constant_at ns a.0)) (list_all (λ x. is_some (constant_at ns x.0)) ids) c in
    (h a (constant_values ns a.0) (some_value (constant_at ns a.0) q.0), constants_all ns P h ids q.1)

-- the constant of an expression over constants can be wired, and has the expression's value
pub folded_can : (net : Net) → IsMade net → (e : NetExpr) → CanWire net e → is_constant net.nodes e ≡ true
    → CanWire net (Const (expr_width (widths net) e) (expr_value (widths net) (constant_values net.nodes) e))
folded_can net made e can c =
    let w = wire_width net e (width_most net made) can in
    (w.0, w.1, expr_fits net (constant_values net.nodes) e can (constants_all net.nodes (λ a x. x < 2 ^ width_in net a) (constant_fits net made) (operands e) c))

pub folded_value : (net : Net) (e : NetExpr) → is_constant net.nodes e ≡ true → (v : At) → Settles net v → expr_value (widths net) (constant_values net.nodes) e ≡ expr_value (widths net) v.node e
folded_value net e c v s = expr_value-same (widths net) (constant_values net.nodes) v.node e (constants_all net.nodes (λ a x. x ≡ v.node a.0) (λ a x h. sym (constant_value net v s a x h)) (operands e) c)
