-- The size of a node that is filled with registers.
use Rattle.std.proofs.Common.{◌≡◌, ℕ, zero, suc, ◌+◌, ◌*◌, ◌/◌, ◌≤◌, inl, inr, max, Bool, true, false, cond, List, [], ◌∷◌, length, map, refl, sym, ap, subst, arith}
use Rattle.rdl_tree.specs.declared.item.Kind.TheVariants as kind
use Rattle.rdl_props.specs.declared.prop.Prop.TheVariants as prop
use Rattle.rdl_values.specs.Instances.{Instance, children}
use Rattle.rdl_values.proofs.Numbered.{Deep, bottom, lower}
use Rattle.rdl_layers.specs.Fields.{is_a}
use Rattle.rdl_layers.specs.Phase4.{number_at}
use Rattle.rdl_nodes.proofs.Members.{In, each-in, flat-in, in-flat, map-in}
use Rattle.rdl_addr.specs.Answers.{is_filled}
use Rattle.rdl_addr.specs.Layout.{Group, Mode, Placed, access_of, elements_from, end, greatest, greatest_end, group, groups, has_address, instances, mode_in, offsets, placed_from, size_of, span, starts, stride}
use Rattle.rdl_addr.proofs.Covers.{members}
use Rattle.rdl_place.proofs.Filled.{child-deep, filled-child}
use Rattle.rdl_place.proofs.Fitting.{child-over, offset-from, placed-inside, reach}

max-most : (a b c : ℕ) → a ≤ c → b ≤ c → max a b ≤ c
max-most a b c l m = grind (arith, l, m)

greatest-most : (xs : List ℕ) (b : ℕ) → ((x : ℕ) → In xs x → x ≤ b) → greatest xs ≤ b
greatest-most [] b h = omega arith
greatest-most (x ∷ xs) b h = max-most x (greatest xs) b (h x (inl refl)) (greatest-most xs b (λ y i. h y (inr i)))

-- the last element of an array
last-element : (at step : ℕ) (n : Instance) (ns : List Instance) → (c : Instance) × In (elements_from at step (n ∷ ns)) (c, at + length ns * step)
last-element at step n [] = (n, inl (λ i. (n, here i)))
  where
    here : at ≡ at + 0 * step
    here = grind arith
last-element at step n (m ∷ ms) =
    let r = last-element (at + step) step m ms in
    (r.0, inr (subst (λ x. In (elements_from (at + step) step (m ∷ ms)) (r.0, x)) (far (length ms)) r.1))
  where
    far : (k : ℕ) → at + step + k * step ≡ at + suc k * step
    far k = grind arith

each-element : (at step : ℕ) (ns : List Instance) (c : Instance) → In ns c → (o : ℕ) × In (elements_from at step ns) (c, o)
each-element at step [] c h = absurd h
each-element at step (n ∷ ns) c (inl e) = (at, inl (λ i. (e i, at)))
each-element at step (n ∷ ns) c (inr h) = let r = each-element (at + step) step ns c h in (r.0, inr r.1)

group-size : (size access : Instance → ℕ) (ns : List Instance) (g : Group) → In (group size access ns) g → g.size ≡ greatest (map size (members g))
group-size size access [] g h = absurd h
group-size size access (n ∷ ns) g (inl e) = subst (λ x. x.size ≡ greatest (map size (x.first ∷ x.others))) e refl
group-size size access (n ∷ ns) g (inr h) = absurd h

starts-in : (mode : Mode) (before : ℕ) (gs : List Group) (x : Group × ℕ) → In (starts mode before gs) x → In gs x.0
starts-in mode before [] x h = absurd h
starts-in mode before (g ∷ gs) x (inl e) = inl (ap (λ y. y.0) e)
starts-in mode before (g ∷ gs) x (inr h) = inr (starts-in mode (end mode before g) gs x h)

-- all registers of a node end at 2^32 or before
abbrev pub IsLow : ℕ → Mode → ℕ → Instance → Type 0
IsLow k mode at n = (p : Placed) → In (placed_from k mode at n) p → is_a kind.Reg p.node ≡ true → p.address + p.size ≤ 4294967296

module _ (j : ℕ) (mode : Mode) (at : ℕ) (n : Instance) (d : Deep (suc j) n) (deep : Deep 31 n) (filled : is_filled n ≡ true) (unlike : is_a kind.Reg n ≡ false) (low : IsLow (suc (suc j)) mode at n) where
  abbrev inner : Mode
  inner = mode_in mode n

  abbrev all_groups : List Group
  all_groups = groups (suc j) mode n

  -- what is known of an element
  module _ (c : Instance) (o : ℕ) (i : In (offsets (mode_in mode n) (groups (suc j) mode n)) (c, o)) where
    among : In (children n) c
    among = (offset-from (suc j) mode n c o i).0

    low-in : IsLow (suc j) (mode_in mode n) (at + o) c
    low-in p h reg = low p (placed-inside (suc j) mode at n c o p unlike i h) reg

    near : at + o ≤ 4294967296
    near =
        let p = reach j (mode_in mode n) (at + o) c (each-in (Deep j) (children n) c (lower j n d) among) (child-deep n c deep among) (offset-from (suc j) mode n c o i).1 (filled-child n c deep among filled) in
        let here = low-in p.0 p.1 p.2 in
        let far = p.3 in
        omega (arith, here, far)

  module _ (small : (c : Instance) (o : ℕ) → In (offsets (mode_in mode n) (groups (suc j) mode n)) (c, o) → size_of (suc j) (mode_in mode n) c ≤ 4294967296 * (j + 1)) where
    -- of a group that starts there
    module _ (x : Group × ℕ) (i : In (starts (mode_in mode n) 0 (groups (suc j) mode n)) x) where
      elements-in : (y : Instance × ℕ) → In (elements_from x.1 (stride (mode_in mode n) x.0) (x.0.first ∷ x.0.others)) y → In (offsets (mode_in mode n) (groups (suc j) mode n)) y
      elements-in y h = in-flat (λ g. elements_from g.1 (stride (mode_in mode n) g.0) (g.0.first ∷ g.0.others)) (starts (mode_in mode n) 0 (groups (suc j) mode n)) x y i h

      size-most : x.0.size ≤ 4294967296 * (j + 1)
      size-most =
          let g = flat-in (group (size_of (suc j) inner) (access_of (suc j))) (instances n) x.0 (starts-in inner 0 all_groups x i) in
          subst (λ s. s ≤ 4294967296 * (j + 1)) (sym (group-size (size_of (suc j) inner) (access_of (suc j)) g.0 x.0 g.2))
          (greatest-most (map (size_of (suc j) inner) (members x.0)) (4294967296 * (j + 1)) (λ s h. one s (map-in (size_of (suc j) inner) (members x.0) s h)))
        where
          one : (s : ℕ) → (c : Instance) × In (members x.0) c × (size_of (suc j) (mode_in mode n) c ≡ s) → s ≤ 4294967296 * (j + 1)
          one s (c, m, e) =
              let o = each-element x.1 (stride inner x.0) (members x.0) c m in
              subst (λ y. y ≤ 4294967296 * (j + 1)) e (small c o.0 (elements-in (c, o.0) o.1))

      end-most : x.1 + span (mode_in mode n) x.0 ≤ 4294967296 * (suc j + 1)
      end-most =
          let c = last-element x.1 (stride inner x.0) x.0.first x.0.others in
          let far = near c.0 (x.1 + length x.0.others * stride inner x.0) (elements-in (c.0, x.1 + length x.0.others * stride inner x.0) c.1) in
          sum x.1 (length x.0.others * stride inner x.0) x.0.size far size-most
        where
          sum : (a b s : ℕ) → at + (a + b) ≤ 4294967296 → s ≤ 4294967296 * (j + 1) → a + (b + s) ≤ 4294967296 * (suc j + 1)
          sum a b s l m = omega (arith, l, m)

    ends-most : greatest_end (mode_in mode n) (groups (suc j) mode n) ≤ 4294967296 * (suc j + 1)
    ends-most = greatest-most (map (λ g. g.1 + span inner g.0) (starts inner 0 all_groups)) (4294967296 * (suc j + 1)) (λ s h. one s (map-in (λ g. g.1 + span inner g.0) (starts inner 0 all_groups) s h))
      where
        one : (s : ℕ) → (x : Group × ℕ) × In (starts (mode_in mode n) 0 (groups (suc j) mode n)) x × (x.1 + span (mode_in mode n) x.0 ≡ s) → s ≤ 4294967296 * (suc j + 1)
        one s (x, i, e) = subst (λ y. y ≤ 4294967296 * (suc j + 1)) e (end-most x i)

of-register : (k : ℕ) (mode : Mode) (at : ℕ) (n : Instance) → is_a kind.Reg n ≡ true → IsLow (suc k) mode at n → size_of (suc k) mode n ≤ 4294967296 * (k + 1)
of-register k mode at n reg low = whole at (size_of (suc k) mode n) (low (record { node = n; address = at; size = size_of (suc k) mode n }) (inl refl) reg)
  where
    whole : (a s : ℕ) → a + s ≤ 4294967296 → s ≤ 4294967296 * (k + 1)
    whole a s l = omega (arith, l)

pub sized : (k : ℕ) (mode : Mode) (at : ℕ) (n : Instance) → Deep k n → Deep 31 n → has_address n ≡ true → is_filled n ≡ true → IsLow (suc k) mode at n → size_of (suc k) mode n ≤ 4294967296 * (k + 1)
sized zero mode at n d deep placed filled low = by (is_a kind.Reg n) refl
  where
    by : (b : Bool) → is_a kind.Reg n ≡ b → size_of 1 mode n ≤ 4294967296 * (0 + 1)
    by true reg = of-register 0 mode at n reg low
    by false unlike = let c = child-over n placed filled unlike in absurd (subst (λ cs. In cs c.0) (bottom n d) c.1)
sized (suc j) mode at n d deep placed filled low =
    by (λ c o among has below. sized j (mode_in mode n) (at + o) c (each-in (Deep j) (children n) c (lower j n d) among) (child-deep n c deep among) has (filled-child n c deep among filled) below) (is_a kind.Reg n) refl
  where
    by : ((c : Instance) (o : ℕ) → In (children n) c → has_address c ≡ true → IsLow (suc j) (mode_in mode n) (at + o) c → size_of (suc j) (mode_in mode n) c ≤ 4294967296 * (j + 1)) → (b : Bool) → is_a kind.Reg n ≡ b → size_of (suc (suc j)) mode n ≤ 4294967296 * (suc j + 1)
    by sized-child true reg = of-register (suc j) mode at n reg low
    by sized-child false unlike =
        let is : size_of (suc (suc j)) mode n ≡ greatest_end (mode_in mode n) (groups (suc j) mode n) = ap (λ b. cond b (number_at n prop.Regwidth / 8) (greatest_end (mode_in mode n) (groups (suc j) mode n))) unlike in
        subst (λ s. s ≤ 4294967296 * (suc j + 1)) (sym is)
        (ends-most j mode at n d deep filled unlike low (λ c o i. let below = offset-from (suc j) mode n c o i in sized-child c o below.0 below.1 (low-in j mode at n d deep filled unlike low c o i)))
