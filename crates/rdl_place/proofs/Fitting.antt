-- A node that is filled with registers stands before one of them, and its size is bounded by their ends.
use Rattle.std.proofs.Common.{◌≡◌, ◌∙◌, ℕ, zero, suc, ◌+◌, ◌≤◌, inl, inr, Bool, true, false, cond, [], ◌∷◌, flat_map, refl, sym, ap, subst, arith}
use denote.Enum.Bare.{same_true}
use Rattle.rdl_tree.specs.contracts.item.Kind as of_kind
use Rattle.rdl_tree.specs.declared.item.Kind.TheVariants as kind
use Rattle.rdl_values.specs.Instances.{Instance, children, kind_of, most_names, with_below}
use Rattle.rdl_values.proofs.Numbered.{Deep, bottom, lower}
use Rattle.rdl_layers.specs.Fields.{is_a}
use Rattle.rdl_nodes.proofs.Members.{In, each-in, flat-in, in-flat, in-map, map-in}
use Rattle.rdl_addr.specs.Answers.{is_filled}
use Rattle.rdl_addr.specs.Layout.{Mode, Placed, groups, has_address, mode_in, offsets, placed_from, size_of}
use Rattle.rdl_addr.proofs.Covers as covers
use Rattle.rdl_addr.proofs.Covers.{address_by_kind, members, offsets_of}
use Rattle.rdl_bits.proofs.Filtered.{in-kept, kept-in, kept-passes}
use Rattle.rdl_place.proofs.Filled.{child-deep, contains, filled-child, filled-register}

-- What stands in a node.

pub placed-inside : (k : ℕ) (mode : Mode) (at : ℕ) (n c : Instance) (o : ℕ) (p : Placed) → is_a kind.Reg n ≡ false → In (offsets (mode_in mode n) (groups k mode n)) (c, o) → In (placed_from k (mode_in mode n) (at + o) c) p → In (placed_from (suc k) mode at n) p
placed-inside k mode at n c o p unlike i h =
    let all = offsets (mode_in mode n) (groups k mode n) in
    let inner : In (flat_map (λ x. placed_from k (mode_in mode n) (at + x.1) x.0) all) p = in-flat (λ x. placed_from k (mode_in mode n) (at + x.1) x.0) all (c, o) p i h in
    let chosen : In (cond (is_a kind.Reg n) [] (flat_map (λ x. placed_from k (mode_in mode n) (at + x.1) x.0) all)) p = subst (λ b. In (cond b [] (flat_map (λ x. placed_from k (mode_in mode n) (at + x.1) x.0) all)) p) (sym unlike) inner in
    inr chosen

offset-of : (k : ℕ) (mode : Mode) (n c : Instance) → In (children n) c → has_address c ≡ true → (o : ℕ) × In (offsets (mode_in mode n) (groups k mode n)) (c, o)
offset-of k mode n c i placed =
    let x = map-in (λ x. x.0) (offsets (mode_in mode n) (groups k mode n)) c (subst (λ xs. In xs c) (sym (offsets_of k mode n)) (in-kept has_address (children n) c i placed)) in
    (x.0.1, subst (λ y. In (offsets (mode_in mode n) (groups k mode n)) (y, x.0.1)) x.2 x.1)

-- what has an offset is a node in the body, with an address
pub offset-from : (k : ℕ) (mode : Mode) (n c : Instance) (o : ℕ) → In (offsets (mode_in mode n) (groups k mode n)) (c, o) → In (children n) c × (has_address c ≡ true)
offset-from k mode n c o i =
    let among = subst (λ xs. In xs c) (offsets_of k mode n) (in-map (λ x. x.0) (offsets (mode_in mode n) (groups k mode n)) (c, o) i) in
    (kept-in has_address (children n) c among, kept-passes has_address (children n) c among)

reg-placed : (n : Instance) → is_a kind.Reg n ≡ true → has_address n ≡ true
reg-placed n e = address_by_kind n kind.Reg (sym (same_true of_kind.the_type tt kind.Reg (kind_of n) e))

-- a child below which a register stands has an address
placed-over : (c r : Instance) → In (with_below 31 c) r → is_a kind.Reg r ≡ true → has_address c ≡ true
placed-over c r h reg = go (has_address c) refl
  where
    alone : In (c ∷ flat_map (with_below 30) []) r → c ≡ r
    alone (inl e) = e
    alone (inr q) = absurd q

    go : (b : Bool) → has_address c ≡ b → has_address c ≡ true
    go true e = e
    go false e =
        let same = alone (subst (λ cs. In (c ∷ flat_map (with_below 30) cs) r) (covers.alone c e) h) in
        reg-placed c (ap (is_a kind.Reg) same ∙ reg)

-- A register at or behind the node's address.
abbrev pub Reached : ℕ → Mode → ℕ → Instance → Type 0
Reached k mode at n = (p : Placed) × In (placed_from k mode at n) p × (is_a kind.Reg p.node ≡ true) × (at ≤ p.address)

-- a node that is no register has a child with an address
pub child-over : (n : Instance) → has_address n ≡ true → is_filled n ≡ true → is_a kind.Reg n ≡ false → (c : Instance) × In (children n) c × (has_address c ≡ true)
child-over n placed filled unlike = let r = filled-register n filled (contains n placed unlike) in by r.0 r.1 r.2
  where
    by : (r : Instance) → In (with_below most_names n) r → is_a kind.Reg r ≡ true → (c : Instance) × In (children n) c × (has_address c ≡ true)
    by r (inl e) reg = let two : false ≡ true = sym unlike ∙ (ap (is_a kind.Reg) e ∙ reg) in cc two
    by r (inr h) reg = let c = flat-in (with_below 31) (children n) r h in (c.0, c.1, placed-over c.0 r c.2 reg)

-- what a child reaches, its parent does
from-child : (j : ℕ) (mode : Mode) (at : ℕ) (n : Instance) → is_a kind.Reg n ≡ false → (c : Instance) (o : ℕ) → In (offsets (mode_in mode n) (groups (suc j) mode n)) (c, o) → Reached (suc j) (mode_in mode n) (at + o) c → Reached (suc (suc j)) mode at n
from-child j mode at n unlike c o i p = let far = p.3 in (p.0, placed-inside (suc j) mode at n c o p.0 unlike i p.1, p.2, omega (arith, far))

itself : (k : ℕ) (mode : Mode) (at : ℕ) (n : Instance) → is_a kind.Reg n ≡ true → Reached (suc k) mode at n
itself k mode at n reg = (record { node = n; address = at; size = size_of (suc k) mode n }, inl refl, reg, omega arith)

pub reach : (k : ℕ) (mode : Mode) (at : ℕ) (n : Instance) → Deep k n → Deep 31 n → has_address n ≡ true → is_filled n ≡ true → Reached (suc k) mode at n
reach zero mode at n d deep placed filled = by (is_a kind.Reg n) refl
  where
    by : (b : Bool) → is_a kind.Reg n ≡ b → Reached 1 mode at n
    by true reg = itself 0 mode at n reg
    by false unlike = let c = child-over n placed filled unlike in absurd (subst (λ cs. In cs c.0) (bottom n d) c.1)
reach (suc j) mode at n d deep placed filled =
    by (λ c o among has. reach j (mode_in mode n) (at + o) c (each-in (Deep j) (children n) c (lower j n d) among) (child-deep n c deep among) has (filled-child n c deep among filled)) (is_a kind.Reg n) refl
  where
    by : ((c : Instance) (o : ℕ) → In (children n) c → has_address c ≡ true → Reached (suc j) (mode_in mode n) (at + o) c) → (b : Bool) → is_a kind.Reg n ≡ b → Reached (suc (suc j)) mode at n
    by inner true reg = itself (suc j) mode at n reg
    by inner false unlike =
        let c = child-over n placed filled unlike in
        let o = offset-of (suc j) mode n c.0 c.1 c.2 in
        from-child j mode at n unlike c.0 o.0 o.1 (inner c.0 o.0 c.1 c.2)
