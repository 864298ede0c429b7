-- A register where it stands, and what software does with it.
use Rattle.std.proofs.Common.{◌≡◌, ◌∙◌, ◌⊎◌, inl, inr, ℕ, ◌+◌, ◌/◌, ◌<◌, ◌≤◌, ◌&&◌, ◌||◌, Bool, true, false, not, cond, List, [], ◌∷◌, flat_map, slice_get, Some, refl, sym, ap, subst, arith}
use Rattle.std.specs.List.{list_any}
use Rattle.rdl_tree.specs.declared.item.Kind.{Kind}
use Rattle.rdl_tree.specs.declared.item.Kind.TheVariants as kind
use Rattle.rdl_tree.specs.declared.node.Elab.{Elab}
use Rattle.rdl_values.specs.Elaborated.{nodes_of, top_name}
use Rattle.rdl_values.specs.Instances.{Instance, children, kind_of, most_names, with_below}
use Rattle.rdl_layers.specs.Answers.{IsSettled}
use Rattle.rdl_layers.specs.Fields.{fields_of, has_on_read, is_a, is_container, reads, writes}
use Rattle.rdl_nodes.proofs.Members.{In, each-in, flat-in, in-from}
use Rattle.rdl_addr.specs.Uses.{register_side}
use Rattle.rdl_addr.specs.Answers.{HasAddressAt, IsPlaced, PlacedAt, is_filled}
use Rattle.rdl_addr.specs.Layout.{Placed, has_address, layout}
use Rattle.rdl_addr.specs.Registers as numbers
use Rattle.rdl_addr.specs.Rules as rules
use Rattle.rdl_addr.specs.Rules.{is_read_only, is_write_only}
use Rattle.rdl_addr.proofs.Covers.{address_by_kind, alone, in_reg}
use Rattle.rdl_addr.proofs.Read.{one-side}
use Rattle.rdl_fields.proofs.Lists.{in-filter}
use Rattle.rdl_block_words.specs.declared.word.Shape.{Shape}
use Rattle.rdl_block_words.specs.Shapes.{Fits}
use Rattle.rdl_sound_laws.proofs.Placed.{Stands, access, reg-kind, stands, width}
use Rattle.rdl_block_words.specs.Access.{is_read, is_written}
use Rattle.rdl_block_words.specs.Entries.{IsRegisterRow}
use Rattle.rdl_tree.specs.declared.node.Node.{out-Node}
use Rattle.rdl_values.specs.Lineages.{Lineage}
use Rattle.rdl_nodes.specs.declared.table.Row.{Row}
use Rattle.rdl_sizes.specs.Bodies.{IsBodyOf}

-- What software does with it.

read-by : (a b : Bool) → is_read (numbers.side_of (cond a rules.reads_alone (cond b rules.writes_alone rules.other))) ≡ a
read-by true b = refl
read-by false true = refl
read-by false false = refl

written-by : (r w z : Bool) → is_written (numbers.side_of (cond (r && not w) rules.reads_alone (cond (w && not z) rules.writes_alone rules.other))) ≡ (w && not z)
written-by true true true = refl
written-by true true false = refl
written-by true false z = refl
written-by false true true = refl
written-by false true false = refl
written-by false false z = refl

pub reads-is : (n : Instance) → is_read (register_side n) ≡ is_read_only n
reads-is n = ap is_read (one-side n) ∙ read-by (is_read_only n) (is_write_only n)

pub writes-is : (n : Instance) → is_written (register_side n) ≡ is_write_only n
writes-is n = ap is_written (one-side n) ∙ written-by (list_any reads (fields_of n)) (list_any writes (fields_of n)) (list_any (λ f. reads f || has_on_read f) (fields_of n))

-- No container stands in it.

none-any : {X : Type 0} (p : X → Bool) (xs : List X) → ((x : X) → In xs x → p x ≡ false) → list_any p xs ≡ false
none-any p [] h = refl
none-any p (x ∷ xs) h = (λ i. h x (inl refl) i || none-any p xs (λ y j. h y (inr j)) i)

no-container : (n : Instance) → has_address n ≡ false → is_container n ≡ false
no-container n e = by (kind_of n) refl
  where
    by : (k : Kind) → kind_of n ≡ k → is_container n ≡ false
    by kind.Addrmap q = let two : true ≡ false = sym (address_by_kind n kind.Addrmap q) ∙ e in cc two
    by kind.Regfile q = let two : true ≡ false = sym (address_by_kind n kind.Regfile q) ∙ e in cc two
    by kind.Reg q = rw q refl
    by kind.Field q = rw q refl
    by kind.Signal q = rw q refl

pub reg-filled : (n : Instance) → is_a kind.Reg n ≡ true → is_filled n ≡ true
reg-filled n reg = ap not (none-any (λ m. is_container m && not (list_any (is_a kind.Reg) (with_below most_names m))) (with_below most_names n) each)
  where
    bare : (m : Instance) → is_container m ≡ false → (is_container m && not (list_any (is_a kind.Reg) (with_below most_names m))) ≡ false
    bare m e = ap (λ b. b && not (list_any (is_a kind.Reg) (with_below most_names m))) e

    no-register : is_container n ≡ false
    no-register = rw (reg-kind n reg) refl

    child : (c m : Instance) → has_address c ≡ false → In (with_below 31 c) m → is_container m ≡ false
    child c m e h = by (subst (λ cs. In (c ∷ flat_map (with_below 30) cs) m) (alone c e) h)
      where
        by : In (c ∷ []) m → is_container m ≡ false
        by (inl q) = subst (λ x. is_container x ≡ false) q (no-container c e)
        by (inr q) = absurd q

    each : (m : Instance) → In (with_below most_names n) m → (is_container m && not (list_any (is_a kind.Reg) (with_below most_names m))) ≡ false
    each m (inl q) = bare m (subst (λ x. is_container x ≡ false) q no-register)
    each m (inr h) =
        let c = flat-in (with_below 31) (children n) m h in
        bare m (child c.0 m (each-in (λ x. has_address x ≡ false) (children n) c.0 (in_reg n (reg-kind n reg)) c.1) c.2)

pub reg-address : (e : Elab) (k : ℕ) (n : Instance) → slice_get (nodes_of e) k ≡ Some n → is_a kind.Reg n ≡ true → HasAddressAt e k
reg-address e k n at reg = (n, at, address_by_kind n kind.Reg (reg-kind n reg), reg-filled n reg)

-- Where it stands.

pub spot-node : (e : Elab) (k : ℕ) (n : Instance) (p : Placed) → slice_get (nodes_of e) k ≡ Some n → PlacedAt e k p → p.node ≡ n
spot-node e k n p at here = let same : Some p.node ≡ Some n = sym here.0 ∙ at in cc same

pub stands-at : (e : Elab) → IsSettled e → IsPlaced e → (k : ℕ) (n : Instance) (p : Placed) → slice_get (nodes_of e) k ≡ Some n → is_a kind.Reg n ≡ true → PlacedAt e k p → Stands p
stands-at e settled placed k n p at reg here =
    let is : is_a kind.Reg p.node ≡ true = ap (is_a kind.Reg) (spot-node e k n p at here) ∙ reg in
    stands e settled placed p (in-filter (λ (x : Placed). is_a kind.Reg x.node) (layout (Some (top_name e)) e.source.now) p (in-from (layout (Some (top_name e)) e.source.now) p here.1) is)

-- its address fits
pub low-address : (p : Placed) → Stands p → p.address < 4294967296
low-address p s = by (access p.node) (width p.node) p.address p.size s.widths_.wide s.widths_.fits s.sized s.low
  where
    by : (a w x z : ℕ) → (a ≡ 8) ⊎ (a ≡ 16) ⊎ (a ≡ 32) → a ≤ w → z ≡ w / 8 → x + z ≤ 4294967296 → x < 4294967296
    by a w x z (inl e) f is l = omega (arith, e, f, is, l)
    by a w x z (inr (inl e)) f is l = omega (arith, e, f, is, l)
    by a w x z (inr (inr e)) f is l = omega (arith, e, f, is, l)

pub small-access : (p : Placed) → Stands p → access p.node < 256
small-access p s = let fits = s.widths_.fits in let most = s.widths_.most in omega (arith, fits, most)

pub small-width : (p : Placed) → Stands p → width p.node < 256
small-width p s = let most = s.widths_.most in omega (arith, most)

pub shape-fits : (s : Shape) (p : Placed) → Stands p → s.address ≡ p.address → s.regwidth ≡ width p.node → s.accesswidth ≡ access p.node → Fits s
shape-fits s p h address whole part = record {
  wide = subst (λ a. (a ≡ 8) ⊎ (a ≡ 16) ⊎ (a ≡ 32)) (sym part) h.widths_.wide;
  ends = (let low = h.low in let is = h.sized in omega (arith, low, is, address, whole));
}

-- its fields stand in its body
pub body-of : (e : Elab) (x : Row) (l : Lineage) → IsRegisterRow e x l → IsBodyOf e x.node.now l
body-of e x l h = record { number = (out-Node x.node.now).id; here = h.here; inside = h.row.inside }
