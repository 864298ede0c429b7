-- Nodes that test bits of an address, and that number a word by them.
use Rattle.std.proofs.Common.{◌≡◌, ℕ, zero, suc, ◌+◌, ◌-◌, ◌*◌, ◌/◌, ◌%◌, ◌^◌, ◌<◌, ◌≤◌, ◌==◌, Bool, true, false, ◌&&◌, if◌then◌else◌, refl, ap, sym, ◌∙◌, arith}
use Rattle.std.proofs.Math.Nat.{mod-lt, div-one}
use Rattle.rb_base.specs.Bits.{part}
use Rattle.rtl_net.specs.Value.{At, bit_of, expr_value, expr_width}
use Rattle.rtl_net.specs.Net.{Net, Settles, Grows, IsNode, Stands, widths, width_in}
use Rattle.rtl_net.specs.declared.node.Id.{Id}
use Rattle.rtl_net.specs.declared.node.NetExpr.TheVariants.{Cat, Eq}
use Rattle.rtl_net.proofs.Nets.{IsNode-is, Stands-grows, fits_at}

bit_is : (p : ℕ) → p < 2 → p ≡ bit_of (p == 1)
bit_is zero l = refl
bit_is (suc zero) l = refl
bit_is (suc (suc p)) l = absurd (omega arith)

one_bit : (v hi lo : ℕ) → hi ≡ lo → part v hi lo < 2
one_bit v hi lo e =
    let n : hi - lo + 1 ≡ 1 = omega arith in
    let h : v / 2 ^ lo % 2 < 2 = mod-lt (v / 2 ^ lo) (omega arith) in
    rw n h

-- the node of one bit is the test for 1, and its opposite that for 0
pub is_one : (net : Net) (id address : Id) (hi lo value : ℕ) → hi ≡ lo → value ≡ 1 → IsNode net id (hi - lo + 1) (λ x. part (x.node address.0) hi lo)
    → IsNode net id 1 (λ x. bit_of (part (x.node address.0) hi lo == value))
is_one net id address hi lo value e v node =
    let n : hi - lo + 1 ≡ 1 = omega arith in
    IsNode-is net id (hi - lo + 1) 1 (λ x. part (x.node address.0) hi lo) (λ x. bit_of (part (x.node address.0) hi lo == value)) node n
    (λ x s. bit_is (part (x.node address.0) hi lo) (one_bit (x.node address.0) hi lo e) ∙ ap (λ k. bit_of (part (x.node address.0) hi lo == k)) (sym v))

pub is_zero : (n1 n2 : Net) (bits off address : Id) (hi lo value : ℕ) → Grows n1 n2 → value ≡ 0 → IsNode n1 bits (hi - lo + 1) (λ x. part (x.node address.0) hi lo)
    → IsNode n2 off 1 (λ x. bit_of (x.node bits.0 == 0)) → IsNode n2 off 1 (λ x. bit_of (part (x.node address.0) hi lo == value))
is_zero n1 n2 bits off address hi lo value grows v node opposite =
    IsNode-is n2 off 1 1 (λ x. bit_of (x.node bits.0 == 0)) (λ x. bit_of (part (x.node address.0) hi lo == value)) opposite refl
    (λ x s. ap (λ k. bit_of (k == 0)) (node.value x (grows.settles x s)) ∙ ap (λ k. bit_of (part (x.node address.0) hi lo == k)) (sym v))

pub is_equal : (n1 n2 n3 : Net) (bits wanted id address : Id) (hi lo value : ℕ) → Grows n1 n2 → Grows n2 n3
    → IsNode n1 bits (hi - lo + 1) (λ x. part (x.node address.0) hi lo) → IsNode n2 wanted (hi - lo + 1) (λ x. value)
    → IsNode n3 id (expr_width (widths n2) (Eq bits wanted)) (λ x. expr_value (widths n2) x.node (Eq bits wanted))
    → IsNode n3 id 1 (λ x. bit_of (part (x.node address.0) hi lo == value))
is_equal n1 n2 n3 bits wanted id address hi lo value g h node constant equal =
    IsNode-is n3 id 1 1 (λ x. bit_of (x.node bits.0 == x.node wanted.0)) (λ x. bit_of (part (x.node address.0) hi lo == value)) equal refl
    (λ x s. let t = h.settles x s in
    ap (λ k. bit_of (k == x.node wanted.0)) (node.value x (g.settles x t)) ∙ ap (λ k. bit_of (part (x.node address.0) hi lo == k)) (constant.value x t))

-- the lowest bits
pub lowest : (v low : ℕ) → (low ≡ 0 → ⊥) → part v (low - 1) 0 ≡ v % 2 ^ low
lowest v low some =
    let n : low - 1 - 0 + 1 ≡ low = omega arith in
    ap (λ k. k % 2 ^ (low - 1 - 0 + 1)) (div-one v) ∙ ap (λ k. v % 2 ^ k) n

pub no_bits : (v : ℕ) → v % 2 ^ 0 ≡ 0
no_bits v = omega arith

-- a number of bits of the address below those of another
pub numbered : (n1 n2 n3 : Net) (place above id address : Id) (first index low hi : ℕ) → Grows n1 n2 → Grows n2 n3 → hi - low + 1 ≡ index → index ≤ 16
    → IsNode n1 place (hi - low + 1) (λ x. part (x.node address.0) hi low) → IsNode n2 above (16 - index) (λ x. first / 2 ^ index)
    → IsNode n3 id (expr_width (widths n2) (Cat above place)) (λ x. expr_value (widths n2) x.node (Cat above place))
    → IsNode n3 id 16 (λ x. first / 2 ^ index * 2 ^ index + x.node address.0 / 2 ^ low % 2 ^ index)
numbered n1 n2 n3 place above id address first index low hi g h e few lower upper joined =
    let wide : width_in n2 place ≡ index = (Stands-grows n1 n2 place (hi - low + 1) g lower.stands).width ∙ e in
    let rest : width_in n2 above ≡ 16 - index = upper.stands.width in
    let all : width_in n2 above + width_in n2 place ≡ 16 = omega arith in
    IsNode-is n3 id (width_in n2 above + width_in n2 place) 16 (λ x. x.node above.0 * 2 ^ width_in n2 place + x.node place.0)
    (λ x. first / 2 ^ index * 2 ^ index + x.node address.0 / 2 ^ low % 2 ^ index) joined all
    (λ x s. let t = h.settles x s in
    ap (λ k. x.node above.0 * 2 ^ k + x.node place.0) wide
    ∙ ap (λ k. k * 2 ^ index + x.node place.0) (upper.value x t)
    ∙ ap (λ k. first / 2 ^ index * 2 ^ index + k) (lower.value x (g.settles x t) ∙ ap (λ k. x.node address.0 / 2 ^ low % 2 ^ k) e))

-- where nothing stands above the bits of the address
pub alone : (net : Net) (place address : Id) (first index low hi : ℕ) → hi - low + 1 ≡ index → index ≡ 16 → first < 65536
    → IsNode net place (hi - low + 1) (λ x. part (x.node address.0) hi low)
    → IsNode net place 16 (λ x. first / 2 ^ index * 2 ^ index + x.node address.0 / 2 ^ low % 2 ^ index)
alone net place address first index low hi e full few node =
    let none : first / 2 ^ 16 ≡ 0 = omega arith in
    let same : first / 2 ^ index ≡ first / 2 ^ 16 = ap (λ k. first / 2 ^ k) full in
    let zeros : first / 2 ^ index * 2 ^ index ≡ 0 = ap (λ k. k * 2 ^ index) (same ∙ none) ∙ omega arith in
    IsNode-is net place (hi - low + 1) 16 (λ x. part (x.node address.0) hi low) (λ x. first / 2 ^ index * 2 ^ index + x.node address.0 / 2 ^ low % 2 ^ index)
    node (e ∙ full)
    (λ x s. ap (λ k. x.node address.0 / 2 ^ low % 2 ^ k) e ∙ (let z : x.node address.0 / 2 ^ low % 2 ^ index ≡ first / 2 ^ index * 2 ^ index + x.node address.0 / 2 ^ low % 2 ^ index = omega arith in z))

-- a test that holds a bit back
both_bits : (c : Bool) (h : ℕ) → h < 2 → bit_of (bit_of c == 1 && h == 1) ≡ (if c then h else 0)
both_bits false h l = refl
both_bits true h l = sym (bit_is h l)

pub held_back : (n1 n2 : Net) (test inner hit : Id) (f : At → Bool) → Grows n1 n2 → IsNode n1 test 1 (λ x. bit_of (f x)) → Stands n1 inner 1
    → IsNode n2 hit 1 (λ x. bit_of (x.node test.0 == 1 && x.node inner.0 == 1))
    → (x : At) → Settles n2 x → x.node hit.0 ≡ (if f x then x.node inner.0 else 0)
held_back n1 n2 test inner hit f grows tested stands node x s =
    let t = grows.settles x s in
    node.value x s ∙ ap (λ k. bit_of (k == 1 && x.node inner.0 == 1)) (tested.value x t) ∙ both_bits (f x) (x.node inner.0) (let b = fits_at n1 x inner 1 t stands in omega arith)
