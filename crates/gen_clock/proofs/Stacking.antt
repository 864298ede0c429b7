-- What bits one above the other make of a word.
use Rattle.std.proofs.Common.{◌≡◌, ℕ, ◌+◌, ◌-◌, ◌*◌, ◌<◌, ◌≤◌, ◌^◌, Some, None, refl, ap, sym, ◌∙◌, subst, arith, bit_or}
use Rattle.std.proofs.lemmas.Nat.{pow-add, pow_pos, or_comm, or_shifted}
use Rattle.std.proofs.Math.Nat.{mul-lt-mul_of_pos_right, pow-le-pow_right}
use Rattle.std.specs.Int.Bits.{or_zero_l}
use Rattle.rtl_net.specs.Value.{At}
use Rattle.rtl_net.specs.Net.{Net, Settles, Grows, IsNode, Stands, width_in}
use Rattle.rtl_net.specs.declared.node.Id.{Id}
use Rattle.rtl_net.proofs.Nets.{Stands-grows, fits_at}
use Rattle.gen_clock.specs.declared.stacks.Stack.{Stack}
use Rattle.gen_clock.specs.Stacks.{IsLaid, IsStack}

-- powers side by side
power_split : (a b c : ℕ) → a + b ≡ c → 2 ^ a * 2 ^ b ≡ 2 ^ c
power_split a b c e = sym (pow-add 2 a b) ∙ ap (λ k. 2 ^ k) e

-- bits above others
pub or_above : (k x y : ℕ) → x < 2 ^ k → bit_or x (y * 2 ^ k) ≡ y * 2 ^ k + x
or_above k x y l = or_comm x (y * 2 ^ k) ∙ or_shifted y k x l

-- bits from k up to top, at their place, stay below all ends from there on
placed_below : (x k top end : ℕ) → x < 2 ^ (top - k) → k ≤ top → top ≤ end → x * 2 ^ k < 2 ^ end
placed_below x k top end l order room =
    let p : 2 ^ (top - k) * 2 ^ k ≡ 2 ^ top = power_split (top - k) k top (omega arith) in
    let q : x * 2 ^ k < 2 ^ (top - k) * 2 ^ k = mul-lt-mul_of_pos_right l (pow_pos k) in
    let r : 2 ^ top ≤ 2 ^ end = pow-le-pow_right (omega arith) room in
    omega arith

spread_sum : (y a x s : ℕ) → (y * a + x) * s ≡ y * (a * s) + x * s
spread_sum y a x s = omega arith

-- y from low up, above x, which stands from k up to the bit below low
pub over_is : (x y k top low : ℕ) → x < 2 ^ (top - k) → k < top → top ≤ low → (y * 2 ^ (low - k) + x) * 2 ^ k ≡ bit_or (x * 2 ^ k) (y * 2 ^ low)
over_is x y k top low l some apart =
    let p : 2 ^ (low - k) * 2 ^ k ≡ 2 ^ low = power_split (low - k) k low (omega arith) in
    let fits : x * 2 ^ k < 2 ^ low = placed_below x k top low l (omega arith) apart in
    spread_sum y (2 ^ (low - k)) x (2 ^ k) ∙ ap (λ n. y * n + x * 2 ^ k) p ∙ sym (or_above low (x * 2 ^ k) y fits)

-- y of w bits from low up, below x, which stands from k up
pub under_is : (x y k low w : ℕ) → y < 2 ^ w → low + w ≤ k → (x * 2 ^ (k - (low + w)) * 2 ^ w + y) * 2 ^ low ≡ bit_or (x * 2 ^ k) (y * 2 ^ low)
under_is x y k low w l apart =
    let p : 2 ^ (k - (low + w)) * 2 ^ w ≡ 2 ^ (k - low) = power_split (k - (low + w)) w (k - low) (omega arith) in
    let q : 2 ^ (k - low) * 2 ^ low ≡ 2 ^ k = power_split (k - low) low k (omega arith) in
    let fits : y * 2 ^ low < 2 ^ k = (let wide : low + w - low ≡ w = omega arith in placed_below y low (low + w) k (subst (λ n. y < 2 ^ n) (sym wide) l) (omega arith) apart) in
    let one : x * 2 ^ (k - (low + w)) * 2 ^ w ≡ x * 2 ^ (k - low) = (let m : x * 2 ^ (k - (low + w)) * 2 ^ w ≡ x * (2 ^ (k - (low + w)) * 2 ^ w) = omega arith in m ∙ ap (λ n. x * n) p) in
    ap (λ n. (n + y) * 2 ^ low) one
    ∙ spread_sum x (2 ^ (k - low)) y (2 ^ low)
    ∙ ap (λ n. x * n + y * 2 ^ low) q
    ∙ sym (or_comm (x * 2 ^ k) (y * 2 ^ low) ∙ or_above k (y * 2 ^ low) x fits)

-- bits alone
pub laid_alone : (net : Net) (bits : Id) (low top : ℕ) (s : Stack) → Stands net bits (top - low) → low < top → s ≡ record { bits = bits; low = low; top = top } → IsLaid net None bits low s
laid_alone net bits low top s stands some e = subst (λ t. IsLaid net None bits low t) (sym e) (record {
  stack = record { stands = stands; some = some };
  value = λ x q. sym (or_zero_l (x.node bits.0 * 2 ^ low));
})

module _ (old net new : Net) (stack : Stack) (bits low_id all : Id) (low top : ℕ) (h : Grows old net) (g : Grows net new) (is : IsStack old stack) (stands : Stands old bits (top - low)) (order : low < top) where
  pub laid_over : stack.top ≤ low → IsNode net low_id (low - stack.low) (λ x. x.node stack.bits.0)
      → IsNode new all (width_in net bits + width_in net low_id) (λ x. x.node bits.0 * 2 ^ width_in net low_id + x.node low_id.0)
      → IsLaid new (Some stack) bits low (record { bits = all; low = stack.low; top = top })
  laid_over apart below node = record {
    stack = record { stands = subst (Stands new all) wide node.stands; some = omega (arith, is.some) };
    value = value;
  }
    where
      low_wide : width_in net low_id ≡ low - stack.low
      low_wide = below.stands.width

      wide : width_in net bits + width_in net low_id ≡ top - stack.low
      wide = let w : width_in net bits ≡ top - low = (Stands-grows old net bits (top - low) h stands).width in let s = is.some in omega (arith, low_wide)

      value : (x : At) → Settles new x → x.node all.0 * 2 ^ stack.low ≡ bit_or (x.node stack.bits.0 * 2 ^ stack.low) (x.node bits.0 * 2 ^ low)
      value x q =
          let q1 = g.settles x q in
          let fits : x.node stack.bits.0 < 2 ^ (stack.top - stack.low) = fits_at old x stack.bits (stack.top - stack.low) (h.settles x q1) is.stands in
          ap (λ n. n * 2 ^ stack.low) (node.value x q ∙ ap (λ n. x.node bits.0 * 2 ^ n + x.node low_id.0) low_wide ∙ ap (λ n. x.node bits.0 * 2 ^ (low - stack.low) + n) (below.value x q1))
          ∙ over_is (x.node stack.bits.0) (x.node bits.0) stack.low stack.top low fits is.some apart

  pub laid_under : top ≤ stack.low → IsNode net low_id (stack.top - top) (λ x. x.node stack.bits.0 * 2 ^ (stack.low - top))
      → IsNode new all (width_in net low_id + width_in net bits) (λ x. x.node low_id.0 * 2 ^ width_in net bits + x.node bits.0)
      → IsLaid new (Some stack) bits low (record { bits = all; low = low; top = stack.top })
  laid_under apart above node = record {
    stack = record { stands = subst (Stands new all) wide node.stands; some = omega (arith, is.some) };
    value = value;
  }
    where
      bits_wide : width_in net bits ≡ top - low
      bits_wide = (Stands-grows old net bits (top - low) h stands).width

      wide : width_in net low_id + width_in net bits ≡ stack.top - low
      wide = let w : width_in net low_id ≡ stack.top - top = above.stands.width in let s = is.some in omega (arith, bits_wide)

      value : (x : At) → Settles new x → x.node all.0 * 2 ^ low ≡ bit_or (x.node stack.bits.0 * 2 ^ stack.low) (x.node bits.0 * 2 ^ low)
      value x q =
          let q1 = g.settles x q in
          let fits : x.node bits.0 < 2 ^ (top - low) = fits_at old x bits (top - low) (h.settles x q1) stands in
          let end : top ≡ low + (top - low) = omega arith in
          ap (λ n. n * 2 ^ low)
          (node.value x q ∙ ap (λ n. x.node low_id.0 * 2 ^ n + x.node bits.0) bits_wide ∙ ap (λ n. n * 2 ^ (top - low) + x.node bits.0) (above.value x q1 ∙ ap (λ n. x.node stack.bits.0 * 2 ^ (stack.low - n)) end))
          ∙ under_is (x.node stack.bits.0) (x.node bits.0) stack.low low (top - low) fits (omega arith)

-- bits among others
pub laid_among : (n1 n2 new : Net) (stack : Stack) (bits before shown all : Id) (low width w : ℕ) → Grows n1 n2 → Grows n2 new → 0 < width
    → IsNode n1 before width (λ x. x.node stack.bits.0 * 2 ^ stack.low) → IsNode n2 shown width (λ x. x.node bits.0 * 2 ^ low)
    → IsNode new all w (λ x. bit_or (x.node before.0) (x.node shown.0)) → w ≡ width
    → IsLaid new (Some stack) bits low (record { bits = all; low = 0; top = width })
laid_among n1 n2 new stack bits before shown all low width w h g some old_bits new_bits node wide = record {
  stack = record { stands = (let e : width ≡ width - 0 = omega arith in subst (Stands new all) (wide ∙ e) node.stands); some = some };
  value = λ x q.
      let q2 = g.settles x q in
      let one : x.node all.0 * 2 ^ 0 ≡ x.node all.0 = omega arith in
      one ∙ node.value x q ∙ ap (λ n. bit_or n (x.node shown.0)) (old_bits.value x (h.settles x q2)) ∙ ap (λ n. bit_or (x.node stack.bits.0 * 2 ^ stack.low) n) (new_bits.value x q2);
}
