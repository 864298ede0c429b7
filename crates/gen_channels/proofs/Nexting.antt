-- What registers take.
use Rattle.std.proofs.Common.{◌≡◌, ℕ, ◌<◌, ◌==◌, Bool, true, false, not, ◌&&◌, if◌then◌else◌, refl, ap, sym, ◌∙◌, subst}
use Rattle.rtl_net.specs.Value.{At, bit_of}
use Rattle.rtl_net.specs.Net.{Net, Settles, Grows, IsNode}
use Rattle.rtl_net.specs.declared.node.Id.{Id}
use Rattle.gen_channels.proofs.Says.{one_is}

-- something is taken
pub taken_is : (old new : Net) (valid kept id : Id) (f g : At → ℕ) → Grows old new → IsNode new id 1 (λ v. bit_of (v.node valid.0 == 1 && v.node kept.0 == 0)) → IsNode old valid 1 f → IsNode old kept 1 g → IsNode new id 1 (λ v. bit_of (f v == 1 && g v == 0))
taken_is old new valid kept id f g grows h hf hg = record {
  stands = h.stands;
  value = λ v s. let s0 = grows.settles v s in h.value v s ∙ ap (λ n. bit_of (n == 1 && v.node kept.0 == 0)) (hf.value v s0) ∙ ap (λ n. bit_of (f v == 1 && n == 0)) (hg.value v s0);
}

-- a bit that is cleared, set, or kept
pub bit_is : (old new : Net) (clears sets kept id : Id) (c t : At → Bool) (g : At → ℕ) → Grows old new → IsNode new id 1 (λ v. if v.node clears.0 == 1 then 0 else (if v.node sets.0 == 1 then 1 else v.node kept.0))
    → IsNode old clears 1 (λ v. bit_of (c v)) → IsNode old sets 1 (λ v. bit_of (t v)) → IsNode old kept 1 g → IsNode new id 1 (λ v. if c v then 0 else (if t v then 1 else g v))
bit_is old new clears sets kept id c t g grows h hc ht hg = record {
  stands = h.stands;
  value = λ v s.
      let s0 = grows.settles v s in
      let first : (v.node clears.0 == 1) ≡ c v = ap (λ n. n == 1) (hc.value v s0) ∙ one_is (c v) in
      let second : (v.node sets.0 == 1) ≡ t v = ap (λ n. n == 1) (ht.value v s0) ∙ one_is (t v) in
      h.value v s ∙ ap (λ x. if x then 0 else (if v.node sets.0 == 1 then 1 else v.node kept.0)) first ∙ ap (λ x. if c v then 0 else (if x then 1 else v.node kept.0)) second
      ∙ ap (λ n. if c v then 0 else (if t v then 1 else n)) (hg.value v s0);
}

-- a choice
pub chosen_is : (old new : Net) (test x y id : Id) (w u : ℕ) (t : At → Bool) (f g : At → ℕ) → Grows old new → u ≡ w → IsNode new id u (λ v. if v.node test.0 == 1 then v.node x.0 else v.node y.0)
    → IsNode old test 1 (λ v. bit_of (t v)) → IsNode old x w f → IsNode old y w g → IsNode new id w (λ v. if t v then f v else g v)
chosen_is old new test x y id w u t f g grows wide h ht hf hg = subst (λ n. IsNode new id n (λ v. if t v then f v else g v)) wide (record {
  stands = h.stands;
  value = λ v s.
      let s0 = grows.settles v s in
      let first : (v.node test.0 == 1) ≡ t v = ap (λ n. n == 1) (ht.value v s0) ∙ one_is (t v) in
      h.value v s ∙ ap (λ c. if c then v.node x.0 else v.node y.0) first ∙ ap (λ n. if t v then n else v.node y.0) (hf.value v s0) ∙ ap (λ n. if t v then f v else n) (hg.value v s0);
})

-- a bit that is set, or kept until it is taken
pub raised_is : (old new : Net) (sets kept ready id : Id) (t : At → Bool) (g r : At → ℕ) → Grows old new
    → IsNode new id 1 (λ v. if v.node sets.0 == 1 then 1 else (if v.node kept.0 == 1 && v.node ready.0 == 1 then 0 else v.node kept.0))
    → IsNode old sets 1 (λ v. bit_of (t v)) → IsNode old kept 1 g → IsNode old ready 1 r → IsNode new id 1 (λ v. if t v then 1 else (if g v == 1 && r v == 1 then 0 else g v))
raised_is old new sets kept ready id t g r grows h ht hg hr = record {
  stands = h.stands;
  value = λ v s.
      let s0 = grows.settles v s in
      let first : (v.node sets.0 == 1) ≡ t v = ap (λ n. n == 1) (ht.value v s0) ∙ one_is (t v) in
      h.value v s ∙ ap (λ x. if x then 1 else (if v.node kept.0 == 1 && v.node ready.0 == 1 then 0 else v.node kept.0)) first
      ∙ ap (λ n. if t v then 1 else (if n == 1 && v.node ready.0 == 1 then 0 else n)) (hg.value v s0)
      ∙ ap (λ n. if t v then 1 else (if g v == 1 && n == 1 then 0 else g v)) (hr.value v s0);
}
