-- One mark more.
use Rattle.std.proofs.Common.{◌≡◌, ◌∙◌, ◌⊎◌, inl, inr, ℕ, zero, suc, ◌+◌, ◌<◌, false, List, [], ◌∷◌, ◌++◌, length, get_or, length-append, slice_get, Some, refl, sym, ap, subst, arith}
use Rattle.rdl_tree.specs.declared.node.Elab.{Elab}
use Rattle.rdl_values.specs.Elaborated.{nodes_of}
use Rattle.rdl_values.specs.Instances.{Instance}
use Rattle.rdl_ref_items.specs.declared.interrupt_outputs.InterruptOutputs.{InterruptOutputs}
use Rattle.rdl_ref_items.specs.InterruptOutputs.{AreMarksTo, IsInterruptOutputs, mark_at}

push-before : {X : Type 0} (xs : List X) (x d : X) (k : ℕ) → k < length xs → get_or (xs ++ (x ∷ [])) k d ≡ get_or xs k d
push-before [] x d k l = absurd (omega (arith, l))
push-before (y ∷ ys) x d zero l = refl
push-before (y ∷ ys) x d (suc k) l = push-before ys x d k (omega (arith, l))

push-last : {X : Type 0} (xs : List X) (x d : X) → get_or (xs ++ (x ∷ [])) (length xs) d ≡ x
push-last [] x d = refl
push-last (y ∷ ys) x d = push-last ys x d

pub one-mark : (e : Elab) (ms new : List InterruptOutputs) (at : ℕ) (m : InterruptOutputs) → AreMarksTo e ms at → new ≡ ms ++ (m ∷ []) → ((n : Instance) → slice_get (nodes_of e) at ≡ Some n → IsInterruptOutputs m n) → AreMarksTo e new (at + 1)
one-mark e ms new at m h put is = record {
  many = ap length put ∙ (let l = length-append ms (m ∷ []) in let k = h.many in omega (arith, l, k));
  each = each;
}
  where
    split : (k : ℕ) → k < at + 1 → (k ≡ at) ⊎ (k < at)
    split k l = grind (arith, l)

    each : (k : ℕ) (n : Instance) → k < at + 1 → slice_get (nodes_of e) k ≡ Some n → IsInterruptOutputs (mark_at new k) n
    each k n l here = by (split k l)
      where
        by : (k ≡ at) ⊎ (k < at) → IsInterruptOutputs (mark_at new k) n
        by (inl q) =
            let index : k ≡ length ms = q ∙ sym h.many in
            let value : mark_at new k ≡ m = (λ i. mark_at (put i) (index i)) ∙ push-last ms m (record { interrupts = false; halts = false }) in
            subst (λ x. IsInterruptOutputs x n) (sym value) (is n (ap (slice_get (nodes_of e)) (sym q) ∙ here))
        by (inr b) =
            let low : k < length ms = (let m' = h.many in omega (arith, b, m')) in
            let value : mark_at new k ≡ mark_at ms k = ap (λ t. mark_at t k) put ∙ push-before ms m (record { interrupts = false; halts = false }) k low in
            subst (λ x. IsInterruptOutputs x n) (sym value) (h.each k n b here)

pub none-marked : (e : Elab) (ms : List InterruptOutputs) → ms ≡ [] → AreMarksTo e ms 0
none-marked e ms h = record { many = ap length h; each = λ k n l. absurd (omega (arith, l)) }
