-- One number more.
use Rattle.std.proofs.Common.{◌≡◌, ◌∙◌, ◌⊎◌, inl, inr, ℕ, ◌+◌, ◌<◌, List, [], ◌∷◌, ◌++◌, length, Some, slice_get, sym, ap, arith}
use Rattle.plain_lemmas.proofs.Lists.{get-end as get-last, get-front}
use Rattle.rdl_tree.specs.declared.node.Elab.{Elab}
use Rattle.rdl_values.specs.Elaborated.{nodes_of}
use Rattle.rdl_values.specs.Instances.{Instance}
use Rattle.rdl_block_numbers.specs.Numbers.{AreOwnTo, own_number}
use Rattle.rdl_block_numbers.proofs.Ranking.{many-more}

pub none-own : (e : Elab) (ns : List ℕ) → ns ≡ [] → AreOwnTo e 0 ns
none-own e ns h = record { many = ap length h; each = λ k n l. absurd (omega (arith, l)) }

pub one-own : (e : Elab) (at : ℕ) (n : Instance) → slice_get (nodes_of e) at ≡ Some n → (ns new : List ℕ) (x : ℕ) → AreOwnTo e at ns → new ≡ ns ++ (x ∷ []) → x ≡ own_number (nodes_of e) n → AreOwnTo e (at + 1) new
one-own e at n here ns new x h put is = record {
  many = many-more ns new at x h.many put;
  each = λ k m l at-k. by k m at-k (split k l);
}
  where
    split : (k : ℕ) → k < at + 1 → (k ≡ at) ⊎ (k < at)
    split k l = grind (arith, l)

    by : (k : ℕ) (m : Instance) → slice_get (nodes_of e) k ≡ Some m → (k ≡ at) ⊎ (k < at) → slice_get new k ≡ Some (own_number (nodes_of e) m)
    by k m at-k (inl q) =
        let same' : Some n ≡ Some m = sym here ∙ (ap (slice_get (nodes_of e)) (sym q) ∙ at-k) in
        let same : n ≡ m = cc same' in
        ap (λ xs. slice_get xs k) put ∙ (get-last ns x k (q ∙ sym h.many) ∙ ap Some (is ∙ ap (own_number (nodes_of e)) same))
    by k m at-k (inr low) = ap (λ xs. slice_get xs k) put ∙ get-front ns (x ∷ []) k (own_number (nodes_of e) m) (h.each k m low at-k)
