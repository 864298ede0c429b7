-- Ors of many numbers.
use Rattle.std.proofs.Common.{◌≡◌, ℕ, List, [], ◌∷◌, ◌++◌, length, take, drop, refl, ap, sym, ◌∙◌, arith, bit_or, max}
use Rattle.std.proofs.lemmas.List.{take-append-drop}
use Rattle.std.proofs.lemmas.Nat.Bits.{same_from_bits, bit_at_or}
use Rattle.std.specs.Int.{bit_at}
use Rattle.rtl_net.specs.Value.{At}
use Rattle.rtl_net.specs.declared.node.Id.{Id}
use Rattle.net_gates.specs.Gates.{or_of}
use Rattle.std.specs.Int.Bits.{or_zero_r}
use Rattle.std.proofs.lemmas.List.Elements.{All-get_or}
use Rattle.rtl_net.specs.Net.{Net, Grows, IsNode, Stands, width_in}
use Rattle.rtl_net.proofs.Nets.{IsNode-is, Stands-grows}
use Rattle.std.specs.Prelude.{All, slice_index_or}
use Rattle.plain_lemmas.proofs.Numbers.{max_assoc}

pub or_assoc : (a b c : ℕ) → bit_or (bit_or a b) c ≡ bit_or a (bit_or b c)
or_assoc a b c = same_from_bits (bit_or (bit_or a b) c) (bit_or a (bit_or b c)) (λ i.
    bit_at_or (bit_or a b) c i ∙ ap (λ x. max x (bit_at c i)) (bit_at_or a b i) ∙ max_assoc (bit_at a i) (bit_at b i) (bit_at c i)
    ∙ sym (bit_at_or a (bit_or b c) i ∙ ap (λ x. max (bit_at a i) x) (bit_at_or b c i)))

pub or_of-append : (x : At) (xs ys : List Id) → or_of x (xs ++ ys) ≡ bit_or (or_of x xs) (or_of x ys)
or_of-append x [] ys = refl
or_of-append x (i ∷ xs) ys = ap (bit_or (x.node i.0)) (or_of-append x xs ys) ∙ sym (or_assoc (x.node i.0) (or_of x xs) (or_of x ys))

-- a list cut in two
pub or_of-cut : (x : At) (k : ℕ) (xs : List Id) → bit_or (or_of x (take k xs)) (or_of x (drop k xs)) ≡ or_of x xs
or_of-cut x k xs = sym (or_of-append x (take k xs) (drop k xs)) ∙ ap (or_of x) (take-append-drop k xs)

-- the or of one node
pub one_of : (net : Net) (w : ℕ) (ids : List Id) → length ids ≡ 1 → All (λ i. Stands net i w) ids → IsNode net (slice_index_or ids 0 (record { 0 = 0 })) w (λ x. or_of x ids)
one_of net w [] e h = absurd (omega arith)
one_of net w (i ∷ []) e h =
    let s : Stands net i w = All-get_or (λ i. Stands net i w) (i ∷ []) 0 i (omega arith) h in
    record { stands = s; value = λ v t. sym (or_zero_r (v.node i.0)) }
one_of net w (i ∷ j ∷ is) e h = absurd (omega arith)

-- the or of two halves
pub both_halves : (n1 n2 n3 : Net) (w k : ℕ) (ids l r : List Id) (a b id : Id) → Grows n1 n2 → Grows n2 n3 → IsNode n1 a w (λ x. or_of x l) → IsNode n2 b w (λ x. or_of x r)
    → IsNode n3 id (width_in n2 a) (λ x. bit_or (x.node a.0) (x.node b.0)) → l ≡ take k ids → r ≡ drop k ids → IsNode n3 id w (λ x. or_of x ids)
both_halves n1 n2 n3 w k ids l r a b id g h p q m el er = IsNode-is n3 id (width_in n2 a) w (λ x. bit_or (x.node a.0) (x.node b.0)) (λ x. or_of x ids) m (Stands-grows n1 n2 a w g p.stands).width
    (λ v s. rw (p.value v (g.settles v (h.settles v s)), q.value v (h.settles v s), el, er) (or_of-cut v k ids))
