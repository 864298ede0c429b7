-- Lists of interrupts, in a netlist that grows.
use Rattle.std.proofs.Common.{◌≡◌, ℕ, ◌==◌, ◌||◌, List, [], ◌∷◌, take, drop, refl, ap, sym, ◌∙◌}
use Rattle.std.specs.Prelude.{All}
use Rattle.std.specs.List.{list_any}
use Rattle.std.proofs.lemmas.List.{take-append-drop}
use Rattle.std.proofs.lemmas.List.Folds.{list_any-append}
use Rattle.std.proofs.lemmas.List.Elements.{All-head, All-tail, All-drop}
use Rattle.rtl_net.specs.Value.{At, bit_of}
use Rattle.rtl_net.specs.Net.{Net, Settles, Grows, IsNode}
use Rattle.rtl_net.specs.declared.node.Id.{Id}
use Rattle.rtl_net.proofs.Nets.{IsNode-is}
use Rattle.gen_events.specs.declared.lines.Masked.{Masked}
use Rattle.gen_events.specs.Counting.{IsMasked, counts_at}
use Rattle.gen_events.proofs.Bits.{bit_is_one}

same_count : (a b : Net) (x : At) (m : Masked) → Grows a b → IsMasked a m → counts_at b x m ≡ counts_at a x m
same_count a b x m g h = rw (g.width m.value h.0.0) refl

same_counts : (a b : Net) (x : At) (ms : List Masked) → Grows a b → All (IsMasked a) ms → list_any (counts_at b x) ms ≡ list_any (counts_at a x) ms
same_counts a b x [] g h = refl
same_counts a b x (m ∷ ms) g h = rw (same_count a b x m g (All-head (IsMasked a) m ms h), same_counts a b x ms g (All-tail (IsMasked a) m ms h)) refl

-- the line of two halves
pub halves_count : (n0 n1 n2 n3 : Net) (k : ℕ) (ms left right : List Masked) (a b id : Id) → Grows n0 n1 → Grows n1 n2 → Grows n2 n3 → All (IsMasked n0) ms
    → IsNode n1 a 1 (λ x. bit_of (list_any (counts_at n0 x) left)) → IsNode n2 b 1 (λ x. bit_of (list_any (counts_at n1 x) right))
    → IsNode n3 id 1 (λ x. bit_of (x.node a.0 == 1 || x.node b.0 == 1)) → left ≡ take k ms → right ≡ drop k ms
    → IsNode n3 id 1 (λ x. bit_of (list_any (counts_at n0 x) ms))
halves_count n0 n1 n2 n3 k ms left right a b id g h l all p q n el er = IsNode-is n3 id 1 1 _ _ n refl (λ x s.
    let s2 : Settles n2 x = l.settles x s in
    let s1 : Settles n1 x = h.settles x s2 in
    let cut : (list_any (counts_at n0 x) (take k ms) || list_any (counts_at n0 x) (drop k ms)) ≡ list_any (counts_at n0 x) ms
    = sym (list_any-append (counts_at n0 x) (take k ms) (drop k ms)) ∙ ap (list_any (counts_at n0 x)) (take-append-drop k ms) in
    rw (
      p.value x s1,
      q.value x s2,
      bit_is_one (list_any (counts_at n0 x) left),
      bit_is_one (list_any (counts_at n1 x) right),
      el,
      er,
      same_counts n0 n1 x (drop k ms) g (All-drop (IsMasked n0) k ms all),
      cut,
    ) refl)
