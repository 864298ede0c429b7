-- Lists made of numbered parts, one part more.
use Rattle.std.proofs.Common.{◌≡◌, ℕ, ◌+◌, ◌<◌, List, ◌++◌, length, take, get_or, sym, ap, ◌∙◌, append_assoc}
use Rattle.std.specs.List.{enumerate_from, flat_map}
use Rattle.rb_model.proofs.PortLists.{flat_map-numbered}

pub numbered_more : {X Y : Type 0} (f : ℕ × X → List Y) (xs : List X) (i n : ℕ) (x : X) (start old new : List Y) → i < length xs → x ≡ get_or xs i x → n ≡ i
    → old ≡ start ++ flat_map f (enumerate_from 0 (take i xs)) → new ≡ old ++ f (n, x) → new ≡ start ++ flat_map f (enumerate_from 0 (take (i + 1) xs))
numbered_more f xs i n x start old new l is e sofar more =
    more ∙ ap (λ ys. ys ++ f (n, x)) sofar ∙ ap (λ m. (start ++ flat_map f (enumerate_from 0 (take i xs))) ++ f (m, x)) e
    ∙ append_assoc start (flat_map f (enumerate_from 0 (take i xs))) (f (i, x)) ∙ ap (λ ys. start ++ ys) (sym (flat_map-numbered f xs i x l is))
