-- Words in order by address.
use Rattle.std.specs.List.{IsDistinct}
use Rattle.std.specs.List.Sorted.{IsNonDecreasing}
use Rattle.std.proofs.Common.{◌≢◌, eqb, List, map, IsPermutation}
use Rattle.std.proofs.lemmas.Bool.Decides.{Decides-eqb}
use Rattle.std.proofs.lemmas.List.Sorted.{IsPermutation-map}
use Rattle.std.proofs.lemmas.Map.Keys.{IsDistinct-IsPermutation, IsStrictlyIncreasing-from_distinct}
use Rattle.std.proofs.lemmas.Map.Made.{IsDistinct-from_AllPairs}
use Rattle.plain_lemmas.proofs.Numbers.{eqb-swap as eqb-flips}
use Rattle.rdl_nodes.proofs.Apart.{Apart, apart-map, pairs}
use Rattle.rb_model.specs.declared.block.Word.{Word}
use Rattle.rdl_rules.specs.Words.{AreByAddress}
use Rattle.rdl_sound_laws.proofs.Meeting.{Differ}

-- words at different addresses, in order, rise
pub rising : (words ordered : List Word) → Apart Differ words → IsPermutation words ordered → IsNonDecreasing (map (λ w. w.address) ordered) → AreByAddress words ordered
rising words ordered apart same up = record { same = same; rising = IsStrictlyIncreasing-from_distinct (map (λ w. w.address) ordered) up distinct }
  where
    before : IsDistinct eqb (map (λ (w : Word). w.address) words)
    before = IsDistinct-from_AllPairs Decides-eqb (map (λ (w : Word). w.address) words) (pairs (λ x y. x ≢ y) (map (λ (w : Word). w.address) words) (apart-map (λ x y. x ≢ y) (λ (w : Word). w.address) words apart))

    distinct : IsDistinct eqb (map (λ (w : Word). w.address) ordered)
    distinct = IsDistinct-IsPermutation eqb eqb-flips (map (λ (w : Word). w.address) words) (map (λ (w : Word). w.address) ordered) (IsPermutation-map (λ (w : Word). w.address) words ordered same) before
