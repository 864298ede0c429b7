-- Values that are those of the text.
use Rattle.std.proofs.Common.{◌≡◌, ◌∙◌, Bool, true, false, not, Option, None, Some, unwrap_or, refl, sym, ap}
use Rattle.std.proofs.lemmas.Bool.{eqb-true}
use Rattle.rdl_values.specs.Changed.{is_changed}
use Rattle.rdl_values.specs.Operators.{same}
use Rattle.rdl_values.specs.Values.{Val, number, flag, text}
use Rattle.plain_lemmas.proofs.Lists.{bytes_eq-same}

same_is : (x y : Val) → unwrap_or (same x y) false ≡ true → y ≡ x
same_is (number m) (number n) h = ap number (sym (eqb-true m n h))
same_is (number m) (flag b) h = cc
same_is (number m) (text t) h = cc
same_is (flag true) (flag true) h = refl
same_is (flag true) (flag false) h = cc
same_is (flag false) (flag true) h = cc
same_is (flag false) (flag false) h = refl
same_is (flag a) (number n) h = cc
same_is (flag a) (text t) h = cc
same_is (text s) (text t) h = ap text (sym (bytes_eq-same s t h))
same_is (text s) (number n) h = cc
same_is (text s) (flag b) h = cc

-- what is not changed has the value that the text has
pub unchanged_is : (o : Option Val) (w : Val) → is_changed o w ≡ false → (v : Val) → o ≡ Some v → w ≡ v
unchanged_is None w h v e = cc
unchanged_is (Some x) w h v e = let one : x ≡ v = cc in same_is x w (turned (unwrap_or (same x w) false) h) ∙ one
  where
    turned : (b : Bool) → not b ≡ false → b ≡ true
    turned true h = refl
    turned false h = cc
