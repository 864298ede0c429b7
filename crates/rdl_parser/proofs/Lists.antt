-- Lists with commas between, from their front.
use Rattle.std.proofs.Common.{List, [], ◌∷◌}
use Rattle.rdl_tree.specs.declared.token.Mark.TheVariants as marks
use Rattle.rdl_tree.specs.declared.token.Token.{Token}
use Rattle.rdl_tree.specs.Tree.{IsMark, DerivesListed, last, next}

-- { "," x }
pub data DerivesMore {X : Type 0} (Derives : List Token → List Token → X → Type 0) : List Token → List Token → List X → Type 0 where
  no_more : {ts : List Token} → DerivesMore Derives ts ts []
  more : {t : Token} {ts us vs ws : List Token} {x : X} {xs : List X} → IsMark marks.Comma ts t us → Derives us vs x → DerivesMore Derives vs ws xs → DerivesMore Derives ts ws (x ∷ xs)

module _ {X : Type 0} {Derives : List Token → List Token → X → Type 0} where
  pub listed_from : {ts us vs : List Token} {x : X} {xs : List X} → Derives ts us x → DerivesMore Derives us vs xs → DerivesListed Derives ts vs (x ∷ xs)
  listed_from {vs = vs} d m = go _ _ _ m d
    where
      go : (us : List Token) (x : X) (xs : List X) → DerivesMore Derives us vs xs → {ts : List Token} → Derives ts us x → DerivesListed Derives ts vs (x ∷ xs)
      go us x _ no_more d = last d
      go us x _ (more {vs = ws} {x = y} {xs = ys} i e m) d = next d i (go ws y ys m e)
