-- What is fit has an extent that is.
use Rattle.std.specs.List.{All}
use Rattle.std.proofs.Common.{◌≡◌, zero, suc, List, [], ◌∷◌, map, sym, subst, arith}
use Rattle.rdl_layout.specs.declared.claim.Claim.{Claim}
use Rattle.rdl_layout.specs.Claims as claims
use Rattle.rdl_layout.specs.Fields as fields
use Rattle.rdl_layout.specs.Registers as registers
use Rattle.rdl_layout.specs.declared.bits.FieldBits.{FieldBits}
use Rattle.rdl_layout.specs.declared.register.Register.{Register}

pub registers-fit : (rs : List Register) (cs : List Claim) → cs ≡ map registers.claim_of rs → All registers.IsFit rs → All claims.IsFit cs
registers-fit rs cs e h = subst (All claims.IsFit) (sym e) (go rs h)
  where
    go : (rs : List Register) → All registers.IsFit rs → All claims.IsFit (map registers.claim_of rs)
    go [] h k d l = absurd (omega (arith, l))
    go (r ∷ rs) h zero d l = let f = h 0 r (omega arith) in (f.some, f.below)
    go (r ∷ rs) h (suc k) d l = go rs (λ i x m. h (suc i) x (omega (arith, m))) k d (omega (arith, l))

pub bits-fit : (bs : List FieldBits) (cs : List Claim) → cs ≡ map fields.claim_of bs → All fields.IsSpan bs → All claims.IsFit cs
bits-fit bs cs e h = subst (All claims.IsFit) (sym e) (go bs h)
  where
    go : (bs : List FieldBits) → All fields.IsSpan bs → All claims.IsFit (map fields.claim_of bs)
    go [] h k d l = absurd (omega (arith, l))
    go (b ∷ bs) h zero d l = let f = h 0 b (omega arith) in let s = f.some in let n = f.below in (omega arith, omega (arith, s, n))
    go (b ∷ bs) h (suc k) d l = go bs (λ i x m. h (suc i) x (omega (arith, m))) k d (omega (arith, l))
