use Rattle.std.proofs.Common.{◌≡◌, ◌∙◌, ℕ, ◌^◌, ◌<◌, true, cond, Option, None, ap, sym, subst, arith}
use Rattle.std.specs.Option.{SomeIff}
use Rattle.rdl_layout.specs.declared.part.Mode.{Mode}
use Rattle.rdl_layout.specs.declared.part.Mode.TheVariants.{Fullalign}
use Rattle.rdl_layout.specs.declared.part.Part.{Part}
use Rattle.rdl_layout.specs.Parts.{alignment, span}
use Rattle.rdl_layout.specs.Rounding.{up}
use Rattle.rdl_layout.proofs.Powers.{up-from}
use Rattle.rdl_layout.proofs.part.Part.alignment.Goals as goal

-- an array that is too long has no alignment
too-long : (m : Mode) (p : Part) (o : Option ℕ) → o ≡ None → m ≡ Fullalign → p.is_array ≡ true → (span m p < 2 ^ 128 → ⊥) → SomeIff o (alignment m p < 2 ^ 128) (alignment m p)
too-long m p o none full array long =
    let whole : alignment m p ≡ up (span m p) = ap (λ x. alignment x p) full ∙ (ap (λ b. cond b (up (span Fullalign p)) (up p.size)) array ∙ ap (λ x. up (span x p)) (sym full)) in
    let from = up-from (span m p) in
    subst (λ x. SomeIff x (alignment m p < 2 ^ 128) (alignment m p)) (sym none) (λ h. long (omega (arith, h, whole, from)))

pub returns-in_err-span-in-Fullalign-clause-value : goal.returns-in_err-span-in-Fullalign-clause-value
returns-in_err-span-in-Fullalign-clause-value c =
    too-long c.args.mode c.args.self c.from_residual.result c.from_residual.ensures c.in-Fullalign.is c.if-self.true c.in_err-span-in-Fullalign.ensures
