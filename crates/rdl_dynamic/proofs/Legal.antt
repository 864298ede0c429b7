-- Failures at targets.
use Rattle.std.proofs.Common.{◌≡◌, ◌∙◌, ℕ, Bool, ◌&&◌, List, [], ◌∷◌, refl, sym, subst}
use Rattle.rdl_base.specs.declared.fault.Fault.{Fault}
use Rattle.rb_base.specs.declared.place.Place.{Place}
use Rattle.rdl_base.specs.declared.rule.Rule.TheVariants as rules
use Rattle.rdl_values.specs.Faults.{at_, when}
use Rattle.rdl_values.specs.Instances.{Instance}
use Rattle.rdl_values.specs.Lineages.{Lineage}
use Rattle.rdl_values.specs.Parts.{is_empty}
use Rattle.rdl_failures.specs.Noted.{IsNoted}
use Rattle.rdl_layers.specs.Assignments.{Dynamic, Nested, targets}
use Rattle.rdl_layers.specs.Judged.{bad_indices, no_target}
use Rattle.rdl_targets.specs.At.{AreAt}

-- P7

both-empty : (all : List Lineage) (ks : List ℕ) (ns : List Instance) → AreAt all ks ns → is_empty ks ≡ is_empty ns
both-empty all [] [] h = refl
both-empty all (k ∷ ks) (n ∷ ns) h = refl
both-empty all [] (n ∷ ns) h = absurd h
both-empty all (k ∷ ks) [] h = absurd h

pub target_noted : (all : List Lineage) (ks : List ℕ) (b : Nested) (d : Dynamic) (at : Place) (clean none ok : Bool) (s t : List Fault) → clean ≡ is_empty (bad_indices d) → none ≡ is_empty ks → AreAt all ks (targets b d) → d.assigns.set_.place ≡ at
    → IsNoted (when (clean && none) (at_ rules.P7 at)) ok s t → IsNoted (no_target b d) ok s t
target_noted all ks b d at clean none ok s t ec en h ep noted =
    let en' = en ∙ both-empty all ks (targets b d) h in
    subst (λ fs. IsNoted fs ok s t) (λ i. when (ec i && en' i) (at_ rules.P7 (sym ep i))) noted
