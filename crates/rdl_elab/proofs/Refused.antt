-- A source that was surveyed, and in which some rule fails or none.
use Rattle.std.proofs.Common.{◌≡◌, ◌≢◌, ◌∙◌, ℕ, true, false, List, [], ◌∷◌, Contains, Option, refl, sym, ap, subst}
use Rattle.rdl_base.specs.declared.fault.Fault.{Fault}
use Rattle.rdl_tree.specs.declared.item.Source.{Source}
use Rattle.rdl_values.specs.Elaboration.{Refuses}
use Rattle.rdl_values.specs.Faults.{at_}
use Rattle.rdl_values.specs.Parts.{is_empty}
use Rattle.rdl_values.specs.Phase3.{failures3}
use Rattle.rdl_values.specs.Verdict.{IsListOf}
use Rattle.rdl_failures.proofs.Sets.{collected}
use Rattle.rdl_elab.specs.Surveying.{IsSurvey}
use Rattle.rdl_elab.specs.declared.surveyed.Surveyed.{Surveyed}
use Rattle.rdl_elab.specs.Trees.{IsCleanSurvey}

none_there : (fs : List Fault) → is_empty fs ≡ true → fs ≡ []
none_there [] e = refl
none_there (f ∷ fs) e = cc

some_there : (fs : List Fault) → is_empty fs ≡ false → fs ≢ []
some_there [] e = cc
some_there (f ∷ fs) e = λ q. (let no : is_empty (f ∷ fs) ≡ true = ap is_empty q in cc)

pub clean_survey : (w : Option (List ℕ)) (s : Source) (v : Surveyed) → IsSurvey w s v → is_empty v.walk.failures ≡ true → IsCleanSurvey s v
clean_survey w s v survey e = record { wanted = w; survey = survey; clean = none_there v.walk.failures e }

pub refuses : (w : Option (List ℕ)) (s : Source) (v : Surveyed) (list : List Fault) → IsSurvey w s v → list ≡ v.walk.failures → is_empty v.walk.failures ≡ false → Refuses w s list
refuses w s v list survey same e = record {
  failures = subst (IsListOf (λ rule place. Contains (failures3 w s) (at_ rule place))) (sym (same ∙ survey.noted)) (collected (failures3 w s));
  some = subst (λ fs. fs ≢ []) (sym same) (some_there v.walk.failures e);
}
