-- The tree of a source.
use Rattle.std.proofs.Common.{◌≡◌, ◌∙◌, ℕ, List, [], ◌∷◌, Contains, Option, None, Some, IsSome, true≢false, refl, sym, subst}
use Rattle.std.specs.List.{AllByRecursion}
use Rattle.rdl_tree.specs.declared.item.Source.{Source}
use Rattle.rdl_tree.specs.declared.node.Elab.{Elab}
use Rattle.rdl_values.specs.Elaborated.{AreTreesOf, IsTreeOf, more, none}
use Rattle.rdl_values.specs.Elaboration.{Elaborates}
use Rattle.rdl_values.specs.Faults.{at_}
use Rattle.rdl_values.specs.Instances.{Instance, most_names, signals, top_of}
use Rattle.rdl_values.specs.Phase3.{failures3}
use Rattle.rdl_values.specs.Top.{root}
use Rattle.rdl_values.specs.Uses.{seen}
use Rattle.rdl_values.specs.Verdict.{IsListOf}
use Rattle.rdl_values.proofs.Sorted.{none_fails}
use Rattle.rdl_failures.proofs.Sets.{collected}
use Rattle.rdl_elab.specs.Surveying.{IsSurvey}
use Rattle.rdl_elab.specs.Topped.{IsTopAt, IsTopNode}
use Rattle.rdl_elab.specs.declared.surveyed.Surveyed.{Surveyed}
use Rattle.rdl_elab.specs.declared.surveyed.TopSite.{TopSite}
use Rattle.rdl_elab.proofs.TopUses.{top_stands}
use Rattle.rdl_elab.specs.Grown.{AreAllWhole, IsWhole}
use Rattle.rdl_elab.proofs.Wholes.{root_whole, top_whole}

pub never : (o : Option TopSite) → IsSome o → o ≡ None → ⊥
never None h e = true≢false (sym h)
never (Some x) h e = cc

module _ (wanted : Option (List ℕ)) (s : Source) (v : Surveyed) (survey : IsSurvey wanted s v) (clean : v.walk.failures ≡ []) where
  listed : IsListOf (λ rule place. Contains (failures3 wanted s) (at_ rule place)) []
  listed = subst (IsListOf (λ rule place. Contains (failures3 wanted s) (at_ rule place))) (sym survey.noted ∙ clean) (collected (failures3 wanted s))

  pub nothing : failures3 wanted s ≡ []
  nothing = none_fails (failures3 wanted s) listed

  pub root_is_whole : AreAllWhole 0 (seen [] (root s))
  root_is_whole = root_whole wanted s nothing

  pub is_some_top : IsSome v.top
  is_some_top = go v.top survey.top
    where
      go : (o : Option TopSite) → IsTopAt v.walk.bodies o (top_of wanted s) → IsSome o
      go None h = absurd (top_stands wanted s nothing h)
      go (Some x) h = refl

  module _ (x : TopSite) (is : v.top ≡ Some x) where
    abbrev there : IsTopAt v.walk.bodies (Some x) (top_of wanted s)
    there = subst (λ o. IsTopAt v.walk.bodies o (top_of wanted s)) is survey.top

    abbrev pub top_node : Instance
    top_node = there.0

    pub tops_are : top_of wanted s ≡ top_node ∷ []
    tops_are = there.1

    pub is_top : IsTopNode v.walk.bodies x top_node
    is_top = there.2

    pub top_is_whole : IsWhole most_names top_node
    top_is_whole = (subst (AllByRecursion (IsWhole most_names)) tops_are (top_whole wanted s nothing)).0

    pub elaborates : (e : Elab) (between : ℕ) → e.source.now ≡ s → AreTreesOf e.signals.now 0 e.signals.now (signals s) between → IsTreeOf [] between e.top.now top_node e.count → Elaborates wanted s e
    elaborates e between source signals_ top = record {
      clean = listed;
      tree = record {
        source = source;
        between = between;
        signals_ = signals_;
        top = subst (λ ns. AreTreesOf [] between (e.top.now ∷ []) ns e.count) (sym tops_are) (more top none);
      };
    }
