-- Where no rule on meaning fails, the list of its failures is empty.
use Rattle.std.proofs.Common.{◌≡◌, inl, List, [], ◌∷◌, Some, Contains, refl}
use Rattle.rdl_base.specs.declared.fault.Fault.{Fault}
use Rattle.rb_base.specs.declared.place.Place.{Place}
use Rattle.rdl_base.specs.declared.rule.Rule.{Rule}
use Rattle.rdl_base.specs.declared.rule.Rule.TheVariants as rules
use Rattle.rdl_tree.specs.declared.node.Elab.{Elab}
use Rattle.rdl_values.specs.Elaborated.{top_name}
use Rattle.rdl_values.specs.Faults.{at_}
use Rattle.rdl_values.specs.Verdict.{IsListOf}
use Rattle.rdl_nodes.proofs.Members.{In, in-from, in-to}
use Rattle.rdl_rules.specs.Answers.{meaning_fails}
use Rattle.rdl_rules.specs.Phase6.{failures6}
use Rattle.rdl_sound_laws.proofs.Free.{all-free}

nothing : (f : Fault) → Contains [] f → ⊥
nothing f c = in-from [] f c

module _ (e : Elab) (clean : IsListOf (meaning_fails e) []) where
  fails-by : (r : Rule) (p : Place) → (r ≡ rules.R7 → ⊥) → Contains (failures6 (Some (top_name e)) e.source.now) (at_ r p) → meaning_fails e r p
  fails-by rules.R7 p never h = absurd (never refl)
  fails-by _ p never h = h

  no-fault : (f : Fault) → In (failures6 (Some (top_name e)) e.source.now) f → ⊥
  no-fault f h =
      let failing = fails-by f.rule f.place ((all-free (Some (top_name e)) e.source.now).free f h) (in-to (failures6 (Some (top_name e)) e.source.now) f h) in
      nothing f ((clean.exact f).1 failing)

  pub nothing-fails : failures6 (Some (top_name e)) e.source.now ≡ []
  nothing-fails = go (failures6 (Some (top_name e)) e.source.now) no-fault
    where
      go : (fs : List Fault) → ((f : Fault) → In fs f → ⊥) → fs ≡ []
      go [] h = refl
      go (f ∷ fs) h = absurd (h f (inl refl))
