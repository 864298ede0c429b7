use Rattle.std.proofs.Common.{◌++◌, map, refl, subst}
use Rattle.plain_lemmas.proofs.Results.{on_ok-map as on_ok}
use Rattle.rdl_props.specs.declared.prop.Prop.TheVariants as props
use Rattle.rdl_layers.specs.Forms as forms
use Rattle.rdl_layers.specs.Settings.{applied, given}
use Rattle.rdl_layers.specs.declared.rank.Rank.TheVariants as rank
use Rattle.rdl_merge.specs.Merged.{AreEntries}
use Rattle.rdl_merge.proofs.Each.{given_none}
use Rattle.rdl_merge.proofs.instance.add_value.Goals as goal

pub returns-in-Ok : goal.returns-in-Ok
returns-in-Ok c = on_ok c.add_entry.result _ _ (λ h all xs env shown old.
    subst (λ o. AreEntries all c.add_entry.new.entries.items (xs ++ map (λ k. applied rank.Instance props.Reset (forms.number k)) (given o))) (c.in-Ok.ensures env shown)
    (h all xs (applied rank.Instance props.Reset (forms.number c.in-Ok.number)) old (record { prop = refl; says = refl }))) c.add_entry.ensures

pub returns-in-Err : goal.returns-in-Err
returns-in-Err c = λ all xs env shown old.
    subst (λ o. AreEntries all c.args.entries.now.items (xs ++ map (λ k. applied rank.Instance props.Reset (forms.number k)) (given o))) (c.in-Err.ensures env shown) (given_none all c.args.entries.now.items xs old)
