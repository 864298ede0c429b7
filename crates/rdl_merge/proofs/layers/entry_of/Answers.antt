use Rattle.std.proofs.Common.{refl, subst}
use Rattle.rdl_layers.specs.Says.{Says}
use Rattle.rdl_layers.specs.Settings.{applied}
use Rattle.rdl_assignments.specs.Meant.{meaning_in}
use Rattle.rdl_merge.proofs.Each.{gives-one}
use Rattle.rdl_merge.proofs.layers.entry_of.Goals as goal

pub returns : goal.returns
returns c = λ all judged a rank h k. record {
  one = applied rank c.args.one.now.prop (meaning_in a.scope c.args.one.now.setting);
  gives_one = gives-one judged c.args.one.now a rank h;
  entry = record { prop = refl; says = subst (Says all c.moved.result) (c.moved.ensures.same a.scope) (c.settings_say.ensures all c.args.body a.scope c.moved.result c.moved.ensures.stands k) };
}
