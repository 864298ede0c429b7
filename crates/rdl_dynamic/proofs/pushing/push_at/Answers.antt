use Rattle.std.proofs.Common.{◌∷◌, []}
use Rattle.std.proofs.lemmas.List.{length-set}
use Rattle.plain_lemmas.proofs.Results.{on_ok-map as on_ok}
use Rattle.rdl_layers.specs.Settings.{gives}
use Rattle.rdl_dynamic.proofs.Behind.{elsewhere, put-here}
use Rattle.rdl_dynamic.proofs.pushing.push_at.Goals as goal

pub returns : goal.returns
returns c = on_ok c.add_given.result _ _ (λ h. record {
  same_length = length-set c.args.entries.now.items c.args.node c.add_given.new.entries;
  others = λ j d. elsewhere c.args.entries.now.items c.args.node j c.add_given.new.entries d;
  here = λ all xs judged a rank l is at old. put-here all xs (gives rank a) c.args.entries.now.items c.args.node c.index_mut.result.now c.add_given.new.entries _ l c.index_mut.ensures.value (h all xs judged (a ∷ []) rank (is, tt) (at, tt)) old;
}) c.add_given.ensures
