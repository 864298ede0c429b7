use Rattle.std.proofs.Common.{◌∙◌, ap, option_map, sym, take}
use Rattle.std.proofs.lemmas.Result.{on_ok_weaker}
use Rattle.rdl_values.specs.Seen.{val_of}
use Rattle.rdl_values.specs.Overlaid.{overlaid}
use Rattle.rdl_values.proofs.Reading.{reads_bound}
use Rattle.rdl_values.proofs.reads.read_name.Goals as goal

pub returns-in-Some-clause-read_ : goal.returns-in-Some-clause-read_
returns-in-Some-clause-read_ c = on_ok_weaker c.add.result (λ added xs k t h.
    reads_bound (overlaid (take k xs) t) c.args.table.now.bound c.add.new.self.bound c.args.name.now (val_of c.in-Some.value) (sym (c.value.ensures xs k t h) ∙ ap (option_map val_of) c.in-Some.is) added) c.add.ensures.added
