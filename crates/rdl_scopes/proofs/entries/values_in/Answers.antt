use Rattle.std.proofs.Common.{◌∙◌, ap, map}
use Rattle.rdl_values.specs.Seen.{entry_of}
use Rattle.rdl_scopes.proofs.Entered.{listed_by_text}
use Rattle.rdl_scopes.proofs.entries.values_in.Goals as goal

pub returns : goal.returns
returns c = λ i. record { name = c.args.name.text.now; place = c.args.name.place.0; entries = (ap (map entry_of) c.in_ok-entries.ensures ∙ listed_by_text c.args.entries.now) i }
