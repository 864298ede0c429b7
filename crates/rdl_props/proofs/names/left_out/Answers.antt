use Rattle.std.proofs.Common.{rules, tests}
use Rattle.std.proofs.lemmas.Iterator.{YieldsList-from_slice}
use Rattle.std.proofs.lemmas.Iterator.Search.{any_from_yields_List}
use Rattle.std.specs.Str.{bytes_eq}
use Rattle.rdl_props.specs.Table.{left_out_names}
use Rattle.rdl_props.proofs.names.left_out.Goals as goal

pub returns : goal.returns
unfolding left_out_names
returns c = any_from_yields_List (λ w. bytes_eq w.now c.args.text.now) _ _ _ c.any.ensures.ran (YieldsList-from_slice _ c.iter.ensures.rest) (λ x b q k. search (rules, tests))
