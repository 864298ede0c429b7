use Rattle.rdl_field_list.proofs.Narrow.{narrow}
use Rattle.rdl_field_list.proofs.laws.faultless_is_narrow.Goals as goal

pub returns : goal.returns
returns c = λ all f h. narrow all f h
