use Rattle.rb_model.specs.Items.{items}
use Rattle.rb_model.proofs.ItemValues.{are_one}
use Rattle.rb_model.proofs.SameEdge.{read_same}
use Rattle.rb_model.proofs.Runs.{all_outputs_same, kept_next_same}
use Rattle.rb_model.proofs.laws.edge_is_of_item_values.Goals as goal

pub returns-clause-outputs : goal.returns-clause-outputs
returns-clause-outputs c = all_outputs_same

pub returns-clause-answer : goal.returns-clause-answer
returns-clause-answer c b n sound u v right right' = read_same b n u v (are_one b n sound u v right right') sound n.access

pub returns-clause-kept : goal.returns-clause-kept
returns-clause-kept c = kept_next_same
