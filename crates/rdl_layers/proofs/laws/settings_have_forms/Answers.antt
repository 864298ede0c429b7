use Rattle.rdl_layers.proofs.Formed.{setting_formed}
use Rattle.rdl_layers.proofs.laws.settings_have_forms.Goals as goal

pub returns : goal.returns
returns c = setting_formed
