use Rattle.rdl_values.specs.Elaborated.{nodes_of}
use Rattle.rdl_values.specs.Lineages.{lineages_of}
use Rattle.rdl_layers.specs.Settings.{setting}
use Rattle.rdl_nodes.proofs.Members.{in-from}
use Rattle.rdl_refs.specs.Items.{target}
use Rattle.rdl_rules.specs.Numbers.{all_fields}
use Rattle.rdl_sound_laws.proofs.Faultless.{faultless, halts, leads, meant}
use Rattle.rdl_sound_laws.proofs.clean_fields.clean_is_faultless.Goals as goal

pub returns-clause-fields_ : goal.returns-clause-fields_
returns-clause-fields_ c = λ e clean settled bound none. faultless e none settled bound

pub returns-clause-leads : goal.returns-clause-leads
returns-clause-leads c = λ e n bound h. leads e bound n (in-from (nodes_of e) n h)

pub returns-clause-meant : goal.returns-clause-meant
returns-clause-meant c = λ e n p i none h t. meant e none n p i (in-from (nodes_of e) n h) (in-from (target (lineages_of e) (setting n p)) i t)

pub returns-clause-halts : goal.returns-clause-halts
returns-clause-halts c = λ e f none h x. halts e none f (in-from (all_fields (nodes_of e)) f h) x
