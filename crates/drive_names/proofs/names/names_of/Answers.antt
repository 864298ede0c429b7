use Rattle.std.proofs.Common.{ap, drop, subst, ◌∙◌}
use Rattle.drive_names.specs.Named.{named_pins}
use Rattle.drive_names.specs.Names.{IsTableOf}
use Rattle.plain_lemmas.proofs.Lists.{take-rest as past}
use Rattle.drive_names.proofs.names.names_of.Goals as goal

pub returns : goal.returns
returns c = λ b words inputs outputs. record {
  words = subst (λ ns. IsTableOf ns c.in_ok-word_table.field-0) words c.in_ok-word_table.ensures;
  inputs = subst (λ ps. IsTableOf (named_pins 0 ps) c.in_ok-inputs.inputs) (past c.deref.result.now 6 ∙ ap (drop 6) (c.deref.ensures.value ∙ inputs)) c.in_ok-inputs.ensures;
  outputs = subst (λ ps. IsTableOf (named_pins 3 ps) c.in_ok-outputs.outputs) (past c.deref-2.result.now 3 ∙ ap (drop 3) (c.deref-2.ensures.value ∙ outputs)) c.in_ok-outputs.ensures;
}
