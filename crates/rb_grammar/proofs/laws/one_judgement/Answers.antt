use Rattle.rb_grammar.proofs.Judgement.{one_wrong, one_too_deep, good_not_wrong, good_not_too_deep, wrong_not_too_deep}
use Rattle.rb_grammar.proofs.laws.one_judgement.Goals as goal

pub returns-clause-wrong : goal.returns-clause-wrong
returns-clause-wrong g c = one_wrong

pub returns-clause-too_deep : goal.returns-clause-too_deep
returns-clause-too_deep g c = one_too_deep

pub returns-clause-good_not_wrong : goal.returns-clause-good_not_wrong
returns-clause-good_not_wrong g c = good_not_wrong

pub returns-clause-good_not_too_deep : goal.returns-clause-good_not_too_deep
returns-clause-good_not_too_deep g c = good_not_too_deep

pub returns-clause-wrong_not_too_deep : goal.returns-clause-wrong_not_too_deep
returns-clause-wrong_not_too_deep g c = wrong_not_too_deep
