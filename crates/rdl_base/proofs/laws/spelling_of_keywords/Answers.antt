use Rattle.std.proofs.Common.{sym}
use Rattle.rdl_base.proofs.Reserved.{is_reserved-word}
use Rattle.rdl_base.proofs.laws.spelling_of_keywords.Goals as goal

pub returns-clause-reserved : goal.returns-clause-reserved
returns-clause-reserved c = λ keyword. sym (is_reserved-word keyword)
