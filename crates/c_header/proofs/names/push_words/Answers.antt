use Rattle.std.proofs.Common.{◌++◌, ap}
use Rattle.c_header.proofs.Words.{left-words}
use Rattle.c_header.proofs.names.push_words.Goals as goal

pub loop-rest-init : goal.loop-rest-init
loop-rest-init c = ap (λ xs. c.args.text.now.items ++ xs) (left-words c.args.path.now)
