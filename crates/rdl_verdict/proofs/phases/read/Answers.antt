use Rattle.rdl_verdict.proofs.phases.read.Goals as goal

pub returns-in-Err : goal.returns-in-Err
returns-in-Err c = record { tree = tt; error = λ wanted. c.of_tokens.ensures wanted c.args.text.now c.in-Err.ensures.error }
