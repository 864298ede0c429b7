use Rattle.std.proofs.Common.{inl}
use Rattle.replies.proofs.loading.load_file.Goals as goal

pub returns-in_ok-answer-in-Err-Failed-clause-loaded : goal.returns-in_ok-answer-in-Err-Failed-clause-loaded
returns-in_ok-answer-in-Err-Failed-clause-loaded g c =
    let answer = c.in_ok-answer-in-Err-Failed.ensures in
    inl (answer.status, (let e = c.in-Err-Failed.field-0-is in c.in-Err-Failed.ensures.failed (cc)), (answer.err, answer.out))
