use Rattle.std.proofs.Common.{ℕ, ◌≤◌, Option, None, Some, option_copied, sym, subst, arith}
use Rattle.rdl_verdict.specs.Answers.{Refuses}
use Rattle.rdl_verdict.specs.declared.error.JudgeError.{JudgeError}
use Rattle.command_line.specs.Words.{IsWaits, waits_of}
use Rattle.replies.specs.Verdict.{IsDescribedWith}
use Rattle.rdl_rules.specs.Waits.{with_waits}
use Rattle.replies.specs.Answer.{texts_of}
use Rattle.replies.proofs.Rows.{first_told}
use Rattle.replies.proofs.Waiting.{waiting-apart}
use Rattle.replies.proofs.describing.describe_source.Goals as goal

few : (waits : Option ℕ) → IsWaits waits → waits_of waits ≤ 1
few None h = omega arith
few (Some n) h = h

pub returns-in-Ok : goal.returns-in-Ok
returns-in-Ok c =
    let j = c.in-Ok.judged in
    let n = waits_of c.args.waits in
    let top = option_copied c.args.top in
    let source = c.args.source.now in
    let tree = j.elab.source.now in
    let found = c.in-Ok.ensures.described in
    let described : IsDescribedWith top source tree n (with_waits n j.block) = record {
      reads = found.reads;
      clean = found.clean;
      block = c.blocks_with_waits.ensures.block top tree j.block n found.block;
      sound = c.blocks_with_waits.ensures.sound j.block n (few c.args.waits c.requires.waits) found.sound;
      apart = waiting-apart j.block n found.apart;
    } in
    (tree, subst (IsDescribedWith top source tree n) (sym c.waiting.ensures) described)

pub returns-in-Err-Faults : goal.returns-in-Err-Faults
returns-in-Err-Faults c =
    let answer = c.in_ok-answer-in-Err-Faults.answer in
    let told = c.in_ok-answer-in-Err-Faults.ensures in
    let top = option_copied c.args.top in
    let file = c.args.file.now in
    let source = c.args.source.now in
    let refused = subst (λ (e : JudgeError). Refuses top source e) c.in-Err-Faults.field-0-is c.in-Err-Faults.ensures in
    (told.status, first_told top file source c.in-Err-Faults.faults.items (texts_of answer) refused (rw c.in-Err-Faults.field-0-is at told.err, told.out))
