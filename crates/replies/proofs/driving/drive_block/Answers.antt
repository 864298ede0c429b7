use Rattle.std.proofs.Common.{subst, sym}
use Rattle.replies.specs.Answer.{texts_of}
use Rattle.replies.specs.Outcome.{IsDriveText}
use Rattle.replies.proofs.Rows.{IsDriveAnswer-seen}
use Rattle.replies.proofs.driving.drive_block.Goals as goal

pub returns-in-Ok : goal.returns-in-Ok
returns-in-Ok c =
    let b = c.args.block.now in
    let bytes = c.args.script.now in
    let t = c.in-Ok.transcript in
    let text : IsDriveText b bytes t.text.items t.failed = record {
      seen = c.in-Ok.ensures.ok;
      of_modules = λ verilog agrees. c.transcripts_agree.ensures b verilog bytes t.text.items t.failed c.requires.waits agrees c.in-Ok.ensures.ok;
    } in
    IsDriveAnswer-seen b c.args.file.now bytes t.failed c.seen.result.status (texts_of c.seen.result) c.seen.ensures.status (subst (λ x. IsDriveText b bytes x t.failed) (sym c.seen.ensures.out) text) c.seen.ensures.err
