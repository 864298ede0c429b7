use Rattle.std.proofs.Common.{refl}
use Rattle.rdl_encodings.proofs.Pushing.{pushed}
use Rattle.rdl_encodings.proofs.numbering.Numbering.add.Goals as goal

pub returns : goal.returns
returns c = λ fs f h by. pushed c.next.new.self (record { numbers = c.next.new.self.numbers; fields = c.push.new.self }) c.args.enums.now fs f c.in_ok-number.number refl c.in_ok-push.ensures.items (c.in_ok-number.ensures fs f h by)
