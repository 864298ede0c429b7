use Rattle.std.proofs.Common.{◌≡◌, Option, None, Some, MatchOption, sym}
use Rattle.command_line.specs.Command.{view, view_all}
use Rattle.command_line.specs.Words.{Asks, AsksNothing, texts}
use Rattle.command_line.specs.Found.{found_in}
use Rattle.command_line.specs.declared.words.Command.{Command}
use Rattle.command_line.proofs.Asking.{none-asked, one-asked}
use Rattle.command_line.proofs.words.command_of.Goals as goal

pub returns : goal.returns
returns c = go c.named_by.result c.named_by.ensures
  where
    go : (o : Option Command) → view_all o ≡ found_in (texts c.args.words.now) → MatchOption o (AsksNothing (texts c.args.words.now)) (λ command. Asks (texts c.args.words.now) (view command))
    go None e = none-asked (texts c.args.words.now) (sym e)
    go (Some x) e = one-asked (texts c.args.words.now) (view x) (sym e)
