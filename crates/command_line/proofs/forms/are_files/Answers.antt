use Rattle.std.proofs.Common.{◌∙◌, sym}
use Rattle.command_line.proofs.Asking.{are_of, some_words}
use Rattle.command_line.proofs.forms.are_files.Goals as goal

pub returns : goal.returns
returns c = c.name_files.ensures ∙ sym (are_of c.args.words.now (some_words c.args.words.now (sym c.is_empty.ensures ∙ c.if-is_empty.false)) c.if-words-gt64.false)
