use Rattle.std.proofs.Common.{ℕ, List, option_copied}
use Rattle.rdl_documents.proofs.manual.contents_of.Goals as goal

pub kept-requires : goal.kept-requires
kept-requires c = (option_copied c.args.top, (c.args.text.now, c.in-Ok.ensures))
