use Rattle.std.proofs.Common.{◌+◌, [], ◌∷◌, take, ap, sym, ◌∙◌}
use Rattle.plain_lemmas.proofs.Lists.{take-rest as past}
use Rattle.word_groups.specs.Paths.{names_and_indices}
use Rattle.manual_words.proofs.Seen.{last_piece, piece_before}
use Rattle.manual_words.proofs.names.cut.Goals as goal

pub returns-in-Some-clause-pieces : goal.returns-in-Some-clause-pieces
returns-in-Some-clause-pieces c =
    let path = c.args.path.now in
    let end = c.in-Some.end in
    piece_before path end (sym c.place_of_dollar.ensures ∙ c.in-Some.is) ∙ ap (λ rest. take end path ∷ names_and_indices rest) (sym (past path (end + 1)))

pub returns-in-None-clause-pieces : goal.returns-in-None-clause-pieces
returns-in-None-clause-pieces c = last_piece c.args.path.now (sym c.place_of_dollar.ensures ∙ c.in-None.is)
