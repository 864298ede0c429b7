use Rattle.std.proofs.Common.{◌∙◌, ◌++◌, ap}
use Rattle.std.specs.List.{slice_split}
use Rattle.word_groups.specs.Paths.{is_dollar}
use Rattle.word_groups.proofs.Pieces.{glued, glued-none}
use Rattle.word_groups.proofs.paths.names_and_indices.Goals as goal

pub loop-rest-init : goal.loop-rest-init
loop-rest-init c =
    let rest = slice_split is_dollar c.args.path.now in
    ap (λ ps. ps ++ glued c.new-piece.result.items rest) c.new-pieces.ensures.items ∙ ap (λ bs. glued bs rest) c.new-piece.ensures.items ∙ glued-none is_dollar c.args.path.now
