use Rattle.std.proofs.Common.{◌∙◌, ap, cond, Some, bytes_eq}
use Rattle.rtl_net.specs.Places.{place_of}
use Rattle.rtl_net.proofs.NameLists.{names_updated}
use Rattle.rtl_net.proofs.names.Names.put.Goals as goal

pub returns-clause-ok : goal.returns-clause-ok
returns-clause-ok c = λ n.
    names_updated c.in_ok-bytes.bytes.items c.args.self.now.places c.insert.new.self _ c.in_ok-insert.ensures.updates n
    ∙ ap (λ bs. cond (bytes_eq bs n) (Some c.args.place) (place_of c.args.self.now n)) c.in_ok-bytes.ensures.items
