use Rattle.rdl_walk.proofs.Asking.{asked_again}
use Rattle.rdl_walk.proofs.walk.Walk.children.Goals as goal

pub returns-in-Some : goal.returns-in-Some
returns-in-Some c = λ above x b here open_ stands.
    let f = c.in-Some.ensures in
    asked_again c.args.self.now f.0 c.in-Some.judgement c.args.number c.args.standing c.requires.walking f.1 f.2 f.3 above x b here open_ stands
