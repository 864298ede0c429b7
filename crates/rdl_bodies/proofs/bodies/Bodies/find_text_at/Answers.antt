use Rattle.rdl_bodies.proofs.Finding.{some_map}
use Rattle.rdl_bodies.proofs.bodies.Bodies.find_text_at.Goals as goal

pub returns-in-Some : goal.returns-in-Some
returns-in-Some c = some_map c.find_text.result _ _ (λ k h. (h.0, c.in-Some.at, h.1, c.in-Some.is, h.2)) c.find_text.ensures
