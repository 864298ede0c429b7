use Rattle.std.proofs.Common.{Some}
use Rattle.rdl_values.specs.Elaborated.{top_name}
use Rattle.rdl_values.specs.Instances.{Instance, top_of}
use Rattle.rdl_nodes.proofs.Members.{in-to}
use Rattle.rdl_addr.specs.Rules.{registers}
use Rattle.rdl_sound_laws.proofs.Holding.{some-in, some-register}
use Rattle.rdl_sound_laws.proofs.first_word.some_word.Goals as goal

pub returns : goal.returns
returns c = λ e waits b settled placed clean block.
    let t = some-in (λ (n : Instance). n.use_.name.text.now) (top_of (Some (top_name e)) e.source.now) b.name block.name in
    let p = some-register e clean t.0 t.1 in
    c.some_words.ensures.reads e settled placed p.0 (in-to (registers (Some (top_name e)) e.source.now) p.0 p.1) b.reads block.reads
