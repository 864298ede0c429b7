use Rattle.std.proofs.Common.{◌∙◌, ◌+◌, slice_get, ap}
use Rattle.rdl_addr.specs.Layout.{Placed}
use Rattle.rdl_addr.specs.Rules.{registers}
use Rattle.rdl_nodes.proofs.Members.{in-from}
use Rattle.rdl_rules.specs.Numbers.{numbered}
use Rattle.rdl_sound_laws.proofs.WordNumbers.{view-listed}
use Rattle.rdl_sound_laws.proofs.sound_words.views_are_listed.Goals as goal

pub returns : goal.returns
returns c = λ wanted s waits b r j f block i at. ap (λ vs. slice_get vs (r.first_view + j)) block.views_ ∙ view-listed wanted s r (in-from (numbered (λ (p : Placed). p.node) (registers wanted s)) r i) j f at
