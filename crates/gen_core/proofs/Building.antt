-- A block's registers driven and its outputs shown, as one.
use Rattle.std.proofs.Common.{◌≡◌, ℕ, ◌+◌, List, ap, ◌∙◌, arith}
use Rattle.rtl_net.specs.Net.{Net, Extends, Grows, undriven}
use Rattle.rtl_net.specs.declared.node.Id.{Id}
use Rattle.rtl_net.specs.declared.node.NetNode.{NetNode}
use Rattle.rtl_net.proofs.Nets.{Extends-trans}
use Rattle.rb_model.specs.declared.block.Block.{Block}
use Rattle.block_plan.specs.declared.plan.Plan.{Plan}
use Rattle.gen_scene.specs.declared.base.Inlet.{Inlet}
use Rattle.gen_scene.proofs.Worths.{IsWorth-extends}
use Rattle.gen_core.specs.Ties.{AreAwaiting, MovesOn, Shows}
use Rattle.gen_core.specs.declared.nodes.EdgeResults.{EdgeResults}
use Rattle.gen_core.specs.Core.{IsCore}
use Rattle.gen_core.specs.Parts.{HasTaken}

pub AreAwaiting-grows : (b : Block) (p : Plan) (pins : List Id) (old new : Net) (kept : List Id) → Grows old new → AreAwaiting b p pins old kept → AreAwaiting b p pins new kept
AreAwaiting-grows b p pins old new kept h k = record { each = λ j q e. h.awaits _ _ _ _ (k.each j q e) }

pub core_is : (b : Block) (a : Inlet) (made driven new : Net) (t : EdgeResults) → HasTaken b a made t → Extends made driven → Extends driven new → MovesOn b a driven → Shows b a new → IsCore b a new t.answer
core_is b a made driven new t taken g h moves shows = record {
  shown = shows.shown;
  answered = IsWorth-extends b a made new t.answer 32 _ (Extends-trans made driven new g h) taken.answered;
  moved = λ v s. moves.moved v (h.settles v s);
}

-- registers that are driven are those that waited
pub driven_all : (old made driven new : List NetNode) (n : ℕ) → undriven made ≡ undriven old → undriven driven + n ≡ undriven made → new ≡ driven → undriven new + n ≡ undriven old
driven_all old made driven new n e f g = ap (λ ns. undriven ns + n) g ∙ f ∙ e

pub none_left : (old mid new n : ℕ) → mid ≡ old + n → new + n ≡ mid → new ≡ old
none_left old mid new n e f = omega (arith, e, f)
