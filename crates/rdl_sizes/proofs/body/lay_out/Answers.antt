use Rattle.std.proofs.Common.{◌∙◌, ap, sym}
use Rattle.std.proofs.Common.{length}
use Rattle.rdl_sizes.proofs.Laying.{as-many-starts, wide-parts}
use Rattle.rdl_sizes.proofs.body.lay_out.Goals as goal

pub lay-requires : goal.lay-requires
lay-requires c = wide-parts c.args.lots.now c.deref.result.now (c.deref.ensures.value ∙ c.in_ok-parts.ensures) c.requires

pub element_starts-requires-clause-wide : goal.element_starts-requires-clause-wide
element_starts-requires-clause-wide c = wide-parts c.args.lots.now c.deref-2.result.now (c.deref-2.ensures.value ∙ c.in_ok-parts.ensures) c.requires

pub element_starts-requires-clause-many : goal.element_starts-requires-clause-many
element_starts-requires-clause-many c =
    ap length (c.deref-3.ensures.value ∙ c.in_ok-body.ensures.starts) ∙ (as-many-starts c.args.mode 0 c.deref.result.now ∙ ap length (c.deref.ensures.value ∙ sym c.deref-2.ensures.value))
