use Rattle.std.proofs.Common.{◌==◌, inl, refl, sym, ap, ◌∙◌}
use Rattle.std.specs.List.{list_any}
use Rattle.rb_edge.proofs.mem_shelf.MemShelfShelf.read.Goals as goal

pub returns-then-chosen-clause-fails : goal.returns-then-chosen-clause-fails
returns-then-chosen-clause-fails c = (
  λ _. inl (ap (list_any (λ call. call == c.args.self.now.calls)) (sym c.deref.ensures.value) ∙ sym c.if-chosen.ensures.value),
  λ _. refl,
)
