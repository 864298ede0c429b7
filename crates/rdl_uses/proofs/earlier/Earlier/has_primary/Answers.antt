use Rattle.std.proofs.Common.{◌∙◌, ap, false, slice_get, unwrap_or, Some, None}
use Rattle.rdl_uses.proofs.Primaries.{primary-by}
use Rattle.rdl_uses.proofs.earlier.Earlier.has_primary.Goals as goal

pub returns-in-Some : goal.returns-in-Some
returns-in-Some c = λ us h. c.primary_at.ensures ∙ ap (λ ps. unwrap_or (slice_get ps c.in-Some.place) false) c.deref.ensures.value ∙ primary-by c.args.name.now us c.args.self.now (Some c.in-Some.place) h c.in-Some.ensures

pub returns-in-None : goal.returns-in-None
returns-in-None c = λ us h. primary-by c.args.name.now us c.args.self.now None h c.in-None.ensures
