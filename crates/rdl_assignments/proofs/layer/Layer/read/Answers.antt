use Rattle.rdl_assignments.proofs.Reading.{layer_more}
use Rattle.rdl_assignments.proofs.layer.Layer.read.Goals as goal
use Rattle.plain_lemmas.proofs.Options.{if_some-at as if_some}
use Rattle.plain_lemmas.proofs.Results.{on_ok-map as on_ok}

pub returns : goal.returns
returns c = on_ok c.push.result _ _ (λ pushed start before scope shown h. layer_more _ c.args.body c.args.self.now _ start c.args.failures.now c.judge_set.new.failures before _ c.in_ok-given.given h (c.in_ok-given.ensures.noted before scope shown h.taken) (c.in_ok-given.ensures.taken before scope h.taken) pushed (λ g e. if_some c.in_ok-given.given _ g c.in_ok-given.ensures.given e scope shown)) c.push.ensures
