use Rattle.std.proofs.Common.{◌∙◌, ap, refl, sym}
use Rattle.plain_lemmas.proofs.Results.{on_ok-map as on_ok}
use Rattle.rdl_assignments.proofs.Finding.{thinning_live, thinning_spent}
use Rattle.rdl_assignments.proofs.live.Thinning.read.Goals as goal

pub returns : goal.returns
returns c = on_ok c.take.result _ _ (λ taken v shown of before i e at h. thinning_live of c.args.text.now.same_enums v c.args.self.now c.take.new.self before i c.args.set.now _ e refl (sym at) (ap (λ v. v.items) c.take.ensures.live ∙ c.in_ok-push.ensures.items) taken h) c.take.ensures.taken

pub returns-then-is_spent : goal.returns-then-is_spent
returns-then-is_spent c = λ v shown of before i e at h. thinning_spent of c.args.text.now.same_enums v c.args.self.now before i c.args.set.now e (c.is_spent.ensures c.if-is_spent.true v shown) h
