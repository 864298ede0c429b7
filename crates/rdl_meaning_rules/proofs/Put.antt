-- Failures of parts, put in one after the other.
use Rattle.std.proofs.Common.{◌≡◌, ◌∙◌, List, ◌++◌, refl, sym, ap}
use Rattle.rdl_base.specs.declared.fault.Fault.{Fault}
use Rattle.rdl_failures.specs.Noted.{with_all}
use Rattle.rdl_failures.proofs.Sets.{with_all-append}

pub more : (fs gs s t u : List Fault) → t ≡ with_all fs s → u ≡ with_all gs t → u ≡ with_all (fs ++ gs) s
more fs gs s t u a b = b ∙ (ap (with_all gs) a ∙ sym (with_all-append fs gs s))

pub three : (a b c d f s t u v : List Fault) → t ≡ with_all a s → u ≡ with_all (b ++ c) t → v ≡ with_all (d ++ f) u → v ≡ with_all (a ++ b ++ c ++ d ++ f) s
three a b c d f s t u v p q r =
    more (a ++ b ++ c ++ d) f s (with_all d u) v (more (a ++ b ++ c) d s u (with_all d u) (more (a ++ b) c s (with_all b t) u (more a b s t (with_all b t) p refl) (q ∙ with_all-append b c t)) refl) (r ∙ with_all-append d f u)
