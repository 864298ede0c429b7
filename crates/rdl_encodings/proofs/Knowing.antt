-- Numbers that are known under bodies and numbers in them.
use Rattle.std.proofs.Common.{◌≡◌, ◌∙◌, ℕ, ◌&&◌, cond, nat_eq, Some, sym, ap}
use Rattle.std.specs.BTreeMap.{get, is_at}
use Rattle.std.specs.Cmp.{tied_then, unsigned_tied}
use Rattle.std.specs.Ordering.{nat_cmp}
use Rattle.rdl_encodings.specs.Known.{known_at, number_cmp}
use Rattle.rdl_encodings.specs.declared.known.Known.{Known}

pub known_more : (old new : Known) (body within n : ℕ) → ((q : ℕ × ℕ) → get number_cmp new.numbers q ≡ cond (is_at (number_cmp (body, within)) q) (Some n) (get number_cmp old.numbers q)) → (b p : ℕ) → known_at new b p ≡ cond (nat_eq body b && nat_eq within p) (Some n) (known_at old b p)
known_more old new body within n updates b p = updates (b, p) ∙ ap (λ t. cond t (Some n) (known_at old b p)) (sym (tied_then (nat_cmp body b) (nat_cmp within p)) ∙ (λ i. unsigned_tied body b i && unsigned_tied within p i))
