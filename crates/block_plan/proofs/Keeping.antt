-- Kept values and their places, as they are listed.
use Rattle.std.proofs.Common.{ℕ, Bool, Option, Some, None, List, ◌++◌}
use Rattle.rb_model.specs.declared.block.Field.{Field}
use Rattle.rb_model.specs.Kept.{Kept}
use Rattle.block_plan.specs.declared.kept.FieldKept.{FieldKept}
use Rattle.block_plan.specs.Kept.{AreFieldKept, IsKeptAt}
use Rattle.plain_lemmas.proofs.Lists.{get-front_of as front}

pub stays_at : (all more : List Kept) (is_kept : Bool) (k : Kept) (place : Option ℕ) → IsKeptAt all is_kept k place → IsKeptAt (all ++ more) is_kept k place
stays_at all more is_kept k None h = h
stays_at all more is_kept k (Some j) h = (h.0, front all more k j h.1)

pub stay : (all more : List Kept) (k : ℕ) (f : Field) (p : FieldKept) → AreFieldKept all k f p → AreFieldKept (all ++ more) k f p
stay all more k f p h = record { value = stays_at all more _ _ p.value h.value; last = stays_at all more _ _ p.last h.last; done = stays_at all more _ _ p.done h.done }
