use Rattle.std.proofs.Common.{◌≡◌, ℕ, ◌<◌, List, Option, Some, None, IsSome, length, slice_index_or, [], refl, ◌∙◌, sym, ap}
use Rattle.std.specs.Prelude.{option_map}
use denote.Ref.{Bor}
use Rattle.csv.specs.Records.{fields_of, field_at}
use Rattle.csv.proofs.RecordFacts.{field-get, field-there}
use Rattle.stim_csv.proofs.records.cell_at.Goals as goal

-- a field that is there is given
given : (o : Option (Bor (List ℕ))) (fields : List (List ℕ)) (i : ℕ) → i < length fields → option_map (λ s. s.now) o ≡ field_at fields i → IsSome o
given None fields i h e = absurd (field-there fields i h (sym e))
given (Some s) fields i h e = refl

pub unwrap-requires : goal.unwrap-requires
unwrap-requires c = given c.get.result (fields_of c.args.cells.now) c.args.column c.requires c.get.ensures.value

-- it is the field
is_field : (o : Option (Bor (List ℕ))) (s : Bor (List ℕ)) (fields : List (List ℕ)) (i : ℕ) → o ≡ Some s → option_map (λ s. s.now) o ≡ field_at fields i → s.now ≡ slice_index_or fields i []
is_field o s fields i is e = sym (field-get fields i s.now (sym e ∙ ap (option_map (λ s. s.now)) is))

pub returns : goal.returns
returns c = is_field c.get.result c.unwrap.result (fields_of c.args.cells.now) c.args.column c.unwrap.ensures c.get.ensures.value
