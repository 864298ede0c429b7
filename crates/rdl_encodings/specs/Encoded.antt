-- Which enumerations the fields of a block are encoded by (SystemRDL 2.0, 9.10).
use Rattle.std.specs.Prelude.{ℕ, Bool, not, List, length, filter, flat_map, map, Option, None, option_and_then, option_to_list}
use Rattle.std.specs.List.{list_any}
use Rattle.encodings.specs.Encodings.{Enumerations}
use Rattle.rdl_tree.specs.declared.item.Source.{Source}
use Rattle.rdl_props.specs.declared.prop.Prop.TheVariants as prop
use Rattle.rdl_values.specs.Bodies.{around, standing}
use Rattle.rdl_values.specs.Instances.{Instance, nodes}
use Rattle.rdl_values.specs.Values.{EnumOf, visible_enum}
use Rattle.rdl_layers.specs.Settings.{Meaning, enum_of, setting}
use Rattle.rdl_rules.specs.Numbers.{all_fields}
use Rattle.rdl_encodings.specs.Same.{number_in, same_enum, shown}

-- the enumeration by which a field is encoded: the one that its `encode` names, where the text of that stands
abbrev pub encoded_by : Instance → Option EnumOf
encoded_by f = go (setting f prop.Encode)
  where
    go : Meaning → Option EnumOf
    go (enum_of n scope) = visible_enum (around scope) n
    go _ = None

-- a field is encoded by this enumeration
abbrev pub is_encoded_by : EnumOf → Instance → Bool
is_encoded_by e f = list_any (λ d. same_enum d e) (option_to_list (encoded_by f))

-- the enumeration of a field that stands behind these, with the field's number, where none of them is encoded by it
abbrev pub first_by : List Instance × Instance → List (ℕ × EnumOf)
first_by p = map (λ e. (length p.0, e)) (filter (λ e. not (list_any (is_encoded_by e) p.0)) (option_to_list (encoded_by p.1)))

-- each enumeration once, with the number of the first field that is encoded by it, in the order of these fields
abbrev pub firsts : List Instance → List (ℕ × EnumOf)
firsts fs = flat_map first_by (standing fs)

-- the enumerations of some fields, and for each field the number of its own among them
abbrev pub encodings_of : List Instance → Enumerations
encodings_of fs = record {
  list = map shown (firsts fs);
  fields = map (λ f. option_and_then (number_in (firsts fs)) (encoded_by f)) fs;
}

-- those of the fields of a source's block, where the definition of a name is wanted as the top
abbrev pub source_encodings : Option (List ℕ) → Source → Enumerations
source_encodings wanted s = encodings_of (all_fields (nodes wanted s))
