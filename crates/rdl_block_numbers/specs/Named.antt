-- Numbers under nodes and names.
use Rattle.std.specs.Prelude.{◌≡◌, ℕ, ◌<◌, ◌≤◌, Bool, ◌&&◌, ◌==◌, cond, List, [], ◌∷◌, Option, None, Some, bytes_eq, slice_get, slice_index}
use Rattle.std.specs.BTreeMap.{get, get_by}
use Rattle.std.specs.Cmp.Lexicographic.{slice_cmp}
use Rattle.std.specs.Ordering.{nat_cmp}
use Rattle.rdl_tree.specs.declared.item.Kind.TheVariants as kind
use Rattle.rdl_tree.specs.declared.node.Elab.{Elab}
use Rattle.rdl_tree.specs.declared.node.Node.{Node, out-Node}
use Rattle.rdl_tree.specs.Kinds.{same_kind}
use Rattle.rdl_values.specs.Elaborated.{nodes_of}
use Rattle.rdl_values.specs.Instances.{Instance}
use Rattle.rdl_layers.specs.Fields.{fields_of}
use Rattle.rdl_rules.specs.Numbers.{all_fields, number_of}
use Rattle.rdl_block_numbers.specs.declared.field_names.FieldNames.{FieldNames}
use Rattle.rdl_block_numbers.specs.declared.fields.Names.{Names}

-- The number of a node, and a name.
pub record Key : Type 0 where
  pub body : ℕ
  pub name : List ℕ

abbrev pub same_key : Key → Key → Bool
same_key j k = j.body == k.body && bytes_eq j.name k.name

-- the number under a name
abbrev pub number_named : FieldNames → List ℕ → Option ℕ
number_named t name = get_by (λ x. slice_cmp nat_cmp name x.now) t.numbers

abbrev pub named_in : Option FieldNames → List ℕ → Option ℕ
named_in None name = None
named_in (Some t) name = number_named t name

-- the number under a key
abbrev pub number_under : Names → Key → Option ℕ
number_under t k = named_in (get nat_cmp t.nodes k.body) k.name

-- what a node in the one of a number adds under a key
abbrev pub added : ℕ → Node → List ℕ → Key → Option ℕ
added body r own k = cond (same_kind kind.Field (out-Node r).kind && same_key (record { body = body; name = (out-Node r).name.now }) k) (Some (slice_index own (out-Node r).id)) None

-- the number of the first of these fields that has a name
abbrev pub first_named : List Instance → List ℕ → List Instance → Option ℕ
first_named all name [] = None
first_named all name (f ∷ fs) = cond (bytes_eq f.use_.name.text.now name) (Some (number_of f all)) (first_named all name fs)

-- that of the fields of the node of a number, under a key
abbrev pub named : List Instance → ℕ → Instance → Key → Option ℕ
named ns body n k = cond (body == k.body) (first_named (all_fields ns) k.name (fields_of n)) None

-- Those of the fields of the first nodes.
pub record AreNamesTo (e : Elab) (to : ℕ) (names : Names) : Type 0 where
  pub each : (k : Key) (n : Instance) → k.body < to → slice_get (nodes_of e) k.body ≡ Some n → number_under names k ≡ first_named (all_fields (nodes_of e)) k.name (fields_of n)
  pub others : (k : Key) → to ≤ k.body → number_under names k ≡ None

abbrev pub AreNames : Elab → Names → Type 0
AreNames e names = AreNamesTo e e.count names

-- none counts as 0
abbrev pub or_zero : Option ℕ → ℕ
or_zero None = 0
or_zero (Some k) = k
