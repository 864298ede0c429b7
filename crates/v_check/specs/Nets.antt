-- The declared nets of a module that was parsed.
use Rattle.std.specs.Prelude.{◌≡◌, ℕ, suc, ◌≤◌, Bool, false, not, IsTrue, if◌then◌else◌, Option, Some, None, option_map, unwrap_or, List, [], ◌∷◌, ◌++◌, length, map, take, slice_get}
use Rattle.std.specs.Str.{bytes_eq}
use Rattle.std.specs.BTreeMap.{get_by}
use Rattle.std.specs.Cmp.Lexicographic.{slice_cmp}
use Rattle.std.specs.Ordering.{nat_cmp}
use Rattle.rb_base.specs.declared.place.Place.{Place}
use Rattle.rb_base.specs.declared.ports.Port.{Port}
use Rattle.rb_grammar.specs.Spelling.{At}
use Rattle.v_design.specs.Expr.{Widths}
use Rattle.v_design.specs.Lexemes.{Token, Word, Name, Number, Const, among}
use Rattle.v_design.specs.WellFormed.{Kind, Given, Wired, Kept, Net, port_net, decl_net}
use Rattle.v_design.specs.declared.design.Decl.{Decl}
use Rattle.v_check.specs.declared.nets.Kind.{Kind as KindOf}
use Rattle.v_check.specs.declared.nets.Kind.TheVariants as kind
use Rattle.v_check.specs.declared.nets.Net.{Net as NetOf}
use Rattle.v_check.specs.declared.nets.Table.{Table}

-- places as numbers
abbrev pub numbers : List Place → List ℕ
numbers ps = map (λ p. p.0) ps

-- a kind and a net of the program as those of the definitions
abbrev pub kind_seen : KindOf → Kind
kind_seen kind.Given = Given
kind_seen kind.Wired = Wired
kind_seen kind.Kept = Kept

abbrev pub net_seen : NetOf → Net
net_seen n = record { name = n.name.now; kind = kind_seen n.kind; width = n.width }

abbrev pub nets_seen : List NetOf → List Net
nets_seen ns = map net_seen ns

-- the nets that a module declares, in order
abbrev pub declared_nets : List Port → List Decl → List Net
declared_nets ports decls = map port_net ports ++ map decl_net decls

-- the first net of a name
abbrev pub first_net : List NetOf → List ℕ → Option NetOf
first_net [] n = None
first_net (d ∷ ds) n = if bytes_eq d.name.now n then Some d else first_net ds n

-- its number
abbrev pub first_number : List NetOf → List ℕ → Option ℕ
first_number [] n = None
first_number (d ∷ ds) n = if bytes_eq d.name.now n then Some 0 else option_map suc (first_number ds n)

-- the same, or how many nets there are, where none has the name
abbrev pub number_of : List NetOf → List ℕ → ℕ
number_of ns n = unwrap_or (first_number ns n) (length ns)

-- what a table has at a name
abbrev pub number_at : Table → List ℕ → Option ℕ
number_at table n = get_by (λ k. slice_cmp nat_cmp n k.now) table.numbers

-- a table has the number of the first net of each name
pub record AreNets (table : Table) (nets : List NetOf) : Type 0 where
  pub at : (n : List ℕ) → number_at table n ≡ first_number nets n

-- the name of this number stands before it already
abbrev pub IsTwice : List (List ℕ) → ℕ → Type 0
IsTwice ns i = (n : List ℕ) × (slice_get ns i ≡ Some n) × IsTrue (among (take i ns) n)

-- the width of the first net of a name, or 0
abbrev pub width_in : List Net → Widths
width_in [] n = 0
width_in (d ∷ ds) n = if bytes_eq d.name n then d.width else width_in ds n

-- the places of tokens
abbrev pub token_places : List (At Token) → List ℕ
token_places ts = map (λ t. t.place) ts

-- the token is a name that is not declared
abbrev pub is_unknown : List (List ℕ) → Token → Bool
is_unknown declared (Name n) = not (among declared n)
is_unknown declared (Word w) = false
is_unknown declared (Number n) = false
is_unknown declared (Const w v) = false

-- the token of this number is such a name, and a certain number of tokens stand before it
abbrev pub IsUndeclared : List (List ℕ) → (before : ℕ) → List (At Token) → ℕ → Type 0
IsUndeclared declared before ts k = (a : At Token) × (before ≤ k) × (slice_get ts k ≡ Some a) × IsTrue (is_unknown declared a.token)
