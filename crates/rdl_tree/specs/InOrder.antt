-- What the items of a source have: places that rise, and words as names.
use Rattle.std.specs.Prelude.{◌≡◌, ℕ, ◌+◌, ◌≤◌, List, [], ◌∷◌, Option, None, Some, All}
use Rattle.rb_base.specs.declared.place.Place.{Place}
use Rattle.rdl_tree.specs.declared.expr.Name.{Name}
use Rattle.rdl_tree.specs.declared.item.Def.{Def, out-Def}
use Rattle.rdl_tree.specs.declared.item.Entry.{Entry}
use Rattle.std.specs.Borrow.{Bor}
use Rattle.rdl_tree.specs.declared.item.Insts.{Insts}
use Rattle.rdl_tree.specs.declared.item.Item.{Item, Def', EnumDef, Made, Default, Local, Dynamic}
use Rattle.rdl_tree.specs.declared.item.Item.TheVariants as items
use Rattle.rdl_tree.specs.declared.item.Set.{Set}
use Rattle.rdl_tree.specs.declared.expr.Path.{Path}
use Rattle.rdl_tree.specs.declared.token.Token.{Token}
use Rattle.rdl_tree.specs.declared.token.TokenKind.TheVariants as kinds
use Rattle.rdl_tree.specs.Words.{IsWordName, is_word}
use Rattle.std.specs.Prelude.{IsTrue}

-- Tokens.

-- the places of the tokens rise, from this one on
abbrev pub PlacesRiseFrom : ℕ → List Token → Type 0
PlacesRiseFrom k [] = Unit {0}
PlacesRiseFrom k (t ∷ ts) = (k ≤ t.place.0) × PlacesRiseFrom (t.place.0 + 1) ts

abbrev pub PlacesRise : List Token → Type 0
PlacesRise ts = PlacesRiseFrom 0 ts

-- the text of a name is a word
abbrev pub NamesAreWords : List Token → Type 0
NamesAreWords [] = Unit {0}
NamesAreWords (t ∷ ts) = (t.kind ≡ kinds.Word → IsTrue (is_word t.text.now)) × NamesAreWords ts

-- Items.

-- where an item stands: a definition at its name or its kind, an enumeration at its name, instances of a named definition at
-- that name, and an assignment at its first byte
abbrev pub place_of : Item → Place
place_of (Def' k n ps p shape rows insts place) = place
place_of (EnumDef n es) = n.place
place_of (Made a of is) = of.place
place_of (Default s) = s.place
place_of (Local s) = s.place
place_of (Dynamic p s) = s.place

mutual
  -- the places of the items rise, from this one on, and in the body of each definition they do
  pub data RiseFrom : ℕ → List Item → Type 0 where
    none : {k : ℕ} → RiseFrom k []
    more : {k : ℕ} {i : Item} {is : List Item} → k ≤ (place_of i).0 → IsInOrderInside i → RiseFrom ((place_of i).0 + 1) is → RiseFrom k (i ∷ is)

  pub data IsInOrderInside : Item → Type 0 where
    definition : {d : Def} → RiseFrom 0 (out-Def d).items.now → IsInOrderInside (items.Def d)
    enumeration : {n : Name} {es : Bor (List Entry)} → IsInOrderInside (items.EnumDef n es)
    made : {a : Option Name} {n : Name} {is : Insts} → IsInOrderInside (items.Made a n is)
    default : {s : Set} → IsInOrderInside (items.Default s)
    local : {s : Set} → IsInOrderInside (items.Local s)
    dynamic : {p : Path} {s : Set} → IsInOrderInside (items.Dynamic p s)

-- the items of a source, or of a body, stand in order
abbrev pub IsInOrder : List Item → Type 0
IsInOrder is = RiseFrom 0 is

-- the names of the instances are words
abbrev pub HaveWords : Option Insts → Type 0
HaveWords None = Unit {0}
HaveWords (Some is) = All (λ i. IsWordName i.name) is.list.now

abbrev pub IsWordIfNamed : Option Name → Type 0
IsWordIfNamed None = Unit {0}
IsWordIfNamed (Some n) = IsWordName n

mutual
  -- the names of definitions and instances are words, in the body of each definition too
  pub data AreWords : List Item → Type 0 where
    none : AreWords []
    more : {i : Item} {is : List Item} → IsNamedByWords i → AreWords is → AreWords (i ∷ is)

  pub data IsNamedByWords : Item → Type 0 where
    definition : {d : Def} → IsWordIfNamed (out-Def d).name → HaveWords (out-Def d).insts → AreWords (out-Def d).items.now → IsNamedByWords (items.Def d)
    enumeration : {n : Name} {es : Bor (List Entry)} → IsNamedByWords (items.EnumDef n es)
    made : {a : Option Name} {n : Name} {is : Insts} → HaveWords (Some is) → IsNamedByWords (items.Made a n is)
    default : {s : Set} → IsNamedByWords (items.Default s)
    local : {s : Set} → IsNamedByWords (items.Local s)
    dynamic : {p : Path} {s : Set} → IsNamedByWords (items.Dynamic p s)
