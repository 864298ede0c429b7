-- What holds of the open bodies at any time.
use Rattle.std.specs.Prelude.{◌≡◌, ℕ, false, true, List, [], ◌∷◌, ◌++◌, length, Option, None, Some, option_map, slice_get, bytes_eq, map}
use Rattle.std.specs.List.{list_any}
use Rattle.rdl_base.specs.declared.fault.Fault.{Fault}
use Rattle.rdl_tree.specs.InOrder.{IsInOrder}
use Rattle.rdl_tree.specs.declared.item.Def.{Def}
use Rattle.rdl_tree.specs.declared.item.Item.{Item}
use Rattle.rdl_tree.specs.declared.item.Param.{Param}
use Rattle.rdl_values.specs.Bodies as values
use Rattle.rdl_values.specs.Enums.{names_of}
use Rattle.rdl_values.specs.Instances.{Instance, body}
use Rattle.rdl_values.specs.Overlaid.{AreApart, plain_of}
use Rattle.rdl_values.specs.Parameters.{Bound}
use Rattle.rdl_values.specs.Phase3.{of_enums, twice_defined}
use Rattle.rdl_values.specs.Seen.{listed_enum}
use Rattle.rdl_failures.specs.Noted.{Holds}
use Rattle.rdl_scopes.specs.Closed.{AreClosedOf}
use Rattle.rdl_scopes.specs.Named.{AreComponents}
use Rattle.rdl_scopes.specs.Scopes.{AreOpen, items_at}
use Rattle.rdl_bodies.specs.Sited.{AreValued, IsAt, IsOpenAs, component_at, def_at}
pub use Rattle.rdl_bodies.specs.Sited.{AreBelow}
use Rattle.rdl_bodies.specs.Steady.{AreFixed}
use Rattle.rdl_bodies.specs.declared.bodies.Bodies.{Bodies}
use Rattle.rdl_bodies.specs.declared.bodies.Body.{Body}
use Rattle.rdl_bodies.specs.declared.bodies.Site.{Site}
use Rattle.rdl_bodies.specs.declared.bodies.Text.{Text}
use Rattle.rdl_bodies.specs.declared.bodies.TextPlace.{TextPlace}

-- the failures of a body's names
abbrev pub of_names : values.Body → List Fault
of_names b = twice_defined b ++ of_enums b

-- none of the parameters has the name of one before
abbrev pub AreDistinct : Bound → Bound → Type 0
AreDistinct before [] = Unit {0}
AreDistinct before (b ∷ bs) = (list_any (λ x. bytes_eq x.0 b.0) before ≡ false) × AreDistinct (before ++ (b ∷ [])) bs

-- A site is a definition where it says, no two of its parameters have one name, and each has a value.
pub record IsSite (t : Bodies) (s : Site) : Type 0 where
  pub below : AreBelow (length t.tables.items) s.outer.now
  pub defined : def_at t.components.items s.outer.now s.uptos.now ≡ Some s.def.now
  pub apart : AreApart (plain_of s.def.now.params.now)
  pub valued : AreValued s.def.now.params.now s.touched.now

-- The body is open for each node of its site, and the failures of its names are held.
abbrev pub IsOpenFor : Bodies → List Fault → Body → Option ℕ → Type 0
IsOpenFor t held x None = Unit {0}
IsOpenFor t held x (Some number) = (s : Site) × (slice_get t.sites.items number ≡ Some s) × ((n : Instance) → IsAt t s n.closure n.bound → IsOpenAs t x (body n) × Holds held (of_names (body n)))

-- the place is in the text of the nearest of these bodies, or there is neither
abbrev pub StandsIn : List Body → List ℕ → Option TextPlace → Type 0
StandsIn bodies [] None = Unit {0}
StandsIn bodies (k ∷ ks) (Some p) = (x : Body) × (slice_get bodies k ≡ Some x) × (p.outer ≡ x.text)
StandsIn bodies _ _ = ⊥

-- The text of this number has the items and the parameters, and stands in that of the nearest of these bodies, which are round it.
pub record IsTextOf (bodies : List Body) (texts : List Text) (k : ℕ) (outer : List ℕ) (items : List Item) (params : List Param) : Type 0 where
  pub text : Text
  pub here : slice_get texts k ≡ Some text
  pub stands : StandsIn bodies outer text.place
  pub items_are : text.items.now ≡ items
  pub params_are : text.params.now ≡ params

-- the items and the parameters of a definition
abbrev pub parts_of : Def → List Item × List Param
parts_of d = (d.items.now, d.params.now)

-- these are those of the definition at a place, if there is one
abbrev pub IsPlacedIn : List Text → Option TextPlace → List Item → List Param → Type 0
IsPlacedIn texts None items params = Unit {0}
IsPlacedIn texts (Some p) items params = (x : Text) × (slice_get texts p.outer ≡ Some x) × (option_map parts_of (component_at x.items.now p.upto) ≡ Some (items, params))

-- A text: where it stands, its definitions, its closed enumerations, the failures of which are held, and whether all are closed. Names
-- that are defined twice in it are held.
pub record IsTextIn (texts : List Text) (held : List Fault) (x : Text) : Type 0 where
  pub closed : AreClosedOf x.closed x.items.now held
  pub components : AreComponents x.components x.items.now
  pub twice : (b : values.Body) → b.items ≡ x.items.now → Holds held (twice_defined b)
  pub placed : IsPlacedIn texts x.place x.items.now x.params.now
  pub steady : x.steady ≡ true → AreFixed x.items.now

-- A body of this number. Its enumerations are the same whatever is round it, where its text is steady.
pub record IsBody (t : Bodies) (held : List Fault) (k : ℕ) (x : Body) : Type 0 where
  pub below : AreBelow (length t.tables.items) x.numbers.now
  pub items_are : items_at t.components.items k ≡ x.items.now
  pub in_order : IsInOrder x.items.now
  pub of_site : IsOpenFor t held x x.site
  pub valued : AreValued x.params.now x.touched.now
  pub outer : List ℕ
  pub numbers_are : x.numbers.now ≡ k ∷ outer
  pub text_is : IsTextOf t.list.items t.texts.items x.text outer x.items.now x.params.now
  pub enums_are : text_is.text.steady ≡ true → map listed_enum x.enums.now ≡ (names_of [] [] x.items.now).enums

-- All of it.
pub record AreKept (t : Bodies) (held : List Fault) : Type 0 where
  pub components : length t.components.items ≡ length t.tables.items
  pub list : length t.list.items ≡ length t.tables.items
  pub open_ : AreOpen t.components.items
  pub sites : (number : ℕ) (s : Site) → slice_get t.sites.items number ≡ Some s → IsSite t s
  pub bodies : (k : ℕ) (x : Body) → slice_get t.list.items k ≡ Some x → IsBody t held k x
  pub texts : (k : ℕ) (x : Text) → slice_get t.texts.items k ≡ Some x → IsTextIn t.texts.items held x

-- the second list begins with the first
abbrev pub Begins : {A : Type 0} → List A → List A → Type 0
Begins {A = A} xs ys = (more : List A) × (ys ≡ xs ++ more)

-- Bodies and sites were put behind the others.
pub record Grows (old new : Bodies) : Type 0 where
  pub tables : Begins old.tables.items new.tables.items
  pub components : Begins old.components.items new.components.items
  pub list : Begins old.list.items new.list.items
  pub sites : Begins old.sites.items new.sites.items
