-- What it means that a body was opened, or a site listed.
use Rattle.std.specs.Prelude.{◌≡◌, ℕ, List, ◌∷◌, map, Option, None, Some, slice_get}
use Rattle.rdl_base.specs.declared.fault.Fault.{Fault}
use Rattle.rdl_values.specs.Bodies as values
use Rattle.rdl_values.specs.Bodies.{Closure, around}
use Rattle.rdl_values.specs.Enums.{names_of}
use Rattle.rdl_values.specs.Instances.{Instance, body}
use Rattle.rdl_values.specs.Parameters.{Bound}
use Rattle.rdl_values.specs.Seen.{bound_of}
use Rattle.rdl_failures.specs.Noted.{with_all}
use Rattle.rdl_scopes.specs.declared.enums.Opened.{Opened}
use Rattle.rdl_bodies.specs.Kept.{AreKept, Grows, of_names}
use Rattle.rdl_bodies.specs.Sited.{AreRound, IsAt, IsOpenAs, values_over}
use Rattle.rdl_bodies.specs.declared.bodies.Bodies.{Bodies}
use Rattle.rdl_bodies.specs.declared.bodies.Body.{Body}
use Rattle.rdl_bodies.specs.declared.bodies.Site.{Site}
use Rattle.rdl_bodies.specs.declared.opening.BodyText.{BodyText}

-- The text is that of the body.
pub record IsText (t : Bodies) (x : BodyText) (b : values.Body) : Type 0 where
  pub items_are : b.items ≡ x.items.now
  pub kind_is : b.kind ≡ x.kind
  pub round : AreRound t x.outer.now x.uptos.now b.outer
  pub names_are : b.names ≡ names_of (around b.outer) (values_over x.params.now x.touched.now) x.items.now

-- It is the text of the bodies of a site's nodes, if it has a site.
abbrev pub IsTextFor : Bodies → BodyText → Option ℕ → Type 0
IsTextFor t x None = Unit {0}
IsTextFor t x (Some number) = (s : Site) × (slice_get t.sites.items number ≡ Some s) × ((n : Instance) → IsAt t s n.closure n.bound → IsText t x (body n))

-- The open body has the text, which has this number, its own number, and the names that were opened.
pub record IsBodyOf (number of : ℕ) (x : BodyText) (o : Opened) (r : Body) : Type 0 where
  pub site_is : r.site ≡ x.site
  pub text_is : r.text ≡ of
  pub items_are : r.items.now ≡ x.items.now
  pub kind_is : r.kind ≡ x.kind
  pub numbers_are : r.numbers.now ≡ number ∷ x.outer.now
  pub uptos_are : r.uptos.now ≡ x.uptos.now
  pub params_are : r.params.now ≡ x.params.now
  pub touched_are : r.touched.now ≡ x.touched.now
  pub enums_are : r.enums.now ≡ o.enums.now

-- There is a site of this number, and a node of it.
pub record CanOpen (t : Bodies) (number : ℕ) : Type 0 where
  pub site : Site
  pub here : slice_get t.sites.items number ≡ Some site
  pub node : Instance
  pub at : IsAt t site node.closure node.bound

-- The body of this number is open as this one, and the failures of its names were put in.
pub record IsOpened (old new : Bodies) (before after : List Fault) (k : ℕ) (b : values.Body) : Type 0 where
  pub kept : AreKept new after
  pub grown : Grows old new
  pub noted : after ≡ with_all (of_names b) before
  pub body : Body
  pub here : slice_get new.list.items k ≡ Some body
  pub open_ : IsOpenAs new body b

-- The site of this number is the definition with these values of its parameters.
pub record IsListed (old new : Bodies) (held : List Fault) (number : ℕ) (c : Closure) (bound : Bound) : Type 0 where
  pub kept : AreKept new held
  pub grown : Grows old new
  pub site : Site
  pub here : slice_get new.sites.items number ≡ Some site
  pub at : IsAt new site c bound

-- The site is in these bodies, behind so many items of each, with these values put over those of its parameters.
pub record IsSame (s : Site) (outer uptos : List ℕ) (touched : Bound) : Type 0 where
  pub outer_is : s.outer.now ≡ outer
  pub uptos_are : s.uptos.now ≡ uptos
  pub touched_are : map bound_of s.touched.now ≡ touched

-- The root's body has the number 0, and the failures of its names were put in.
pub record IsRootOpen (t : Bodies) (before after : List Fault) (b : values.Body) : Type 0 where
  pub kept : AreKept t after
  pub noted : after ≡ with_all (of_names b) before
  pub body : Body
  pub here : slice_get t.list.items 0 ≡ Some body
  pub open_ : IsOpenAs t body b
