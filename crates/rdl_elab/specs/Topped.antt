-- The top of a source as a node.
use Rattle.std.specs.Prelude.{◌≡◌, ℕ, List, [], ◌∷◌, ◌++◌, map, flat_map, Option, None, Some, option_to_list, slice_get}
use Rattle.rdl_base.specs.declared.fault.Fault.{Fault}
use Rattle.rdl_tree.specs.declared.item.Source.{Source}
use Rattle.rdl_values.specs.Bodies.{Closure, below_top}
use Rattle.rdl_values.specs.Faults.{failures}
use Rattle.rdl_values.specs.Instances.{Instance, top_of}
use Rattle.rdl_values.specs.Parameters.{bound_of}
use Rattle.rdl_values.specs.Phase3.{many_parameters, of_use}
use Rattle.rdl_values.specs.Top.{root, top_seen, top_use_of}
use Rattle.rdl_values.specs.Uses.{Use}
use Rattle.rdl_values.specs.declared.parameters.Parameters.{Parameters}
use Rattle.rdl_failures.specs.Noted.{with_all}
use Rattle.rdl_uses.specs.Binding.{AreValues}
use Rattle.rdl_top.specs.Topped.{Means}
use Rattle.rdl_top.specs.declared.top.Top.{Top}
use Rattle.rdl_bodies.specs.Kept.{AreKept, Grows}
use Rattle.rdl_bodies.specs.Sited.{IsAt, IsOpenAs}
use Rattle.rdl_bodies.specs.declared.bodies.Bodies.{Bodies}
use Rattle.rdl_bodies.specs.declared.bodies.Body.{Body}
use Rattle.rdl_bodies.specs.declared.bodies.Site.{Site}
use Rattle.rdl_elab.specs.declared.surveyed.TopSite.{TopSite}

-- The body of the number 0 is open as the root's.
pub record IsRootAt (t : Bodies) (s : Source) : Type 0 where
  pub body : Body
  pub here : slice_get t.list.items 0 ≡ Some body
  pub open_ : IsOpenAs t body (root s)

-- The node is the top of a site: it comes of no instance, and has its definition's name.
pub record IsTopNode (t : Bodies) (x : TopSite) (n : Instance) : Type 0 where
  pub path_is : n.path ≡ below_top []
  pub inst_is : n.use_.inst ≡ None
  pub alias_is : n.use_.alias ≡ None
  pub name_is : n.use_.name ≡ x.name
  pub site : Site
  pub here : slice_get t.sites.items x.site ≡ Some site
  pub at : IsAt t site n.closure n.bound

-- Of these nodes the one is that of the site, or there is none.
abbrev pub IsTopAt : Bodies → Option TopSite → List Instance → Type 0
IsTopAt t None ns = ns ≡ []
IsTopAt t (Some x) ns = (n : Instance) × (ns ≡ n ∷ []) × IsTopNode t x n

-- The root is open, and this is the top of its source.
pub record CanListTop (t : Bodies) (top : Top) : Type 0 where
  pub wanted : Option (List ℕ)
  pub source : Source
  pub root_ : IsRootAt t source
  pub means : Means source source.items.now (Some top) (top_use_of wanted source)

-- The parameters of a definition show their values at a use, where they have them, and their failures and E7 were put in.
pub record IsTopBound (u : Use) (c : Closure) (r : Option Parameters) (before after : List Fault) : Type 0 where
  pub noted : after ≡ with_all (failures (bound_of u c) ++ many_parameters c) before
  pub values : AreValues c.def.params.now (bound_of u c) r

-- The failures of the top's use were put in, and its site is this, where it gives a node.
pub record IsTopListed (old new : Bodies) (before after : List Fault) (r : Option TopSite) (wanted : Option (List ℕ)) (s : Source) : Type 0 where
  pub kept : AreKept new after
  pub grown : Grows old new
  pub noted : after ≡ with_all (flat_map of_use (map top_seen (option_to_list (top_use_of wanted s)))) before
  pub top : IsTopAt new r (top_of wanted s)
