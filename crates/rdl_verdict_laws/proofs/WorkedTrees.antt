-- Syntax trees in short: what stands behind a name is its place.
use Rattle.std.proofs.Common.{ℕ, List, [], Option, None, Some}
use Rattle.std.specs.Borrow.{Bor}
use Rattle.rb_base.specs.declared.trigger.Trigger.{Trigger}
use Rattle.rdl_base.specs.declared.keyword.Keyword.{Keyword}
use Rattle.rb_base.specs.declared.place.Place.{Place}
use Rattle.rdl_tree.specs.declared.expr.Expr.{Expr}
use Rattle.rdl_tree.specs.declared.expr.Name.{Name}
use Rattle.rdl_tree.specs.declared.expr.Path.{Path, roll-Path}
use Rattle.rdl_tree.specs.declared.expr.Step.{Step}
use Rattle.rdl_tree.specs.declared.item.Arg.{Arg}
use Rattle.rdl_tree.specs.declared.item.Def.{Def}
use Rattle.rdl_tree.specs.declared.item.Assigned.{Assigned}
use Rattle.rdl_tree.specs.declared.item.Assigned.TheVariants as given
use Rattle.rdl_tree.specs.declared.item.Inst.{Inst}
use Rattle.rdl_tree.specs.declared.item.Insts.{Insts}
use Rattle.rdl_tree.specs.declared.item.Item.{Item}
use Rattle.rdl_tree.specs.declared.item.Kind.{Kind}
use Rattle.rdl_tree.specs.declared.item.Param.{Param}
use Rattle.rdl_tree.specs.declared.item.Set.{Set}
use Rattle.rdl_tree.specs.declared.item.Source.{Source}

-- a slice; where it lies in memory means nothing
abbrev pub lend : {A : Type 0} → A → Bor A
lend x = record { ref_ptr = (0, 0); now = x }

abbrev pub at : ℕ → Place
at n = record { 0 = n }

abbrev pub name : List ℕ → ℕ → Name
name text place = record { text = lend text; place = at place }

abbrev pub step_to : Name → List Expr → Step
step_to n index = record { name = n; index = lend index }

abbrev pub path_of : List Step → Path
path_of steps = roll-Path (record { steps = lend steps })

abbrev pub word : Keyword → Option Assigned
word k = Some (given.Word k)

abbrev pub value : Expr → Option Assigned
value e = Some (given.Expr e)

abbrev pub assign : Name → Option Trigger → Option Assigned → ℕ → Set
assign prop trigger v place = record { prop = prop; trigger = trigger; value = v; place = at place }

-- an instance without any part but its name
abbrev pub inst : Name → Inst
inst n = record { name = n; dims = lend []; range = None; reset = None; at = None; stride = None; align = None }

abbrev pub insts_of : List Arg → List Inst → Insts
insts_of args list = record { args = lend args; list = lend list }

abbrev pub component : Kind → Option Name → List Param → ℕ → List Item → Option Insts → Def
component kind n params place items insts = record { kind = kind; name = n; params = lend params; items = lend items; insts = insts; place = at place }

abbrev pub source : List Item → Source
source items = record { items = lend items }
