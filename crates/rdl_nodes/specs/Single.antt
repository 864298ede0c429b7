-- Items whose instances have a bracket or a range, and not both.
use Rattle.std.specs.Prelude.{◌≡◌, true, List, [], ◌∷◌, Option, None, Some, All, is_some}
use Rattle.std.specs.Borrow.{Bor}
use Rattle.rdl_tree.specs.declared.expr.Name.{Name}
use Rattle.rdl_tree.specs.declared.expr.Path.{Path}
use Rattle.rdl_tree.specs.declared.item.Def.{Def, out-Def}
use Rattle.rdl_tree.specs.declared.item.Entry.{Entry}
use Rattle.rdl_tree.specs.declared.item.Inst.{Inst}
use Rattle.rdl_tree.specs.declared.item.Insts.{Insts}
use Rattle.rdl_tree.specs.declared.item.Item.{Item}
use Rattle.rdl_tree.specs.declared.item.Item.TheVariants as items
use Rattle.rdl_tree.specs.declared.item.Set.{Set}

-- an instance with a range has no bracket
abbrev pub HasSingleForm : Inst → Type 0
HasSingleForm i = is_some i.range ≡ true → i.dims.now ≡ []

abbrev pub HaveSingleForms : Option Insts → Type 0
HaveSingleForms None = Unit {0}
HaveSingleForms (Some is) = All HasSingleForm is.list.now

mutual
  -- that is so of the instances among the items, in the body of each definition too
  pub data AreSingle : List Item → Type 0 where
    none : AreSingle []
    more : {i : Item} {is : List Item} → IsSingle i → AreSingle is → AreSingle (i ∷ is)

  pub data IsSingle : Item → Type 0 where
    definition : {d : Def} → HaveSingleForms (out-Def d).insts → AreSingle (out-Def d).items.now → IsSingle (items.Def d)
    enumeration : {n : Name} {es : Bor (List Entry)} → IsSingle (items.EnumDef n es)
    made : {a : Option Name} {n : Name} {is : Insts} → HaveSingleForms (Some is) → IsSingle (items.Made a n is)
    default : {s : Set} → IsSingle (items.Default s)
    local : {s : Set} → IsSingle (items.Local s)
    dynamic : {p : Path} {s : Set} → IsSingle (items.Dynamic p s)
