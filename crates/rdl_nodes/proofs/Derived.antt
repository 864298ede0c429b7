-- The tree that tokens derive: a bracket is one way of a form, and a range another.
use Rattle.std.proofs.Common.{◌≡◌, zero, suc, true, Option, Some, List, [], ◌∷◌, All, is_some, refl, sym, subst, ◌∙◌, arith}
use Rattle.rdl_tree.specs.declared.token.Token.{Token}
use Rattle.rdl_tree.specs.declared.expr.Expr.{Expr}
use Rattle.rdl_tree.specs.declared.item.Item.{Item}
use Rattle.rdl_tree.specs.declared.item.Def.{Def, out-Def}
use Rattle.rdl_tree.specs.declared.item.Inst.{Inst}
use Rattle.rdl_tree.specs.declared.item.Insts.{Insts}
use Rattle.rdl_tree.specs.Tree.{DerivesListed, DerivesShape, DerivesInst, DerivesInsts, DerivesMade, DerivesItem, DerivesDef, DerivesBody, DerivesItems}
use Rattle.rdl_tree.specs.Tree as tree
use Rattle.plain_lemmas.proofs.Options.{some_copied}
use Rattle.rdl_nodes.specs.Single.{HasSingleForm, HaveSingleForms, AreSingle, IsSingle}
use Rattle.rdl_nodes.specs.Single as single

shape : {ts us : List Token} {es : List Expr} {x : Option (Expr × Expr)} → DerivesShape ts us es x → is_some x ≡ true → es ≡ []
shape (tree.dims is) e = cc e
shape (tree.range o h c l b) e = refl

inst : {ts us : List Token} {i : Inst} → DerivesInst ts us i → HasSingleForm i
inst {i = i} (tree.inst n s a b c d) = λ e. shape s (some_copied i.range ∙ e)

one_more : (i : Inst) (is : List Inst) → HasSingleForm i → All HasSingleForm is → All HasSingleForm (i ∷ is)
one_more i is h rest zero d l = h
one_more i is h rest (suc k) d l = rest k d (omega (arith, l))

listed : {ts us : List Token} {is : List Inst} → DerivesListed DerivesInst ts us is → All HasSingleForm is
listed (tree.last {x = x} d) = one_more x [] (inst d) (λ k d l. absurd (omega (arith, l)))
listed (tree.next {x = x} {xs = xs} d c ds) = one_more x xs (inst d) (listed ds)

insts : {ts us : List Token} {x : Insts} → DerivesInsts ts us x → HaveSingleForms (Some x)
insts (tree.insts a l) = listed l

made : {ts us : List Token} {x : Option Insts} → DerivesMade ts us x → HaveSingleForms x
made tree.none = tt
made (tree.some i d) = insts d

mutual
  item : {ts us : List Token} {i : Item} → DerivesItem ts us i → IsSingle i
  item (tree.component d) = let q = def d in single.definition q.0 q.1
  item (tree.enum e m o ds c s) = single.enumeration
  item (tree.made i a m d s) = single.made (insts d)
  item (tree.default p e d) = single.default
  item (tree.local d) = single.local
  item (tree.dynamic p d a n v s) = single.dynamic

  def : {ts us : List Token} {d : Def} → DerivesDef ts us d → HaveSingleForms (out-Def d).insts × AreSingle (out-Def d).items.now
  def (tree.named i e w m ps b d s h1 h2 h3) = (made d, body b)
  def (tree.bare i e w b j l s h1 h2 h3 h4 h5 h6) = (subst HaveSingleForms (sym h4) (listed l), body b)

  body : {ts us : List Token} {is : List Item} → DerivesBody ts us is → AreSingle is
  body (tree.body o ds c) = items ds

  items : {ts us : List Token} {is : List Item} → DerivesItems ts us is → AreSingle is
  items tree.no_item = single.none
  items (tree.next_item d ds) = single.more (item d) (items ds)

pub derived_single : (ts : List Token) (is : List Item) → DerivesItems ts [] is → AreSingle is
derived_single ts is d = items d
