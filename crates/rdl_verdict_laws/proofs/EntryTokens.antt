-- The entries of a tree's enumerations have words as names where the names among the tokens are words.
use Rattle.std.proofs.Common.{◌≡◌, ℕ, true, IsTrue, Option, List, [], ◌∷◌, refl, sym, subst}
use Rattle.std.specs.Borrow.{Bor}
use Rattle.std.specs.List.{AllByRecursion}
use Rattle.rb_base.specs.declared.place.Place.{Place}
use Rattle.rb_grammar.specs.Readings.{Takes}
use Rattle.rdl_tree.specs.declared.token.Mark.{Mark}
use Rattle.rdl_tree.specs.declared.token.Token.{Token}
use Rattle.rdl_tree.specs.declared.token.TokenKind.{TokenKind}
use Rattle.rdl_tree.specs.declared.token.TokenKind.TheVariants as kinds
use Rattle.rdl_tree.specs.declared.token.Terminal.{Terminal}
use Rattle.rdl_tree.specs.declared.token.Terminal.TheVariants as terminals
use Rattle.rdl_tree.specs.declared.expr.Expr.{Expr}
use Rattle.rdl_tree.specs.declared.expr.Name.{Name}
use Rattle.rdl_tree.specs.declared.expr.Path.{Path}
use Rattle.rdl_tree.specs.declared.expr.Step.{Step}
use Rattle.rdl_tree.specs.declared.item.Item.{Item}
use Rattle.rdl_tree.specs.declared.item.Item.TheVariants as items
use Rattle.rdl_tree.specs.declared.item.Arg.{Arg}
use Rattle.rdl_tree.specs.declared.item.Def.{Def, out-Def}
use Rattle.rdl_tree.specs.declared.item.Entry.{Entry}
use Rattle.rdl_tree.specs.declared.item.Assigned.{Assigned}
use Rattle.rdl_tree.specs.declared.item.Inst.{Inst}
use Rattle.rdl_tree.specs.declared.item.Insts.{Insts}
use Rattle.rdl_tree.specs.declared.item.Param.{Param}
use Rattle.rdl_tree.specs.declared.item.PType.{PType}
use Rattle.rdl_tree.specs.declared.item.Set.{Set}
use Rattle.rdl_tree.specs.Grammar.{grammar}
use Rattle.rdl_tree.specs.InOrder.{NamesAreWords}
use Rattle.rdl_tree.specs.Tree.{IsName, DerivesProp, DerivesExpr, DerivesBinary, DerivesPrefix, DerivesPrimary, DerivesPath, DerivesSteps, DerivesStep, DerivesIndices, DerivesGiven, DerivesAssigned, DerivesBehind, DerivesLocal, DerivesSet, DerivesMany, DerivesListed, DerivesSets, DerivesEntry, DerivesType, DerivesParam, DerivesArg, DerivesHashed, DerivesShape, DerivesInst, DerivesInsts, SkipsInternal, DerivesMade, DerivesAlias, DerivesItem, DerivesDef, DerivesBody, DerivesItems}
use Rattle.rdl_tree.specs.Tree as tree
use Rattle.rdl_tree.specs.Tokens.{same, terminal_of}
use Rattle.rdl_tree.specs.Words.{is_word, IsWordName}

mutual
  -- the names of the entries of the enumerations are words, in the body of each definition too
  pub data HaveWordEntries : List Item → Type 0 where
    none : HaveWordEntries []
    more : {i : Item} {is : List Item} → HasWordEntries i → HaveWordEntries is → HaveWordEntries (i ∷ is)

  pub data HasWordEntries : Item → Type 0 where
    definition : {d : Def} → HaveWordEntries (out-Def d).items.now → HasWordEntries (items.Def d)
    enumeration : {n : Name} {es : Bor (List Entry)} → AllByRecursion (λ e. IsWordName e.name) es.now → HasWordEntries (items.EnumDef n es)
    made : {a : Option Name} {n : Name} {is : Insts} → HasWordEntries (items.Made a n is)
    default : {s : Set} → HasWordEntries (items.Default s)
    local : {s : Set} → HasWordEntries (items.Local s)
    dynamic : {p : Path} {s : Set} → HasWordEntries (items.Dynamic p s)

-- Where the names among the first tokens are words, so are those among the second ones.

pub record Passes (ts us : List Token) : Type 0 where
  pub words : NamesAreWords ts → NamesAreWords us

stay : {ts : List Token} → Passes ts ts
stay = record { words = λ w. w }

both : {ts us vs : List Token} → Passes ts us → Passes us vs → Passes ts vs
both f g = record { words = λ w. g.words (f.words w) }

taken : {a : Terminal} {t : Token} {ts us : List Token} → Takes grammar a ts t us → Passes ts us
taken p = record { words = λ w. (subst NamesAreWords p.list w).1 }

named : {ts us : List Token} {n : Name} → IsName ts us n → Passes ts us
named p = taken p.1

prop_passes : {ts us : List Token} {n : Name} → DerivesProp ts us n → Passes ts us
prop_passes (tree.name p) = named p
prop_passes (tree.word v p n) = taken p

mutual
  expr_passes : {ts us : List Token} {e : Expr} → DerivesExpr ts us e → Passes ts us
  expr_passes (tree.binary d) = binary_passes d
  expr_passes (tree.pick c q a s b) = both (binary_passes c) (both (taken q) (both (binary_passes a) (both (taken s) (binary_passes b))))

  binary_passes : {k : ℕ} {ts us : List Token} {e : Expr} → DerivesBinary k ts us e → Passes ts us
  binary_passes (tree.operand d) = prefix_passes d
  binary_passes (tree.joined e l a i b) = both (binary_passes a) (both (taken i) (binary_passes b))

  prefix_passes : {ts us : List Token} {e : Expr} → DerivesPrefix ts us e → Passes ts us
  prefix_passes (tree.plain d) = primary_passes d
  prefix_passes (tree.not n d) = both (taken n) (primary_passes d)

  primary_passes : {ts us : List Token} {e : Expr} → DerivesPrimary ts us e → Passes ts us
  primary_passes (tree.number p e) = taken p
  primary_passes (tree.string p) = taken p
  primary_passes (tree.set_flag p) = taken p
  primary_passes (tree.clear_flag p) = taken p
  primary_passes (tree.brackets o d c) = both (taken o) (both (expr_passes d) (taken c))
  primary_passes (tree.entry n c m) = both (named n) (both (taken c) (named m))
  primary_passes (tree.path d) = path_passes d
  primary_passes (tree.item d a n) = both (path_passes d) (both (taken a) (prop_passes n))

  path_passes : {ts us : List Token} {p : Path} → DerivesPath ts us p → Passes ts us
  path_passes (tree.steps e s ss) = both (step_passes s) (steps_pass ss)

  steps_pass : {ts us : List Token} {ss : List Step} → DerivesSteps ts us ss → Passes ts us
  steps_pass tree.no_step = stay
  steps_pass (tree.next_step d s ss) = both (taken d) (both (step_passes s) (steps_pass ss))

  step_passes : {ts us : List Token} {s : Step} → DerivesStep ts us s → Passes ts us
  step_passes (tree.step n is) = both (named n) (indices_pass is)

  indices_pass : {ts us : List Token} {es : List Expr} → DerivesIndices ts us es → Passes ts us
  indices_pass tree.no_index = stay
  indices_pass (tree.next_index o d c is) = both (taken o) (both (expr_passes d) (both (taken c) (indices_pass is)))

given_passes : {ts us : List Token} {v : Assigned} → DerivesGiven ts us v → Passes ts us
given_passes (tree.value d) = expr_passes d
given_passes (tree.word v p) = taken p

assigned_passes : {ts us : List Token} {v : Option Assigned} → DerivesAssigned ts us v → Passes ts us
assigned_passes tree.none = stay
assigned_passes (tree.some p d) = both (taken p) (given_passes d)

behind_passes : {m : Mark} {ts us : List Token} {v : Option Expr} → DerivesBehind m ts us v → Passes ts us
behind_passes tree.none = stay
behind_passes (tree.some p d) = both (taken p) (expr_passes d)

local_passes : {place : Place} {ts us : List Token} {s : Set} → DerivesLocal place ts us s → Passes ts us
local_passes (tree.assigned n v e) = both (prop_passes n) (both (assigned_passes v) (taken e))
local_passes (tree.triggered h w n e) = both (taken w) (both (prop_passes n) (taken e))

module _ {X : Type 0} {D : List Token → List Token → X → Type 0} (each : (ts us : List Token) (x : X) → D ts us x → Passes ts us) where
  many_pass : {ts us : List Token} {xs : List X} → DerivesMany D ts us xs → Passes ts us
  many_pass tree.no_more = stay
  many_pass (tree.one_more d ds) = both (each _ _ _ d) (many_pass ds)

  listed_pass : {ts us : List Token} {xs : List X} → DerivesListed D ts us xs → Passes ts us
  listed_pass (tree.last d) = each _ _ _ d
  listed_pass (tree.next d c ds) = both (each _ _ _ d) (both (taken c) (listed_pass ds))

  hashed_pass : {ts us : List Token} {xs : List X} → DerivesHashed D ts us xs → Passes ts us
  hashed_pass tree.none = stay
  hashed_pass (tree.some h o ds c) = both (taken h) (both (taken o) (both (listed_pass ds) (taken c)))

set_passes : (ts us : List Token) (s : Set) → DerivesSet ts us s → Passes ts us
set_passes ts us s d = local_passes d.local

sets_pass : {ts us : List Token} {ss : List Set} → DerivesSets ts us ss → Passes ts us
sets_pass tree.none = stay
sets_pass (tree.some o ds c) = both (taken o) (both (many_pass set_passes ds) (taken c))

entry_passes : (ts us : List Token) (e : Entry) → DerivesEntry ts us e → Passes ts us
entry_passes ts us e (tree.entry n v ss s) = both (named n) (both (behind_passes v) (both (sets_pass ss) (taken s)))

type_passes : {ts us : List Token} {x : PType} → DerivesType ts us x → Passes ts us
type_passes (tree.plain e p) = taken p
type_passes (tree.unsigned e p q) = both (taken p) (taken q)

param_passes : (ts us : List Token) (x : Param) → DerivesParam ts us x → Passes ts us
param_passes ts us x (tree.param t n v) = both (type_passes t) (both (named n) (behind_passes v))

arg_passes : (ts us : List Token) (x : Arg) → DerivesArg ts us x → Passes ts us
arg_passes ts us x (tree.arg d n o e c) = both (taken d) (both (named n) (both (taken o) (both (expr_passes e) (taken c))))

shape_passes : {ts us : List Token} {es : List Expr} {x : Option (Expr × Expr)} → DerivesShape ts us es x → Passes ts us
shape_passes (tree.dims is) = indices_pass is
shape_passes (tree.range o h c l e) = both (taken o) (both (expr_passes h) (both (taken c) (both (expr_passes l) (taken e))))

inst_passes : (ts us : List Token) (x : Inst) → DerivesInst ts us x → Passes ts us
inst_passes ts us x (tree.inst n s a b c d) = both (named n) (both (shape_passes s) (both (behind_passes a) (both (behind_passes b) (both (behind_passes c) (behind_passes d)))))

insts_pass : {ts us : List Token} {x : Insts} → DerivesInsts ts us x → Passes ts us
insts_pass (tree.insts a l) = both (hashed_pass arg_passes a) (listed_pass inst_passes l)

internal_passes : {ts us : List Token} → SkipsInternal ts us → Passes ts us
internal_passes tree.none = stay
internal_passes (tree.some p) = taken p

made_passes : {ts us : List Token} {x : Option Insts} → DerivesMade ts us x → Passes ts us
made_passes tree.none = stay
made_passes (tree.some i d) = both (internal_passes i) (insts_pass d)

alias_passes : {ts us : List Token} {x : Option Name} → DerivesAlias ts us x → Passes ts us
alias_passes tree.none = stay
alias_passes (tree.some p n) = both (taken p) (named n)

-- The names of entries.

name_kind : (k : TokenKind) → same terminals.Name (terminal_of k) ≡ true → k ≡ kinds.Word
name_kind kinds.Word e = refl
name_kind _ e = cc

name_word : {ts us : List Token} {n : Name} → IsName ts us n → NamesAreWords ts → IsWordName n
name_word {n = n} p w = subst (λ text. IsTrue (is_word text.now)) (sym p.2.0) ((subst NamesAreWords p.1.list w).0 (name_kind p.0.kind p.1.token))

entry_word : {ts us : List Token} {e : Entry} → DerivesEntry ts us e → NamesAreWords ts → IsWordName e.name
entry_word (tree.entry n v ss s) w = name_word n w

entries_words : {ts us : List Token} {es : List Entry} → DerivesMany DerivesEntry ts us es → NamesAreWords ts → AllByRecursion (λ e. IsWordName e.name) es
entries_words tree.no_more w = tt
entries_words (tree.one_more d ds) w = (entry_word d w, entries_words ds ((entry_passes _ _ _ d).words w))

mutual
  item_entries : {ts us : List Token} {i : Item} → DerivesItem ts us i → NamesAreWords ts → HasWordEntries i × NamesAreWords us
  item_entries (tree.component d) w = let q = def_entries d w in (definition q.0, q.1)
  item_entries (tree.enum e m o ds c s) w =
      let v = (both (taken e) (both (named m) (taken o))).words w in
      (enumeration (entries_words ds v), (both (many_pass entry_passes ds) (both (taken c) (taken s))).words v)
  item_entries (tree.made i a m d s) w = (made, (both (internal_passes i) (both (alias_passes a) (both (named m) (both (insts_pass d) (taken s))))).words w)
  item_entries (tree.default p e d) w = (default, (both (taken p) (local_passes d)).words w)
  item_entries (tree.local d) w = (local, (local_passes d.local).words w)
  item_entries (tree.dynamic p d a n v s) w = (dynamic, (both (path_passes d) (both (taken a) (both (prop_passes n) (both (assigned_passes v) (taken s))))).words w)

  def_entries : {ts us : List Token} {d : Def} → DerivesDef ts us d → NamesAreWords ts → HaveWordEntries (out-Def d).items.now × NamesAreWords us
  def_entries (tree.named i e w m ps b j s h1 h2 h3) v =
      let q = body_entries b ((both (internal_passes i) (both (taken w) (both (named m) (hashed_pass param_passes ps)))).words v) in
      (q.0, (both (made_passes j) (taken s)).words q.1)
  def_entries (tree.bare i e w b j l s h1 h2 h3 h4 h5 h6) v =
      let q = body_entries b ((both (internal_passes i) (taken w)).words v) in
      (q.0, (both (internal_passes j) (both (listed_pass inst_passes l) (taken s))).words q.1)

  body_entries : {ts us : List Token} {is : List Item} → DerivesBody ts us is → NamesAreWords ts → HaveWordEntries is × NamesAreWords us
  body_entries (tree.body o ds c) w = let q = items_entries ds ((taken o).words w) in (q.0, (taken c).words q.1)

  items_entries : {ts us : List Token} {is : List Item} → DerivesItems ts us is → NamesAreWords ts → HaveWordEntries is × NamesAreWords us
  items_entries tree.no_item w = (none, w)
  items_entries (tree.next_item d ds) w =
      let q = item_entries d w in
      let rest = items_entries ds q.1 in
      (more q.0 rest.0, rest.1)

pub derived_entries : (ts : List Token) (is : List Item) → NamesAreWords ts → DerivesItems ts [] is → HaveWordEntries is
derived_entries ts is w d = (items_entries d w).0
