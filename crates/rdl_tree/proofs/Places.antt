-- The tree that tokens of rising places derive has its items in order, and its names are words where those of the tokens are.
use Rattle.std.proofs.Common.{◌≡◌, ℕ, ◌+◌, ◌≤◌, zero, suc, true, IsTrue, Option, Some, List, [], ◌∷◌, All, refl, sym, subst, arith}
use Rattle.rb_base.specs.declared.place.Place.{Place}
use Rattle.rb_grammar.specs.Readings.{Takes}
use Rattle.rdl_tree.specs.declared.token.Mark.{Mark}
use Rattle.rdl_tree.specs.declared.token.Token.{Token}
use Rattle.rdl_tree.specs.declared.token.TokenKind.{TokenKind}
use Rattle.rdl_tree.specs.declared.token.TokenKind.TheVariants as kinds
use Rattle.rdl_tree.specs.declared.token.Terminal.{Terminal}
use Rattle.rdl_tree.specs.declared.token.Terminal.TheVariants as terminals
use Rattle.rdl_tree.specs.declared.expr.Expr.{Expr}
use Rattle.rdl_tree.specs.declared.expr.Name.{Name}
use Rattle.rdl_tree.specs.declared.expr.Path.{Path}
use Rattle.rdl_tree.specs.declared.expr.Step.{Step}
use Rattle.rdl_tree.specs.declared.item.Item.{Item}
use Rattle.rdl_tree.specs.declared.item.Arg.{Arg}
use Rattle.rdl_tree.specs.declared.item.Def.{Def, out-Def}
use Rattle.rdl_tree.specs.declared.item.Entry.{Entry}
use Rattle.rdl_tree.specs.declared.item.Assigned.{Assigned}
use Rattle.rdl_tree.specs.declared.item.Inst.{Inst}
use Rattle.rdl_tree.specs.declared.item.Insts.{Insts}
use Rattle.rdl_tree.specs.declared.item.Param.{Param}
use Rattle.rdl_tree.specs.declared.item.PType.{PType}
use Rattle.rdl_tree.specs.declared.item.Set.{Set}
use Rattle.rdl_tree.specs.Grammar.{grammar}
use Rattle.rdl_tree.specs.InOrder.{PlacesRiseFrom, NamesAreWords, HaveWords, IsWordIfNamed, AreWords, IsNamedByWords, place_of, RiseFrom, IsInOrderInside}
use Rattle.rdl_tree.specs.InOrder as inside
use Rattle.rdl_tree.specs.Tree.{IsName, StartsAt, DerivesProp, DerivesExpr, DerivesBinary, DerivesPrefix, DerivesPrimary, DerivesPath, DerivesSteps, DerivesStep, DerivesIndices, DerivesGiven, DerivesAssigned, DerivesBehind, DerivesLocal, DerivesSet, DerivesMany, DerivesListed, DerivesSets, DerivesEntry, DerivesType, DerivesParam, DerivesArg, DerivesHashed, DerivesShape, DerivesInst, DerivesInsts, SkipsInternal, DerivesMade, DerivesAlias, DerivesItem, DerivesDef, DerivesBody, DerivesItems}
use Rattle.rdl_tree.specs.Tree as tree
use Rattle.rdl_tree.specs.Tokens.{same, terminal_of}
use Rattle.rdl_tree.specs.Words.{is_word, IsWordName}

-- where the first tokens' places rise, so do the second ones', and where their names are words, so are those of the second ones
pub record Passes (ts us : List Token) : Type 0 where
  pub by : (k : ℕ) → PlacesRiseFrom k ts → PlacesRiseFrom k us
  pub words : NamesAreWords ts → NamesAreWords us

-- and this place is before them, and not before the first
pub record Stands (ts us : List Token) (p : Place) : Type 0 where
  pub at : (k : ℕ) → PlacesRiseFrom k ts → (k ≤ p.0) × PlacesRiseFrom (p.0 + 1) us
  pub spelled : NamesAreWords ts → NamesAreWords us

lower : (j k : ℕ) (ts : List Token) → j ≤ k → PlacesRiseFrom k ts → PlacesRiseFrom j ts
lower j k [] l r = tt
lower j k (t ∷ ts) l r = let first : k ≤ t.place.0 = r.0 in (omega (arith, l, first), r.1)

past : {ts us : List Token} {p : Place} → Stands ts us p → Passes ts us
past {us = us} {p = p} s = record { by = λ k r. let q = s.at k r in let l : k ≤ p.0 = q.0 in lower k (p.0 + 1) us (omega (arith, l)) q.1; words = s.spelled }

stay : {ts : List Token} → Passes ts ts
stay = record { by = λ k r. r; words = λ w. w }

both : {ts us vs : List Token} → Passes ts us → Passes us vs → Passes ts vs
both f g = record { by = λ k r. g.by k (f.by k r); words = λ w. g.words (f.words w) }

before : {ts us vs : List Token} {p : Place} → Passes ts us → Stands us vs p → Stands ts vs p
before f s = record { at = λ k r. s.at k (f.by k r); spelled = λ w. s.spelled (f.words w) }

behind : {ts us vs : List Token} {p : Place} → Stands ts us p → Passes us vs → Stands ts vs p
behind {p = p} s f = record { at = λ k r. let q = s.at k r in (q.0, f.by (p.0 + 1) q.1); spelled = λ w. f.words (s.spelled w) }

stands : {a : Terminal} {t : Token} {ts us : List Token} → Takes grammar a ts t us → Stands ts us t.place
stands p = record { at = λ k r. subst (PlacesRiseFrom k) p.list r; spelled = λ w. (subst NamesAreWords p.list w).1 }

taken : {a : Terminal} {t : Token} {ts us : List Token} → Takes grammar a ts t us → Passes ts us
taken p = past (stands p)

named : {ts us : List Token} {n : Name} → IsName ts us n → Stands ts us n.place
named {ts = ts} {us = us} p = subst (Stands ts us) (sym p.2.1) (stands p.1)

name_passes : {ts us : List Token} {n : Name} → IsName ts us n → Passes ts us
name_passes p = past (named p)

prop_passes : {ts us : List Token} {n : Name} → DerivesProp ts us n → Passes ts us
prop_passes (tree.name p) = name_passes p
prop_passes (tree.word v p n) = taken p

mutual
  expr_passes : {ts us : List Token} {e : Expr} → DerivesExpr ts us e → Passes ts us
  expr_passes (tree.binary d) = binary_passes d
  expr_passes (tree.pick c q a s b) = both (binary_passes c) (both (taken q) (both (binary_passes a) (both (taken s) (binary_passes b))))

  binary_passes : {k : ℕ} {ts us : List Token} {e : Expr} → DerivesBinary k ts us e → Passes ts us
  binary_passes (tree.operand d) = prefix_passes d
  binary_passes (tree.joined e l a i b) = both (binary_passes a) (both (taken i) (binary_passes b))

  prefix_passes : {ts us : List Token} {e : Expr} → DerivesPrefix ts us e → Passes ts us
  prefix_passes (tree.plain d) = primary_passes d
  prefix_passes (tree.not n d) = both (taken n) (primary_passes d)

  primary_passes : {ts us : List Token} {e : Expr} → DerivesPrimary ts us e → Passes ts us
  primary_passes (tree.number p e) = taken p
  primary_passes (tree.string p) = taken p
  primary_passes (tree.set_flag p) = taken p
  primary_passes (tree.clear_flag p) = taken p
  primary_passes (tree.brackets o d c) = both (taken o) (both (expr_passes d) (taken c))
  primary_passes (tree.entry n c m) = both (name_passes n) (both (taken c) (name_passes m))
  primary_passes (tree.path d) = path_passes d
  primary_passes (tree.item d a n) = both (path_passes d) (both (taken a) (prop_passes n))

  path_passes : {ts us : List Token} {p : Path} → DerivesPath ts us p → Passes ts us
  path_passes (tree.steps e s ss) = both (step_passes s) (steps_pass ss)

  steps_pass : {ts us : List Token} {ss : List Step} → DerivesSteps ts us ss → Passes ts us
  steps_pass tree.no_step = stay
  steps_pass (tree.next_step d s ss) = both (taken d) (both (step_passes s) (steps_pass ss))

  step_passes : {ts us : List Token} {s : Step} → DerivesStep ts us s → Passes ts us
  step_passes (tree.step n is) = both (name_passes n) (indices_pass is)

  indices_pass : {ts us : List Token} {es : List Expr} → DerivesIndices ts us es → Passes ts us
  indices_pass tree.no_index = stay
  indices_pass (tree.next_index o d c is) = both (taken o) (both (expr_passes d) (both (taken c) (indices_pass is)))

given_passes : {ts us : List Token} {v : Assigned} → DerivesGiven ts us v → Passes ts us
given_passes (tree.value d) = expr_passes d
given_passes (tree.word v p) = taken p

assigned_passes : {ts us : List Token} {v : Option Assigned} → DerivesAssigned ts us v → Passes ts us
assigned_passes tree.none = stay
assigned_passes (tree.some p d) = both (taken p) (given_passes d)

behind_passes : {m : Mark} {ts us : List Token} {v : Option Expr} → DerivesBehind m ts us v → Passes ts us
behind_passes tree.none = stay
behind_passes (tree.some p d) = both (taken p) (expr_passes d)

local_passes : {place : Place} {ts us : List Token} {s : Set} → DerivesLocal place ts us s → Passes ts us
local_passes (tree.assigned n v e) = both (prop_passes n) (both (assigned_passes v) (taken e))
local_passes (tree.triggered h w n e) = both (taken w) (both (prop_passes n) (taken e))

-- Where a list begins stands its first token.

starts : {a : Terminal} {t : Token} {ts us : List Token} (p : Place) → StartsAt ts p → Takes grammar a ts t us → Stands ts us p
starts {ts = ts} {us = us} p s d = subst (Stands ts us) (sym (subst (λ xs. StartsAt xs p) d.list s)) (stands d)

prop_starts : {ts us : List Token} {n : Name} (p : Place) → StartsAt ts p → DerivesProp ts us n → Stands ts us p
prop_starts p s (tree.name d) = starts p s d.1
prop_starts p s (tree.word v d n) = starts p s d

path_starts : {ts us : List Token} {x : Path} (p : Place) → StartsAt ts p → DerivesPath ts us x → Stands ts us p
path_starts p s (tree.steps e (tree.step n is) ss) = behind (starts p s n.1) (both (indices_pass is) (steps_pass ss))

local_starts : {q : Place} {ts us : List Token} {x : Set} (p : Place) → StartsAt ts p → DerivesLocal q ts us x → Stands ts us p
local_starts p s (tree.assigned n v e) = behind (prop_starts p s n) (both (assigned_passes v) (taken e))
local_starts p s (tree.triggered h w n e) = behind (starts p s w) (both (prop_passes n) (taken e))

module _ {X : Type 0} {D : List Token → List Token → X → Type 0} (each : (ts us : List Token) (x : X) → D ts us x → Passes ts us) where
  many_pass : {ts us : List Token} {xs : List X} → DerivesMany D ts us xs → Passes ts us
  many_pass tree.no_more = stay
  many_pass (tree.one_more d ds) = both (each _ _ _ d) (many_pass ds)

  listed_pass : {ts us : List Token} {xs : List X} → DerivesListed D ts us xs → Passes ts us
  listed_pass (tree.last d) = each _ _ _ d
  listed_pass (tree.next d c ds) = both (each _ _ _ d) (both (taken c) (listed_pass ds))

  hashed_pass : {ts us : List Token} {xs : List X} → DerivesHashed D ts us xs → Passes ts us
  hashed_pass tree.none = stay
  hashed_pass (tree.some h o ds c) = both (taken h) (both (taken o) (both (listed_pass ds) (taken c)))

set_passes : (ts us : List Token) (s : Set) → DerivesSet ts us s → Passes ts us
set_passes ts us s d = local_passes d.local

sets_pass : {ts us : List Token} {ss : List Set} → DerivesSets ts us ss → Passes ts us
sets_pass tree.none = stay
sets_pass (tree.some o ds c) = both (taken o) (both (many_pass set_passes ds) (taken c))

entry_passes : (ts us : List Token) (e : Entry) → DerivesEntry ts us e → Passes ts us
entry_passes ts us e (tree.entry n v ss s) = both (name_passes n) (both (behind_passes v) (both (sets_pass ss) (taken s)))

type_passes : {ts us : List Token} {x : PType} → DerivesType ts us x → Passes ts us
type_passes (tree.plain e p) = taken p
type_passes (tree.unsigned e p q) = both (taken p) (taken q)

param_passes : (ts us : List Token) (x : Param) → DerivesParam ts us x → Passes ts us
param_passes ts us x (tree.param t n v) = both (type_passes t) (both (name_passes n) (behind_passes v))

arg_passes : (ts us : List Token) (x : Arg) → DerivesArg ts us x → Passes ts us
arg_passes ts us x (tree.arg d n o e c) = both (taken d) (both (name_passes n) (both (taken o) (both (expr_passes e) (taken c))))

shape_passes : {ts us : List Token} {es : List Expr} {x : Option (Expr × Expr)} → DerivesShape ts us es x → Passes ts us
shape_passes (tree.dims is) = indices_pass is
shape_passes (tree.range o h c l e) = both (taken o) (both (expr_passes h) (both (taken c) (both (expr_passes l) (taken e))))

inst_passes : (ts us : List Token) (x : Inst) → DerivesInst ts us x → Passes ts us
inst_passes ts us x (tree.inst n s a b c d) = both (name_passes n) (both (shape_passes s) (both (behind_passes a) (both (behind_passes b) (both (behind_passes c) (behind_passes d)))))

insts_pass : {ts us : List Token} {x : Insts} → DerivesInsts ts us x → Passes ts us
insts_pass (tree.insts a l) = both (hashed_pass arg_passes a) (listed_pass inst_passes l)

internal_passes : {ts us : List Token} → SkipsInternal ts us → Passes ts us
internal_passes tree.none = stay
internal_passes (tree.some p) = taken p

made_passes : {ts us : List Token} {x : Option Insts} → DerivesMade ts us x → Passes ts us
made_passes tree.none = stay
made_passes (tree.some i d) = both (internal_passes i) (insts_pass d)

alias_passes : {ts us : List Token} {x : Option Name} → DerivesAlias ts us x → Passes ts us
alias_passes tree.none = stay
alias_passes (tree.some p n) = both (taken p) (name_passes n)

-- The tokens that an item is read from hold its place, and its own items are in order where their places rise.

abbrev pub Ordered : List Token → List Token → Item → Type 0
Ordered ts us i = (k : ℕ) → PlacesRiseFrom k ts → (k ≤ (place_of i).0) × IsInOrderInside i × PlacesRiseFrom ((place_of i).0 + 1) us

with_inside : (ts us : List Token) (i : Item) → Stands ts us (place_of i) → IsInOrderInside i → Ordered ts us i
with_inside ts us i s h k r = let q = s.at k r in (q.0, h, q.1)

raised : {k : ℕ} {is : List Item} → RiseFrom k is → RiseFrom 0 is
raised inside.none = inside.none
raised (inside.more l h r) = inside.more (omega arith) h r

mutual
  item_ordered : {ts us : List Token} {i : Item} → DerivesItem ts us i → Ordered ts us i
  item_ordered (tree.component {d = d} x) = λ k r. let q = def_ordered x k r in (q.0, inside.definition q.1, q.2)
  item_ordered (tree.enum {n = n} e m o ds c s) = with_inside _ _ _ (behind (before (taken e) (named m)) (both (taken o) (both (many_pass entry_passes ds) (both (taken c) (taken s))))) inside.enumeration
  item_ordered (tree.made {n = n} i a m d s) = with_inside _ _ _ (behind (before (both (internal_passes i) (alias_passes a)) (named m)) (both (insts_pass d) (taken s))) inside.made
  item_ordered {ts = ts} {us = us} (tree.default p e d) = with_inside _ _ _ (subst (Stands ts us) (sym e) (behind (stands p) (local_passes d))) inside.default
  item_ordered (tree.local {s = s} d) = with_inside _ _ _ (local_starts s.place d.at d.local) inside.local
  item_ordered (tree.dynamic {place = place} p d a n v s) = with_inside _ _ _ (behind (path_starts place p d) (both (taken a) (both (prop_passes n) (both (assigned_passes v) (taken s))))) inside.dynamic

  def_ordered : {ts us : List Token} {d : Def} → DerivesDef ts us d → (k : ℕ) → PlacesRiseFrom k ts → (k ≤ (out-Def d).place.0) × RiseFrom 0 (out-Def d).items.now × PlacesRiseFrom ((out-Def d).place.0 + 1) us
  def_ordered {us = us} (tree.named {n = n} {d = d} i e w m ps b made s h1 h2 h3) k r =
      let q = (before (both (internal_passes i) (taken w)) (named m)).at k r in
      let body = body_ordered b (n.place.0 + 1) ((hashed_pass param_passes ps).by (n.place.0 + 1) q.1) in
      let rest = (both (made_passes made) (taken s)).by (n.place.0 + 1) body.1 in
      (subst (λ p. k ≤ p.0) (sym h3) q.0, body.0, subst (λ p. PlacesRiseFrom (p.0 + 1) us) (sym h3) rest)
  def_ordered {us = us} (tree.bare {t = t} {d = d} i e w b j l s h1 h2 h3 h4 h5 h6) k r =
      let q = (before (internal_passes i) (stands w)).at k r in
      let body = body_ordered b (t.place.0 + 1) q.1 in
      let rest = (both (internal_passes j) (both (listed_pass inst_passes l) (taken s))).by (t.place.0 + 1) body.1 in
      (subst (λ p. k ≤ p.0) (sym h6) q.0, body.0, subst (λ p. PlacesRiseFrom (p.0 + 1) us) (sym h6) rest)

  body_ordered : {ts us : List Token} {is : List Item} → DerivesBody ts us is → (k : ℕ) → PlacesRiseFrom k ts → RiseFrom 0 is × PlacesRiseFrom k us
  body_ordered (tree.body o ds c) k r = let q = items_ordered ds k ((taken o).by k r) in (raised q.0, (taken c).by k q.1)

  items_ordered : {ts us : List Token} {is : List Item} → DerivesItems ts us is → (k : ℕ) → PlacesRiseFrom k ts → RiseFrom k is × PlacesRiseFrom k us
  items_ordered tree.no_item k r = (inside.none, r)
  items_ordered {us = us} (tree.next_item {i = i} d ds) k r =
      let q = item_ordered d k r in
      let rest = items_ordered ds ((place_of i).0 + 1) q.2 in
      (inside.more q.0 q.1 rest.0, lower k ((place_of i).0 + 1) us (omega (arith, q.0)) rest.1)

pub derived_in_order : (ts : List Token) (is : List Item) → PlacesRiseFrom 0 ts → DerivesItems ts [] is → RiseFrom 0 is
derived_in_order ts is r d = (items_ordered d 0 r).0

-- The names of a tree are those of its tokens.

name_kind : (k : TokenKind) → same terminals.Name (terminal_of k) ≡ true → k ≡ kinds.Word
name_kind kinds.Word e = refl
name_kind _ e = cc

name_word : {ts us : List Token} {n : Name} → IsName ts us n → NamesAreWords ts → IsWordName n
name_word {n = n} p w = subst (λ text. IsTrue (is_word text.now)) (sym p.2.0) ((subst NamesAreWords p.1.list w).0 (name_kind p.0.kind p.1.token))

one_more_word : (i : Inst) (is : List Inst) → IsWordName i.name → All (λ j. IsWordName j.name) is → All (λ j. IsWordName j.name) (i ∷ is)
one_more_word i is h rest zero d l = h
one_more_word i is h rest (suc k) d l = rest k d (omega (arith, l))

inst_word : {ts us : List Token} {i : Inst} → DerivesInst ts us i → NamesAreWords ts → IsWordName i.name
inst_word (tree.inst n s a b c d) w = name_word n w

insts_words : {ts us : List Token} {is : List Inst} → DerivesListed DerivesInst ts us is → NamesAreWords ts → All (λ i. IsWordName i.name) is
insts_words (tree.last {x = x} d) w = one_more_word x [] (inst_word d w) (λ k d l. absurd (omega (arith, l)))
insts_words (tree.next {x = x} {xs = xs} d c ds) w = one_more_word x xs (inst_word d w) (insts_words ds ((taken c).words ((inst_passes _ _ _ d).words w)))

made_words : {ts us : List Token} {x : Insts} → DerivesInsts ts us x → NamesAreWords ts → HaveWords (Some x)
made_words (tree.insts a l) w = insts_words l ((hashed_pass arg_passes a).words w)

some_words : {ts us : List Token} {x : Option Insts} → DerivesMade ts us x → NamesAreWords ts → HaveWords x
some_words tree.none w = tt
some_words (tree.some i d) w = made_words d ((internal_passes i).words w)

mutual
  item_words : {ts us : List Token} {i : Item} → DerivesItem ts us i → NamesAreWords ts → IsNamedByWords i × NamesAreWords us
  item_words (tree.component d) w = let q = def_words d w in (inside.definition q.0 q.1 q.2, q.3)
  item_words (tree.enum e m o ds c s) w = (inside.enumeration, (both (taken e) (both (name_passes m) (both (taken o) (both (many_pass entry_passes ds) (both (taken c) (taken s)))))).words w)
  item_words (tree.made i a m d s) w =
      let v = (both (internal_passes i) (both (alias_passes a) (name_passes m))).words w in
      (inside.made (made_words d v), (both (insts_pass d) (taken s)).words v)
  item_words (tree.default p e d) w = (inside.default, (both (taken p) (local_passes d)).words w)
  item_words (tree.local d) w = (inside.local, (local_passes d.local).words w)
  item_words (tree.dynamic p d a n v s) w = (inside.dynamic, (both (path_passes d) (both (taken a) (both (prop_passes n) (both (assigned_passes v) (taken s))))).words w)

  def_words : {ts us : List Token} {d : Def} → DerivesDef ts us d → NamesAreWords ts → IsWordIfNamed (out-Def d).name × HaveWords (out-Def d).insts × AreWords (out-Def d).items.now × NamesAreWords us
  def_words (tree.named i e w m ps b made s h1 h2 h3) v =
      let v1 = (both (internal_passes i) (taken w)).words v in
      let q = body_words b ((hashed_pass param_passes ps).words ((name_passes m).words v1)) in
      (subst IsWordIfNamed (sym h2) (name_word m v1), some_words made q.1, q.0, (both (made_passes made) (taken s)).words q.1)
  def_words (tree.bare i e w b j l s h1 h2 h3 h4 h5 h6) v =
      let q = body_words b ((both (internal_passes i) (taken w)).words v) in
      let v1 = (internal_passes j).words q.1 in
      (subst IsWordIfNamed (sym h2) tt, subst HaveWords (sym h4) (insts_words l v1), q.0, (both (listed_pass inst_passes l) (taken s)).words v1)

  body_words : {ts us : List Token} {is : List Item} → DerivesBody ts us is → NamesAreWords ts → AreWords is × NamesAreWords us
  body_words (tree.body o ds c) w = let q = items_words ds ((taken o).words w) in (q.0, (taken c).words q.1)

  items_words : {ts us : List Token} {is : List Item} → DerivesItems ts us is → NamesAreWords ts → AreWords is × NamesAreWords us
  items_words tree.no_item w = (inside.none, w)
  items_words (tree.next_item d ds) w =
      let q = item_words d w in
      let rest = items_words ds q.1 in
      (inside.more q.0 rest.0, rest.1)

pub derived_words : (ts : List Token) (is : List Item) → NamesAreWords ts → DerivesItems ts [] is → AreWords is
derived_words ts is w d = (items_words d w).0
