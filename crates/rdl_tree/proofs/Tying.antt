-- What derives a tree is of the grammar.
use Rattle.std.proofs.Common.{◌≡◌, ℕ, true, Option, Some, List, [], ◌∷◌, sym, subst}
use Rattle.rdl_base.specs.declared.keyword.Keyword.{Keyword}
use Rattle.rdl_base.specs.declared.keyword.Keyword.TheVariants as words
use Rattle.rb_grammar.specs.Forms.{Form, Tok, Non, ◌or◌, Opt, Many, ◌then◌, Fits}
use Rattle.rb_grammar.specs.Readings.{Goal, Whole, Reads, whole, token, rule, first, second, none, some, no_turn, turn, both, Takes}
use Rattle.rb_grammar.proofs.Bridge.{fits_one}
use Rattle.rdl_tree.specs.declared.token.Mark.{Mark}
use Rattle.rdl_tree.specs.declared.token.Mark.TheVariants as marks
use Rattle.rdl_tree.specs.declared.token.Token.{Token}
use Rattle.rdl_tree.specs.declared.token.Terminal.{Terminal}
use Rattle.rdl_tree.specs.declared.token.Terminal.TheVariants as terminals
use Rattle.rdl_tree.specs.declared.expr.Expr.{Expr}
use Rattle.rdl_tree.specs.declared.expr.Name.{Name}
use Rattle.rdl_tree.specs.declared.expr.Op.{Op}
use Rattle.rdl_tree.specs.declared.expr.Path.{Path}
use Rattle.rdl_tree.specs.declared.expr.Step.{Step}
use Rattle.rdl_tree.specs.declared.item.Item.{Item}
use Rattle.rdl_tree.specs.declared.item.Arg.{Arg}
use Rattle.rdl_tree.specs.declared.item.Def.{Def}
use Rattle.rdl_tree.specs.declared.item.Entry.{Entry}
use Rattle.rdl_tree.specs.declared.item.Assigned.{Assigned}
use Rattle.rdl_tree.specs.declared.item.Inst.{Inst}
use Rattle.rdl_tree.specs.declared.item.Insts.{Insts}
use Rattle.rdl_tree.specs.declared.item.Kind.{Kind}
use Rattle.rdl_tree.specs.declared.item.Param.{Param}
use Rattle.rdl_tree.specs.declared.item.PType.{PType}
use Rattle.rdl_tree.specs.declared.item.Set.{Set}
use Rattle.rdl_tree.specs.declared.item.PType.TheVariants as types
use Rattle.rb_base.specs.declared.trigger.Trigger.{Trigger}
use Rattle.rb_base.specs.declared.place.Place.{Place}
use Rattle.rdl_tree.specs.Grammar.{Rule, grammar}
use Rattle.rdl_tree.specs.Grammar as rules
use Rattle.rdl_tree.specs.Tree.{IsMark, IsWord, IsName, DerivesProp, operator_of, names_property, is_value, trigger_of, kind_of, type_of, DerivesExpr, DerivesBinary, DerivesPrefix, DerivesPrimary, DerivesPath, DerivesSteps, DerivesStep, DerivesIndices, DerivesGiven, DerivesAssigned, DerivesBehind, DerivesLocal, DerivesSet, DerivesMany, DerivesListed, DerivesSets, DerivesEntry, DerivesType, DerivesParam, DerivesArg, DerivesHashed, DerivesShape, DerivesInst, DerivesInsts, SkipsInternal, DerivesMade, DerivesAlias, DerivesItem, DerivesDef, DerivesBody, DerivesItems}
use Rattle.rdl_tree.specs.Tree as tree

-- before what these forms read, so is what the first form reads
abbrev pub Reading : Form Terminal Rule → List Token → List Token → Type 0
Reading f ts us = (g : Goal Token) (fs : List (Form Terminal Rule)) → Reads grammar g fs us → Reads grammar g (f ∷ fs) ts

taken : {a : Terminal} {t : Token} {ts us : List Token} → Takes grammar a ts t us → Reading (Tok a) ts us
taken {a = a} p g fs r = subst (λ z. Reads grammar g (Tok a ∷ fs) z) (sym p.list) (token p.token r)

name_reads : {ts us : List Token} {n : Name} → IsName ts us n → Reading rules.name ts us
name_reads p g fs r = taken p.1 g fs r

operator_reads : (m : Mark) (o : Op) (g : Goal Token) (fs : List (Form Terminal Rule)) (ts : List Token) → operator_of m ≡ Some o → Reads grammar g (Tok (terminals.Mark m) ∷ fs) ts → Reads grammar g (Non rules.Operator ∷ fs) ts
operator_reads marks.OrOr o g fs ts e r = rule (first r)
operator_reads marks.AndAnd o g fs ts e r = rule (second (first r))
operator_reads marks.Or o g fs ts e r = rule (second (second (first r)))
operator_reads marks.Caret o g fs ts e r = rule (second (second (second (first r))))
operator_reads marks.And o g fs ts e r = rule (second (second (second (second (first r)))))
operator_reads marks.EqualEqual o g fs ts e r = rule (second (second (second (second (second (first r))))))
operator_reads marks.NotEqual o g fs ts e r = rule (second (second (second (second (second (second (first r)))))))
operator_reads marks.Less o g fs ts e r = rule (second (second (second (second (second (second (second (first r))))))))
operator_reads marks.LessEqual o g fs ts e r = rule (second (second (second (second (second (second (second (second (first r)))))))))
operator_reads marks.Greater o g fs ts e r = rule (second (second (second (second (second (second (second (second (second (first r))))))))))
operator_reads marks.GreaterEqual o g fs ts e r = rule (second (second (second (second (second (second (second (second (second (second (first r)))))))))))
operator_reads marks.ShiftLeft o g fs ts e r = rule (second (second (second (second (second (second (second (second (second (second (second (first r))))))))))))
operator_reads marks.ShiftRight o g fs ts e r = rule (second (second (second (second (second (second (second (second (second (second (second (second (first r)))))))))))))
operator_reads marks.Plus o g fs ts e r = rule (second (second (second (second (second (second (second (second (second (second (second (second (second (first r))))))))))))))
operator_reads marks.Minus o g fs ts e r = rule (second (second (second (second (second (second (second (second (second (second (second (second (second (second (first r)))))))))))))))
operator_reads marks.Star o g fs ts e r = rule (second (second (second (second (second (second (second (second (second (second (second (second (second (second (second (first r))))))))))))))))
operator_reads marks.Slash o g fs ts e r = rule (second (second (second (second (second (second (second (second (second (second (second (second (second (second (second (second (first r)))))))))))))))))
operator_reads marks.Percent o g fs ts e r = rule (second (second (second (second (second (second (second (second (second (second (second (second (second (second (second (second (second (first r))))))))))))))))))
operator_reads marks.StarStar o g fs ts e r = rule (second (second (second (second (second (second (second (second (second (second (second (second (second (second (second (second (second (second r))))))))))))))))))
operator_reads _ o g fs ts e r = cc

prop_word_reads : (k : Keyword) (g : Goal Token) (fs : List (Form Terminal Rule)) (ts : List Token) → names_property k ≡ true → Reads grammar g (Tok (terminals.Reserved k) ∷ fs) ts → Reads grammar g (Non rules.Prop ∷ fs) ts
prop_word_reads words.Woset g fs ts e r = rule (second (first r))
prop_word_reads words.Woclr g fs ts e r = rule (second (second (first r)))
prop_word_reads words.Rclr g fs ts e r = rule (second (second (second (first r))))
prop_word_reads words.Rset g fs ts e r = rule (second (second (second (second r))))
prop_word_reads _ g fs ts e r = cc

prop_reads : {ts us : List Token} {n : Name} → DerivesProp ts us n → Reading (Non rules.Prop) ts us
prop_reads (tree.name p) g fs r = rule (first (name_reads p g fs r))
prop_reads {ts = ts} (tree.word {k = k} v p n) g fs r = prop_word_reads k g fs ts v (taken p g fs r)

abbrev operands : Form Terminal Rule
operands = Many (Non rules.Operator then Non rules.Prefix)

mutual
  expr_reads : {ts us : List Token} {e : Expr} → DerivesExpr ts us e → Reading (Non rules.Expr) ts us
  expr_reads (tree.binary d) g fs r = rule (both (rule (both (operands_read d g _ (no_turn (none r))))))
  expr_reads (tree.pick c q a s b) g fs r = rule (both (rule (both (operands_read c g _ (no_turn (some (both (taken q g _ (both (rule (both (operands_read a g _ (no_turn (both (taken s g _ (rule (both (operands_read b g _ (no_turn r)))))))))))))))))))

  operands_read : {k : ℕ} {ts us : List Token} {e : Expr} → DerivesBinary k ts us e → (g : Goal Token) (fs : List (Form Terminal Rule)) → Reads grammar g (operands ∷ fs) us → Reads grammar g (Non rules.Prefix ∷ operands ∷ fs) ts
  operands_read (tree.operand d) g fs r = prefix_reads d g _ r
  operands_read (tree.joined {m = m} {o = o} e l a i b) g fs r = operands_read a g fs (turn (both (operator_reads m o g _ _ e (taken i g _ (operands_read b g fs r)))))

  prefix_reads : {ts us : List Token} {e : Expr} → DerivesPrefix ts us e → Reading (Non rules.Prefix) ts us
  prefix_reads (tree.plain d) g fs r = rule (both (none (primary_reads d g fs r)))
  prefix_reads (tree.not n d) g fs r = rule (both (some (taken n g _ (primary_reads d g fs r))))

  primary_reads : {ts us : List Token} {e : Expr} → DerivesPrimary ts us e → Reading (Non rules.Primary) ts us
  primary_reads (tree.number p e) g fs r = rule (first (taken p g fs r))
  primary_reads (tree.string p) g fs r = rule (second (first (taken p g fs r)))
  primary_reads (tree.set_flag p) g fs r = rule (second (second (first (taken p g fs r))))
  primary_reads (tree.clear_flag p) g fs r = rule (second (second (second (first (taken p g fs r)))))
  primary_reads (tree.brackets o d c) g fs r = rule (second (second (second (second (first (both (taken o g _ (both (expr_reads d g _ (taken c g fs r))))))))))
  primary_reads (tree.entry n c m) g fs r = rule (second (second (second (second (second (first (both (name_reads n g _ (both (taken c g _ (name_reads m g fs r)))))))))))
  primary_reads (tree.path d) g fs r = rule (second (second (second (second (second (second (both (path_reads d g _ (none r)))))))))
  primary_reads (tree.item d a n) g fs r = rule (second (second (second (second (second (second (both (path_reads d g _ (some (both (taken a g _ (prop_reads n g fs r))))))))))))

  path_reads : {ts us : List Token} {p : Path} → DerivesPath ts us p → Reading (Non rules.Path) ts us
  path_reads (tree.steps e s ss) g fs r = rule (both (step_reads s g _ (steps_read ss g fs r)))

  steps_read : {ts us : List Token} {ss : List Step} → DerivesSteps ts us ss → Reading (Many (rules.mark marks.Dot then Non rules.Step)) ts us
  steps_read tree.no_step g fs r = no_turn r
  steps_read (tree.next_step d s ss) g fs r = turn (both (taken d g _ (step_reads s g _ (steps_read ss g fs r))))

  step_reads : {ts us : List Token} {s : Step} → DerivesStep ts us s → Reading (Non rules.Step) ts us
  step_reads (tree.step n is) g fs r = rule (both (name_reads n g _ (indices_read is g fs r)))

  indices_read : {ts us : List Token} {es : List Expr} → DerivesIndices ts us es → Reading (Many (Non rules.Index)) ts us
  indices_read tree.no_index g fs r = no_turn r
  indices_read (tree.next_index o d c is) g fs r = turn (rule (both (taken o g _ (both (expr_reads d g _ (taken c g _ (indices_read is g fs r)))))))

value_word_reads : (k : Keyword) (g : Goal Token) (fs : List (Form Terminal Rule)) (ts : List Token) → is_value k ≡ true → Reads grammar g (Tok (terminals.Reserved k) ∷ fs) ts → Reads grammar g (Non rules.Given ∷ fs) ts
value_word_reads words.Rw g fs ts e r = rule (second (first r))
value_word_reads words.Wr g fs ts e r = rule (second (second (first r)))
value_word_reads words.R g fs ts e r = rule (second (second (second (first r))))
value_word_reads words.W g fs ts e r = rule (second (second (second (second (first r)))))
value_word_reads words.Rw1 g fs ts e r = rule (second (second (second (second (second (first r))))))
value_word_reads words.W1 g fs ts e r = rule (second (second (second (second (second (second (first r)))))))
value_word_reads words.Na g fs ts e r = rule (second (second (second (second (second (second (second (first r))))))))
value_word_reads words.Woset g fs ts e r = rule (second (second (second (second (second (second (second (second (first r)))))))))
value_word_reads words.Woclr g fs ts e r = rule (second (second (second (second (second (second (second (second (second (first r))))))))))
value_word_reads words.Wot g fs ts e r = rule (second (second (second (second (second (second (second (second (second (second (first r)))))))))))
value_word_reads words.Wzs g fs ts e r = rule (second (second (second (second (second (second (second (second (second (second (second (first r))))))))))))
value_word_reads words.Wzc g fs ts e r = rule (second (second (second (second (second (second (second (second (second (second (second (second (first r)))))))))))))
value_word_reads words.Wzt g fs ts e r = rule (second (second (second (second (second (second (second (second (second (second (second (second (second (first r))))))))))))))
value_word_reads words.Wclr g fs ts e r = rule (second (second (second (second (second (second (second (second (second (second (second (second (second (second (first r)))))))))))))))
value_word_reads words.Wset g fs ts e r = rule (second (second (second (second (second (second (second (second (second (second (second (second (second (second (second (first r))))))))))))))))
value_word_reads words.Rclr g fs ts e r = rule (second (second (second (second (second (second (second (second (second (second (second (second (second (second (second (second (first r)))))))))))))))))
value_word_reads words.Rset g fs ts e r = rule (second (second (second (second (second (second (second (second (second (second (second (second (second (second (second (second (second (first r))))))))))))))))))
value_word_reads words.Compact g fs ts e r = rule (second (second (second (second (second (second (second (second (second (second (second (second (second (second (second (second (second (second (first r)))))))))))))))))))
value_word_reads words.Regalign g fs ts e r = rule (second (second (second (second (second (second (second (second (second (second (second (second (second (second (second (second (second (second (second (first r))))))))))))))))))))
value_word_reads words.Fullalign g fs ts e r = rule (second (second (second (second (second (second (second (second (second (second (second (second (second (second (second (second (second (second (second (second r))))))))))))))))))))
value_word_reads _ g fs ts e r = cc

trigger_reads : (k : Keyword) (x : Trigger) (g : Goal Token) (fs : List (Form Terminal Rule)) (ts : List Token) → trigger_of k ≡ Some x → Reads grammar g (Tok (terminals.Reserved k) ∷ fs) ts → Reads grammar g (Non rules.Trigger ∷ fs) ts
trigger_reads words.Posedge x g fs ts e r = rule (first r)
trigger_reads words.Negedge x g fs ts e r = rule (second (first r))
trigger_reads words.Bothedge x g fs ts e r = rule (second (second (first r)))
trigger_reads words.Level x g fs ts e r = rule (second (second (second (first r))))
trigger_reads words.Nonsticky x g fs ts e r = rule (second (second (second (second r))))
trigger_reads _ x g fs ts e r = cc

kind_reads : (k : Keyword) (x : Kind) (g : Goal Token) (fs : List (Form Terminal Rule)) (ts : List Token) → kind_of k ≡ Some x → Reads grammar g (Tok (terminals.Reserved k) ∷ fs) ts → Reads grammar g (Non rules.Kind ∷ fs) ts
kind_reads words.Addrmap x g fs ts e r = rule (first r)
kind_reads words.Regfile x g fs ts e r = rule (second (first r))
kind_reads words.Reg x g fs ts e r = rule (second (second (first r)))
kind_reads words.Field x g fs ts e r = rule (second (second (second (first r))))
kind_reads words.Signal x g fs ts e r = rule (second (second (second (second r))))
kind_reads _ x g fs ts e r = cc

given_reads : {ts us : List Token} {v : Assigned} → DerivesGiven ts us v → Reading (Non rules.Given) ts us
given_reads (tree.value d) g fs r = rule (first (expr_reads d g fs r))
given_reads {ts = ts} (tree.word {k = k} v p) g fs r = value_word_reads k g fs ts v (taken p g fs r)

assigned_reads : {ts us : List Token} {v : Option Assigned} → DerivesAssigned ts us v → Reading (Opt (rules.mark marks.Equals then Non rules.Given)) ts us
assigned_reads tree.none g fs r = none r
assigned_reads (tree.some p d) g fs r = some (both (taken p g _ (given_reads d g fs r)))

behind_reads : {m : Mark} {ts us : List Token} {v : Option Expr} → DerivesBehind m ts us v → Reading (Opt (rules.behind m)) ts us
behind_reads tree.none g fs r = none r
behind_reads (tree.some p d) g fs r = some (both (taken p g _ (expr_reads d g fs r)))

local_reads : {place : Place} {ts us : List Token} {s : Set} → DerivesLocal place ts us s → Reading (Non rules.Local) ts us
local_reads (tree.assigned n v e) g fs r = rule (first (both (prop_reads n g _ (both (assigned_reads v g _ (taken e g fs r))))))
local_reads {ts = ts} (tree.triggered {k = k} {e = x} h w n e) g fs r = rule (second (both (trigger_reads k x g _ ts h (taken w g _ (both (prop_reads n g _ (taken e g fs r)))))))

set_reads : {ts us : List Token} {s : Set} → DerivesSet ts us s → Reading (Non rules.Local) ts us
set_reads d g fs r = local_reads d.local g fs r

module _ {X : Type 0} {D : List Token → List Token → X → Type 0} {f : Form Terminal Rule} (each : (ts us : List Token) (x : X) → D ts us x → Reading f ts us) where
  many_read : {ts us : List Token} {xs : List X} → DerivesMany D ts us xs → Reading (Many f) ts us
  many_read tree.no_more g fs r = no_turn r
  many_read (tree.one_more d ds) g fs r = turn (each _ _ _ d g _ (many_read ds g fs r))

  listed_read : {ts us : List Token} {xs : List X} → DerivesListed D ts us xs → (g : Goal Token) (fs : List (Form Terminal Rule)) → Reads grammar g fs us → Reads grammar g (f ∷ Many (rules.mark marks.Comma then f) ∷ fs) ts
  listed_read (tree.last d) g fs r = each _ _ _ d g _ (no_turn r)
  listed_read (tree.next d c ds) g fs r = each _ _ _ d g _ (turn (both (taken c g _ (listed_read ds g fs r))))

sets_read : {ts us : List Token} {ss : List Set} → DerivesSets ts us ss → Reading (Opt (rules.mark marks.OpenBrace then Many (Non rules.Local) then rules.mark marks.CloseBrace)) ts us
sets_read tree.none g fs r = none r
sets_read (tree.some o ds c) g fs r = some (both (taken o g _ (both (many_read (λ _ _ _ d. set_reads d) ds g _ (taken c g fs r)))))

entry_reads : {ts us : List Token} {e : Entry} → DerivesEntry ts us e → Reading (Non rules.Entry) ts us
entry_reads (tree.entry n v ss e) g fs r = rule (both (name_reads n g _ (both (behind_reads v g _ (both (sets_read ss g _ (taken e g fs r)))))))

type_reads : (k : Keyword) (x : PType) {t : Token} {ts us : List Token} → type_of k ≡ Some x → IsWord k ts t us → Reading (Non rules.ParamType) ts us
type_reads words.Longint x e p g fs r = rule (first (both (first (taken p g _ (none r)))))
type_reads words.Bit x e p g fs r = rule (first (both (second (taken p g _ (none r)))))
type_reads words.Boolean x e p g fs r = rule (second (first (taken p g fs r)))
type_reads words.String x e p g fs r = rule (second (second (taken p g fs r)))
type_reads _ x e p g fs r = cc

unsigned_reads : (k : Keyword) {t u : Token} {ts us vs : List Token} → type_of k ≡ Some types.Number → IsWord k ts t us → IsWord words.Unsigned us u vs → Reading (Non rules.ParamType) ts vs
unsigned_reads words.Longint e p q g fs r = rule (first (both (first (taken p g _ (some (taken q g fs r))))))
unsigned_reads words.Bit e p q g fs r = rule (first (both (second (taken p g _ (some (taken q g fs r))))))
unsigned_reads _ e p q g fs r = cc

param_type_reads : {ts us : List Token} {x : PType} → DerivesType ts us x → Reading (Non rules.ParamType) ts us
param_type_reads (tree.plain {k = k} {p = x} e p) g fs r = type_reads k x e p g fs r
param_type_reads (tree.unsigned {k = k} e p q) g fs r = unsigned_reads k e p q g fs r

param_reads : {ts us : List Token} {x : Param} → DerivesParam ts us x → Reading (Non rules.Param) ts us
param_reads (tree.param t n v) g fs r = rule (both (param_type_reads t g _ (both (name_reads n g _ (behind_reads v g fs r)))))

arg_reads : {ts us : List Token} {x : Arg} → DerivesArg ts us x → Reading (Non rules.Arg) ts us
arg_reads (tree.arg d n o e c) g fs r = rule (both (taken d g _ (both (name_reads n g _ (both (taken o g _ (both (expr_reads e g _ (taken c g fs r)))))))))

params_read : {ts us : List Token} {xs : List Param} → DerivesHashed DerivesParam ts us xs → Reading (Opt (Non rules.Params)) ts us
params_read tree.none g fs r = none r
params_read (tree.some h o ds c) g fs r = some (rule (both (taken h g _ (both (taken o g _ (both (both (listed_read (λ _ _ _ d. param_reads d) ds g _ (taken c g fs r)))))))))

args_read : {ts us : List Token} {xs : List Arg} → DerivesHashed DerivesArg ts us xs → Reading (Opt (Non rules.Args)) ts us
args_read tree.none g fs r = none r
args_read (tree.some h o ds c) g fs r = some (rule (both (taken h g _ (both (taken o g _ (both (both (listed_read (λ _ _ _ d. arg_reads d) ds g _ (taken c g fs r)))))))))

shape_reads : {ts us : List Token} {es : List Expr} {x : Option (Expr × Expr)} → DerivesShape ts us es x → Reading (Many (Non rules.Index) or Non rules.Range) ts us
shape_reads (tree.dims is) g fs r = first (indices_read is g fs r)
shape_reads (tree.range o h c l e) g fs r = second (rule (both (taken o g _ (both (expr_reads h g _ (both (taken c g _ (both (expr_reads l g _ (taken e g fs r))))))))))

inst_reads : {ts us : List Token} {x : Inst} → DerivesInst ts us x → Reading (Non rules.Inst) ts us
inst_reads (tree.inst n s a b c d) g fs r = rule (both (name_reads n g _ (both (shape_reads s g _ (both (behind_reads a g _ (both (behind_reads b g _ (both (behind_reads c g _ (behind_reads d g fs r)))))))))))

inst_list_reads : {ts us : List Token} {xs : List Inst} → DerivesListed DerivesInst ts us xs → Reading (Non rules.InstList) ts us
inst_list_reads ds g fs r = rule (both (listed_read (λ _ _ _ d. inst_reads d) ds g fs r))

insts_read : {ts us : List Token} {x : Insts} → DerivesInsts ts us x → Reading (Non rules.Insts) ts us
insts_read (tree.insts a l) g fs r = rule (both (args_read a g _ (inst_list_reads l g fs r)))

internal_reads : {ts us : List Token} → SkipsInternal ts us → Reading (Opt (rules.word words.Internal)) ts us
internal_reads tree.none g fs r = none r
internal_reads (tree.some p) g fs r = some (taken p g fs r)

made_reads : {ts us : List Token} {x : Option Insts} → DerivesMade ts us x → Reading (Opt (Opt (rules.word words.Internal) then Non rules.Insts)) ts us
made_reads tree.none g fs r = none r
made_reads (tree.some i d) g fs r = some (both (internal_reads i g _ (insts_read d g fs r)))

alias_reads : {ts us : List Token} {x : Option Name} → DerivesAlias ts us x → Reading (Opt (rules.word words.Alias then rules.name)) ts us
alias_reads tree.none g fs r = none r
alias_reads (tree.some p n) g fs r = some (both (taken p g _ (name_reads n g fs r)))

mutual
  item_reads : {ts us : List Token} {i : Item} → DerivesItem ts us i → Reading (Non rules.Item) ts us
  item_reads (tree.component d) g fs r = rule (first (def_reads d g fs r))
  item_reads (tree.enum e n o ds c s) g fs r = rule (second (first (rule (both (taken e g _ (both (name_reads n g _ (both (taken o g _ (both (many_read (λ _ _ _ d. entry_reads d) ds g _ (both (taken c g _ (taken s g fs r))))))))))))))
  item_reads (tree.made i a n d s) g fs r = rule (second (second (first (rule (both (internal_reads i g _ (both (alias_reads a g _ (both (name_reads n g _ (both (insts_read d g _ (taken s g fs r)))))))))))))
  item_reads (tree.default p e d) g fs r = rule (second (second (second (first (rule (both (taken p g _ (local_reads d g fs r))))))))
  item_reads (tree.local d) g fs r = rule (second (second (second (second (first (set_reads d g fs r))))))
  item_reads (tree.dynamic p d a n v s) g fs r = rule (second (second (second (second (second (rule (both (path_reads d g _ (both (taken a g _ (both (prop_reads n g _ (both (assigned_reads v g _ (taken s g fs r)))))))))))))))

  def_reads : {ts us : List Token} {d : Def} → DerivesDef ts us d → Reading (Non rules.Component) ts us
  def_reads (tree.named {us = us} {k = k} {kind = x} i e w n ps b m s h1 h2 h3) g fs r =
      rule (both (internal_reads i g _ (both (kind_reads k x g _ us e (taken w g _ (both (first (both (name_reads n g _ (both (params_read ps g _ (both (body_reads b g _ (made_reads m g _ (taken s g fs r)))))))))))))))
  def_reads (tree.bare {us = us} {k = k} {kind = x} i e w b j l s h1 h2 h3 h4 h5 h6) g fs r =
      rule (both (internal_reads i g _ (both (kind_reads k x g _ us e (taken w g _ (both (second (both (body_reads b g _ (both (internal_reads j g _ (inst_list_reads l g _ (taken s g fs r)))))))))))))

  body_reads : {ts us : List Token} {is : List Item} → DerivesBody ts us is → Reading (Non rules.Body) ts us
  body_reads (tree.body o ds c) g fs r = rule (both (taken o g _ (both (items_read ds g _ (taken c g fs r)))))

  items_read : {ts us : List Token} {is : List Item} → DerivesItems ts us is → Reading (Many (Non rules.Item)) ts us
  items_read tree.no_item g fs r = no_turn r
  items_read (tree.next_item d ds) g fs r = turn (item_reads d g _ (items_read ds g fs r))

-- the tokens of a tree are a source
pub derived_fits : (ts : List Token) (is : List Item) → DerivesItems ts [] is → Fits grammar (Non rules.Source) ts
derived_fits ts is d = fits_one grammar (Non rules.Source) ts (rule (items_read d Whole [] whole))
