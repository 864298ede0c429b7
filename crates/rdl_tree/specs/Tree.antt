-- Which tree a list of tokens derives: each relation says what stands before the second list in the first.
use Rattle.std.specs.Borrow.{Bor}
use Rattle.std.specs.Prelude.{◌≡◌, ℕ, ◌+◌, ◌≤◌, true, false, Option, Some, None, Bool, IsTrue, List, [], ◌∷◌, option_copied}
use Rattle.rb_base.specs.declared.trigger.Trigger.{Trigger}
use Rattle.rb_base.specs.declared.trigger.Trigger.TheVariants as triggers
use Rattle.rdl_base.specs.declared.keyword.Keyword.{Keyword}
use Rattle.rdl_base.specs.declared.keyword.Keyword.TheVariants as words
use Rattle.rb_base.specs.declared.place.Place.{Place}
use Rattle.rb_grammar.specs.Readings.{Takes}
use Rattle.rdl_tree.specs.declared.expr.Expr.{Expr}
use Rattle.rdl_tree.specs.declared.expr.Expr.TheVariants as expr
use Rattle.rdl_tree.specs.declared.expr.Name.{Name}
use Rattle.rdl_tree.specs.declared.expr.Op.{Op}
use Rattle.rdl_tree.specs.declared.expr.Op.TheVariants as ops
use Rattle.rdl_tree.specs.declared.expr.Path.{Path, out-Path}
use Rattle.rdl_tree.specs.declared.expr.Step.{Step}
use Rattle.rdl_tree.specs.declared.item.Arg.{Arg}
use Rattle.rdl_tree.specs.declared.item.Def.{Def, out-Def}
use Rattle.rdl_tree.specs.declared.item.Entry.{Entry}
use Rattle.rdl_tree.specs.declared.item.Assigned.{Assigned}
use Rattle.rdl_tree.specs.declared.item.Assigned.TheVariants as given
use Rattle.rdl_tree.specs.declared.item.Inst.{Inst}
use Rattle.rdl_tree.specs.declared.item.Insts.{Insts}
use Rattle.rdl_tree.specs.declared.item.Item.{Item}
use Rattle.rdl_tree.specs.declared.item.Item.TheVariants as items
use Rattle.rdl_tree.specs.declared.item.Kind.{Kind}
use Rattle.rdl_tree.specs.declared.item.Kind.TheVariants as kinds
use Rattle.rdl_tree.specs.declared.item.Param.{Param}
use Rattle.rdl_tree.specs.declared.item.PType.{PType}
use Rattle.rdl_tree.specs.declared.item.PType.TheVariants as types
use Rattle.rdl_tree.specs.declared.item.Set.{Set}
use Rattle.rdl_tree.specs.declared.token.Mark.{Mark}
use Rattle.rdl_tree.specs.declared.token.Mark.TheVariants as marks
use Rattle.rdl_tree.specs.declared.token.Token.{Token}
use Rattle.rdl_tree.specs.declared.token.TokenKind.TheVariants as tokens
use Rattle.rdl_tree.specs.declared.token.Terminal.TheVariants as terminals
use Rattle.rdl_tree.specs.Grammar.{grammar}

abbrev pub IsMark : Mark → List Token → Token → List Token → Type 0
IsMark m ts t us = Takes grammar (terminals.Mark m) ts t us

abbrev pub IsWord : Keyword → List Token → Token → List Token → Type 0
IsWord k ts t us = Takes grammar (terminals.Reserved k) ts t us

-- a name is the text of its token, and stands at its place
abbrev pub IsNameOf : Name → Token → Type 0
IsNameOf n t = (n.text ≡ t.text) × (n.place ≡ t.place)

abbrev pub IsName : List Token → List Token → Name → Type 0
IsName ts us n = (t : Token) × Takes grammar terminals.Name ts t us × IsNameOf n t

-- the words that name properties
abbrev pub names_property : Keyword → Bool
names_property words.Woset = true
names_property words.Woclr = true
names_property words.Rclr = true
names_property words.Rset = true
names_property k = false

-- the words that are values of properties
abbrev pub is_value : Keyword → Bool
is_value words.Rw = true
is_value words.Wr = true
is_value words.R = true
is_value words.W = true
is_value words.Rw1 = true
is_value words.W1 = true
is_value words.Na = true
is_value words.Woset = true
is_value words.Woclr = true
is_value words.Wot = true
is_value words.Wzs = true
is_value words.Wzc = true
is_value words.Wzt = true
is_value words.Wclr = true
is_value words.Wset = true
is_value words.Rclr = true
is_value words.Rset = true
is_value words.Compact = true
is_value words.Regalign = true
is_value words.Fullalign = true
is_value k = false

-- prop = name | "woset" | "woclr" | "rclr" | "rset" .
pub data DerivesProp : List Token → List Token → Name → Type 0 where
  name : {ts us : List Token} {n : Name} → IsName ts us n → DerivesProp ts us n
  word : {ts us : List Token} {t : Token} {n : Name} {k : Keyword} → IsTrue (names_property k) → IsWord k ts t us → IsNameOf n t → DerivesProp ts us n

-- two-sided operators
abbrev pub operator_of : Mark → Option Op
operator_of marks.OrOr = Some ops.OrElse
operator_of marks.AndAnd = Some ops.AndAlso
operator_of marks.Or = Some ops.Or
operator_of marks.Caret = Some ops.Xor
operator_of marks.And = Some ops.And
operator_of marks.EqualEqual = Some ops.Eq
operator_of marks.NotEqual = Some ops.Ne
operator_of marks.Less = Some ops.Lt
operator_of marks.LessEqual = Some ops.Le
operator_of marks.Greater = Some ops.Gt
operator_of marks.GreaterEqual = Some ops.Ge
operator_of marks.ShiftLeft = Some ops.Shl
operator_of marks.ShiftRight = Some ops.Shr
operator_of marks.Plus = Some ops.Add
operator_of marks.Minus = Some ops.Sub
operator_of marks.Star = Some ops.Mul
operator_of marks.Slash = Some ops.Div
operator_of marks.Percent = Some ops.Rem
operator_of marks.StarStar = Some ops.Pow
operator_of m = None

-- how tightly an operator binds
abbrev pub level : Op → ℕ
level ops.OrElse = 0
level ops.AndAlso = 1
level ops.Or = 2
level ops.Xor = 3
level ops.And = 4
level ops.Eq = 5
level ops.Ne = 5
level ops.Lt = 6
level ops.Le = 6
level ops.Gt = 6
level ops.Ge = 6
level ops.Shl = 7
level ops.Shr = 7
level ops.Add = 8
level ops.Sub = 8
level ops.Mul = 9
level ops.Div = 9
level ops.Rem = 9
level ops.Pow = 10

mutual
  -- expr = binary [ "?" binary ":" binary ] .
  pub data DerivesExpr : List Token → List Token → Expr → Type 0 where
    binary : {ts us : List Token} {e : Expr} → DerivesBinary 0 ts us e → DerivesExpr ts us e
    pick : {t u : Token} {ts us vs ws xs : List Token} {c a b : Bor Expr} → DerivesBinary 0 ts us c.now → IsMark marks.Question us t vs → DerivesBinary 0 vs ws a.now → IsMark marks.Colon ws u xs
        → {ys : List Token} → DerivesBinary 0 xs ys b.now → DerivesExpr ts ys (expr.Pick c a b t.place)

  -- prefixes joined by operators that bind at least as tightly as the level, from the left
  pub data DerivesBinary : ℕ → List Token → List Token → Expr → Type 0 where
    operand : {k : ℕ} {ts us : List Token} {e : Expr} → DerivesPrefix ts us e → DerivesBinary k ts us e
    joined : {k : ℕ} {m : Mark} {o : Op} {t : Token} {ts us vs ws : List Token} {a b : Bor Expr} → operator_of m ≡ Some o → k ≤ level o → DerivesBinary (level o) ts us a.now → IsMark m us t vs
        → DerivesBinary (level o + 1) vs ws b.now → DerivesBinary k ts ws (expr.Binary o a b t.place)

  -- prefix = [ "!" ] primary .
  pub data DerivesPrefix : List Token → List Token → Expr → Type 0 where
    plain : {ts us : List Token} {e : Expr} → DerivesPrimary ts us e → DerivesPrefix ts us e
    not : {t : Token} {ts us vs : List Token} {e : Bor Expr} → IsMark marks.Not ts t us → DerivesPrimary us vs e.now → DerivesPrefix ts vs (expr.Not e t.place)

  -- primary = number | string | "true" | "false" | "(" expr ")" | name "::" name | path [ "->" prop ] .
  pub data DerivesPrimary : List Token → List Token → Expr → Type 0 where
    number : {t : Token} {ts us : List Token} {n : ℕ} → Takes grammar terminals.Number ts t us → t.kind ≡ tokens.Number n → DerivesPrimary ts us (expr.Number n t.place)
    string : {t : Token} {ts us : List Token} → Takes grammar terminals.Str ts t us → DerivesPrimary ts us (expr.Str t.text t.place)
    set_flag : {t : Token} {ts us : List Token} → IsWord words.True ts t us → DerivesPrimary ts us (expr.Flag true t.place)
    clear_flag : {t : Token} {ts us : List Token} → IsWord words.False ts t us → DerivesPrimary ts us (expr.Flag false t.place)
    brackets : {t u : Token} {ts us vs ws : List Token} {e : Expr} → IsMark marks.OpenParen ts t us → DerivesExpr us vs e → IsMark marks.CloseParen vs u ws → DerivesPrimary ts ws e
    entry : {t : Token} {ts us vs ws : List Token} {n m : Name} → IsName ts us n → IsMark marks.ColonColon us t vs → IsName vs ws m → DerivesPrimary ts ws (expr.EntryOf n m)
    path : {ts us : List Token} {p : Path} → DerivesPath ts us p → DerivesPrimary ts us (expr.Ref p None)
    item : {t : Token} {ts us vs ws : List Token} {p : Path} {n : Name} → DerivesPath ts us p → IsMark marks.Arrow us t vs → DerivesProp vs ws n → DerivesPrimary ts ws (expr.Ref p (Some n))

  -- path = step { "." step } .
  pub data DerivesPath : List Token → List Token → Path → Type 0 where
    steps : {ts us vs : List Token} {p : Path} {s : Step} {ss : List Step} → (out-Path p).steps.now ≡ s ∷ ss → DerivesStep ts us s → DerivesSteps us vs ss → DerivesPath ts vs p

  pub data DerivesSteps : List Token → List Token → List Step → Type 0 where
    no_step : {ts : List Token} → DerivesSteps ts ts []
    next_step : {t : Token} {ts us vs ws : List Token} {s : Step} {ss : List Step} → IsMark marks.Dot ts t us → DerivesStep us vs s → DerivesSteps vs ws ss → DerivesSteps ts ws (s ∷ ss)

  -- step = name { "[" expr "]" } .
  pub data DerivesStep : List Token → List Token → Step → Type 0 where
    step : {ts us vs : List Token} {s : Step} → IsName ts us s.name → DerivesIndices us vs s.index.now → DerivesStep ts vs s

  pub data DerivesIndices : List Token → List Token → List Expr → Type 0 where
    no_index : {ts : List Token} → DerivesIndices ts ts []
    next_index : {t u : Token} {ts us vs ws xs : List Token} {e : Expr} {es : List Expr} → IsMark marks.OpenBracket ts t us → DerivesExpr us vs e → IsMark marks.CloseBracket vs u ws → DerivesIndices ws xs es
        → DerivesIndices ts xs (e ∷ es)

-- "=" expr, or the like behind another mark; or nothing
pub data DerivesBehind (m : Mark) : List Token → List Token → Option Expr → Type 0 where
  none : {ts : List Token} → DerivesBehind m ts ts None
  some : {t : Token} {ts us vs : List Token} {e : Expr} → IsMark m ts t us → DerivesExpr us vs e → DerivesBehind m ts vs (Some e)

-- any number
pub data DerivesMany {X : Type 0} (Derives : List Token → List Token → X → Type 0) : List Token → List Token → List X → Type 0 where
  no_more : {ts : List Token} → DerivesMany Derives ts ts []
  one_more : {ts us vs : List Token} {x : X} {xs : List X} → Derives ts us x → DerivesMany Derives us vs xs → DerivesMany Derives ts vs (x ∷ xs)

-- one or more, with commas between
pub data DerivesListed {X : Type 0} (Derives : List Token → List Token → X → Type 0) : List Token → List Token → List X → Type 0 where
  last : {ts us : List Token} {x : X} → Derives ts us x → DerivesListed Derives ts us (x ∷ [])
  next : {t : Token} {ts us vs ws : List Token} {x : X} {xs : List X} → Derives ts us x → IsMark marks.Comma us t vs → DerivesListed Derives vs ws xs → DerivesListed Derives ts ws (x ∷ xs)

-- [ "internal" ], which leaves no trace
pub data SkipsInternal : List Token → List Token → Type 0 where
  none : {ts : List Token} → SkipsInternal ts ts
  some : {t : Token} {ts us : List Token} → IsWord words.Internal ts t us → SkipsInternal ts us

-- given = expr | a word .
pub data DerivesGiven : List Token → List Token → Assigned → Type 0 where
  value : {ts us : List Token} {e : Expr} → DerivesExpr ts us e → DerivesGiven ts us (given.Expr e)
  word : {t : Token} {ts us : List Token} {k : Keyword} → IsTrue (is_value k) → IsWord k ts t us → DerivesGiven ts us (given.Word k)

-- [ "=" given ]
pub data DerivesAssigned : List Token → List Token → Option Assigned → Type 0 where
  none : {ts : List Token} → DerivesAssigned ts ts None
  some : {t : Token} {ts us vs : List Token} {g : Assigned} → IsMark marks.Equals ts t us → DerivesGiven us vs g → DerivesAssigned ts vs (Some g)

abbrev pub trigger_of : Keyword → Option Trigger
trigger_of words.Posedge = Some triggers.Posedge
trigger_of words.Negedge = Some triggers.Negedge
trigger_of words.Bothedge = Some triggers.Bothedge
trigger_of words.Level = Some triggers.Level
trigger_of words.Nonsticky = Some triggers.Nonsticky
trigger_of k = None

-- the list begins at this place
abbrev pub StartsAt : List Token → Place → Type 0
StartsAt [] place = ⊥
StartsAt (t ∷ ts) place = place ≡ t.place

-- local = prop [ "=" given ] ";" | trigger prop ";" .
pub data DerivesLocal (place : Place) : List Token → List Token → Set → Type 0 where
  assigned : {t : Token} {ts us vs ws : List Token} {n : Name} {g : Option Assigned} → DerivesProp ts us n → DerivesAssigned us vs g → IsMark marks.Semicolon vs t ws
      → DerivesLocal place ts ws (record { prop = n; trigger = None; value = g; place = place })
  triggered : {t u : Token} {ts us vs ws : List Token} {k : Keyword} {e : Trigger} {n : Name} → trigger_of k ≡ Some e → IsWord k ts t us → DerivesProp us vs n → IsMark marks.Semicolon vs u ws
      → DerivesLocal place ts ws (record { prop = n; trigger = Some e; value = None; place = place })

-- local, at the place of its first token
pub record DerivesSet (ts us : List Token) (s : Set) : Type 0 where
  pub at : StartsAt ts s.place
  pub local : DerivesLocal s.place ts us s

-- entry = name [ "=" expr ] [ "{" { local } "}" ] ";" .
pub data DerivesSets : List Token → List Token → List Set → Type 0 where
  none : {ts : List Token} → DerivesSets ts ts []
  some : {t u : Token} {ts us vs ws : List Token} {ss : List Set} → IsMark marks.OpenBrace ts t us → DerivesMany DerivesSet us vs ss → IsMark marks.CloseBrace vs u ws → DerivesSets ts ws ss

pub data DerivesEntry : List Token → List Token → Entry → Type 0 where
  entry : {t : Token} {ts us vs ws xs : List Token} {e : Entry} → IsName ts us e.name → DerivesBehind marks.Equals us vs e.value → DerivesSets vs ws e.sets.now → IsMark marks.Semicolon ws t xs → DerivesEntry ts xs e

-- paramtype = ( "longint" | "bit" ) [ "unsigned" ] | "boolean" | "string" .
abbrev pub type_of : Keyword → Option PType
type_of words.Longint = Some types.Number
type_of words.Bit = Some types.Number
type_of words.Boolean = Some types.Flag
type_of words.String = Some types.Str
type_of k = None

pub data DerivesType : List Token → List Token → PType → Type 0 where
  plain : {t : Token} {ts us : List Token} {k : Keyword} {p : PType} → type_of k ≡ Some p → IsWord k ts t us → DerivesType ts us p
  unsigned : {t u : Token} {ts us vs : List Token} {k : Keyword} → type_of k ≡ Some types.Number → IsWord k ts t us → IsWord words.Unsigned us u vs → DerivesType ts vs types.Number

-- param = paramtype name [ "=" expr ] .
pub data DerivesParam : List Token → List Token → Param → Type 0 where
  param : {ts us vs ws : List Token} {p : Param} → DerivesType ts us p.ptype → IsName us vs p.name → DerivesBehind marks.Equals vs ws p.default → DerivesParam ts ws p

-- arg = "." name "(" expr ")" .
pub data DerivesArg : List Token → List Token → Arg → Type 0 where
  arg : {t u v : Token} {ts us vs ws xs ys : List Token} {a : Arg} → IsMark marks.Dot ts t us → IsName us vs a.name → IsMark marks.OpenParen vs u ws → DerivesExpr ws xs a.value → IsMark marks.CloseParen xs v ys
      → DerivesArg ts ys a

-- [ "#" "(" x { "," x } ")" ]
pub data DerivesHashed {X : Type 0} (Derives : List Token → List Token → X → Type 0) : List Token → List Token → List X → Type 0 where
  none : {ts : List Token} → DerivesHashed Derives ts ts []
  some : {t u v : Token} {ts us vs ws xs : List Token} {xs' : List X} → IsMark marks.Hash ts t us → IsMark marks.OpenParen us u vs → DerivesListed Derives vs ws xs' → IsMark marks.CloseParen ws v xs → DerivesHashed Derives ts xs xs'

-- { "[" expr "]" } | "[" expr ":" expr "]"
pub data DerivesShape : List Token → List Token → List Expr → Option (Expr × Expr) → Type 0 where
  dims : {ts us : List Token} {es : List Expr} → DerivesIndices ts us es → DerivesShape ts us es None
  range : {t u v : Token} {ts us vs ws xs ys : List Token} {high low : Expr} → IsMark marks.OpenBracket ts t us → DerivesExpr us vs high → IsMark marks.Colon vs u ws → DerivesExpr ws xs low → IsMark marks.CloseBracket xs v ys
      → DerivesShape ts ys [] (Some (high, low))

-- inst = name ( { "[" expr "]" } | "[" expr ":" expr "]" ) [ "=" expr ] [ "@" expr ] [ "+=" expr ] [ "%=" expr ] .
pub data DerivesInst : List Token → List Token → Inst → Type 0 where
  inst : {ts us vs ws xs ys zs : List Token} {i : Inst} → IsName ts us i.name → DerivesShape us vs i.dims.now (option_copied i.range) → DerivesBehind marks.Equals vs ws (option_copied i.reset) → DerivesBehind marks.At ws xs (option_copied i.at)
      → DerivesBehind marks.PlusEquals xs ys (option_copied i.stride) → DerivesBehind marks.PercentEquals ys zs (option_copied i.align) → DerivesInst ts zs i

-- insts = [ args ] inst { "," inst } .
pub data DerivesInsts : List Token → List Token → Insts → Type 0 where
  insts : {ts us vs : List Token} {i : Insts} → DerivesHashed DerivesArg ts us i.args.now → DerivesListed DerivesInst us vs i.list.now → DerivesInsts ts vs i

abbrev pub kind_of : Keyword → Option Kind
kind_of words.Addrmap = Some kinds.Addrmap
kind_of words.Regfile = Some kinds.Regfile
kind_of words.Reg = Some kinds.Reg
kind_of words.Field = Some kinds.Field
kind_of words.Signal = Some kinds.Signal
kind_of k = None

-- [ [ "internal" ] insts ]
pub data DerivesMade : List Token → List Token → Option Insts → Type 0 where
  none : {ts : List Token} → DerivesMade ts ts None
  some : {ts us vs : List Token} {i : Insts} → SkipsInternal ts us → DerivesInsts us vs i → DerivesMade ts vs (Some i)

-- [ "alias" name ]
pub data DerivesAlias : List Token → List Token → Option Name → Type 0 where
  none : {ts : List Token} → DerivesAlias ts ts None
  some : {t : Token} {ts us vs : List Token} {n : Name} → IsWord words.Alias ts t us → IsName us vs n → DerivesAlias ts vs (Some n)

mutual
  -- item = component | enum | made | default | local | dynamic .
  pub data DerivesItem : List Token → List Token → Item → Type 0 where
    component : {ts us : List Token} {d : Def} → DerivesDef ts us d → DerivesItem ts us (items.Def d)
    enum : {t u v w : Token} {ts us vs ws xs ys zs : List Token} {n : Name} {es : Bor (List Entry)} → IsWord words.Enum ts t us → IsName us vs n → IsMark marks.OpenBrace vs u ws → DerivesMany DerivesEntry ws xs es.now
        → IsMark marks.CloseBrace xs v ys → IsMark marks.Semicolon ys w zs → DerivesItem ts zs (items.EnumDef n es)
    made : {t : Token} {ts us vs ws xs ys : List Token} {a : Option Name} {n : Name} {i : Insts} → SkipsInternal ts us → DerivesAlias us vs a → IsName vs ws n → DerivesInsts ws xs i → IsMark marks.Semicolon xs t ys
        → DerivesItem ts ys (items.Made a n i)
    default : {t : Token} {ts us vs : List Token} {s : Set} → IsWord words.Default ts t us → s.place ≡ t.place → DerivesLocal s.place us vs s → DerivesItem ts vs (items.Default s)
    local : {ts us : List Token} {s : Set} → DerivesSet ts us s → DerivesItem ts us (items.Local s)
    dynamic : {t u : Token} {ts us vs ws xs ys : List Token} {p : Path} {n : Name} {g : Option Assigned} {place : Place} → StartsAt ts place → DerivesPath ts us p → IsMark marks.Arrow us t vs → DerivesProp vs ws n
        → DerivesAssigned ws xs g → IsMark marks.Semicolon xs u ys → DerivesItem ts ys (items.Dynamic p (record { prop = n; trigger = None; value = g; place = place }))

  -- component = [ "internal" ] kind ( name [ params ] body [ [ "internal" ] insts ] | body [ "internal" ] inst { "," inst } ) ";" .
  pub data DerivesDef : List Token → List Token → Def → Type 0 where
    named : {t u : Token} {ts us vs ws xs ys zs zs' : List Token} {k : Keyword} {kind : Kind} {n : Name} {d : Def} → SkipsInternal ts us → kind_of k ≡ Some kind → IsWord k us t vs → IsName vs ws n
        → DerivesHashed DerivesParam ws xs (out-Def d).params.now → DerivesBody xs ys (out-Def d).items.now → DerivesMade ys zs (out-Def d).insts → IsMark marks.Semicolon zs u zs'
        → (out-Def d).kind ≡ kind → (out-Def d).name ≡ Some n → (out-Def d).place ≡ n.place → DerivesDef ts zs' d
    bare : {t u : Token} {ts us vs ws xs ys zs : List Token} {k : Keyword} {kind : Kind} {i : Insts} {d : Def} → SkipsInternal ts us → kind_of k ≡ Some kind → IsWord k us t vs
        → DerivesBody vs ws (out-Def d).items.now → SkipsInternal ws xs → DerivesListed DerivesInst xs ys i.list.now → IsMark marks.Semicolon ys u zs
        → (out-Def d).kind ≡ kind → (out-Def d).name ≡ None → (out-Def d).params.now ≡ [] → (out-Def d).insts ≡ Some i → i.args.now ≡ [] → (out-Def d).place ≡ t.place → DerivesDef ts zs d

  -- body = "{" { item } "}" .
  pub data DerivesBody : List Token → List Token → List Item → Type 0 where
    body : {t u : Token} {ts us vs ws : List Token} {is : List Item} → IsMark marks.OpenBrace ts t us → DerivesItems us vs is → IsMark marks.CloseBrace vs u ws → DerivesBody ts ws is

  pub data DerivesItems : List Token → List Token → List Item → Type 0 where
    no_item : {ts : List Token} → DerivesItems ts ts []
    next_item : {ts us vs : List Token} {i : Item} {is : List Item} → DerivesItem ts us i → DerivesItems us vs is → DerivesItems ts vs (i ∷ is)
