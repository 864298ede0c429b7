-- Tokens derive one value, setting, entry, parameter, argument and instance, apart from addresses.
use Rattle.std.specs.Borrow.{Bor}
use Rattle.std.proofs.Common.{◌≡◌, ◌⊎◌, inl, inr, ℕ, ◌+◌, ◌≤◌, Bool, true, false, refl, sym, ap, ◌∙◌, subst, List, [], ◌∷◌, map, Option, Some, None, option_map, arith, IsTrue}
use Rattle.std.specs.Prelude.{option_copied}
use Rattle.plain_lemmas.proofs.Bools.{and-left}
use Rattle.rb_base.specs.declared.trigger.Trigger.{Trigger}
use Rattle.rdl_base.specs.declared.keyword.Keyword.{Keyword}
use Rattle.rdl_base.specs.declared.keyword.Keyword.TheVariants as words
use Rattle.rb_base.specs.declared.place.Place.{Place}
use Rattle.rdl_tree.specs.declared.expr.Expr.{Expr}
use Rattle.rdl_tree.specs.declared.expr.Name.{Name}
use Rattle.rdl_tree.specs.declared.item.Arg.{Arg}
use Rattle.rdl_tree.specs.declared.item.Entry.{Entry}
use Rattle.rdl_tree.specs.declared.item.Assigned.{Assigned}
use Rattle.rdl_tree.specs.declared.item.Assigned.TheVariants as given
use Rattle.rdl_tree.specs.declared.item.Inst.{Inst}
use Rattle.rdl_tree.specs.declared.item.Insts.{Insts}
use Rattle.rdl_tree.specs.declared.item.Param.{Param}
use Rattle.rdl_tree.specs.declared.item.PType.{PType}
use Rattle.rdl_tree.specs.declared.item.Set.{Set}
use Rattle.rdl_tree.specs.declared.token.Mark.{Mark}
use Rattle.rdl_tree.specs.declared.token.Mark.TheVariants as marks
use Rattle.rdl_tree.specs.declared.token.Token.{Token}
use Rattle.rdl_tree.specs.declared.token.Terminal.{Terminal}
use Rattle.rdl_tree.specs.declared.token.Terminal.TheVariants as terminals
use Rattle.rdl_tree.specs.Tree.{IsMark, IsWord, is_value, trigger_of, type_of, StartsAt, names_property, DerivesProp, DerivesExpr, DerivesBinary, DerivesPrefix, DerivesPrimary, DerivesPath, DerivesIndices, DerivesGiven, DerivesAssigned, DerivesBehind, DerivesLocal, DerivesSet, DerivesMany, DerivesListed, DerivesSets, DerivesEntry, DerivesType, DerivesParam, DerivesArg, DerivesHashed, DerivesShape, DerivesInst, DerivesInsts, SkipsInternal, DerivesMade, DerivesAlias}
use Rattle.rdl_tree.specs.Tree as tree
use Rattle.rdl_verdict_laws.specs.Plain.{nowhere, plain_name, plain_expr, plain_token, plain_given, plain_set, plain_entry, plain_behind, plain_pair, plain_range, plain_inst, plain_arg, plain_insts, plain_param}
use Rattle.rdl_verdict_laws.proofs.Tokens.{Same, Once, next, next_same, next_is, taken, name_once, prop_once, no_index, no_dot, ends_expr, path_ends, primary_ends, binary_ends}
use Rattle.rdl_verdict_laws.proofs.Exprs.{expr_once, indices_once, path_first}

-- two terminals for one next token
pub apart : (ts us : List Token) {a b : Terminal} → Same ts us → next ts ≡ Some a → next us ≡ Some b → Some a ≡ Some b
apart ts us s p q = sym p ∙ next_same _ _ s ∙ q

-- What an expression begins with.

abbrev pub begins_word : Keyword → Bool
begins_word words.True = true
begins_word words.False = true
begins_word _ = false

abbrev pub begins_expr : Option Terminal → Bool
begins_expr (Some terminals.Name) = true
begins_expr (Some terminals.Number) = true
begins_expr (Some terminals.Str) = true
begins_expr (Some (terminals.Mark marks.OpenParen)) = true
begins_expr (Some (terminals.Mark marks.Not)) = true
begins_expr (Some (terminals.Reserved k)) = begins_word k
begins_expr _ = false

primary_begins : {ts us : List Token} {e : Expr} → DerivesPrimary ts us e → begins_expr (next ts) ≡ true
primary_begins (tree.number p e) = ap begins_expr (next_is p)
primary_begins (tree.string p) = ap begins_expr (next_is p)
primary_begins (tree.set_flag p) = ap begins_expr (next_is p)
primary_begins (tree.clear_flag p) = ap begins_expr (next_is p)
primary_begins (tree.brackets o d c) = ap begins_expr (next_is o)
primary_begins (tree.entry n c m) = ap begins_expr (next_is n.1)
primary_begins (tree.path d) = ap begins_expr (path_first d)
primary_begins (tree.item d a n) = ap begins_expr (path_first d)

prefix_begins : {ts us : List Token} {e : Expr} → DerivesPrefix ts us e → begins_expr (next ts) ≡ true
prefix_begins (tree.plain d) = primary_begins d
prefix_begins (tree.not n d) = ap begins_expr (next_is n)

binary_begins : {k : ℕ} {ts us : List Token} {e : Expr} → DerivesBinary k ts us e → begins_expr (next ts) ≡ true
binary_begins (tree.operand d) = prefix_begins d
binary_begins (tree.joined e l a i b) = binary_begins a

expr_begins : {ts us : List Token} {e : Expr} → DerivesExpr ts us e → begins_expr (next ts) ≡ true
expr_begins (tree.binary d) = binary_begins d
expr_begins (tree.pick c q a r b) = binary_begins c

value_begins_none : (k : Keyword) → is_value k ≡ true → begins_word k ≡ false
value_begins_none words.True e = cc
value_begins_none words.False e = cc
value_begins_none _ e = refl

-- Values.

word_apart : {ts us ts' us' : List Token} {t : Token} {e : Expr} {k : Keyword} → DerivesExpr ts us e → IsTrue (is_value k) → IsWord k ts' t us' → Same ts ts' → ⊥
word_apart {k = k} d v p s =
    let b : begins_word k ≡ true = sym (ap begins_expr (next_same _ _ s ∙ next_is p)) ∙ expr_begins d in
    let h : true ≡ false = sym b ∙ value_begins_none k v in
    cc

pub given_once : {ts us ts' us' : List Token} {v w : Assigned} → DerivesGiven ts us v → DerivesGiven ts' us' w → Same ts ts' → next us ≡ Some (terminals.Mark marks.Semicolon) → next us' ≡ Some (terminals.Mark marks.Semicolon) → Once plain_given us us' v w
given_once (tree.value d) (tree.value e) s x y = let h = expr_once d e s (ap ends_expr x) (ap ends_expr y) in record { rest = h.rest; tree = ap given.Expr h.tree }
given_once (tree.value d) (tree.word v p) s x y = absurd (word_apart d v p s)
given_once (tree.word v p) (tree.value d) s x y = absurd (word_apart d v p (sym s))
given_once (tree.word {k = k} v p) (tree.word {k = l} w q) s x y =
    let e = apart _ _ s (next_is p) (next_is q) in
    let f : k ≡ l = cc in
    record { rest = (taken p q s).rest; tree = ap given.Word f }

pub assigned_once : {ts us ts' us' : List Token} {v w : Option Assigned} → DerivesAssigned ts us v → DerivesAssigned ts' us' w → Same ts ts' → next us ≡ Some (terminals.Mark marks.Semicolon) → next us' ≡ Some (terminals.Mark marks.Semicolon) → Once (option_map plain_given) us us' v w
assigned_once tree.none tree.none s x y = record { rest = s; tree = refl }
assigned_once tree.none (tree.some p d) s x y = let h = apart _ _ s x (next_is p) in cc
assigned_once (tree.some p d) tree.none s x y = let h = apart _ _ s (next_is p) y in cc
assigned_once (tree.some p d) (tree.some q e) s x y = let h = given_once d e (taken p q s).rest x y in record { rest = h.rest; tree = ap Some h.tree }

-- An expression behind a mark.

pub behind_once : {m : Mark} {ts us ts' us' : List Token} {v w : Option Expr} → DerivesBehind m ts us v → DerivesBehind m ts' us' w → Same ts ts' → ends_expr (next us) ≡ true → ends_expr (next us') ≡ true
    → (next us ≡ Some (terminals.Mark m) → ⊥) → (next us' ≡ Some (terminals.Mark m) → ⊥) → Once (option_map plain_expr) us us' v w
behind_once tree.none tree.none s x y f g = record { rest = s; tree = refl }
behind_once tree.none (tree.some p d) s x y f g = absurd (f (next_same _ _ s ∙ next_is p))
behind_once (tree.some p d) tree.none s x y f g = absurd (g (sym (next_same _ _ s) ∙ next_is p))
behind_once (tree.some p d) (tree.some q e) s x y f g = let h = expr_once d e (taken p q s).rest x y in record { rest = h.rest; tree = ap Some h.tree }

-- it begins with its mark, or as what follows
behind_first : {m : Mark} {ts us : List Token} {v : Option Expr} (P : Option Terminal → Type 0) → DerivesBehind m ts us v → P (Some (terminals.Mark m)) → P (next us) → P (next ts)
behind_first P tree.none a b = b
behind_first P (tree.some p d) a b = subst P (sym (next_is p)) a

-- Settings.

prop_at : {ts us : List Token} {n : Name} → DerivesProp ts us n → (k : Keyword) → next ts ≡ Some (terminals.Reserved k) → names_property k ≡ true
prop_at (tree.name p) k e = let h = next_is p.1 in let g : Some terminals.Name ≡ Some (terminals.Reserved k) = sym h ∙ e in cc
prop_at (tree.word {k = l} v p n) k e = let g : Some (terminals.Reserved l) ≡ Some (terminals.Reserved k) = sym (next_is p) ∙ e in let h : l ≡ k = cc in subst (λ z. names_property z ≡ true) h v

trigger_no_prop : (k : Keyword) (e : Trigger) → trigger_of k ≡ Some e → names_property k ≡ true → ⊥
trigger_no_prop words.Posedge e h p = cc
trigger_no_prop words.Negedge e h p = cc
trigger_no_prop words.Bothedge e h p = cc
trigger_no_prop words.Level e h p = cc
trigger_no_prop words.Nonsticky e h p = cc
trigger_no_prop _ e h p = cc

pub local_once : {p q : Place} {ts us ts' us' : List Token} {a b : Set} → DerivesLocal p ts us a → DerivesLocal q ts' us' b → p ≡ q → Same ts ts' → Once plain_set us us' a b
local_once (tree.assigned n v e) (tree.assigned n' v' e') z s =
    let h = prop_once n n' s in
    let i = assigned_once v v' h.rest (next_is e) (next_is e') in
    record { rest = (taken e e' i.rest).rest; tree = λ j. record { prop = h.tree j; trigger = None; value = i.tree j; place = z j } }
local_once (tree.assigned n v e) (tree.triggered {k = k} {e = x} h w m f) z s = absurd (trigger_no_prop k x h (prop_at n k (next_same _ _ s ∙ next_is w)))
local_once (tree.triggered {k = k} {e = x} h w m f) (tree.assigned n v e) z s = absurd (trigger_no_prop k x h (prop_at n k (sym (next_same _ _ s) ∙ next_is w)))
local_once (tree.triggered {k = k} {e = x} h w m f) (tree.triggered {k = k'} {e = x'} h' w' m' f') z s =
    let e = apart _ _ s (next_is w) (next_is w') in
    let kk : k ≡ k' = cc in
    let ee : Some x ≡ Some x' = sym h ∙ ap trigger_of kk ∙ h' in
    let i = prop_once m m' (taken w w' s).rest in
    record { rest = (taken f f' i.rest).rest; tree = λ j. record { prop = i.tree j; trigger = ee j; value = None; place = z j } }

pub starts_once : (ts us : List Token) (p q : Place) → StartsAt ts p → StartsAt us q → Same ts us → p ≡ q
starts_once [] us p q a b s = absurd a
starts_once (t ∷ ts) [] p q a b s = absurd b
starts_once (t ∷ ts) (u ∷ us) p q a b s = let h : plain_token t ≡ plain_token u = cc in a ∙ ap (λ (z : Token). z.place) h ∙ sym b

pub set_once : {ts us ts' us' : List Token} {a b : Set} → DerivesSet ts us a → DerivesSet ts' us' b → Same ts ts' → Once plain_set us us' a b
set_once {ts = ts} {ts' = ts'} {a = a} {b = b} d e s = local_once d.local e.local (starts_once ts ts' a.place b.place d.at e.at s) s

-- Lists.

-- any number of phrases that end themselves, up to a brace
module _ {X : Type 0} {D : List Token → List Token → X → Type 0} (plain : X → X)
    (each : (ts us ts' us' : List Token) (x y : X) → D ts us x → D ts' us' y → Same ts ts' → Once plain us us' x y) (opens : (ts us : List Token) (x : X) → D ts us x → next ts ≡ Some (terminals.Mark marks.CloseBrace) → ⊥) where
  pub many_once : {ts us ts' us' : List Token} {xs ys : List X} → DerivesMany D ts us xs → DerivesMany D ts' us' ys → Same ts ts' → next us ≡ Some (terminals.Mark marks.CloseBrace) → next us' ≡ Some (terminals.Mark marks.CloseBrace) → Once (map plain) us us' xs ys
  many_once tree.no_more tree.no_more s x y = record { rest = s; tree = refl }
  many_once tree.no_more (tree.one_more d ds) s x y = absurd (opens _ _ _ d (sym (next_same _ _ s) ∙ x))
  many_once (tree.one_more d ds) tree.no_more s x y = absurd (opens _ _ _ d (next_same _ _ s ∙ y))
  many_once (tree.one_more d ds) (tree.one_more e es) s x y =
      let h = each _ _ _ _ _ _ d e s in
      let i = many_once ds es h.rest x y in
      record { rest = i.rest; tree = λ j. h.tree j ∷ i.tree j }

-- phrases with commas between, up to what is no comma
module _ {X : Type 0} {D : List Token → List Token → X → Type 0} (plain : X → X) (Ends : Option Terminal → Type 0) (comma : Ends (Some (terminals.Mark marks.Comma)))
    (each : (ts us ts' us' : List Token) (x y : X) → D ts us x → D ts' us' y → Same ts ts' → Ends (next us) → Ends (next us') → Once plain us us' x y) where
  pub listed_once : {ts us ts' us' : List Token} {xs ys : List X} → DerivesListed D ts us xs → DerivesListed D ts' us' ys → Same ts ts' → Ends (next us) → Ends (next us')
      → (next us ≡ Some (terminals.Mark marks.Comma) → ⊥) → (next us' ≡ Some (terminals.Mark marks.Comma) → ⊥) → Once (map plain) us us' xs ys
  listed_once (tree.last d) (tree.last e) s x y f g = let h = each _ _ _ _ _ _ d e s x y in record { rest = h.rest; tree = λ j. h.tree j ∷ [] }
  listed_once (tree.last d) (tree.next e c es) s x y f g = let h = each _ _ _ _ _ _ d e s x (subst Ends (sym (next_is c)) comma) in absurd (f (next_same _ _ h.rest ∙ next_is c))
  listed_once (tree.next e c es) (tree.last d) s x y f g = let h = each _ _ _ _ _ _ e d s (subst Ends (sym (next_is c)) comma) y in absurd (g (sym (next_same _ _ h.rest) ∙ next_is c))
  listed_once (tree.next d c ds) (tree.next e b es) s x y f g =
      let h = each _ _ _ _ _ _ d e s (subst Ends (sym (next_is c)) comma) (subst Ends (sym (next_is b)) comma) in
      let i = listed_once ds es (taken c b h.rest).rest x y f g in
      record { rest = i.rest; tree = λ j. h.tree j ∷ i.tree j }

  -- such a list in round brackets behind #, or nothing
  pub hashed_once : {ts us ts' us' : List Token} {xs ys : List X} → Ends (Some (terminals.Mark marks.CloseParen)) → DerivesHashed D ts us xs → DerivesHashed D ts' us' ys → Same ts ts'
      → (next us ≡ Some (terminals.Mark marks.Hash) → ⊥) → (next us' ≡ Some (terminals.Mark marks.Hash) → ⊥) → Once (map plain) us us' xs ys
  hashed_once paren tree.none tree.none s f g = record { rest = s; tree = refl }
  hashed_once paren tree.none (tree.some h o ds c) s f g = absurd (f (next_same _ _ s ∙ next_is h))
  hashed_once paren (tree.some h o ds c) tree.none s f g = absurd (g (sym (next_same _ _ s) ∙ next_is h))
  hashed_once paren (tree.some h o ds c) (tree.some h' o' ds' c') s f g =
      let no : (x : Token) (us vs : List Token) → IsMark marks.CloseParen us x vs → next us ≡ Some (terminals.Mark marks.Comma) → ⊥ = λ x us vs p e. cc (next_is p) in
      let i = listed_once ds ds' (taken o o' (taken h h' s).rest).rest (subst Ends (sym (next_is c)) paren) (subst Ends (sym (next_is c')) paren) (no _ _ _ c) (no _ _ _ c') in
      record { rest = (taken c c' i.rest).rest; tree = i.tree }

-- Entries.

prop_opens : {ts us : List Token} {n : Name} {m : Mark} → DerivesProp ts us n → next ts ≡ Some (terminals.Mark m) → ⊥
prop_opens (tree.name p) e = cc (next_is p.1)
prop_opens (tree.word v p n) e = cc (next_is p)

local_opens : {q : Place} {m : Mark} {ts us : List Token} {s : Set} → DerivesLocal q ts us s → next ts ≡ Some (terminals.Mark m) → ⊥
local_opens (tree.assigned n v e) h = prop_opens n h
local_opens (tree.triggered x w n e) h = cc (next_is w)

pub sets_once : {ts us ts' us' : List Token} {a b : List Set} → DerivesSets ts us a → DerivesSets ts' us' b → Same ts ts' → next us ≡ Some (terminals.Mark marks.Semicolon) → next us' ≡ Some (terminals.Mark marks.Semicolon) → Once (map plain_set) us us' a b
sets_once tree.none tree.none s x y = record { rest = s; tree = refl }
sets_once tree.none (tree.some o ds c) s x y = let h = apart _ _ s x (next_is o) in cc
sets_once (tree.some o ds c) tree.none s x y = let h = apart _ _ s (next_is o) y in cc
sets_once (tree.some o ds c) (tree.some o' ds' c') s x y =
    let i = many_once plain_set (λ ts us vs ws x y d e z. set_once d e z) (λ ts us x d e. local_opens d.local e) ds ds' (taken o o' s).rest (next_is c) (next_is c') in
    record { rest = (taken c c' i.rest).rest; tree = i.tree }

-- what may follow the value of an entry
abbrev EndsEntry : Option Terminal → Type 0
EndsEntry a = (a ≡ Some (terminals.Mark marks.OpenBrace)) ⊎ (a ≡ Some (terminals.Mark marks.Semicolon))

sets_first : {ts us : List Token} {a : List Set} → DerivesSets ts us a → next us ≡ Some (terminals.Mark marks.Semicolon) → EndsEntry (next ts)
sets_first tree.none x = inr x
sets_first (tree.some o ds c) x = inl (next_is o)

entry_ends : (a : Option Terminal) → EndsEntry a → (ends_expr a ≡ true) × (a ≡ Some (terminals.Mark marks.Equals) → ⊥)
entry_ends a (inl e) = (ap ends_expr e, λ h. cc)
entry_ends a (inr e) = (ap ends_expr e, λ h. cc)

pub entry_once : {ts us ts' us' : List Token} {a b : Entry} → DerivesEntry ts us a → DerivesEntry ts' us' b → Same ts ts' → Once plain_entry us us' a b
entry_once (tree.entry n v ss e) (tree.entry n' v' ss' e') s =
    let h = name_once n n' s in
    let x = entry_ends _ (sets_first ss (next_is e)) in
    let y = entry_ends _ (sets_first ss' (next_is e')) in
    let i = behind_once v v' h.rest x.0 y.0 x.1 y.1 in
    let k = sets_once ss ss' i.rest (next_is e) (next_is e') in
    record { rest = (taken e e' k.rest).rest; tree = λ j. record { name = h.tree j; value = i.tree j; sets = nowhere (k.tree j) } }

entry_opens : {ts us : List Token} {a : Entry} → DerivesEntry ts us a → next ts ≡ Some (terminals.Mark marks.CloseBrace) → ⊥
entry_opens (tree.entry n v ss e) h = cc (next_is n.1)

pub entries_once : {ts us ts' us' : List Token} {a b : List Entry} → DerivesMany DerivesEntry ts us a → DerivesMany DerivesEntry ts' us' b → Same ts ts' → next us ≡ Some (terminals.Mark marks.CloseBrace) → next us' ≡ Some (terminals.Mark marks.CloseBrace)
    → Once (map plain_entry) us us' a b
entries_once d e s x y = many_once plain_entry (λ ts us vs ws x y d e z. entry_once d e z) (λ ts us x d e. entry_opens d e) d e s x y

-- Parameters and arguments.

type_once : {ts us ts' us' : List Token} {a b : PType} → DerivesType ts us a → DerivesType ts' us' b → Same ts ts' → next us ≡ Some terminals.Name → next us' ≡ Some terminals.Name → Same us us' × (a ≡ b)
type_once (tree.plain {k = k} {p = a} e p) (tree.plain {k = l} {p = b} f q) s x y =
    let h = apart _ _ s (next_is p) (next_is q) in
    let kk : k ≡ l = cc in
    let pp : Some a ≡ Some b = sym e ∙ ap type_of kk ∙ f in
    let pq : a ≡ b = cc in
    ((taken p q s).rest, pq)
type_once (tree.plain e p) (tree.unsigned f q r) s x y = let h = apart _ _ (taken p q s).rest x (next_is r) in cc
type_once (tree.unsigned f q r) (tree.plain e p) s x y = let h = apart _ _ (taken q p s).rest (next_is r) y in cc
type_once (tree.unsigned f q r) (tree.unsigned f' q' r') s x y = ((taken r r' (taken q q' s).rest).rest, refl)

-- what may follow a parameter
abbrev pub EndsParam : Option Terminal → Type 0
EndsParam a = (a ≡ Some (terminals.Mark marks.Comma)) ⊎ (a ≡ Some (terminals.Mark marks.CloseParen))

param_ends : (a : Option Terminal) → EndsParam a → (ends_expr a ≡ true) × (a ≡ Some (terminals.Mark marks.Equals) → ⊥)
param_ends a (inl e) = (ap ends_expr e, λ h. cc)
param_ends a (inr e) = (ap ends_expr e, λ h. cc)

param_once : {ts us ts' us' : List Token} {a b : Param} → DerivesParam ts us a → DerivesParam ts' us' b → Same ts ts' → EndsParam (next us) → EndsParam (next us') → Once plain_param us us' a b
param_once (tree.param t n v) (tree.param t' n' v') s x y =
    let g = type_once t t' s (next_is n.1) (next_is n'.1) in
    let h = name_once n n' g.0 in
    let a = param_ends _ x in
    let b = param_ends _ y in
    let i = behind_once v v' h.rest a.0 b.0 a.1 b.1 in
    record { rest = i.rest; tree = λ j. record { name = h.tree j; ptype = g.1 j; default = i.tree j } }

pub params_once : {ts us ts' us' : List Token} {a b : List Param} → DerivesHashed DerivesParam ts us a → DerivesHashed DerivesParam ts' us' b → Same ts ts' → (next us ≡ Some (terminals.Mark marks.Hash) → ⊥) → (next us' ≡ Some (terminals.Mark marks.Hash) → ⊥)
    → Once (map plain_param) us us' a b
params_once d e s x y = hashed_once plain_param EndsParam (inl refl) (λ ts us vs ws x y d e z f g. param_once d e z f g) (inr refl) d e s x y

arg_once : {ts us ts' us' : List Token} {a b : Arg} → DerivesArg ts us a → DerivesArg ts' us' b → Same ts ts' → Once plain_arg us us' a b
arg_once (tree.arg d n o e c) (tree.arg d' n' o' e' c') s =
    let h = name_once n n' (taken d d' s).rest in
    let i = expr_once e e' (taken o o' h.rest).rest (ap ends_expr (next_is c)) (ap ends_expr (next_is c')) in
    record { rest = (taken c c' i.rest).rest; tree = λ j. record { name = h.tree j; value = i.tree j } }

args_once : {ts us ts' us' : List Token} {a b : List Arg} → DerivesHashed DerivesArg ts us a → DerivesHashed DerivesArg ts' us' b → Same ts ts' → (next us ≡ Some (terminals.Mark marks.Hash) → ⊥) → (next us' ≡ Some (terminals.Mark marks.Hash) → ⊥)
    → Once (map plain_arg) us us' a b
args_once d e s x y = hashed_once plain_arg (λ a. Unit {0}) tt (λ ts us vs ws x y d e z f g. arg_once d e z) tt d e s x y

-- Instances.

-- how far on in an instance a terminal stands
abbrev pub rank : Option Terminal → ℕ
rank (Some (terminals.Mark marks.Equals)) = 1
rank (Some (terminals.Mark marks.At)) = 2
rank (Some (terminals.Mark marks.PlusEquals)) = 3
rank (Some (terminals.Mark marks.PercentEquals)) = 4
rank (Some (terminals.Mark marks.Comma)) = 5
rank (Some (terminals.Mark marks.Semicolon)) = 5
rank _ = 0

abbrev pub From : ℕ → Option Terminal → Type 0
From k a = k ≤ rank a

rank_ends : (a : Option Terminal) → From 1 a → ends_expr a ≡ true
rank_ends (Some (terminals.Mark marks.Equals)) h = refl
rank_ends (Some (terminals.Mark marks.At)) h = refl
rank_ends (Some (terminals.Mark marks.PlusEquals)) h = refl
rank_ends (Some (terminals.Mark marks.PercentEquals)) h = refl
rank_ends (Some (terminals.Mark marks.Comma)) h = refl
rank_ends (Some (terminals.Mark marks.Semicolon)) h = refl
rank_ends _ h = absurd (omega (arith, h))

past : {a b : Option Terminal} (k : ℕ) → From k a → rank b + 1 ≤ k → a ≡ b → ⊥
past k h l e = let f = ap rank e in omega (arith, h, l, f)

part_once : {m : Mark} {ts us ts' us' : List Token} {v w : Option Expr} (k : ℕ) → rank (Some (terminals.Mark m)) + 1 ≤ k → 1 ≤ k → DerivesBehind m ts us v → DerivesBehind m ts' us' w → Same ts ts' → From k (next us) → From k (next us') → Once (option_map plain_expr) us us' v w
part_once k l o d e s x y = behind_once d e s (rank_ends _ (omega (arith, o, x))) (rank_ends _ (omega (arith, o, y))) (past k x l) (past k y l)

part_first : {m : Mark} {ts us : List Token} {v : Option Expr} (k j : ℕ) → k ≤ rank (Some (terminals.Mark m)) → k ≤ j → DerivesBehind m ts us v → From j (next us) → From k (next ts)
part_first k j l o d x = behind_first (From k) d l (omega (arith, o, x))

abbrev plain_shape : List Expr × Option (Expr × Expr) → List Expr × Option (Expr × Expr)
plain_shape s = (map plain_expr s.0, option_map plain_pair s.1)

index_ends : (a : Option Terminal) → From 1 a → no_index a ≡ true
index_ends a h = and-left (no_index a) (no_dot a) (path_ends a (primary_ends a (binary_ends a (rank_ends a h))))

not_range : {t u : Token} {ts us vs ws xs ts' : List Token} {e : Expr} {es : List Expr} → DerivesIndices ts us es → IsMark marks.OpenBracket ts' t vs → DerivesExpr vs ws e → IsMark marks.Colon ws u xs → Same ts ts' → From 1 (next us) → ⊥
not_range tree.no_index o d c s x = let h : rank (next _) ≡ 0 = ap rank (next_same _ _ s ∙ next_is o) in omega (arith, x, h)
not_range (tree.next_index o' d' c' z) o d c s x =
    let h = expr_once d' d (taken o' o s).rest (ap ends_expr (next_is c')) (ap ends_expr (next_is c)) in
    let k = apart _ _ h.rest (next_is c') (next_is c) in
    cc

shape_once : {ts us ts' us' : List Token} {es fs : List Expr} {p q : Option (Expr × Expr)} → DerivesShape ts us es p → DerivesShape ts' us' fs q → Same ts ts' → From 1 (next us) → From 1 (next us') → Once plain_shape us us' (es, p) (fs, q)
shape_once {us = us} {us' = us'} (tree.dims d) (tree.dims e) s x y = let h = indices_once d e s (index_ends (next us) x) (index_ends (next us') y) in record { rest = h.rest; tree = λ j. (h.tree j, None) }
shape_once (tree.dims d) (tree.range o h c l e) s x y = absurd (not_range d o h c s x)
shape_once (tree.range o h c l e) (tree.dims d) s x y = absurd (not_range d o h c (sym s) y)
shape_once (tree.range o h c l e) (tree.range o' h' c' l' e') s x y =
    let i = expr_once h h' (taken o o' s).rest (ap ends_expr (next_is c)) (ap ends_expr (next_is c')) in
    let k = expr_once l l' (taken c c' i.rest).rest (ap ends_expr (next_is e)) (ap ends_expr (next_is e')) in
    record { rest = (taken e e' k.rest).rest; tree = λ j. ([], Some (i.tree j, k.tree j)) }

behind-plain : (r : Option (Bor Expr)) → plain_behind r ≡ option_map nowhere (option_map plain_expr (option_copied r))
behind-plain None = refl
behind-plain (Some x) = refl

range-plain : (r : Option (Bor (Expr × Expr))) → plain_range r ≡ option_map nowhere (option_map plain_pair (option_copied r))
range-plain None = refl
range-plain (Some x) = refl

behind_alike : (r q : Option (Bor Expr)) → option_map plain_expr (option_copied r) ≡ option_map plain_expr (option_copied q) → plain_behind r ≡ plain_behind q
behind_alike r q h = behind-plain r ∙ (ap (option_map nowhere) h ∙ sym (behind-plain q))

range_alike : (r q : Option (Bor (Expr × Expr))) → option_map plain_pair (option_copied r) ≡ option_map plain_pair (option_copied q) → plain_range r ≡ plain_range q
range_alike r q h = range-plain r ∙ (ap (option_map nowhere) h ∙ sym (range-plain q))

inst_once : {ts us ts' us' : List Token} {a b : Inst} → DerivesInst ts us a → DerivesInst ts' us' b → Same ts ts' → From 5 (next us) → From 5 (next us') → Once plain_inst us us' a b
inst_once (tree.inst {i = a} n sh p q r t) (tree.inst {i = b} n' sh' p' q' r' t') s x y =
    let x4 = part_first 4 5 (omega arith) (omega arith) t x in
    let x3 = part_first 3 4 (omega arith) (omega arith) r x4 in
    let x2 = part_first 2 3 (omega arith) (omega arith) q x3 in
    let x1 = part_first 1 2 (omega arith) (omega arith) p x2 in
    let y4 = part_first 4 5 (omega arith) (omega arith) t' y in
    let y3 = part_first 3 4 (omega arith) (omega arith) r' y4 in
    let y2 = part_first 2 3 (omega arith) (omega arith) q' y3 in
    let y1 = part_first 1 2 (omega arith) (omega arith) p' y2 in
    let h = name_once n n' s in
    let i = shape_once sh sh' h.rest x1 y1 in
    let j1 = part_once 2 (omega arith) (omega arith) p p' i.rest x2 y2 in
    let j2 = part_once 3 (omega arith) (omega arith) q q' j1.rest x3 y3 in
    let j3 = part_once 4 (omega arith) (omega arith) r r' j2.rest x4 y4 in
    let j4 = part_once 5 (omega arith) (omega arith) t t' j3.rest x y in
    let range = range_alike a.range b.range (ap (λ z. z.1) i.tree) in
    let reset = behind_alike a.reset b.reset j1.tree in
    let at = behind_alike a.at b.at j2.tree in
    let stride = behind_alike a.stride b.stride j3.tree in
    let align = behind_alike a.align b.align j4.tree in
    record { rest = j4.rest; tree = λ j. record { name = h.tree j; dims = nowhere (i.tree j).0; range = range j; reset = reset j; at = at j; stride = stride j; align = align j } }

pub insts_listed_once : {ts us ts' us' : List Token} {a b : List Inst} → DerivesListed DerivesInst ts us a → DerivesListed DerivesInst ts' us' b → Same ts ts' → next us ≡ Some (terminals.Mark marks.Semicolon) → next us' ≡ Some (terminals.Mark marks.Semicolon) → Once (map plain_inst) us us' a b
insts_listed_once d e s x y = listed_once plain_inst (From 5) (omega arith) (λ ts us vs ws x y d e z f g. inst_once d e z f g) d e s (subst (From 5) (sym x) (omega arith)) (subst (From 5) (sym y) (omega arith)) (λ h. cc) (λ h. cc)

pub listed_first : {ts us : List Token} {a : List Inst} → DerivesListed DerivesInst ts us a → next ts ≡ Some terminals.Name
listed_first (tree.last (tree.inst n sh p q r t)) = next_is n.1
listed_first (tree.next (tree.inst n sh p q r t) c ds) = next_is n.1

pub insts_once : {ts us ts' us' : List Token} {a b : Insts} → DerivesInsts ts us a → DerivesInsts ts' us' b → Same ts ts' → next us ≡ Some (terminals.Mark marks.Semicolon) → next us' ≡ Some (terminals.Mark marks.Semicolon) → Once plain_insts us us' a b
insts_once (tree.insts a l) (tree.insts a' l') s x y =
    let f = listed_first l in
    let g = listed_first l' in
    let h = args_once a a' s (λ e. cc) (λ e. cc) in
    let i = insts_listed_once l l' h.rest x y in
    record { rest = i.rest; tree = λ j. record { args = nowhere (h.tree j); list = nowhere (i.tree j) } }

-- instances begin with # or a name
pub insts_first : {ts us : List Token} {a : Insts} → DerivesInsts ts us a → (next ts ≡ Some (terminals.Mark marks.Hash)) ⊎ (next ts ≡ Some terminals.Name)
insts_first (tree.insts tree.none l) = inr (listed_first l)
insts_first (tree.insts (tree.some h o ds c) l) = inl (next_is h)

pub internal_once : {ts us ts' us' : List Token} → SkipsInternal ts us → SkipsInternal ts' us' → Same ts ts' → (next us ≡ Some (terminals.Reserved words.Internal) → ⊥) → (next us' ≡ Some (terminals.Reserved words.Internal) → ⊥) → Same us us'
internal_once tree.none tree.none s f g = s
internal_once tree.none (tree.some p) s f g = absurd (f (next_same _ _ s ∙ next_is p))
internal_once (tree.some p) tree.none s f g = absurd (g (sym (next_same _ _ s) ∙ next_is p))
internal_once (tree.some p) (tree.some q) s f g = (taken p q s).rest

pub no_internal : {ts us : List Token} {a : Insts} → DerivesInsts ts us a → next ts ≡ Some (terminals.Reserved words.Internal) → ⊥
no_internal d h = go (insts_first d) h
  where
    go : {x : Option Terminal} → (x ≡ Some (terminals.Mark marks.Hash)) ⊎ (x ≡ Some terminals.Name) → x ≡ Some (terminals.Reserved words.Internal) → ⊥
    go (inl e) k = cc
    go (inr e) k = cc

no_semicolon : {ts us : List Token} {a : Insts} → DerivesInsts ts us a → next ts ≡ Some (terminals.Mark marks.Semicolon) → ⊥
no_semicolon d h = go (insts_first d) h
  where
    go : {x : Option Terminal} → (x ≡ Some (terminals.Mark marks.Hash)) ⊎ (x ≡ Some terminals.Name) → x ≡ Some (terminals.Mark marks.Semicolon) → ⊥
    go (inl e) k = cc
    go (inr e) k = cc

skipped : {ts us vs : List Token} {a : Insts} → SkipsInternal ts us → DerivesInsts us vs a → next ts ≡ Some (terminals.Mark marks.Semicolon) → ⊥
skipped tree.none d h = no_semicolon d h
skipped (tree.some p) d h = cc (next_is p)

pub made_once : {ts us ts' us' : List Token} {a b : Option Insts} → DerivesMade ts us a → DerivesMade ts' us' b → Same ts ts' → next us ≡ Some (terminals.Mark marks.Semicolon) → next us' ≡ Some (terminals.Mark marks.Semicolon) → Once (option_map plain_insts) us us' a b
made_once tree.none tree.none s x y = record { rest = s; tree = refl }
made_once tree.none (tree.some i d) s x y = absurd (skipped i d (sym (next_same _ _ s) ∙ x))
made_once (tree.some i d) tree.none s x y = absurd (skipped i d (next_same _ _ s ∙ y))
made_once (tree.some i d) (tree.some i' d') s x y = let h = insts_once d d' (internal_once i i' s (no_internal d) (no_internal d')) x y in record { rest = h.rest; tree = ap Some h.tree }

pub alias_once : {ts us ts' us' : List Token} {a b : Option Name} → DerivesAlias ts us a → DerivesAlias ts' us' b → Same ts ts' → next us ≡ Some terminals.Name → next us' ≡ Some terminals.Name → Once (option_map plain_name) us us' a b
alias_once tree.none tree.none s x y = record { rest = s; tree = refl }
alias_once tree.none (tree.some p n) s x y = let h = apart _ _ s x (next_is p) in cc
alias_once (tree.some p n) tree.none s x y = let h = apart _ _ s (next_is p) y in cc
alias_once (tree.some p n) (tree.some p' n') s x y = let h = name_once n n' (taken p p' s).rest in record { rest = h.rest; tree = ap Some h.tree }
