-- Tokens that are the same apart from their addresses, and what a phrase may be followed by.
use Rattle.std.proofs.Common.{◌≡◌, Bool, true, false, ◌&&◌, refl, sym, ap, ◌∙◌, List, [], ◌∷◌, map, Option, Some, None}
use Rattle.plain_lemmas.proofs.Bools.{and-left, and-right}
use Rattle.rb_grammar.specs.Readings.{Takes}
use Rattle.rdl_tree.specs.declared.expr.Name.{Name}
use Rattle.rdl_tree.specs.declared.expr.Op.{Op}
use Rattle.rdl_tree.specs.declared.token.Mark.{Mark}
use Rattle.rdl_tree.specs.declared.token.Mark.TheVariants as marks
use Rattle.rdl_tree.specs.declared.token.Token.{Token}
use Rattle.rdl_tree.specs.declared.token.Terminal.{Terminal}
use Rattle.rdl_tree.specs.declared.token.Terminal.TheVariants as terminals
use Rattle.rdl_tree.specs.Grammar.{grammar}
use Rattle.rdl_tree.specs.Tokens.{terminal_of}
use Rattle.rdl_tree.specs.Tree.{IsName, IsNameOf, DerivesProp, operator_of}
use Rattle.rdl_tree.specs.Tree as tree
use Rattle.rdl_tree.proofs.Spellings.{exact}
use Rattle.rdl_verdict_laws.specs.Plain.{nowhere, plain_name, plain_token}

-- the same tokens, apart from where their texts lie
abbrev pub Same : List Token → List Token → Type 0
Same ts us = map plain_token ts ≡ map plain_token us

-- two trees are one apart from their addresses, and so are the tokens behind them
pub record Once {X : Type 0} (plain : X → X) (us vs : List Token) (x y : X) : Type 0 where
  pub rest : Same us vs
  pub tree : plain x ≡ plain y

-- the terminal of the next token
abbrev pub next : List Token → Option Terminal
next [] = None
next (t ∷ ts) = Some (terminal_of t.kind)

pub next_same : (ts us : List Token) → Same ts us → next ts ≡ next us
next_same [] [] e = refl
next_same [] (u ∷ us) e = cc
next_same (t ∷ ts) [] e = cc
next_same (t ∷ ts) (u ∷ us) e = let h : plain_token t ≡ plain_token u = cc in ap (λ z. Some (terminal_of z.kind)) h

pub next_is : {a : Terminal} {t : Token} {ts us : List Token} → Takes grammar a ts t us → next ts ≡ Some a
next_is {a = a} {t = t} p = ap next p.list ∙ ap Some (sym (exact a (terminal_of t.kind) p.token))

-- what is taken from the same tokens is the same
pub record Taken (t u : Token) (us vs : List Token) : Type 0 where
  pub kind : t.kind ≡ u.kind
  pub text : nowhere t.text.now ≡ nowhere u.text.now
  pub place : t.place ≡ u.place
  pub rest : Same us vs

pub taken : {a b : Terminal} {t u : Token} {ts ts' us vs : List Token} → Takes grammar a ts t us → Takes grammar b ts' u vs → Same ts ts' → Taken t u us vs
taken {t = t} {u = u} {us = us} {vs = vs} p q s =
    let e : plain_token t ∷ map plain_token us ≡ plain_token u ∷ map plain_token vs = sym (ap (map plain_token) p.list) ∙ s ∙ ap (map plain_token) q.list in
    let h : plain_token t ≡ plain_token u = cc in
    record { kind = ap (λ (z : Token). z.kind) h; text = ap (λ (z : Token). z.text) h; place = ap (λ (z : Token). z.place) h; rest = cc }

-- Names.

name_is : {m n : Name} {t u : Token} {us vs : List Token} → IsNameOf m t → IsNameOf n u → Taken t u us vs → plain_name m ≡ plain_name n
name_is {m = m} {n = n} p q e =
    let text : nowhere m.text.now ≡ nowhere n.text.now = ap (λ z. nowhere z.now) p.0 ∙ e.text ∙ sym (ap (λ z. nowhere z.now) q.0) in
    let place : m.place ≡ n.place = p.1 ∙ e.place ∙ sym q.1 in
    λ i. record { text = text i; place = place i }

pub name_once : {ts us ts' us' : List Token} {m n : Name} → IsName ts us m → IsName ts' us' n → Same ts ts' → Once plain_name us us' m n
name_once p q s = let e = taken p.1 q.1 s in record { rest = e.rest; tree = name_is p.2 q.2 e }

prop_at : {ts us : List Token} {n : Name} → DerivesProp ts us n → (a : Terminal) × (t : Token) × Takes grammar a ts t us × IsNameOf n t
prop_at (tree.name p) = (terminals.Name, p.0, p.1, p.2)
prop_at (tree.word {t = t} {k = k} v p n) = (terminals.Reserved k, t, p, n)

pub prop_once : {ts us ts' us' : List Token} {m n : Name} → DerivesProp ts us m → DerivesProp ts' us' n → Same ts ts' → Once plain_name us us' m n
prop_once d e s =
    let p = prop_at d in
    let q = prop_at e in
    let h = taken p.2 q.2 s in
    record { rest = h.rest; tree = name_is p.3 q.3 h }

-- What ends a phrase: the next terminal is none with which it could have gone on.

abbrev pub no_index : Option Terminal → Bool
no_index (Some (terminals.Mark marks.OpenBracket)) = false
no_index _ = true

abbrev pub no_dot : Option Terminal → Bool
no_dot (Some (terminals.Mark marks.Dot)) = false
no_dot _ = true

abbrev pub no_arrow : Option Terminal → Bool
no_arrow (Some (terminals.Mark marks.Arrow)) = false
no_arrow _ = true

abbrev pub no_colons : Option Terminal → Bool
no_colons (Some (terminals.Mark marks.ColonColon)) = false
no_colons _ = true

abbrev pub no_question : Option Terminal → Bool
no_question (Some (terminals.Mark marks.Question)) = false
no_question _ = true

abbrev pub is_none : Option Op → Bool
is_none None = true
is_none (Some o) = false

abbrev pub no_operator : Option Terminal → Bool
no_operator (Some (terminals.Mark m)) = is_none (operator_of m)
no_operator _ = true

abbrev pub ends_path : Option Terminal → Bool
ends_path a = no_index a && no_dot a

abbrev pub ends_primary : Option Terminal → Bool
ends_primary a = ends_path a && (no_arrow a && no_colons a)

abbrev pub ends_binary : Option Terminal → Bool
ends_binary a = ends_primary a && no_operator a

abbrev pub ends_expr : Option Terminal → Bool
ends_expr a = ends_binary a && no_question a

pub path_ends : (a : Option Terminal) → ends_primary a ≡ true → ends_path a ≡ true
path_ends a h = and-left (ends_path a) (no_arrow a && no_colons a) h

pub primary_ends : (a : Option Terminal) → ends_binary a ≡ true → ends_primary a ≡ true
primary_ends a h = and-left (ends_primary a) (no_operator a) h

pub binary_ends : (a : Option Terminal) → ends_expr a ≡ true → ends_binary a ≡ true
binary_ends a h = and-left (ends_binary a) (no_question a) h

-- an operator ends a primary, and goes on with a chain
pub operator_ends : (m : Mark) (o : Op) → operator_of m ≡ Some o → ends_primary (Some (terminals.Mark m)) ≡ true
operator_ends marks.OrOr o e = refl
operator_ends marks.OpenBracket o e = cc
operator_ends marks.Dot o e = cc
operator_ends marks.Arrow o e = cc
operator_ends marks.ColonColon o e = cc
operator_ends _ o e = refl

pub operator_goes_on : (m : Mark) (o : Op) (a : Option Terminal) → operator_of m ≡ Some o → a ≡ Some (terminals.Mark m) → ends_binary a ≡ true → ⊥
operator_goes_on m o a e h f =
    let g : is_none (operator_of m) ≡ true = sym (ap no_operator h) ∙ and-right (ends_primary a) (no_operator a) f in
    let k : is_none (Some o) ≡ true = sym (ap is_none e) ∙ g in
    cc
