-- Which tree a list of tokens derives: each relation says what stands before the second list in the first.
use Rattle.std.specs.Prelude.{◌≡◌, ℕ, List, [], ◌∷◌}
use Rattle.std.specs.Borrow.{Bor}
use Rattle.rb_grammar.specs.Readings.{Takes}
use Rattle.rb_grammar_example.specs.declared.token.Mark.{Mark}
use Rattle.rb_grammar_example.specs.declared.token.Mark.TheVariants as marks
use Rattle.rb_grammar_example.specs.declared.token.TokenKind.TheVariants as kinds
use Rattle.rb_grammar_example.specs.declared.token.Token.{Token}
use Rattle.rb_grammar_example.specs.declared.token.Terminal.TheVariants as terminals
use Rattle.rb_grammar_example.specs.declared.tree.Name.{Name}
use Rattle.rb_grammar_example.specs.declared.tree.Value.{Value}
use Rattle.rb_grammar_example.specs.declared.tree.Value.TheVariants as values
use Rattle.rb_grammar_example.specs.declared.tree.Bound.{Bound}
use Rattle.rb_grammar_example.specs.declared.tree.Bound.TheVariants as bounds
use Rattle.rb_grammar_example.specs.declared.tree.Entry.{Entry}
use Rattle.rb_grammar_example.specs.Grammar.{settings}

abbrev pub IsMark : Mark → List Token → Token → List Token → Type 0
IsMark m ts t us = Takes settings (terminals.Mark m) ts t us

abbrev pub IsName : List Token → List Token → Name → Type 0
IsName ts us n = (t : Token) × Takes settings terminals.Name ts t us × (n.text ≡ t.text) × (n.place ≡ t.place)

abbrev pub IsNumber : List Token → List Token → ℕ → Type 0
IsNumber ts us n = (t : Token) × Takes settings terminals.Number ts t us × (t.kind ≡ kinds.Number n)

mutual
  -- value = number [ ".." number ] | name | values .
  pub data DerivesValue : List Token → List Token → Value → Type 0 where
    number : {ts us : List Token} {n : ℕ} → IsNumber ts us n → DerivesValue ts us (values.Number n)
    range : {t : Token} {ts us vs ws : List Token} {n m : ℕ} → IsNumber ts us n → IsMark marks.To us t vs → IsNumber vs ws m → DerivesValue ts ws (values.Range n m)
    name : {ts us : List Token} {n : Name} → IsName ts us n → DerivesValue ts us (values.Name n)
    list : {ts us : List Token} {xs : Bor (List Value)} → DerivesValues ts us xs.now → DerivesValue ts us (values.List xs)

  -- values = "[" [ value { "," value } ] "]" .
  pub data DerivesValues : List Token → List Token → List Value → Type 0 where
    none : {t u : Token} {ts us vs : List Token} → IsMark marks.Open ts t us → IsMark marks.Close us u vs → DerivesValues ts vs []
    some : {t : Token} {ts us vs ws : List Token} {x : Value} {xs : List Value} → IsMark marks.Open ts t us → DerivesValue us vs x → DerivesMore vs ws xs → DerivesValues ts ws (x ∷ xs)

  -- behind a value: { "," value } "]"
  pub data DerivesMore : List Token → List Token → List Value → Type 0 where
    close : {t : Token} {ts us : List Token} → IsMark marks.Close ts t us → DerivesMore ts us []
    next : {t : Token} {ts us vs ws : List Token} {x : Value} {xs : List Value} → IsMark marks.Comma ts t us → DerivesValue us vs x → DerivesMore vs ws xs → DerivesMore ts ws (x ∷ xs)

-- bound = "=" value | "=>" name .
pub data DerivesBound : List Token → List Token → Bound → Type 0 where
  value : {t : Token} {ts us vs : List Token} {v : Value} → IsMark marks.Equals ts t us → DerivesValue us vs v → DerivesBound ts vs (bounds.Value v)
  alias : {t : Token} {ts us vs : List Token} {n : Name} → IsMark marks.Arrow ts t us → IsName us vs n → DerivesBound ts vs (bounds.Alias n)

-- entry = name bound ";" .
pub data DerivesEntry : List Token → List Token → Entry → Type 0 where
  entry : {t : Token} {ts us vs ws : List Token} {n : Name} {b : Bound} → IsName ts us n → DerivesBound us vs b → IsMark marks.Semicolon vs t ws
      → DerivesEntry ts ws (record { name = n; bound = b })

-- source = { entry } .
pub data DerivesEntries : List Token → List Token → List Entry → Type 0 where
  no_entry : {ts : List Token} → DerivesEntries ts ts []
  one_more : {ts us vs : List Token} {e : Entry} {es : List Entry} → DerivesEntry ts us e → DerivesEntries us vs es → DerivesEntries ts vs (e ∷ es)
