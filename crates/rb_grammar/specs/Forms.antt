-- Grammars as tables, over any terminals, rules and tokens, and which lists of tokens fit a form or begin one.
use Rattle.std.specs.Prelude.{◌≡◌, Bool, true, false, IsTrue, List, [], ◌∷◌, ◌++◌}

infixr 30 ◌then◌
infixr 20 ◌or◌
-- the right side of a production
pub data Form (T N : Type 0) : Type 0 where
  Tok : T → Form T N
  Non : N → Form T N
  ◌or◌ : Form T N → Form T N → Form T N
  Opt : Form T N → Form T N
  Many : Form T N → Form T N
  ◌then◌ : Form T N → Form T N → Form T N

-- a grammar: which tokens a terminal is, and what each rule stands for
pub record Grammar (T N K : Type 0) : Type 0 where
  pub is : T → K → Bool
  pub rule : N → Form T N

module _ {T N K : Type 0} (G : Grammar T N K) where
  -- the list is one of the form
  pub data Fits : Form T N → List K → Type 0 where
    token : {a : T} {t : K} → IsTrue (G.is a t) → Fits (Tok a) (t ∷ [])
    rule : {x : N} {ts : List K} → Fits (G.rule x) ts → Fits (Non x) ts
    first : {f g : Form T N} {ts : List K} → Fits f ts → Fits (f or g) ts
    second : {f g : Form T N} {ts : List K} → Fits g ts → Fits (f or g) ts
    none : {f : Form T N} → Fits (Opt f) []
    some : {f : Form T N} {ts : List K} → Fits f ts → Fits (Opt f) ts
    no_turn : {f : Form T N} → Fits (Many f) []
    turn : {f : Form T N} {ts us vs : List K} → ts ≡ us ++ vs → Fits f us → Fits (Many f) vs → Fits (Many f) ts
    both : {f g : Form T N} {ts us vs : List K} → ts ≡ us ++ vs → Fits f us → Fits g vs → Fits (f then g) ts

  -- the list begins one of the form
  pub data Begins : Form T N → List K → Type 0 where
    empty : {f : Form T N} → Begins f []
    token : {a : T} {t : K} → IsTrue (G.is a t) → Begins (Tok a) (t ∷ [])
    rule : {x : N} {ts : List K} → Begins (G.rule x) ts → Begins (Non x) ts
    first : {f g : Form T N} {ts : List K} → Begins f ts → Begins (f or g) ts
    second : {f g : Form T N} {ts : List K} → Begins g ts → Begins (f or g) ts
    some : {f : Form T N} {ts : List K} → Begins f ts → Begins (Opt f) ts
    -- a front of it is whole turns, and the rest begins one more
    turns : {f : Form T N} {ts us vs : List K} → ts ≡ us ++ vs → Fits (Many f) us → Begins f vs → Begins (Many f) ts
    in_first : {f g : Form T N} {ts : List K} → Begins f ts → Begins (f then g) ts
    -- a front of it fits the first part, and the rest begins the second
    in_second : {f g : Form T N} {ts us vs : List K} → ts ≡ us ++ vs → Fits f us → Begins g vs → Begins (f then g) ts

  -- where a list stops being of the form, and what is left there: before the first token with which it no longer
  -- begins one, or at its end where it begins one and is none
  pub data StopsAt (f : Form T N) : List K → List K → Type 0 where
    at_token : {ts : List K} (front after : List K) (t : K) → ts ≡ front ++ (t ∷ after) → Begins f front → (Begins f (front ++ t ∷ []) → ⊥) → StopsAt f ts (t ∷ after)
    at_end : {ts : List K} → Begins f ts → (Fits f ts → ⊥) → StopsAt f ts []

-- the choices of a fitting, in order: which of two it is, whether an optional part is there, whether one more turn is
abbrev pub choices : {T N K : Type 0} {G : Grammar T N K} {f : Form T N} {ts : List K} → Fits G f ts → List Bool
choices (token i) = []
choices (rule p) = choices p
choices (first p) = true ∷ choices p
choices (second p) = false ∷ choices p
choices none = false ∷ []
choices (some p) = true ∷ choices p
choices no_turn = false ∷ []
choices (turn e p q) = true ∷ (choices p ++ choices q)
choices (both e p q) = choices p ++ choices q
