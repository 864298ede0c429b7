-- With which terminals forms begin, computed from a table that is checked once.
use Rattle.std.specs.List.{list_any, list_all}
use Rattle.std.specs.Prelude.{◌≡◌, Bool, true, false, not, ◌&&◌, ◌||◌, if◌then◌else◌, IsTrue, List, [], ◌∷◌, ◌++◌}
use Rattle.rb_grammar.specs.Forms.{Form, Tok, Non, ◌or◌, Opt, Many, ◌then◌, Grammar}

-- with which terminals each rule may begin, and whether it may be empty; which terminals are one, and which have
-- no token in common
pub record Table (T N : Type 0) : Type 0 where
  pub first : N → List T
  pub empty : N → Bool
  pub same : T → T → Bool
  pub apart : T → T → Bool

module _ {T N : Type 0} (S : Table T N) where
  abbrev pub may_be_empty : Form T N → Bool
  may_be_empty (Tok a) = false
  may_be_empty (Non x) = S.empty x
  may_be_empty (f or g) = may_be_empty f || may_be_empty g
  may_be_empty (Opt f) = true
  may_be_empty (Many f) = true
  may_be_empty (f then g) = may_be_empty f && may_be_empty g

  -- the terminals with which a form may begin
  abbrev pub firsts : Form T N → List T
  firsts (Tok a) = a ∷ []
  firsts (Non x) = S.first x
  firsts (f or g) = firsts f ++ firsts g
  firsts (Opt f) = firsts f
  firsts (Many f) = firsts f
  firsts (f then g) = if may_be_empty f then firsts f ++ firsts g else firsts f

  -- the first terminals are among the second
  abbrev pub are_among : List T → List T → Bool
  are_among ns ms = list_all (λ a. list_any (S.same a) ns) ms

  -- the terminals with which a form, and what follows it, may begin
  abbrev pub nexts : Form T N → List T → List T
  nexts f after = if may_be_empty f then firsts f ++ after else firsts f

  -- no token is of a terminal of both lists
  abbrev pub disjoint : List T → List T → Bool
  disjoint ms ns = list_all (λ a. list_all (S.apart a) ns) ms

  -- the table says all that the right side of a rule says
  abbrev pub tells : N → Form T N → Bool
  tells x f = are_among (S.first x) (firsts f) && (S.empty x || not (may_be_empty f))

-- the table is right about the grammar
pub record IsTableOf {T N K : Type 0} (G : Grammar T N K) (S : Table T N) : Type 0 where
  pub one : (a b : T) → IsTrue (S.same a b) → a ≡ b
  pub none : (a b : T) (t : K) → IsTrue (S.apart a b) → IsTrue (G.is a t) → G.is b t ≡ false
  pub each : (x : N) → IsTrue (tells S x (G.rule x))
  pub alike : (a : T) → IsTrue (S.same a a)

-- the next token decides each choice in the form, where these terminals may follow it and those of the table each rule
abbrev pub decides : {T N : Type 0} → Table T N → (N → List T) → List T → Form T N → Bool
decides S follow after (Tok a) = true
decides S follow after (Non x) = are_among S (follow x) after
decides S follow after (f or g) = disjoint S (nexts S f after) (nexts S g after) && (not (may_be_empty S f && may_be_empty S g) && (decides S follow after f && decides S follow after g))
decides S follow after (Opt f) = disjoint S (firsts S f) after && (not (may_be_empty S f) && decides S follow after f)
decides S follow after (Many f) = disjoint S (firsts S f) after && (not (may_be_empty S f) && decides S follow (firsts S f ++ after) f)
decides S follow after (f then g) = decides S follow (nexts S g after) f && decides S follow after g

-- where these terminals may follow each rule, the next token decides each choice of the grammar
abbrev pub IsDecided : {T N K : Type 0} → Grammar T N K → Table T N → (N → List T) → Type 0
IsDecided {N = N} G S follow = (x : N) → IsTrue (decides S follow (follow x) (G.rule x))
