-- Bytes are a well-formed module, or fail in one way at one place.
use Rattle.std.proofs.Common.{◌≡◌, ◌⊎◌, ℕ, ◌+◌, ◌-◌, ◌<◌, ◌≤◌, true, Option, Some, None, List, [], ◌∷◌, ◌++◌, length, take, refl, ap, sym, ◌∙◌, subst, arith, append_assoc}
use Rattle.rb_base.specs.declared.place.Place.{Place}
use Rattle.rb_grammar.specs.Forms.{Non, Fits, Begins, StopsAt, at_token, at_end}
use Rattle.rb_grammar.specs.Brackets.{StaysWithin}
use Rattle.rb_grammar.specs.Judging.{IsGood, IsWrongAt, IsTooDeepAt}
use Rattle.rb_grammar.specs.Spelling.{At, Spells, tokens_of}
use Rattle.rb_grammar.proofs.Bridge.{begins_front}
use Rattle.rb_grammar.proofs.OneSpelling.{spells_once}
use Rattle.rb_grammar.proofs.Judgement.{one_wrong, one_too_deep, good_not_wrong, good_not_too_deep, wrong_not_too_deep}
use Rattle.v_design.specs.Lexemes.{Token, verilog}
use Rattle.v_design.specs.Tree.{Tree, IsTree}
use Rattle.v_design.specs.Tree as tree
use Rattle.v_design.specs.WellFormed.{IsWellFormed}
use Rattle.v_design.proofs.OneTree.{tree_once}
use Rattle.v_syntax.specs.Grammar.{grammar, nesting, most_open, Module}
use Rattle.v_syntax.specs.Scanned.{Scans, whole}
use Rattle.v_syntax.specs.Syntax.{IsShaped}
use Rattle.v_syntax.specs.Faulty.{Problem, Twice, Undeclared, Driver, Width, Loop, Faulty, IsFirst}
use Rattle.v_syntax.specs.Failing.{IsMisspelledAt, IsPlaceOf, IsUnexpectedAt, IsTooDeepIn, HasProblemAt, Fails}
use Rattle.v_syntax.specs.declared.error.VError.{VError}
use Rattle.v_syntax.specs.declared.error.VError.TheVariants as error
use Rattle.v_parser.proofs.Fitting.{tree_fits}
use Rattle.v_check.proofs.Forming.{no-problem, one-first}
use Rattle.v_reader.proofs.Scanning.{scans_once}
use Rattle.v_reader.proofs.Nesting.{stays_within}

abbrev Good : List (At Token) → Type 0
Good ts = IsGood grammar nesting most_open (Non Module) ts

abbrev Wrong : List (At Token) → List (At Token) → Type 0
Wrong ts left = IsWrongAt grammar nesting most_open (Non Module) ts left

-- what begins a module doesn't stop before a token
begins_on : (ts left : List (At Token)) (t : At Token) (more : List (At Token)) → Begins grammar (Non Module) ts → StopsAt grammar (Non Module) ts left → left ≡ t ∷ more → ⊥
begins_on ts _ t more b (at_token front after u e p n) f = n (begins_front grammar (front ++ u ∷ []) after (subst (λ z. Begins grammar (Non Module) z) (e ∙ sym (append_assoc front (u ∷ []) after)) b))
begins_on ts _ t more b (at_end p n) f = cc

-- a place is told by what is left
one_place : (size : ℕ) (end : Option ℕ) (left : List (At Token)) (p q : ℕ) → IsPlaceOf size end left p → IsPlaceOf size end left q → p ≡ q
one_place size end [] p q h k = h.1 ∙ sym k.1
one_place size end (t ∷ ts) p q h k = h ∙ sym k

same_misspelled : (bytes : List ℕ) (p q : ℕ) → IsMisspelledAt bytes p → IsMisspelledAt bytes q → p ≡ q
same_misspelled bytes p q a b = let e : Some p ≡ Some q = (scans_once bytes a.ts b.ts (Some p) (Some q) a.scans b.scans).1 in cc

not_misspelled_end : (bytes : List ℕ) (left : List (At Token)) (end : Option ℕ) (p q : ℕ) → Some p ≡ end → IsPlaceOf (length bytes) end left q → (ts : List (At Token)) → Begins grammar (Non Module) ts → StopsAt grammar (Non Module) ts left → ⊥
not_misspelled_end bytes [] end p q e h ts b s = let f : end ≡ None = h.0 in cc
not_misspelled_end bytes (t ∷ more) end p q e h ts b s = begins_on ts (t ∷ more) t more b s refl

misspelled_not_unexpected : (bytes : List ℕ) (p q : ℕ) → IsMisspelledAt bytes p → IsUnexpectedAt bytes q → ⊥
misspelled_not_unexpected bytes p q a b =
    let e = scans_once bytes a.ts b.ts (Some p) b.end a.scans b.scans in
    not_misspelled_end bytes b.left b.end p q e.1 b.at b.ts (subst (λ z. Begins grammar (Non Module) z) e.0 a.begins) b.wrong.stops

misspelled_not_deep : (bytes : List ℕ) (p q : ℕ) → IsMisspelledAt bytes p → IsTooDeepIn bytes q → ⊥
misspelled_not_deep bytes p q a b =
    let e = (scans_once bytes a.ts b.ts (Some p) b.end a.scans b.scans).0 in
    let w : StaysWithin nesting most_open b.ts = subst (λ z. StaysWithin nesting most_open z) e a.within in
    omega (arith, w (b.number + 1) (omega (arith, b.deep.first.within)), b.deep.first.passes)

same_unexpected : (bytes : List ℕ) (p q : ℕ) → IsUnexpectedAt bytes p → IsUnexpectedAt bytes q → p ≡ q
same_unexpected bytes p q a b =
    let e = scans_once bytes a.ts b.ts a.end b.end a.scans b.scans in
    let wrong : Wrong b.ts a.left = subst (λ z. Wrong z a.left) e.0 a.wrong in
    let left : a.left ≡ b.left = one_wrong grammar nesting most_open (Non Module) b.ts a.left b.left wrong b.wrong in
    one_place (length bytes) b.end b.left p q (subst (λ z. IsPlaceOf (length bytes) b.end z p) left (subst (λ z. IsPlaceOf (length bytes) z a.left p) e.1 a.at)) b.at

unexpected_not_deep : (bytes : List ℕ) (p q : ℕ) → IsUnexpectedAt bytes p → IsTooDeepIn bytes q → ⊥
unexpected_not_deep bytes p q a b =
    let e = (scans_once bytes a.ts b.ts a.end b.end a.scans b.scans).0 in
    wrong_not_too_deep grammar nesting most_open (Non Module) b.ts a.left b.number (subst (λ z. Wrong z a.left) e a.wrong) b.deep

same_deep : (bytes : List ℕ) (p q : ℕ) → IsTooDeepIn bytes p → IsTooDeepIn bytes q → p ≡ q
same_deep bytes p q a b =
    let e : a.ts ≡ b.ts = (scans_once bytes a.ts b.ts a.end b.end a.scans b.scans).0 in
    let deep = subst (λ z. IsTooDeepAt grammar nesting most_open (Non Module) z a.number) e a.deep in
    let n : a.number ≡ b.number = one_too_deep grammar nesting most_open (Non Module) b.ts a.number b.number deep b.deep in
    a.at ∙ (rw (e, n) (sym b.at))

-- the tokens of a tree are good, and its text is scanned whole
record IsRead (bytes : List ℕ) : Type 0 where
  ts : List (At Token)
  scans : Scans bytes ts None
  good : Good ts

read : (bytes : List ℕ) (t : Tree) → IsTree bytes t → IsRead bytes
read bytes t h =
    let ts = h.spelled.0 in
    let e : tokens_of ts ≡ tree.tokens_of t = h.spelled.2 in
    record {
      ts = ts;
      scans = whole h.spelled.1;
      good = record {
        fits = tree_fits t (record { ported = h.ported; ranges = h.ranges }) ts e;
        within = stays_within ts (subst (λ z. tree.nests 0 z ≡ true) (sym e) h.nested);
      };
    }

read_not_misspelled : (bytes : List ℕ) (p : ℕ) → IsRead bytes → IsMisspelledAt bytes p → ⊥
read_not_misspelled bytes p r a = let e : None ≡ Some p = (scans_once bytes r.ts a.ts None (Some p) r.scans a.scans).1 in cc

read_not_unexpected : (bytes : List ℕ) (p : ℕ) → IsRead bytes → IsUnexpectedAt bytes p → ⊥
read_not_unexpected bytes p r a =
    let e = (scans_once bytes r.ts a.ts None a.end r.scans a.scans).0 in
    good_not_wrong grammar nesting most_open (Non Module) a.ts a.left (subst Good e r.good) a.wrong

read_not_deep : (bytes : List ℕ) (p : ℕ) → IsRead bytes → IsTooDeepIn bytes p → ⊥
read_not_deep bytes p r a =
    let e = (scans_once bytes r.ts a.ts None a.end r.scans a.scans).0 in
    good_not_too_deep grammar nesting most_open (Non Module) a.ts a.number (subst Good e r.good) a.deep

problem_is_read : (bytes : List ℕ) (p : Problem) (k : ℕ) → HasProblemAt bytes p k → IsRead bytes
problem_is_read bytes p k h = read bytes h.t h.is_tree

no_problem : (bytes : List ℕ) (p : Problem) (k : ℕ) (t : Tree) → HasProblemAt bytes p k → IsTree bytes t → IsWellFormed t → ⊥
no_problem bytes p k t h i w = no-problem h.t h.ts h.tokens (subst IsWellFormed (tree_once bytes t h.t i h.is_tree) w) p k h.first.at

same_problem : (bytes : List ℕ) (p q : Problem) (j k : ℕ) → HasProblemAt bytes p j → HasProblemAt bytes q k → (p ≡ q) × (j ≡ k)
same_problem bytes p q j k a b =
    let e : a.t ≡ b.t = tree_once bytes a.t b.t a.is_tree b.is_tree in
    let f : a.ts ≡ b.ts = spells_once verilog bytes a.ts b.ts a.spelled b.spelled in
    one-first b.t b.ts p q j k (subst (λ z. IsFirst b.t z p j) f (subst (λ z. IsFirst z a.ts p j) e a.first)) b.first

-- an error as a kind and a place
data Kind : Type 0 where
  misspelled unexpected deep : Kind
  problem : Problem → Kind

abbrev FailsAs : List ℕ → Kind → ℕ → Type 0
FailsAs bytes misspelled p = IsMisspelledAt bytes p
FailsAs bytes unexpected p = IsUnexpectedAt bytes p
FailsAs bytes deep p = IsTooDeepIn bytes p
FailsAs bytes (problem q) p = HasProblemAt bytes q p

unformed_as : (bytes : List ℕ) (k : Kind) (p : ℕ) (t : Tree) → FailsAs bytes k p → IsTree bytes t → IsWellFormed t → ⊥
unformed_as bytes misspelled p t f i w = read_not_misspelled bytes p (read bytes t i) f
unformed_as bytes unexpected p t f i w = read_not_unexpected bytes p (read bytes t i) f
unformed_as bytes deep p t f i w = read_not_deep bytes p (read bytes t i) f
unformed_as bytes (problem q) p t f i w = no_problem bytes q p t f i w

once_as : (bytes : List ℕ) (k l : Kind) (p q : ℕ) → FailsAs bytes k p → FailsAs bytes l q → (k ≡ l) × (p ≡ q)
once_as bytes misspelled misspelled p q a b = (refl, same_misspelled bytes p q a b)
once_as bytes misspelled unexpected p q a b = absurd (misspelled_not_unexpected bytes p q a b)
once_as bytes misspelled deep p q a b = absurd (misspelled_not_deep bytes p q a b)
once_as bytes misspelled (problem r) p q a b = absurd (read_not_misspelled bytes p (problem_is_read bytes r q b) a)
once_as bytes unexpected misspelled p q a b = absurd (misspelled_not_unexpected bytes q p b a)
once_as bytes unexpected unexpected p q a b = (refl, same_unexpected bytes p q a b)
once_as bytes unexpected deep p q a b = absurd (unexpected_not_deep bytes p q a b)
once_as bytes unexpected (problem r) p q a b = absurd (read_not_unexpected bytes p (problem_is_read bytes r q b) a)
once_as bytes deep misspelled p q a b = absurd (misspelled_not_deep bytes q p b a)
once_as bytes deep unexpected p q a b = absurd (unexpected_not_deep bytes q p b a)
once_as bytes deep deep p q a b = (refl, same_deep bytes p q a b)
once_as bytes deep (problem r) p q a b = absurd (read_not_deep bytes p (problem_is_read bytes r q b) a)
once_as bytes (problem r) misspelled p q a b = absurd (read_not_misspelled bytes q (problem_is_read bytes r p a) b)
once_as bytes (problem r) unexpected p q a b = absurd (read_not_unexpected bytes q (problem_is_read bytes r p a) b)
once_as bytes (problem r) deep p q a b = absurd (read_not_deep bytes q (problem_is_read bytes r p a) b)
once_as bytes (problem r) (problem s) p q a b = let e = same_problem bytes r s p q a b in (ap problem e.0, e.1)

error_of : Kind → ℕ → VError
error_of misspelled p = error.Spelling (record { 0 = p })
error_of unexpected p = error.Syntax (record { 0 = p })
error_of deep p = error.TooDeep (record { 0 = p })
error_of (problem Twice) p = error.Twice (record { 0 = p })
error_of (problem Undeclared) p = error.Undeclared (record { 0 = p })
error_of (problem Driver) p = error.Driver (record { 0 = p })
error_of (problem Width) p = error.Width (record { 0 = p })
error_of (problem Loop) p = error.Loop (record { 0 = p })

record IsOf (bytes : List ℕ) (e : VError) : Type 0 where
  kind : Kind
  place : ℕ
  is : e ≡ error_of kind place
  fails : FailsAs bytes kind place

is_of : (bytes : List ℕ) (e : VError) → Fails bytes e → IsOf bytes e
unfolding error_of
is_of bytes (error.Spelling p) f = record { kind = misspelled; place = p.0; is = refl; fails = f }
is_of bytes (error.Syntax p) f = record { kind = unexpected; place = p.0; is = refl; fails = f }
is_of bytes (error.TooDeep p) f = record { kind = deep; place = p.0; is = refl; fails = f }
is_of bytes (error.Twice p) f = record { kind = problem Twice; place = p.0; is = refl; fails = f }
is_of bytes (error.Undeclared p) f = record { kind = problem Undeclared; place = p.0; is = refl; fails = f }
is_of bytes (error.Driver p) f = record { kind = problem Driver; place = p.0; is = refl; fails = f }
is_of bytes (error.Width p) f = record { kind = problem Width; place = p.0; is = refl; fails = f }
is_of bytes (error.Loop p) f = record { kind = problem Loop; place = p.0; is = refl; fails = f }
is_of bytes error.NoMemory f = absurd f

-- Bytes fail in one way.
pub one_failure : (bytes : List ℕ) (e f : VError) → Fails bytes e → Fails bytes f → e ≡ f
one_failure bytes e f a b =
    let x = is_of bytes e a in
    let y = is_of bytes f b in
    let same = once_as bytes x.kind y.kind x.place y.place x.fails y.fails in
    x.is ∙ (ap (λ k. error_of k x.place) same.0 ∙ (ap (error_of y.kind) same.1 ∙ sym y.is))

-- Bytes that fail are no well-formed module.
pub no_module : (bytes : List ℕ) (e : VError) (t : Tree) → Fails bytes e → IsTree bytes t → IsWellFormed t → ⊥
no_module bytes e t a i w = let x = is_of bytes e a in unformed_as bytes x.kind x.place t x.fails i w
