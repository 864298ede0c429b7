-- Words stand for one list of kinds at most.
use Rattle.std.specs.List.{AllByRecursion}
use Rattle.std.specs.Str.{bytes_eq}
use Rattle.std.specs.Cmp.Lexicographic.{bytes_decides}
use Rattle.std.specs.Prelude.{option_and_then, codes}
use Rattle.std.proofs.Common.{◌≡◌, ℕ, Bool, true, false, cond, Option, Some, None, List, [], ◌∷◌, map, refl, ap, sym, ◌∙◌, subst, arith}
use Rattle.std.proofs.lemmas.Bool.{not-true}
use Rattle.std.proofs.lemmas.Bool.Decides.{nat_tests}
use Rattle.vcd_syntax.specs.declared.kind.Kind.{Kind}
use Rattle.vcd_syntax.specs.declared.kind.Kind.TheVariants.{Heading, Var, Range, Time, Scalar, Bits, DumpVars}
use Rattle.vcd_syntax.specs.Words.{is}
use Rattle.vcd_syntax.specs.Tokens.{Word, Token, kinds_of, AreOfTheirKinds, AreBegun}
use Rattle.vcd_syntax.specs.declared.state.State.{State}
use Rattle.vcd_syntax.specs.declared.state.State.TheVariants as state
use Rattle.vcd_syntax.specs.Exits.{exits, after, after_all, exit_by}
use Rattle.vcd_syntax.proofs.Stacks.{found, begins_leads}

module _ (w : List ℕ) where
  -- a word of a kind takes this exit
  abbrev Takes : State → Kind × State → Type 0
  Takes s x = is x.0 w ≡ true → exit_by s w ≡ Some x

  -- the kind has no word of the quoted one
  other : (k : Kind) (text : List ℕ) → is k text ≡ false → bytes_eq w text ≡ true → is k w ≡ false
  other k text e q = subst (λ z. is k z ≡ false) (sym ((bytes_decides w text).0 q)) e

  not_scalar_bits : (w : List ℕ) → is Bits w ≡ true → is Scalar w ≡ false
  not_scalar_bits [] h = cc
  not_scalar_bits (b ∷ bs) h = grind (arith, nat_tests)

  not_scalar_time : (w : List ℕ) → is Time w ≡ true → is Scalar w ≡ false
  not_scalar_time [] h = cc
  not_scalar_time (b ∷ bs) h = grind (arith, nat_tests)

  not_bits_time : (w : List ℕ) → is Time w ≡ true → is Bits w ≡ false
  not_bits_time [] h = cc
  not_bits_time (b ∷ bs) h = grind (arith, nat_tests)

  first : (b : Bool) (x : Kind × State) (o : Option (Kind × State)) → b ≡ true → cond b (Some x) o ≡ Some x
  first b x o e = rw e refl

  later : (b : Bool) (x y : Kind × State) (o : Option (Kind × State)) → b ≡ false → o ≡ Some y → cond b (Some x) o ≡ Some y
  later b x y o e f = rw e f

  takes : (s : State) → AllByRecursion (Takes s) (exits s)
  takes state.Front = (first _ _ _, ((λ h. later _ _ _ _ (other Heading (codes "$scope") refl h) (first _ _ _ h)), tt))
  takes state.FrontSaid = (first _ _ _, ((λ h. later _ _ _ _ (not-true _ h) (first _ _ _ h)), tt))
  takes state.ScopeKind = (first _ _ _, tt)
  takes state.ScopeName = (first _ _ _, tt)
  takes state.ScopeEnd = (first _ _ _, tt)
  takes state.Variables = (first _ _ _, ((λ h. later _ _ _ _ (other Heading (codes "$var") refl h) (first _ _ _ h)), ((λ h. later _ _ _ _ (other Heading (codes "$upscope") refl h) (later _ _ _ _ (other Var (codes "$upscope") refl h) (first _ _ _ h))), tt)))
  takes state.VariablesSaid = (first _ _ _, ((λ h. later _ _ _ _ (not-true _ h) (first _ _ _ h)), tt))
  takes state.NetKind = (first _ _ _, tt)
  takes state.Width = (first _ _ _, tt)
  takes state.Code = (first _ _ _, tt)
  takes state.Name = (first _ _ _, tt)
  takes state.Range = (first _ _ _, ((λ h. later _ _ _ _ (other Range (codes "$end") refl h) (first _ _ _ h)), tt))
  takes state.VarEnd = (first _ _ _, tt)
  takes state.UpscopeEnd = (first _ _ _, tt)
  takes state.Back = (first _ _ _, ((λ h. later _ _ _ _ (other Heading (codes "$enddefinitions") refl h) (first _ _ _ h)), tt))
  takes state.BackSaid = (first _ _ _, ((λ h. later _ _ _ _ (not-true _ h) (first _ _ _ h)), tt))
  takes state.DefinitionsEnd = (first _ _ _, tt)
  takes state.Entries = (
    first _ _ _,
    (
      (λ h. later _ _ _ _ (not_scalar_bits w h) (first _ _ _ h)),
      (
        (λ h. later _ _ _ _ (not_scalar_time w h) (later _ _ _ _ (not_bits_time w h) (first _ _ _ h))),
        (
          (λ h. later _ _ _ _ (other Scalar (codes "$dumpvars") refl h) (later _ _ _ _ (other Bits (codes "$dumpvars") refl h) (later _ _ _ _ (other Time (codes "$dumpvars") refl h) (first _ _ _ h)))),
          ((λ h. later _ _ _ _ (other Scalar (codes "$comment") refl h) (later _ _ _ _ (other Bits (codes "$comment") refl h) (later _ _ _ _ (other Time (codes "$comment") refl h) (later _ _ _ _ (other DumpVars (codes "$comment") refl h) (first _ _ _ h))))), tt),
        ),
      ),
    ),
  )
  takes state.Taker = (first _ _ _, tt)
  takes state.Dump = (first _ _ _, ((λ h. later _ _ _ _ (not_scalar_bits w h) (first _ _ _ h)), ((λ h. later _ _ _ _ (other Scalar (codes "$end") refl h) (later _ _ _ _ (other Bits (codes "$end") refl h) (first _ _ _ h))), tt)))
  takes state.DumpTaker = (first _ _ _, tt)
  takes state.Commented = (first _ _ _, ((λ h. later _ _ _ _ (not-true _ h) (first _ _ _ h)), tt))

  -- A word of a kind that may come takes its exit.
  pub taken : (s : State) (k : Kind) (t : State) → after s k ≡ Some t → is k w ≡ true → exit_by s w ≡ Some (k, t)
  taken s k t e = found (Takes s) (exits s) k t e (takes s)

-- What leads on led somewhere.
pub led : (s : State) (k : Kind) (ks : List Kind) (t : State) → after_all s (k ∷ ks) ≡ Some t → (z : State) × (after s k ≡ Some z) × (after_all z ks ≡ Some t)
led s k ks t e = at (after s k) refl e
  where
    at : (o : Option State) → after s k ≡ o → option_and_then (λ z. after_all z ks) o ≡ Some t → (z : State) × (after s k ≡ Some z) × (after_all z ks ≡ Some t)
    at None f g = cc
    at (Some z) f g = (z, f, g)

-- the parts of an exit
kind_in : Kind → Option (Kind × State) → Kind
kind_in k None = k
kind_in k (Some x) = x.0

state_in : State → Option (Kind × State) → State
state_in s None = s
state_in s (Some x) = x.1

same_kind : (a b : Kind) (s t : State) → ◌≡◌ {A = Option (Kind × State)} (Some (a, s)) (Some (b, t)) → a ≡ b
unfolding kind_in
same_kind a b s t e = ap (kind_in a) e

same_state : (a b : Kind) (s t : State) → ◌≡◌ {A = Option (Kind × State)} (Some (a, s)) (Some (b, t)) → s ≡ t
unfolding state_in
same_state a b s t e = ap (state_in s) e

same_mark : (m n : Token) → m.kind ≡ n.kind → m.word ≡ n.word → m ≡ n
same_mark m n e f = ap (λ z. record { kind = z; word = m.word }) e ∙ ap (λ z. record { kind = n.kind; word = z }) f

same_marks : (s t u : State) (ms ns : List Token) → map (λ m. m.word) ms ≡ map (λ m. m.word) ns → AreOfTheirKinds ms → AreOfTheirKinds ns
    → after_all s (kinds_of ms) ≡ Some t → after_all s (kinds_of ns) ≡ Some u → ms ≡ ns
same_marks s t u [] [] e h k f g = refl
same_marks s t u [] (n ∷ ns) e h k f g = cc
same_marks s t u (m ∷ ms) [] e h k f g = cc
same_marks s t u (m ∷ ms) (n ∷ ns) e h k f g =
    let word : m.word ≡ n.word = cc in
    let words : map (λ x. x.word) ms ≡ map (λ x. x.word) ns = cc in
    let p = led s m.kind (kinds_of ms) t f in
    let q = led s n.kind (kinds_of ns) u g in
    let a = taken m.word.token s m.kind p.0 p.1 h.0 in
    let b = taken n.word.token s n.kind q.0 q.1 k.0 in
    let both : ◌≡◌ {A = Option (Kind × State)} (Some (m.kind, p.0)) (Some (n.kind, q.0)) = sym a ∙ (ap (λ z. exit_by s z.token) word ∙ b) in
    let kind : m.kind ≡ n.kind = same_kind m.kind n.kind p.0 q.0 both in
    let to : p.0 ≡ q.0 = same_state m.kind n.kind p.0 q.0 both in
    let rest = same_marks p.0 t u ms ns words h.1 k.1 p.2 (subst (λ z. after_all z (kinds_of ns) ≡ Some u) (sym to) q.2) in
    ap (λ z. z ∷ ms) (same_mark m n kind word) ∙ ap (λ z. n ∷ z) rest

pub one_marking : (words : List Word) (ms ns : List Token) → AreBegun words ms → AreBegun words ns → ms ≡ ns
one_marking words ms ns a b =
    let p = begins_leads (kinds_of ms) a.begins in
    let q = begins_leads (kinds_of ns) b.begins in
    same_marks state.Front p.0 q.0 ms ns (a.are ∙ sym b.are) a.each b.each p.1 q.1
