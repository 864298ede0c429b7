-- One step of a reader.
use Rattle.std.specs.List.{AllByRecursion}
use Rattle.std.specs.Prelude.{◌≢◌}
use Rattle.std.proofs.Common.{◌≡◌, ℕ, Bool, true, false, not, ◌&&◌, ◌||◌, ◌==◌, Option, Some, None, List, [], ◌∷◌, length, drop, refl, sym, ◌∙◌, subst, arith}
use Rattle.std.proofs.lemmas.Bool.{and_parts}
use Rattle.plain_lemmas.proofs.Numbers.{eq-same}
use Rattle.vcd_syntax.specs.declared.error.VcdError.{VcdError}
use Rattle.vcd_syntax.specs.declared.error.VcdError.TheVariants as error
use Rattle.vcd_syntax.specs.declared.kind.Kind.{Kind}
use Rattle.vcd_syntax.specs.declared.kind.Kind.TheVariants as kind
use Rattle.vcd_syntax.specs.Grammar.{same}
use Rattle.vcd_syntax.specs.Tokens.{Word}
use Rattle.vcd_syntax.specs.Faulty.{Problem}
use Rattle.vcd_syntax.specs.Reading.{IsFirst, Fails}
use Rattle.vcd_syntax.specs.declared.state.State.{State}
use Rattle.vcd_syntax.specs.declared.state.State.TheVariants as state
use Rattle.vcd_syntax.specs.Exits.{exits, after, exit_by}
use Rattle.vcd_syntax.specs.Known.{Known, more, Verdict, Fine, Here, Before, judge, open_widths}
use Rattle.vcd_syntax.proofs.Stacks.{found}
use Rattle.vcd_syntax.proofs.Steps.{exit_is, goes_on, wrong_here, wrong_before, nothing_read}
use Rattle.vcd_reader.specs.declared.said.Said.{Said}
use Rattle.vcd_reader.specs.declared.words.Word.{Word as Placed}
use Rattle.vcd_reader.specs.Fronts.{word_of}
use Rattle.vcd_reader.specs.Reading.{Tells, TellsVerdict}
use Rattle.rb_grammar.specs.Spelling.{SpellsFrom}
use Rattle.vcd_syntax.specs.Words.{vcd}
use Rattle.vcd_syntax.specs.Reads.{Reads}
use Rattle.vcd_reader.specs.Steps.{nothing, takes, IsReady, Goes, Errs, is_early, IsSaid, HoldsVariables, HoldsRows}

-- a word that says nothing of values and times
abbrev quiet : Kind → Bool
quiet kind.Time = false
quiet kind.Scalar = false
quiet kind.Taker = false
quiet _ = true

-- codes come before the definitions end, changes where each width has its code, and values and times behind the definitions
abbrev in_turn : State → Kind × State → Bool
in_turn s x = (not (same x.0 kind.Code) || is_early s) && ((not (takes x.0) || open_widths s == 0) && (not (is_early x.1) || is_early s && quiet x.0))

all_in_turn : (s : State) → AllByRecursion (λ x. in_turn s x ≡ true) (exits s)
all_in_turn state.Front = (refl, (refl, tt))
all_in_turn state.FrontSaid = (refl, (refl, tt))
all_in_turn state.ScopeKind = (refl, tt)
all_in_turn state.ScopeName = (refl, tt)
all_in_turn state.ScopeEnd = (refl, tt)
all_in_turn state.Variables = (refl, (refl, (refl, tt)))
all_in_turn state.VariablesSaid = (refl, (refl, tt))
all_in_turn state.NetKind = (refl, tt)
all_in_turn state.Width = (refl, tt)
all_in_turn state.Code = (refl, tt)
all_in_turn state.Name = (refl, tt)
all_in_turn state.Range = (refl, (refl, tt))
all_in_turn state.VarEnd = (refl, tt)
all_in_turn state.UpscopeEnd = (refl, tt)
all_in_turn state.Back = (refl, (refl, tt))
all_in_turn state.BackSaid = (refl, (refl, tt))
all_in_turn state.DefinitionsEnd = (refl, tt)
all_in_turn state.Entries = (refl, (refl, (refl, (refl, (refl, tt)))))
all_in_turn state.Taker = (refl, tt)
all_in_turn state.Dump = (refl, (refl, (refl, tt)))
all_in_turn state.DumpTaker = (refl, tt)
all_in_turn state.Commented = (refl, (refl, tt))

implied : (a b : Bool) → (not a || b) ≡ true → a ≡ true → b ≡ true
implied true b h e = h
implied false b h e = cc

turns : (s : State) (x : Kind) (t : State) → after s x ≡ Some t → (same x kind.Code ≡ true → is_early s ≡ true) × (takes x ≡ true → open_widths s ≡ 0) × (is_early t ≡ true → (is_early s ≡ true) × (quiet x ≡ true))
turns s x t e =
    let p = found (λ y. in_turn s y ≡ true) (exits s) x t e (all_in_turn s) in
    let a = and_parts (not (same x kind.Code) || is_early s) ((not (takes x) || open_widths s == 0) && (not (is_early t) || is_early s && quiet x)) p in
    let b = and_parts (not (takes x) || open_widths s == 0) (not (is_early t) || is_early s && quiet x) a.1 in (
      implied (same x kind.Code) (is_early s) a.0,
      λ f. eq-same (open_widths s) 0 (implied (takes x) (open_widths s == 0) b.0 f),
      λ f. and_parts (is_early s) (quiet x) (implied (is_early t) (is_early s && quiet x) b.1 f),
    )

pub ready : (text : List ℕ) (left : List Word) (w : Word) (s : Said) (x : Kind) (t : State) (h : IsSaid text (w ∷ left) s) → exit_by s.state w.token ≡ Some (x, t) → IsReady x w.token s h.known
ready text left w s x t h e =
    let i = exit_is s.state w.token x t e in
    let r = turns s.state x t i.0 in
    let o = h.reads.orderly in
    record {
      variables = h.variables;
      rows = h.rows;
      word = h.word;
      apart = o.apart;
      given = o.given;
      is = i.1;
      early = λ f. h.early (r.0 (subst (λ z. same z kind.Code ≡ true) (sym f) refl));
      whole = λ f. let none = r.1 f in omega (arith, o.widths, none);
    }

more_word : (x : Kind) (w : List ℕ) (k : Known) → (more x w k).word ≡ w
more_word kind.Heading w k = refl
more_word kind.Said w k = refl
more_word kind.End w k = refl
more_word kind.Scope w k = refl
more_word kind.ScopeKind w k = refl
more_word kind.ScopeName w k = refl
more_word kind.Upscope w k = refl
more_word kind.Var w k = refl
more_word kind.NetKind w k = refl
more_word kind.Width w k = refl
more_word kind.Code w k = refl
more_word kind.Name w k = refl
more_word kind.Range w k = refl
more_word kind.EndDefinitions w k = refl
more_word kind.Time w k = refl
more_word kind.Scalar w k = refl
more_word kind.Bits w k = refl
more_word kind.Taker w k = refl
more_word kind.DumpVars w k = refl
more_word kind.Comment w k = refl

no_events : (x : Kind) (w : List ℕ) (k : Known) → quiet x ≡ true → (more x w k).events ≡ k.events
no_events kind.Heading w k e = refl
no_events kind.Said w k e = refl
no_events kind.End w k e = refl
no_events kind.Scope w k e = refl
no_events kind.ScopeKind w k e = refl
no_events kind.ScopeName w k e = refl
no_events kind.Upscope w k e = refl
no_events kind.Var w k e = refl
no_events kind.NetKind w k e = refl
no_events kind.Width w k e = refl
no_events kind.Code w k e = refl
no_events kind.Name w k e = refl
no_events kind.Range w k e = refl
no_events kind.EndDefinitions w k e = refl
no_events kind.Time w k e = cc
no_events kind.Scalar w k e = cc
no_events kind.Bits w k e = refl
no_events kind.Taker w k e = cc
no_events kind.DumpVars w k e = refl
no_events kind.Comment w k e = refl

pub none_of : {X : Type 0} (o : Option X) → ((x : X) → o ≡ Some x → ⊥) → o ≡ None
none_of None h = refl
none_of (Some x) h = absurd (h x refl)

-- A word that was taken is read.
pub stepped : (text : List ℕ) (left : List Word) (w : Placed) (s taken : Said) (x : Kind) (t : State) → exit_by s.state w.text.now ≡ Some (x, t) → Goes x s taken w.text.now → IsSaid text (word_of w ∷ left) s
    → IsSaid text left (record { variables = taken.variables; rows = taken.rows; state = t; last = w })
stepped text left w s taken x t e g h =
    let k = h.known in
    let p = g k (ready text left (word_of w) s x t h e) in
    let r = turns s.state x t (exit_is s.state w.text.now x t e).0 in
    record {
      known = more x w.text.now k;
      reads = goes_on text (word_of w) left s.state k s.last.place.0 h.reads x t e p.0;
      word = sym (more_word x w.text.now k);
      variables = p.1;
      rows = p.2;
      early = λ f. let q = r.2 f in no_events x w.text.now k q.1 ∙ h.early q.0;
    }

pub told : (text : List ℕ) (e : VcdError) (q : Problem) (place : ℕ) → Tells e q place → IsFirst text q place → Fails text e
told text (error.Form p) q place h f = subst (λ z. IsFirst text z p.0) h.0 (subst (λ z. IsFirst text q z) (sym h.1) f)
told text (error.Twice p) q place h f = subst (λ z. IsFirst text z p.0) h.0 (subst (λ z. IsFirst text q z) (sym h.1) f)
told text (error.Code p) q place h f = subst (λ z. IsFirst text z p.0) h.0 (subst (λ z. IsFirst text q z) (sym h.1) f)
told text (error.Value p) q place h f = subst (λ z. IsFirst text z p.0) h.0 (subst (λ z. IsFirst text q z) (sym h.1) f)
told text (error.Time p) q place h f = subst (λ z. IsFirst text z p.0) h.0 (subst (λ z. IsFirst text q z) (sym h.1) f)
told text (error.Many p) q place h f = subst (λ z. IsFirst text z p.0) h.0 (subst (λ z. IsFirst text q z) (sym h.1) f)
told text (error.NoValue i) q place h f = absurd h
told text error.NoMemory q place h f = absurd h

-- A word that was not taken is the first problem of the text.
pub failed : (text : List ℕ) (left : List Word) (w : Placed) (s : Said) (x : Kind) (t : State) (e : VcdError) → exit_by s.state w.text.now ≡ Some (x, t) → Errs x s w e → e ≢ error.NoMemory → IsSaid text (word_of w ∷ left) s → Fails text e
failed text left w s x t e i errs n h = go (judge x w.text.now h.known) refl (errs n h.known (ready text left (word_of w) s x t h i))
  where
    go : (v : Verdict) → judge x w.text.now h.known ≡ v → TellsVerdict e v w.place.0 s.last.place.0 → Fails text e
    go Fine j f = absurd f
    go (Here q) j f = told text e q w.place.0 f (wrong_here text (word_of w) left s.state h.known s.last.place.0 h.reads x t i q j)
    go (Before q) j f = told text e q s.last.place.0 f (wrong_before text (word_of w) left s.state h.known s.last.place.0 h.reads x t i q j)

-- Nothing is read at the front.
pub begun : (text : List ℕ) (s : Said) → s.state ≡ state.Front → s.last.text.now ≡ [] → s.last.place.0 ≡ 0 → HoldsVariables s.variables nothing → HoldsRows s.rows nothing → (left : List Word) → SpellsFrom vcd (length text) (drop 0 text) left → IsSaid text left s
begun text s a b c v r left h = record {
  known = nothing;
  reads = subst (λ z. Reads text left z nothing s.last.place.0) (sym a) (subst (λ z. Reads text left state.Front nothing z) (sym c) (nothing_read text left h));
  word = b;
  variables = v;
  rows = r;
  early = λ f. refl;
}
