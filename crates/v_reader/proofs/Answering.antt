-- What a reader concludes.
use Rattle.std.specs.Option.{option_map}
use Rattle.std.proofs.Common.{◌≡◌, ◌⊎◌, ℕ, true, ◌+◌, ◌-◌, ◌<◌, ◌≤◌, suc, Option, Some, None, List, [], ◌∷◌, length, take, drop, get_or, map, refl, ap, sym, ◌∙◌, subst, arith, inl, inr}
use Rattle.std.proofs.lemmas.List.{take_all}
use Rattle.rb_grammar.specs.Forms.{Non, Fits, Begins, StopsAt, at_token, at_end}
use Rattle.rb_grammar.specs.Brackets.{StaysWithin}
use Rattle.rb_grammar.specs.Judging.{IsGood, IsWrongAt, IsTooDeepAt}
use Rattle.rb_grammar.specs.Spelling.{At, Spells, tokens_of}
use Rattle.rb_grammar.proofs.Bridge.{fits_begins}
use Rattle.v_design.specs.Lexemes.{Token, verilog}
use Rattle.v_design.specs.Tree.{Tree, IsTree}
use Rattle.v_design.specs.Tree as tree
use Rattle.v_design.specs.WellFormed.{IsWellFormed}
use Rattle.v_design.specs.Design.{module_of, widths}
use Rattle.v_design.specs.Seen.{module_seen, step_seen}
use Rattle.v_design.specs.declared.design.Design.{Design}
use Rattle.v_syntax.specs.Tokens.{spotted, placed}
use Rattle.v_syntax.specs.Grammar.{grammar, nesting, most_open, Module}
use Rattle.v_syntax.specs.Scanned.{Scans}
use Rattle.v_syntax.specs.Syntax.{IsSyntax, AreStatements}
use Rattle.v_syntax.specs.Failing.{IsMisspelledAt, IsUnexpectedAt, IsTooDeepIn, Fails, FailsIn}
use Rattle.v_syntax.specs.declared.error.VError.{VError}
use Rattle.v_syntax.specs.declared.error.VError.TheVariants as error
use Rattle.v_syntax.specs.declared.spot.VSpot.{VSpot}
use Rattle.v_syntax.specs.declared.token.VSpelling.{VSpelling}
use Rattle.v_syntax.specs.declared.parsed.Parsed.{Parsed}
use Rattle.v_reader.specs.Reading.{IsDesign}
use Rattle.v_reader.specs.Made.{IsMadeOf}
use Rattle.v_reader.proofs.Scanning.{spells}
use Rattle.v_reader.proofs.Placed.{left_at, none_left, place_is}
use Rattle.v_reader.proofs.Nesting.{nests_within}
use Rattle.v_reader.proofs.Uncapped.{widths_narrow, steps_are}

stops_end : (ts left : List (At Token)) → StopsAt grammar (Non Module) ts left → left ≡ [] → Begins grammar (Non Module) ts
stops_end ts _ (at_end b n) e = b
stops_end ts _ (at_token front after t f b n) e = cc

pub unexpected : (bytes : List ℕ) (tokens : List VSpot) (end : Option ℕ) (k : ℕ) (d : VSpot) → Scans bytes (placed bytes tokens) end → k < length tokens → d ≡ get_or tokens k d
    → IsWrongAt grammar nesting most_open (Non Module) (placed bytes tokens) (drop k (placed bytes tokens)) → IsUnexpectedAt bytes d.place.0
unexpected bytes tokens end k d s l e w = record {
  ts = placed bytes tokens;
  left = spotted bytes d ∷ drop (suc k) (placed bytes tokens);
  end = end;
  scans = s;
  wrong = subst (λ z. IsWrongAt grammar nesting most_open (Non Module) (placed bytes tokens) z) (left_at bytes tokens k d l e) w;
  at = refl;
}

-- where a fault stands behind the tokens
fault_at : (bytes : List ℕ) (ts : List (At Token)) (o : Option VSpelling) (f : VSpelling) → Scans bytes ts (option_map (λ x. x.place.0) o) → o ≡ Some f → Scans bytes ts (Some f.place.0)
fault_at bytes ts o f s e = subst (λ z. Scans bytes ts (option_map (λ x. x.place.0) z)) e s

pub misspelled_behind : (bytes : List ℕ) (tokens : List VSpot) (o : Option VSpelling) (f : VSpelling) (k : ℕ) → Scans bytes (placed bytes tokens) (option_map (λ x. x.place.0) o) → o ≡ Some f → length tokens ≤ k
    → IsWrongAt grammar nesting most_open (Non Module) (placed bytes tokens) (drop k (placed bytes tokens)) → IsMisspelledAt bytes f.place.0
misspelled_behind bytes tokens o f k s e l w =
    let none : drop k (placed bytes tokens) ≡ [] = none_left bytes tokens k l in
    let all : take (length (placed bytes tokens) - length (drop k (placed bytes tokens))) (placed bytes tokens) ≡ placed bytes tokens = take_all _ (placed bytes tokens) (omega (arith, ap length none)) in
    record {
      ts = placed bytes tokens;
      scans = fault_at bytes (placed bytes tokens) o f s e;
      begins = stops_end (placed bytes tokens) (drop k (placed bytes tokens)) w.stops none;
      within = subst (λ z. StaysWithin nesting most_open z) all w.within;
    }

pub misspelled_good : (bytes : List ℕ) (tokens : List VSpot) (o : Option VSpelling) (f : VSpelling) → Scans bytes (placed bytes tokens) (option_map (λ x. x.place.0) o) → o ≡ Some f
    → IsGood grammar nesting most_open (Non Module) (placed bytes tokens) → IsMisspelledAt bytes f.place.0
misspelled_good bytes tokens o f s e g = record {
  ts = placed bytes tokens;
  scans = fault_at bytes (placed bytes tokens) o f s e;
  begins = fits_begins grammar g.fits;
  within = g.within;
}

pub too_deep : (bytes : List ℕ) (tokens : List VSpot) (end : Option ℕ) (k : ℕ) (d : VSpot) → Scans bytes (placed bytes tokens) end → k < length tokens → d ≡ get_or tokens k d
    → IsTooDeepAt grammar nesting most_open (Non Module) (placed bytes tokens) k → IsTooDeepIn bytes d.place.0
too_deep bytes tokens end k d s l e w = record { ts = placed bytes tokens; end = end; number = k; scans = s; deep = w; at = place_is bytes tokens k d l e }

-- the tokens of a text that is scanned whole, and the tree of them
pub tree_is : (bytes : List ℕ) (ts : List (At Token)) (end : Option ℕ) (x : Parsed) (t : Tree) → Scans bytes ts end → end ≡ None → IsGood grammar nesting most_open (Non Module) ts → IsSyntax ts x t → IsTree bytes t
tree_is bytes ts end x t s e g y = record {
  spelled = (ts, spells bytes ts end s e, y.tokens);
  ported = y.shaped.ported;
  ranges = y.shaped.ranges;
  nested = subst (λ z. tree.nests 0 z ≡ true) y.tokens (nests_within ts g.within);
}

pub fails : (bytes : List ℕ) (ts : List (At Token)) (t : Tree) (e : VError) → IsTree bytes t → Spells verilog bytes ts → tokens_of ts ≡ tree.tokens_of t → FailsIn t ts e → Fails bytes e
fails bytes ts t (error.Twice p) i s k h = record { t = t; ts = ts; is_tree = i; spelled = s; tokens = k; first = h }
fails bytes ts t (error.Undeclared p) i s k h = record { t = t; ts = ts; is_tree = i; spelled = s; tokens = k; first = h }
fails bytes ts t (error.Driver p) i s k h = record { t = t; ts = ts; is_tree = i; spelled = s; tokens = k; first = h }
fails bytes ts t (error.Width p) i s k h = record { t = t; ts = ts; is_tree = i; spelled = s; tokens = k; first = h }
fails bytes ts t (error.Loop p) i s k h = record { t = t; ts = ts; is_tree = i; spelled = s; tokens = k; first = h }
fails bytes ts t (error.Spelling p) i s k h = absurd h
fails bytes ts t (error.Syntax p) i s k h = absurd h
fails bytes ts t (error.TooDeep p) i s k h = absurd h
fails bytes ts t error.NoMemory i s k h = absurd h

-- the answer of a check is that of the reader
pub checked : (bytes : List ℕ) (ts : List (At Token)) (end : Option ℕ) (x : Parsed) (e : VError) → Scans bytes ts end → end ≡ None → IsGood grammar nesting most_open (Non Module) ts
    → ((t : Tree) × IsSyntax ts x t) → ((e ≡ error.NoMemory) ⊎ ((t : Tree) → IsSyntax ts x t → FailsIn t ts e)) → (e ≡ error.NoMemory) ⊎ Fails bytes e
checked bytes ts end x e s n g y c = elim c [
  | inl want ↦ inl want
  | inr f ↦ inr (fails bytes ts y.0 e (tree_is bytes ts end x y.0 s n g y.1) (spells bytes ts end s n) y.1.tokens (f y.0 y.1))
]

module_is : (d : Design) (t : Tree) → d.name ≡ t.name → d.ports.items ≡ t.ports → d.decls.items ≡ t.decls → map step_seen d.stmts.items ≡ (module_of t).steps → module_seen d ≡ module_of t
module_is d t a b c e = rw (a, b, c, e) refl

pub design_is : (bytes : List ℕ) (ts : List (At Token)) (end : Option ℕ) (x : Parsed) (d : Design) → Scans bytes ts end → end ≡ None → IsGood grammar nesting most_open (Non Module) ts
    → ((t : Tree) × IsSyntax ts x t) → ((t : Tree) → IsSyntax ts x t → IsWellFormed t) → IsMadeOf x d → IsDesign bytes d
design_is bytes ts end x d s n g y w m =
    let t = y.0 in
    let h = y.1 in
    let formed = w t h in
    record {
      tree = t;
      ts = ts;
      is_tree = tree_is bytes ts end x t s n g h;
      well_formed = formed;
      is = module_is d t (m.name ∙ h.name) (m.ports ∙ h.ports) (m.decls ∙ h.decls)
          (ap (map step_seen) m.stmts ∙ steps_are (widths (module_of t)) (widths_narrow t h.shaped) x.stmts.items x.events.items t.stmts h.stmts formed.fits);
      spelled = spells bytes ts end s n;
      places = ap (map (λ s. s.place.0)) m.stmts ∙ h.starts;
    }
