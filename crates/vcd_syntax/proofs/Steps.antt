-- One step of a reader, and what it may conclude there.
use Rattle.std.specs.List.{AllByRecursion, find, list_any}
use Rattle.std.specs.Str.{bytes_eq}
use Rattle.std.specs.Str.Parse.{digits_value}
use Rattle.std.specs.Prelude.{if◌then◌else◌}
use Rattle.std.proofs.Common.{◌≡◌, ◌⊎◌, inl, inr, ℕ, ◌+◌, Bool, true, false, ◌||◌, cond, Some, None, List, [], ◌∷◌, ◌++◌, length, length-append, take, drop, refl, ap, sym, ◌∙◌, subst, arith, append_assoc}
use Rattle.std.proofs.lemmas.List.{map-append}
use Rattle.std.proofs.lemmas.Bool.{or_parts}
use Rattle.rb_grammar.specs.Spelling.{Spells}
use Rattle.v_design.specs.Lexemes.{among}
use Rattle.vcd_syntax.specs.Grammar.{same}
use Rattle.vcd_syntax.specs.Meaning.{Event, Comes, Gives}
use Rattle.vcd_syntax.specs.declared.kind.Kind.{Kind}
use Rattle.vcd_syntax.specs.declared.kind.Kind.TheVariants as kind
use Rattle.vcd_syntax.specs.Words.{vcd, is, decimal_value}
use Rattle.vcd_syntax.specs.Tokens.{Word, Token, kinds_of, AreOfTheirKinds, AreBegun}
use Rattle.vcd_syntax.specs.Faulty.{Problem, Misformed, IsFaulty}
use Rattle.vcd_syntax.specs.Reading.{IsFirst, IsSound}
use Rattle.vcd_syntax.specs.declared.state.State.{State}
use Rattle.vcd_syntax.specs.declared.state.State.TheVariants as state
use Rattle.vcd_syntax.specs.Exits.{exits, after, after_all, exit_by}
use Rattle.vcd_syntax.specs.Known.{AreApart, AreGiven, open_widths, open_codes, IsOrderly, Known, more, Fine, Here, Before, judge}
use Rattle.vcd_syntax.specs.Reads.{words, last_place, Reads}
use Rattle.vcd_syntax.proofs.Stacks.{found, leads_begin}
use Rattle.vcd_syntax.proofs.Judging.{lead_on, last_words, fault_first, stops_first, unexpected, unfinished, sound}
use Rattle.vcd_syntax.proofs.Knowing.{IsFine, knows_more, knows_none}
use Rattle.vcd_syntax.proofs.Verdicts.{fine_at, fine_is, least_here, least_before, before_is}

-- an exit by a word is one of the state's, by a kind that the word is of
all_lead : (s : State) → AllByRecursion (λ x. after s x.0 ≡ Some x.1) (exits s)
all_lead state.Front = (refl, (refl, tt))
all_lead state.FrontSaid = (refl, (refl, tt))
all_lead state.ScopeKind = (refl, tt)
all_lead state.ScopeName = (refl, tt)
all_lead state.ScopeEnd = (refl, tt)
all_lead state.Variables = (refl, (refl, (refl, tt)))
all_lead state.VariablesSaid = (refl, (refl, tt))
all_lead state.NetKind = (refl, tt)
all_lead state.Width = (refl, tt)
all_lead state.Code = (refl, tt)
all_lead state.Name = (refl, tt)
all_lead state.Range = (refl, (refl, tt))
all_lead state.VarEnd = (refl, tt)
all_lead state.UpscopeEnd = (refl, tt)
all_lead state.Back = (refl, (refl, tt))
all_lead state.BackSaid = (refl, (refl, tt))
all_lead state.DefinitionsEnd = (refl, tt)
all_lead state.Entries = (refl, (refl, (refl, (refl, (refl, tt)))))
all_lead state.Taker = (refl, tt)
all_lead state.Dump = (refl, (refl, (refl, tt)))
all_lead state.DumpTaker = (refl, tt)
all_lead state.Commented = (refl, (refl, tt))

found_by : (s : State) (w : List ℕ) (xs : List (Kind × State)) (x : Kind × State) → AllByRecursion (λ y. after s y.0 ≡ Some y.1) xs → find (λ y. is y.0 w) xs ≡ Some x → (after s x.0 ≡ Some x.1) × (is x.0 w ≡ true)
found_by s w [] x a e = cc
found_by s w (y ∷ xs) x a e = at (is y.0 w) refl (found_by s w xs x a.1) e
  where
    at : (b : Bool) → is y.0 w ≡ b → (find (λ z. is z.0 w) xs ≡ Some x → (after s x.0 ≡ Some x.1) × (is x.0 w ≡ true)) → cond b (Some y) (find (λ z. is z.0 w) xs) ≡ Some x → (after s x.0 ≡ Some x.1) × (is x.0 w ≡ true)
    at true f ih g = let one : y ≡ x = cc in subst (λ z. (after s z.0 ≡ Some z.1) × (is z.0 w ≡ true)) one (a.0, f)
    at false f ih g = ih g

pub exit_is : (s : State) (w : List ℕ) (k : Kind) (t : State) → exit_by s w ≡ Some (k, t) → (after s k ≡ Some t) × (is k w ≡ true)
exit_is s w k t e = found_by s w (exits s) (k, t) (all_lead s) e

-- What is known goes together after one more word too.

-- how much a kind adds
abbrev one_if : Kind → Kind → ℕ
one_if x y = if same x y then 1 else 0

abbrev Keeps : State → Kind × State → Type 0
Keeps s x = (open_widths s + one_if kind.Width x.0 ≡ open_widths x.1 + one_if kind.Code x.0) × (open_codes s + one_if kind.Code x.0 ≡ open_codes x.1 + one_if kind.Name x.0)

all_keep : (s : State) → AllByRecursion (Keeps s) (exits s)
all_keep state.Front = ((refl, refl), ((refl, refl), tt))
all_keep state.FrontSaid = ((refl, refl), ((refl, refl), tt))
all_keep state.ScopeKind = ((refl, refl), tt)
all_keep state.ScopeName = ((refl, refl), tt)
all_keep state.ScopeEnd = ((refl, refl), tt)
all_keep state.Variables = ((refl, refl), ((refl, refl), ((refl, refl), tt)))
all_keep state.VariablesSaid = ((refl, refl), ((refl, refl), tt))
all_keep state.NetKind = ((refl, refl), tt)
all_keep state.Width = ((refl, refl), tt)
all_keep state.Code = ((refl, refl), tt)
all_keep state.Name = ((refl, refl), tt)
all_keep state.Range = ((refl, refl), ((refl, refl), tt))
all_keep state.VarEnd = ((refl, refl), tt)
all_keep state.UpscopeEnd = ((refl, refl), tt)
all_keep state.Back = ((refl, refl), ((refl, refl), tt))
all_keep state.BackSaid = ((refl, refl), ((refl, refl), tt))
all_keep state.DefinitionsEnd = ((refl, refl), tt)
all_keep state.Entries = ((refl, refl), ((refl, refl), ((refl, refl), ((refl, refl), ((refl, refl), tt)))))
all_keep state.Taker = ((refl, refl), tt)
all_keep state.Dump = ((refl, refl), ((refl, refl), ((refl, refl), tt)))
all_keep state.DumpTaker = ((refl, refl), tt)
all_keep state.Commented = ((refl, refl), ((refl, refl), tt))

pub keeps : (s : State) (x : Kind) (t : State) → after s x ≡ Some t → Keeps s (x, t)
keeps s x t e = found (Keeps s) (exits s) x t e (all_keep s)

given_more : (es : List Event) (cs : List (List ℕ)) (c : List ℕ) → AreGiven es cs → AreGiven es (cs ++ (c ∷ []))
given_more [] cs c h = tt
given_more (Comes t ∷ es) cs c h = given_more es cs c h
given_more (Gives d x ∷ es) cs c h = (more_among cs d h.0, given_more es cs c h.1)
  where
    more_among : (cs : List (List ℕ)) (d : List ℕ) → among cs d ≡ true → among (cs ++ (c ∷ [])) d ≡ true
    more_among [] d e = cc
    more_among (b ∷ cs) d e = at (bytes_eq b d) e (more_among cs d)
      where
        at : (z : Bool) → (z || among cs d) ≡ true → (among cs d ≡ true → among (cs ++ (c ∷ [])) d ≡ true) → (z || among (cs ++ (c ∷ [])) d) ≡ true
        at true f ih = refl
        at false f ih = ih f

given_append : (es fs : List Event) (cs : List (List ℕ)) → AreGiven es cs → AreGiven fs cs → AreGiven (es ++ fs) cs
given_append [] fs cs a b = b
given_append (Comes t ∷ es) fs cs a b = given_append es fs cs a b
given_append (Gives c x ∷ es) fs cs a b = (a.0, given_append es fs cs a.1 b)

-- a new code stands behind the others once
apart_more : (cs : List (List ℕ)) (c : List ℕ) → AreApart cs → among cs c ≡ false → AreApart (cs ++ (c ∷ []))
apart_more [] c h e = (refl, tt)
apart_more (b ∷ cs) c h e = (other cs (or_parts (bytes_eq b c) (among cs c) e).0 h.0, apart_more cs c h.1 (or_parts (bytes_eq b c) (among cs c) e).1)
  where
    other : (ds : List (List ℕ)) → bytes_eq b c ≡ false → list_any (bytes_eq b) ds ≡ false → list_any (bytes_eq b) (ds ++ (c ∷ [])) ≡ false
    other [] f g = rw f refl
    other (d ∷ ds) f g = let r = or_parts (bytes_eq b d) (list_any (bytes_eq b) ds) g in let rest = other ds f r.1 in rw (r.0, rest) refl

module _ (s : State) (k : Known) (o : IsOrderly s k) (w : List ℕ) (x : Kind) (t : State) (e : after s x ≡ Some t) (f : IsFine x w k) where
  longer : {X : Type 0} (xs : List X) (y : X) → length (xs ++ (y ∷ [])) ≡ length xs + 1
  longer xs y = length-append xs (y ∷ [])

  -- a word that declares nothing
  as_before : (es : List Event) → Keeps s (x, t) → one_if kind.Width x ≡ 0 → one_if kind.Code x ≡ 0 → one_if kind.Name x ≡ 0 → AreGiven es k.codes → IsOrderly t (record { codes = k.codes; names = k.names; widths = k.widths; events = es; word = w })
  as_before es q a b c g = record { widths = omega (arith, o.widths, q.0, a, b); names = omega (arith, o.names, q.1, b, c); apart = o.apart; given = g }

  no_more : Keeps s (x, t) → one_if kind.Width x ≡ 0 → one_if kind.Code x ≡ 0 → one_if kind.Name x ≡ 0 → IsOrderly t (record { codes = k.codes; names = k.names; widths = k.widths; events = k.events; word = w })
  no_more q a b c = as_before k.events q a b c o.given

orderly_at : (s : State) (k : Known) (w : List ℕ) (x : Kind) (t : State) → IsOrderly s k → after s x ≡ Some t → IsFine x w k → Keeps s (x, t) → IsOrderly t (more x w k)
orderly_at s k w kind.Width t o e f q = record { widths = omega (arith, o.widths, q.0, length-append k.widths (decimal_value w ∷ [])); names = omega (arith, o.names, q.1); apart = o.apart; given = o.given }
orderly_at s k w kind.Code t o e f q = record {
  widths = omega (arith, o.widths, q.0, length-append k.codes (w ∷ []));
  names = omega (arith, o.names, q.1, length-append k.codes (w ∷ []));
  apart = apart_more k.codes w o.apart f;
  given = given_more k.events k.codes w o.given;
}
orderly_at s k w kind.Name t o e f q = record { widths = omega (arith, o.widths, q.0); names = omega (arith, o.names, q.1, length-append k.names (w ∷ [])); apart = o.apart; given = o.given }
orderly_at s k w kind.Time t o e f q = as_before s k o w kind.Time t e f (k.events ++ (Comes (decimal_value (drop 1 w)) ∷ [])) q refl refl refl (given_append k.events (Comes (decimal_value (drop 1 w)) ∷ []) k.codes o.given tt)
orderly_at s k w kind.Scalar t o e f q = as_before s k o w kind.Scalar t e f (k.events ++ (Gives (drop 1 w) (digits_value 2 (take 1 w)) ∷ [])) q refl refl refl (given_append k.events (Gives (drop 1 w) (digits_value 2 (take 1 w)) ∷ []) k.codes o.given (f.0, tt))
orderly_at s k w kind.Taker t o e f q = as_before s k o w kind.Taker t e f (k.events ++ (Gives w (digits_value 2 (drop 1 k.word)) ∷ [])) q refl refl refl (given_append k.events (Gives w (digits_value 2 (drop 1 k.word)) ∷ []) k.codes o.given (f.0, tt))
orderly_at s k w kind.Heading t o e f q = no_more s k o w kind.Heading t e f q refl refl refl
orderly_at s k w kind.Said t o e f q = no_more s k o w kind.Said t e f q refl refl refl
orderly_at s k w kind.End t o e f q = no_more s k o w kind.End t e f q refl refl refl
orderly_at s k w kind.Scope t o e f q = no_more s k o w kind.Scope t e f q refl refl refl
orderly_at s k w kind.ScopeKind t o e f q = no_more s k o w kind.ScopeKind t e f q refl refl refl
orderly_at s k w kind.ScopeName t o e f q = no_more s k o w kind.ScopeName t e f q refl refl refl
orderly_at s k w kind.Upscope t o e f q = no_more s k o w kind.Upscope t e f q refl refl refl
orderly_at s k w kind.Var t o e f q = no_more s k o w kind.Var t e f q refl refl refl
orderly_at s k w kind.NetKind t o e f q = no_more s k o w kind.NetKind t e f q refl refl refl
orderly_at s k w kind.Range t o e f q = no_more s k o w kind.Range t e f q refl refl refl
orderly_at s k w kind.EndDefinitions t o e f q = no_more s k o w kind.EndDefinitions t e f q refl refl refl
orderly_at s k w kind.Bits t o e f q = no_more s k o w kind.Bits t e f q refl refl refl
orderly_at s k w kind.DumpVars t o e f q = no_more s k o w kind.DumpVars t e f q refl refl refl
orderly_at s k w kind.Comment t o e f q = no_more s k o w kind.Comment t e f q refl refl refl

each_more : (ms : List Token) (m : Token) → AreOfTheirKinds ms → is m.kind m.word.token ≡ true → AreOfTheirKinds (ms ++ (m ∷ []))
each_more [] m h e = (e, tt)
each_more (x ∷ ms) m h e = (h.0, each_more ms m h.1 e)

place_more : (b : ℕ) (ms : List Token) (m : Token) → last_place b (ms ++ (m ∷ [])) ≡ m.word.place
place_more b [] m = refl
place_more b (x ∷ ms) m = place_more x.word.place ms m

last_of : (ms : List Token) → (ms ≡ []) ⊎ ((front : List Token) × (y : Token) × (ms ≡ front ++ (y ∷ [])))
last_of [] = inl refl
last_of (x ∷ []) = inr ([], x, refl)
last_of (x ∷ y ∷ ms) = elim (last_of (y ∷ ms)) [
  | inl none ↦ cc
  | inr r ↦ inr (x ∷ r.0, r.1, ap (λ z. x ∷ z) r.2)
]

abbrev mark : Kind → Word → Token
mark x w = record { kind = x; word = w }

module _ (text : List ℕ) (w : Word) (left : List Word) (s : State) (k : Known) (back : ℕ) (h : Reads text (w ∷ left) s k back) (x : Kind) (t : State) (e : exit_by s w.token ≡ Some (x, t)) where
  abbrev m : Token
  m = mark x w

  on : after_all state.Front (kinds_of (h.ms ++ (m ∷ []))) ≡ Some t
  on = ap (after_all state.Front) (map-append (λ y. y.kind) h.ms (m ∷ [])) ∙ lead_on (kinds_of h.ms) x state.Front s t h.leads (exit_is s w.token x t e).0

  begun : AreBegun (words (h.ms ++ (m ∷ []))) (h.ms ++ (m ∷ []))
  begun = record { are = refl; each = each_more h.ms m h.read.begun.each (exit_is s w.token x t e).1; begins = leads_begin (kinds_of (h.ms ++ (m ∷ []))) t on }

  -- where a list ends with one more, the mark stands in the front or is the last
  ends : (front : List Token) (y : Token) (behind ms : List Token) (z : Token) → ms ++ (z ∷ []) ≡ front ++ (y ∷ behind) → ((b : List Token) × (ms ≡ front ++ (y ∷ b))) ⊎ ((front ≡ ms) × (y ≡ z))
  ends [] y behind [] z g = inr (refl, cc)
  ends [] y behind (a ∷ ms) z g = let one : a ≡ y = cc in inl (ms, ap (λ q. q ∷ ms) one)
  ends (b ∷ []) y behind [] z g = cc
  ends (b ∷ c ∷ front) y behind [] z g = cc
  ends (b ∷ front) y behind (a ∷ ms) z g =
      let one : a ≡ b = cc in
      let rest : ms ++ (z ∷ []) ≡ front ++ (y ∷ behind) = cc in
      elim (ends front y behind ms z rest) [
        | inl r ↦ inl (r.0, ap (λ q. q ∷ ms) one ∙ ap (λ q. b ∷ q) r.1)
        | inr r ↦ inr (ap (λ q. b ∷ q) r.0 ∙ ap (λ q. q ∷ ms) (sym one), r.1)
      ]

  -- A word that is fine is read.
  pub goes_on : judge x w.token k ≡ Fine → Reads text left t (more x w.token k) w.place
  goes_on f = record {
    ms = h.ms ++ (m ∷ []);
    read = record {
      spelled = subst (λ z. Spells vcd text z) (sym (ap (λ z. z ++ left) (last_words h.ms m) ∙ append_assoc (words h.ms) (w ∷ []) left)) h.read.spelled;
      begun = begun;
      clean = clean;
    };
    leads = on;
    knows = knows_more h.ms m k h.knows;
    at = place_more 0 h.ms m;
    orderly = orderly_at s k w.token x t h.orderly (exit_is s w.token x t e).0 (fine_at x w.token k f) (keeps s x t (exit_is s w.token x t e).0);
  }
    where
      clean : (front : List Token) (y : Token) (behind : List Token) (p : Problem) (q : ℕ) → h.ms ++ (m ∷ []) ≡ front ++ (y ∷ behind) → IsFaulty front y p q → ⊥
      clean front y behind p q g i = elim (ends front y behind h.ms m g) [
        | inl r ↦ h.read.clean front y r.0 p q r.1 i
        | inr r ↦ fine_is h.ms m k h.knows f p q (subst (λ z. IsFaulty h.ms z p q) r.1 (subst (λ z. IsFaulty z y p q) r.0 i))
      ]

  -- A word at fault is the first of the text.
  pub wrong_here : (p : Problem) → judge x w.token k ≡ Here p → IsFirst text p w.place
  wrong_here p f = let l = least_here h.ms m k h.knows p f in fault_first text h.ms m left p w.place h.read begun l.0 l.1

  pub wrong_before : (p : Problem) → judge x w.token k ≡ Before p → IsFirst text p back
  wrong_before p f = elim (last_of h.ms) [
    | inl none ↦ absurd (no_taker_first (subst (λ z. after_all state.Front (kinds_of z) ≡ Some s) none h.leads))
    | inr r ↦
        let l = least_before h.ms m k h.knows r.0 r.1 p r.2 taker (subst (λ z. judge z w.token k ≡ Before p) taker f) in
        let place : r.1.word.place ≡ back = sym (place_more 0 r.0 r.1) ∙ (ap (last_place 0) (sym r.2) ∙ h.at) in
        subst (λ z. IsFirst text p z) place (fault_first text h.ms m left p r.1.word.place h.read begun l.0 l.1)
  ]
    where
      taker : x ≡ kind.Taker
      taker = before_is x w.token k p f

      no_taker_first : Some state.Front ≡ Some s → ⊥
      no_taker_first g =
          let one : state.Front ≡ s = cc in
          let here : after state.Front kind.Taker ≡ Some t = subst (λ z. after z kind.Taker ≡ Some t) (sym one) (subst (λ z. after s z ≡ Some t) taker (exit_is s w.token x t e).0) in
          cc

-- A word without an exit goes on with nothing.
pub no_exit : (text : List ℕ) (w : Word) (left : List Word) (s : State) (k : Known) (back : ℕ) → Reads text (w ∷ left) s k back → exit_by s w.token ≡ None → IsFirst text Misformed w.place
no_exit text w left s k back h e = stops_first text h.ms (w ∷ left) h.read (unexpected h.ms w left s h.read.begun h.leads e)

-- At the end the text is a dump, or goes on with nothing.
pub no_end : (text : List ℕ) (s : State) (k : Known) (back : ℕ) → Reads text [] s k back → (s ≡ state.Entries → ⊥) → IsFirst text Misformed (length text)
no_end text s k back h n = stops_first text h.ms [] h.read (unfinished h.ms s h.read.begun h.leads n)

pub at_end : (text : List ℕ) (k : Known) (back : ℕ) (h : Reads text [] state.Entries k back) → IsSound text h.ms
at_end text k back h = sound text h.ms h.read h.leads

-- At the front nothing is read.
pub nothing_read : (text : List ℕ) (left : List Word) → Spells vcd text left → Reads text left state.Front (record { codes = []; names = []; widths = []; events = []; word = [] }) 0
nothing_read text left h = record {
  ms = [];
  read = record { spelled = h; begun = record { are = refl; each = tt; begins = leads_begin [] state.Front refl }; clean = λ front y behind p q e i. none front y behind e };
  leads = refl;
  knows = knows_none;
  at = refl;
  orderly = record { widths = refl; names = refl; apart = tt; given = tt };
}
  where
    none : (front : List Token) (y : Token) (behind : List Token) → [] ≡ front ++ (y ∷ behind) → ⊥
    none [] y behind e = cc
    none (x ∷ front) y behind e = cc
