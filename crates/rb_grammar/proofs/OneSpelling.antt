-- A text spells at most one list of tokens, has at most one first fault, and not both.
use Rattle.std.proofs.Common.{◌≡◌, ℕ, true, false, Some, None, List, [], ◌∷◌, ◌++◌, length, codes, refl, ap, sym, ◌∙◌, subst, arith, inl, inr, ◌⊎◌, append-nil}
use Rattle.std.proofs.lemmas.Bool.{both_ways}
use Rattle.rb_grammar.specs.Separators.{Skips, begins_separator}
use Rattle.rb_grammar.specs.Lexemes.{Lexicon, has_form, meaning_of}
use Rattle.rb_grammar.specs.Spelling.{At, Fault, NoLexeme, NoMeaning, IsLongest, IsNext, StartsWith, SpellsFrom, Spells, IsFault, no_lexeme, open_comment, no_meaning, FailsAt, FaultsFrom, here, later, Faults}
use Rattle.rb_grammar.proofs.Separating.{Halts, skips_once, halts_at_end, halts_at_bare, halts_at_open}

-- of two fronts of one text one is a front of the other
fronts : (a x b y : List ℕ) → a ++ x ≡ b ++ y → ((m : List ℕ) × (b ≡ a ++ m) × (x ≡ m ++ y)) ⊎ ((m : List ℕ) × (a ≡ b ++ m) × (y ≡ m ++ x))
fronts [] x b y e = inl (b, refl, e)
fronts (c ∷ a) x [] y e = inr (c ∷ a, refl, sym e)
fronts (c ∷ a) x (d ∷ b) y e = elim (fronts a x b y cc) [
  | inl p ↦ inl (p.0, (let p1 = p.1 in let f : c ≡ d = cc in cc), p.2)
  | inr p ↦ inr (p.0, (let p1 = p.1 in let f : c ≡ d = cc in cc), p.2)
]

module _ {T : Type 0} (L : Lexicon T) where
  longest_is : (a x b y m : List ℕ) → IsLongest L a x → has_form L b ≡ true → b ≡ a ++ m → x ≡ m ++ y → (a ≡ b) × (x ≡ y)
  longest_is a x b y m l f e g =
      let none : m ≡ [] = l m y g (sym (ap (has_form L) e) ∙ f) in
      (sym (e ∙ (ap (λ k. a ++ k) none ∙ append-nil a)), g ∙ ap (λ k. k ++ y) none)

  -- The longest lexeme is determined.
  pub next_once : (left a x b y : List ℕ) → IsNext L left a x → IsNext L left b y → (a ≡ b) × (x ≡ y)
  next_once left a x b y p q = elim (fronts a x b y (sym p.whole ∙ q.whole)) [
    | inl w ↦ longest_is a x b y w.0 p.longest q.form w.1 w.2
    | inr w ↦ (let s = longest_is b y a x w.0 q.longest p.form w.1 w.2 in (sym s.0, sym s.1))
  ]

  at_is : (t u : At T) → t.token ≡ u.token → t.place ≡ u.place → t ≡ u
  at_is t u e f = let F : T → At T = λ z. record { token = z; place = t.place } in let H : ℕ → At T = λ z. record { token = u.token; place = z } in ap F e ∙ ap H f

  -- The next token and what follows it are determined.
  pub starts_once : (size : ℕ) (text : List ℕ) (t u : At T) (r s : List ℕ) → StartsWith L size text t r → StartsWith L size text u s → (t ≡ u) × (r ≡ s)
  starts_once size text t u r s a b =
      let e : a.left ≡ b.left = skips_once L.comments text a.left b.left a.skips b.skips (halts_at_bare L.comments a.left a.next.bare) (halts_at_bare L.comments b.left b.next.bare) in
      let P : List ℕ → Type 0 = λ z. IsNext L z a.word r in
      let q : (a.word ≡ b.word) × (r ≡ s) = next_once b.left a.word r b.word s (subst P e a.next) b.next in
      let one : Some t.token ≡ Some u.token = sym a.means ∙ (ap (meaning_of L) q.0 ∙ b.means) in
      let place : t.place ≡ u.place = omega (arith, a.at, b.at, ap length e) in
      let token : t.token ≡ u.token = cc in
      (at_is t u token place, q.1)

  next_some : (word rest : List ℕ) → IsNext L [] word rest → ⊥
  next_some [] rest p = let f : false ≡ true = p.form in cc
  next_some (b ∷ bs) rest p = let f : [] ≡ b ∷ (bs ++ rest) = p.whole in cc

  -- No token comes where separators reach the end.
  pub ended : (size : ℕ) (text : List ℕ) (t : At T) (r : List ℕ) → Skips L.comments text [] → StartsWith L size text t r → ⊥
  ended size text t r h a =
      let e : a.left ≡ [] = skips_once L.comments text a.left [] a.skips h (halts_at_bare L.comments a.left a.next.bare) (halts_at_end L.comments) in
      let P : List ℕ → Type 0 = λ z. IsNext L z a.word r in
      next_some a.word r (subst P e a.next)

  from_once : (size : ℕ) (ts us : List (At T)) (text : List ℕ) → SpellsFrom L size text ts → SpellsFrom L size text us → ts ≡ us
  from_once size [] [] text p q = refl
  from_once size [] (u ∷ us) text p q = absurd (ended size text u q.0 p q.1)
  from_once size (t ∷ ts) [] text p q = absurd (ended size text t p.0 q p.1)
  from_once size (t ∷ ts) (u ∷ us) text p q =
      let e : (t ≡ u) × (p.0 ≡ q.0) = starts_once size text t u p.0 q.0 p.1 q.1 in
      let P : List ℕ → Type 0 = λ z. SpellsFrom L size z ts in
      let f : ts ≡ us = from_once size ts us q.0 (subst P e.1 p.2) q.2 in
      let e0 : t ≡ u = e.0 in cc

  -- A text spells at most one list of tokens.
  pub spells_once : (text : List ℕ) (ts us : List (At T)) → Spells L text ts → Spells L text us → ts ≡ us
  spells_once text ts us p q = from_once (length text) ts us text p q

  fault_halts : (left : List ℕ) (f : Fault) → IsFault L left f → Halts L.comments left
  fault_halts left _ (no_lexeme h n) = halts_at_bare L.comments left h
  fault_halts left _ (open_comment body c e n) = halts_at_open L.comments left body e n
  fault_halts left _ (no_meaning word rest p m) = halts_at_bare L.comments left p.bare

  open_begins : (left body : List ℕ) → L.comments ≡ true → left ≡ codes "/*" ++ body → begins_separator L.comments left ≡ true
  open_begins left body c e = rw (e, c) refl

  formless : (left word rest : List ℕ) → ((word rest : List ℕ) → left ≡ word ++ rest → has_form L word ≡ false) → IsNext L left word rest → ⊥
  formless left word rest n p = both_ways (has_form L word) (n word rest p.whole) p.form

  open_bare : (left body : List ℕ) → L.comments ≡ true → left ≡ codes "/*" ++ body → begins_separator L.comments left ≡ false → ⊥
  open_bare left body c e h = both_ways (begins_separator L.comments left) h (open_begins left body c e)

  fault_once : (left : List ℕ) (f g : Fault) → IsFault L left f → IsFault L left g → f ≡ g
  fault_once left _ _ (no_lexeme {b = b} {bs = bs} h n) q = go _ q
    where
      go : (g : Fault) → IsFault L (b ∷ bs) g → NoLexeme b ≡ g
      go _ (no_lexeme k m) = refl
      go _ (open_comment body c e m) = absurd (open_bare (b ∷ bs) body c e h)
      go _ (no_meaning word rest p m) = absurd (formless (b ∷ bs) word rest n p)
  fault_once left _ _ (open_comment body c e n) (no_lexeme k m) = absurd (open_bare left body c e k)
  fault_once left _ _ (open_comment body c e n) (open_comment body' d f m) = refl
  fault_once left _ _ (open_comment body c e n) (no_meaning word rest p m) = absurd (open_bare left body c e p.bare)
  fault_once left _ _ (no_meaning word rest p m) (no_lexeme k n) = absurd (formless left word rest n p)
  fault_once left _ _ (no_meaning word rest p m) (open_comment body c e n) = absurd (open_bare left body c e p.bare)
  fault_once left _ _ (no_meaning word rest p m) (no_meaning word' rest' q n) = ap NoMeaning (next_once left word rest word' rest' p q).0

  fault_no_token : (left word rest : List ℕ) (f : Fault) (t : T) → IsFault L left f → IsNext L left word rest → meaning_of L word ≡ Some t → ⊥
  fault_no_token left word rest _ t (no_lexeme h n) p m = formless left word rest n p
  fault_no_token left word rest _ t (open_comment body c e n) p m = open_bare left body c e p.bare
  fault_no_token left word rest _ t (no_meaning word' rest' q n) p m =
      let e : word' ≡ word = (next_once left word' rest' word rest q p).0 in
      let f : Some t ≡ None = sym m ∙ (ap (meaning_of L) (sym e) ∙ n) in cc

  fault_some : (f : Fault) → IsFault L [] f → ⊥
  fault_some _ (open_comment body c e n) = cc
  fault_some _ (no_meaning word rest p m) = next_some word rest p

  -- No fault stands where a token comes, nor at the end.
  pub no_fault : (size : ℕ) (text : List ℕ) (f : Fault) (p : ℕ) (t : At T) (r : List ℕ) → FailsAt L size text f p → StartsWith L size text t r → ⊥
  no_fault size text f p t r k a =
      let e : a.left ≡ k.left = skips_once L.comments text a.left k.left a.skips k.skips (halts_at_bare L.comments a.left a.next.bare) (fault_halts k.left f k.fault) in
      let P : List ℕ → Type 0 = λ z. IsNext L z a.word r in
      fault_no_token k.left a.word r f t.token k.fault (subst P e a.next) a.means

  faults_from_once : (size : ℕ) (text : List ℕ) (f g : Fault) (p q : ℕ) → FaultsFrom L size text f p → FaultsFrom L size text g q → (f ≡ g) × (p ≡ q)
  faults_from_once size text f g p q (here a) (here b) =
      let e : a.left ≡ b.left = skips_once L.comments text a.left b.left a.skips b.skips (fault_halts a.left f a.fault) (fault_halts b.left g b.fault) in
      let P : List ℕ → Type 0 = λ z. IsFault L z f in
      let place : p ≡ q = omega (arith, a.at, b.at, ap length e) in
      (fault_once b.left f g (subst P e a.fault) b.fault, place)
  faults_from_once size text f g p q (here a) (later {rest = rest} {t = t} b r) = absurd (no_fault size text f p t rest a b)
  faults_from_once size text f g p q (later {rest = rest} {t = t} b r) (here a) = absurd (no_fault size text g q t rest a b)
  faults_from_once size text f g p q (later {rest = rest} {t = t} a r) (later {rest = rest'} {t = u} b s) =
      let e : (t ≡ u) × (rest ≡ rest') = starts_once size text t u rest rest' a b in
      let P : List ℕ → Type 0 = λ z. FaultsFrom L size z g q in
      faults_from_once size rest f g p q r (subst P (sym e.1) s)

  -- A text has at most one first fault.
  pub faults_once : (text : List ℕ) (f g : Fault) (p q : ℕ) → Faults L text f p → Faults L text g q → (f ≡ g) × (p ≡ q)
  faults_once text f g p q = faults_from_once (length text) text f g p q

  from_not_both : (size : ℕ) (ts : List (At T)) (text : List ℕ) (f : Fault) (p : ℕ) → SpellsFrom L size text ts → FaultsFrom L size text f p → ⊥
  from_not_both size [] text f p h (here a) =
      let e : a.left ≡ [] = skips_once L.comments text a.left [] a.skips h (fault_halts a.left f a.fault) (halts_at_end L.comments) in
      let P : List ℕ → Type 0 = λ z. IsFault L z f in
      fault_some f (subst P e a.fault)
  from_not_both size [] text f p h (later {rest = rest} {t = t} a r) = ended size text t rest h a
  from_not_both size (t ∷ ts) text f p h (here a) = no_fault size text f p t h.0 a h.1
  from_not_both size (t ∷ ts) text f p h (later {rest = rest} {t = u} a r) =
      let e : (t ≡ u) × (h.0 ≡ rest) = starts_once size text t u h.0 rest h.1 a in
      let P : List ℕ → Type 0 = λ z. FaultsFrom L size z f p in
      from_not_both size ts h.0 f p h.2 (subst P (sym e.1) r)

  -- A text that spells tokens has no fault.
  pub not_both : (text : List ℕ) (ts : List (At T)) (f : Fault) (p : ℕ) → Spells L text ts → Faults L text f p → ⊥
  not_both text ts f p h k = from_not_both (length text) ts text f p h k
