-- Software reads and writes at the same addresses.
use Rattle.std.proofs.Common.{◌≡◌, ◌∙◌, ◌⊎◌, inl, inr, ℕ, zero, suc, ◌+◌, ◌*◌, ◌/◌, ◌<◌, ◌≤◌, ◌==◌, ◌&&◌, ◌||◌, Bool, true, false, not, List, [], ◌∷◌, map, filter, length, refl, sym, ap, subst, arith}
use Rattle.std.specs.List.{AllByRecursion, AllPairs, list_any}
use Rattle.std.proofs.lemmas.Bool.Decides.{nat_tests}
use Rattle.std.proofs.lemmas.List.Kept.{AllPairs-from_increasing}
use Rattle.std.proofs.lemmas.List.Sorted.{Contains-permutation, IsPermutation-sym}
use Rattle.rdl_values.specs.Instances.{Instance, upto}
use Rattle.rdl_layers.specs.Fields.{fields_of, has_on_read, reads, writes}
use Rattle.rdl_addr.specs.Rules.{is_read_only, is_write_only}
use Rattle.rdl_nodes.proofs.Apart.{Apart}
use Rattle.rdl_nodes.proofs.Members.{In, each-in, flat-in, get-read, in-flat, in-from, in-left, in-map, in-place, in-right, in-to, map-in}
use Rattle.rdl_addr.specs.Layout.{Placed}
use Rattle.rb_model.specs.declared.block.Word.{Word}
use Rattle.rdl_rules.specs.Numbers.{Numbered, numbered, numbered_from}
use Rattle.rdl_rules.specs.Words.{AreByAddress, shares_with, word_of, words_but, words_of}
use Rattle.rdl_fields.proofs.Lists.{filter-in, in-filter}
use Rattle.rdl_sound_laws.proofs.Placed.{Stands, access, width}
use Rattle.rdl_sound_laws.proofs.Meeting.{Clear, below-upto, each-of, numbered-in, they-share}

-- Numbers that rise are determined by which there are.

abbrev Rises : List ℕ → Type 0
Rises xs = Apart (λ m n. m < n) xs

apart-pairs : (xs : List ℕ) → AllPairs (λ m n. m < n) xs → Rises xs
apart-pairs [] h = tt
apart-pairs (x ∷ xs) h = (
  each-of (λ y. x < y) xs (λ y i. let p = in-place xs y i in let low = p.1 in subst (λ z. x < z) (get-read xs p.0 y y p.2) (h 0 (suc p.0) y (omega arith) (omega (arith, low)))),
  apart-pairs xs (λ i j d l m. h (suc i) (suc j) d (omega (arith, l)) (omega (arith, m))),
)

-- the first of two such lists of the same numbers are one
one-head : (x y : ℕ) (xs ys : List ℕ) → AllByRecursion (λ n. x < n) xs → AllByRecursion (λ n. y < n) ys → (y ≡ x) ⊎ In ys x → (x ≡ y) ⊎ In xs y → x ≡ y
one-head x y xs ys up down (inl e) q = sym e
one-head x y xs ys up down (inr i) (inl e) = e
one-head x y xs ys up down (inr i) (inr j) = let less = each-in (λ n. y < n) ys x down i in let more = each-in (λ n. x < n) xs y up j in absurd (omega (arith, less, more))

one-tail : (x y n : ℕ) (xs ys : List ℕ) → AllByRecursion (λ m. x < m) xs → x ≡ y → In xs n → (y ≡ n) ⊎ In ys n → In ys n
one-tail x y n xs ys up same i (inr j) = j
one-tail x y n xs ys up same i (inl e) = let less = each-in (λ m. x < m) xs n up i in absurd (omega (arith, less, same, e))

one-list : (xs ys : List ℕ) → Rises xs → Rises ys → ((n : ℕ) → In xs n → In ys n) → ((n : ℕ) → In ys n → In xs n) → xs ≡ ys
one-list [] [] up down there back = refl
one-list [] (y ∷ ys) up down there back = absurd (back y (inl refl))
one-list (x ∷ xs) [] up down there back = absurd (there x (inl refl))
one-list (x ∷ xs) (y ∷ ys) up down there back =
    let same = one-head x y xs ys up.0 down.0 (there x (inl refl)) (back y (inl refl)) in
    let rest = one-list xs ys up.1 down.1 (λ n i. one-tail x y n xs ys up.0 same i (there n (inr i))) (λ n i. one-tail y x n ys xs down.0 (sym same) i (back n (inr i))) in
    (λ i. same i ∷ rest i)

-- A masked word has one at its address that takes its place.

apart-either : {X : Type 0} (R : X → X → Type 0) (xs : List X) → Apart R xs → (x y : X) → In xs x → In xs y → (x ≡ y) ⊎ (R x y ⊎ R y x)
apart-either R [] h x y i j = absurd i
apart-either R (z ∷ zs) h x y (inl e) (inl f) = inl (sym e ∙ f)
apart-either R (z ∷ zs) h x y (inl e) (inr j) = inr (inl (subst (λ w. R w y) e (each-in (R z) zs y h.0 j)))
apart-either R (z ∷ zs) h x y (inr i) (inl f) = inr (inr (subst (λ w. R w x) f (each-in (R z) zs x h.0 i)))
apart-either R (z ∷ zs) h x y (inr i) (inr j) = apart-either R zs h.1 x y i j

any-in : {X : Type 0} (p : X → Bool) (xs : List X) → list_any p xs ≡ true → (x : X) × In xs x × (p x ≡ true)
any-in p [] e = cc e
any-in p (x ∷ xs) e = go (p x) refl e (any-in p xs)
  where
    go : (b : Bool) → p x ≡ b → (b || list_any p xs) ≡ true → (list_any p xs ≡ true → (y : _) × In xs y × (p y ≡ true)) → (y : _) × In (x ∷ xs) y × (p y ≡ true)
    go true q h rest = (x, inl refl, q)
    go false q h rest = let r = rest h in (r.0, inr r.1, r.2)

-- no register passes both tests
abbrev pub Excludes : (Instance → Bool) → (Instance → Bool) → Type 0
Excludes test mate = (n : Instance) → test n ≡ true → mate n ≡ true → ⊥

number-of : (k v : ℕ) (ps : List Placed) (p : Placed) → In ps p → (r : Numbered Placed) × In (numbered_from (λ x. x.node) k v ps) r × (r.register ≡ p)
number-of k v [] p h = absurd h
number-of k v (q ∷ ps) p (inl e) = (record { register = q; number = k; first_view = v }, inl refl, e)
number-of k v (q ∷ ps) p (inr h) = let r = number-of (k + 1) (v + length (fields_of q.node)) ps p h in (r.0, inr r.1, r.2)

some-byte : (p : Placed) → Stands p → 0 < p.size
some-byte p s = by (access p.node) (width p.node) p.size s.widths_.wide s.widths_.fits s.sized
  where
    by : (a w z : ℕ) → (a ≡ 8) ⊎ (a ≡ 16) ⊎ (a ≡ 32) → a ≤ w → z ≡ w / 8 → 0 < z
    by a w z (inl e) f is = omega (arith, e, f, is)
    by a w z (inr (inl e)) f is = omega (arith, e, f, is)
    by a w z (inr (inr e)) f is = omega (arith, e, f, is)

in-upto : (n k : ℕ) → k < n → In (upto n) k
in-upto zero k l = absurd (omega (arith, l))
in-upto (suc n) k l = by (k == n) refl (λ m. in-upto n k m)
  where
    same : (k == n) ≡ true → n ≡ k
    same e = grind (arith, nat_tests, e)

    less : (k == n) ≡ false → k < n
    less e = grind (arith, nat_tests, e, l)

    by : (b : Bool) → (k == n) ≡ b → (k < n → In (upto n) k) → In (upto (suc n)) k
    by true e before = in-right (upto n) (n ∷ []) k (inl (same e))
    by false e before = in-left (upto n) (n ∷ []) k (before (less e))

module _ (test mate : Instance → Bool) (excludes : Excludes test mate) (ps : List Placed) (clear : Apart Clear ps) (stands : (p : Placed) → In ps p → Stands p) where
  abbrev kept-if : (Instance → Bool) → (Instance → Bool) → Numbered Placed → Bool
  kept-if t m r = not (t r.register.node && shares_with m ps r.register)

  abbrev At : ℕ → Type 0
  At a = (w : Word) × In (words_but mate test ps) w × (w.address ≡ a)

  -- a register that passes the test is not masked by the other
  stays : (r : Numbered Placed) → test r.register.node ≡ true → not (mate r.register.node && shares_with test ps r.register) ≡ true
  stays r t = go (mate r.register.node) refl
    where
      go : (b : Bool) → mate r.register.node ≡ b → not (b && shares_with test ps r.register) ≡ true
      go true e = absurd (excludes r.register.node t e)
      go false e = refl

  both-share : (p q : Placed) → In ps p → In ps q → q.address ≡ p.address → test q.node ≡ true → mate p.node ≡ true → (width q.node ≡ width p.node) × (access q.node ≡ access p.node)
  both-share p q i j at t m = by (apart-either Clear ps clear p q i j)
    where
      here : (p.address ≤ p.address) × (p.address < p.address + p.size)
      here = let some = some-byte p (stands p i) in (omega arith, omega (arith, some))

      there : (q.address ≤ p.address) × (p.address < q.address + q.size)
      there = let some = some-byte q (stands q j) in (omega (arith, at), omega (arith, some, at))

      by : (p ≡ q) ⊎ (Clear p q ⊎ Clear q p) → (width q.node ≡ width p.node) × (access q.node ≡ access p.node)
      by (inl e) = absurd (excludes q.node t (subst (λ (x : Placed). mate x.node ≡ true) e m))
      by (inr (inl c)) = let s = they-share p q p.address c here there in (s.widths_, s.access_)
      by (inr (inr c)) = let s = they-share q p p.address c there here in (sym s.widths_, sym s.access_)

  other-word : (r : Numbered Placed) (k : ℕ) → In ps r.register → k < width r.register.node / access r.register.node → (q : Placed) → In ps q → q.address ≡ r.register.address → test q.node ≡ true → mate r.register.node ≡ true → At (r.register.address + k * (access r.register.node / 8))
  other-word r k i low q j at t m =
      let same = both-share r.register q i j at t m in
      let s = number-of 0 0 ps q j in
      let w_is : width s.0.register.node ≡ width r.register.node = ap (λ (x : Placed). width x.node) s.2 ∙ same.0 in
      let a_is : access s.0.register.node ≡ access r.register.node = ap (λ (x : Placed). access x.node) s.2 ∙ same.1 in
      let few : k < width s.0.register.node / access s.0.register.node = subst (λ x. k < x) (sym (λ n. w_is n / a_is n)) low in
      let in_word : In (words_of s.0) (word_of s.0 k) = in-map (word_of s.0) (upto (width s.0.register.node / access s.0.register.node)) k (in-upto (width s.0.register.node / access s.0.register.node) k few) in
      let stay = in-filter (kept-if mate test) (numbered (λ (x : Placed). x.node) ps) s.0 s.1 (stays s.0 (ap (λ (x : Placed). test x.node) s.2 ∙ t)) in (
        word_of s.0 k,
        in-flat words_of (filter (kept-if mate test) (numbered (λ (x : Placed). x.node) ps)) s.0 (word_of s.0 k) stay in_word,
        λ n. (ap (λ (x : Placed). x.address) s.2 ∙ at) n + k * (a_is n / 8),
      )

  pub moved : (w : Word) → In (words_but test mate ps) w → At w.address
  moved w h =
      let r = flat-in words_of (filter (kept-if test mate) (numbered (λ (x : Placed). x.node) ps)) w h in
      let listed = filter-in (kept-if test mate) (numbered (λ (x : Placed). x.node) ps) r.0 r.1 in
      let i = numbered-in 0 0 ps r.0 listed in
      let k = map-in (word_of r.0) (upto (width r.0.register.node / access r.0.register.node)) w r.2 in
      let low = each-in (λ j. j < width r.0.register.node / access r.0.register.node) (upto (width r.0.register.node / access r.0.register.node)) k.0 (below-upto (width r.0.register.node / access r.0.register.node)) k.1 in
      by r.0 listed r.2 i k.0 low (ap (λ (x : Word). x.address) k.2) (mate r.0.register.node) refl (shares_with test ps r.0.register) refl
    where
      by : (r : Numbered Placed) → In (numbered (λ x. x.node) ps) r → In (words_of r) w → In ps r.register → (k : ℕ) → k < width r.register.node / access r.register.node → r.register.address + k * (access r.register.node / 8) ≡ w.address
          → (m : Bool) → mate r.register.node ≡ m → (s : Bool) → shares_with test ps r.register ≡ s → At w.address
      by r listed word i k low at true m true s =
          let q = any-in (λ (x : Placed). (x.address == r.register.address) && test x.node) ps s in
          subst At at (other-word r k i low q.0 q.1 (first q.0 r.register q.2) (second q.0 r.register q.2) m)
        where
          equal-numbers : (x y : ℕ) → (x == y) ≡ true → x ≡ y
          equal-numbers x y e = grind (arith, nat_tests, e)

          and-left : (a b : Bool) → (a && b) ≡ true → a ≡ true
          and-left true b e = refl
          and-left false b e = cc e

          and-right : (a b : Bool) → (a && b) ≡ true → b ≡ true
          and-right true b e = e
          and-right false b e = cc e

          first : (q p : Placed) → ((q.address == p.address) && test q.node) ≡ true → q.address ≡ p.address
          first q p e = equal-numbers q.address p.address (and-left (q.address == p.address) (test q.node) e)

          second : (q p : Placed) → ((q.address == p.address) && test q.node) ≡ true → test q.node ≡ true
          second q p e = and-right (q.address == p.address) (test q.node) e
      by r listed word i k low at true m false s = (w, in-flat words_of (filter (kept-if mate test) (numbered (λ (x : Placed). x.node) ps)) r w (in-filter (kept-if mate test) (numbered (λ (x : Placed). x.node) ps) r listed (λ n. not (m n && s n))) word, refl)
      by r listed word i k low at false m s t = (w, in-flat words_of (filter (kept-if mate test) (numbered (λ (x : Placed). x.node) ps)) r w (in-filter (kept-if mate test) (numbered (λ (x : Placed). x.node) ps) r listed (ap (λ b. not (b && shares_with test ps r.register)) m)) word, refl)

-- By address.

through : (words ordered : List Word) → AreByAddress words ordered → (n : ℕ) → In (map (λ w. w.address) ordered) n → (w : Word) × In words w × (w.address ≡ n)
through words ordered by n h =
    let w = map-in (λ (x : Word). x.address) ordered n h in
    (w.0, in-from words w.0 (Contains-permutation ordered words w.0 (IsPermutation-sym words ordered by.same) (in-to ordered w.0 w.1)), w.2)

back-through : (words ordered : List Word) → AreByAddress words ordered → (n : ℕ) → (w : Word) × In words w × (w.address ≡ n) → In (map (λ w. w.address) ordered) n
back-through words ordered by n h =
    subst (In (map (λ (x : Word). x.address) ordered)) h.2 (in-map (λ (x : Word). x.address) ordered h.0 (in-from ordered h.0 (Contains-permutation words ordered h.0 by.same (in-to words h.0 h.1))))

rises : (words ordered : List Word) → AreByAddress words ordered → Rises (map (λ w. w.address) ordered)
rises words ordered by = apart-pairs (map (λ (w : Word). w.address) ordered) (AllPairs-from_increasing (map (λ (w : Word). w.address) ordered) by.rising)

pub same-places : (test mate : Instance → Bool) → Excludes test mate → (ps : List Placed) → Apart Clear ps → ((p : Placed) → In ps p → Stands p) → (reads writes : List Word) → AreByAddress (words_but test mate ps) reads → AreByAddress (words_but mate test ps) writes
    → map (λ w. w.address) reads ≡ map (λ w. w.address) writes
same-places test mate excludes ps clear stands reads writes r w =
    one-list (map (λ (x : Word). x.address) reads) (map (λ (x : Word). x.address) writes) (rises (words_but test mate ps) reads r) (rises (words_but mate test ps) writes w)
    (λ n h. let x = through (words_but test mate ps) reads r n h in back-through (words_but mate test ps) writes w n (let y = moved test mate excludes ps clear stands x.0 x.1 in (y.0, y.1, y.2 ∙ x.2)))
    (λ n h. let x = through (words_but mate test ps) writes w n h in back-through (words_but test mate ps) reads r n (let y = moved mate test (λ i a b. excludes i b a) ps clear stands x.0 x.1 in (y.0, y.1, y.2 ∙ x.2)))

-- Software doesn't only read and only write one register.
apart-sides : (r w z : Bool) → (r && not w) ≡ true → (w && not z) ≡ true → ⊥
apart-sides true true z e f = cc e
apart-sides true false z e f = cc f
apart-sides false w z e f = cc e

pub reads-exclude : Excludes is_write_only is_read_only
reads-exclude n w r = apart-sides (list_any reads (fields_of n)) (list_any writes (fields_of n)) (list_any (λ f. reads f || has_on_read f) (fields_of n)) r w

-- Where there is a register, there is a word.

some-count : (a w : ℕ) → (a ≡ 8) ⊎ (a ≡ 16) ⊎ (a ≡ 32) → a ≤ w → 0 < w / a
some-count a w (inl e) l = subst (λ x. 0 < w / x) (sym e) (omega (arith, e, l))
some-count a w (inr (inl e)) l = subst (λ x. 0 < w / x) (sym e) (omega (arith, e, l))
some-count a w (inr (inr e)) l = subst (λ x. 0 < w / x) (sym e) (omega (arith, e, l))

in-some : {X : Type 0} (xs : List X) (x : X) → In xs x → 0 < length xs
in-some [] x h = absurd h
in-some (y ∷ ys) x h = omega arith

module _ (test mate : Instance → Bool) (excludes : Excludes test mate) (ps : List Placed) (clear : Apart Clear ps) (stands : (p : Placed) → In ps p → Stands p) (p : Placed) (i : In ps p) where
  own : (r : Numbered Placed) × In (numbered (λ x. x.node) ps) r × (r.register ≡ p)
  own = number-of 0 0 ps p i

  first-word : In (words_of own.0) (word_of own.0 0)
  first-word =
      let s = subst Stands (sym own.2) (stands p i) in
      let n = width own.0.register.node / access own.0.register.node in
      in-map (word_of own.0) (upto n) 0 (in-upto n 0 (some-count (access own.0.register.node) (width own.0.register.node) s.widths_.wide s.widths_.fits))

  some-word : (w : Word) × In (words_but test mate ps) w
  some-word = by (test own.0.register.node) refl
    where
      by : (b : Bool) → test own.0.register.node ≡ b → (w : Word) × In (words_but test mate ps) w
      by false e = (word_of own.0 0, in-flat words_of (filter (λ r. not (test r.register.node && shares_with mate ps r.register)) (numbered (λ (x : Placed). x.node) ps)) own.0 (word_of own.0 0) (in-filter (λ r. not (test r.register.node && shares_with mate ps r.register)) (numbered (λ (x : Placed). x.node) ps) own.0 own.1 (ap (λ b. not (b && shares_with mate ps own.0.register)) e)) first-word)
      by true e =
          let other = in-flat words_of (filter (λ r. not (mate r.register.node && shares_with test ps r.register)) (numbered (λ (x : Placed). x.node) ps)) own.0 (word_of own.0 0) (in-filter (λ r. not (mate r.register.node && shares_with test ps r.register)) (numbered (λ (x : Placed). x.node) ps) own.0 own.1 (stays test mate excludes ps clear stands own.0 e)) first-word in
          let w = moved mate test (λ n a b. excludes n b a) ps clear stands (word_of own.0 0) other in
          (w.0, w.1)

  pub some-ordered : (ws : List Word) → AreByAddress (words_but test mate ps) ws → 0 < length ws
  some-ordered ws by = let w = some-word in in-some ws w.0 (in-from ws w.0 (Contains-permutation (words_but test mate ps) ws w.0 by.same (in-to (words_but test mate ps) w.0 w.1)))

pub writes-exclude : Excludes is_read_only is_write_only
writes-exclude n r w = reads-exclude n w r
