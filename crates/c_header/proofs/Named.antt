-- Entries and parts of one name are one.
use Rattle.std.proofs.Common.{◌≡◌, ◌∙◌, ◌⊎◌, ⊎_elim, inl, inr, ℕ, ◌<◌, ◌≤◌, ◌^◌, ◌==◌, Bool, true, false, not, ◌&&◌, cond, bytes_eq, count_by, List, [], ◌∷◌, ◌++◌, append_assoc, codes, decimal, fold, Some, slice_get, refl, sym, ap}
use Rattle.std.proofs.lemmas.Fmt.{decimal_injective}
use Rattle.std.proofs.lemmas.List.{append_cancel_left}
use Rattle.word_groups.specs.declared.entries.Entry.{Entry}
use Rattle.word_groups.specs.declared.parts.Part.{Part}
use Rattle.word_groups.specs.Paths.{last_name, name_with}
use Rattle.c_header.specs.Macros.{array_mark, entry_name, entry_naturals, entry_path, part_base, part_name, part_naturals, part_path, stands_for_array, word_base, word_exact, word_naturals, word_path}
use Rattle.c_header.specs.Names.{Base, exact, is_repeated, name_among, natural, spelled}
use Rattle.c_header.proofs.Capitals.{exact-low, high, is_high, low-front, natural-high}
use Rattle.c_header.proofs.Counts.{few, one-at, only-at, only-part, within-part}
use Rattle.c_header.proofs.Keys.{entry_key}
use Rattle.c_header.proofs.LastWords.{decimal-lacks, first-split, lacks, last-split}
use Rattle.c_header.proofs.Spellings.{one-spelling, read, read-all, read-front, unread, unread-front}
use Rattle.plain_lemmas.proofs.Bools.{and-both_true, and-left, and-right}
use Rattle.plain_lemmas.proofs.Lists.{bytes_eq-itself, cons-head, cons-tail, get-map_at, nil-cons}
use Rattle.plain_lemmas.proofs.Numbers.{eq-same}

-- What exact names spell.

-- the number of a word that isn't its register's first
abbrev pub number_behind : ℕ → List ℕ
number_behind n = cond (n == 0) [] (codes "_w" ++ decimal n)

-- of a word or a part, behind the mark
abbrev pub path_behind : Entry → (rest : List ℕ) → List ℕ
path_behind e rest = spelled (entry_path e) ++ (number_behind e.number ++ rest)

-- of the numbers of words, where a part follows: nothing, or a mark and the digits
abbrev left_of : ℕ → (rest : List ℕ) → List ℕ
left_of n rest = cond (n == 0) (unread false rest) (119 ∷ decimal n ++ rest)

abbrev read_of : ℕ → (rest : List ℕ) → List ℕ
read_of n rest = cond (n == 0) (read false rest) []

reads-number : (n : ℕ) (rest : List ℕ) → read false (number_behind n ++ rest) ≡ read_of n rest
reads-number n rest = go (n == 0)
  where
    go : (c : Bool) → read false (cond c [] (codes "_w" ++ decimal n) ++ rest) ≡ cond c (read false rest) []
    go true = refl
    go false = refl

leaves-number : (n : ℕ) (rest : List ℕ) → unread false (number_behind n ++ rest) ≡ left_of n rest
leaves-number n rest = go (n == 0)
  where
    go : (c : Bool) → unread false (cond c [] (codes "_w" ++ decimal n) ++ rest) ≡ cond c (unread false rest) (119 ∷ decimal n ++ rest)
    go true = refl
    go false = refl

reads-path : (e : Entry) (rest : List ℕ) → read false (path_behind e rest) ≡ entry_path e ++ read_of e.number rest
reads-path e rest = read-front (entry_path e) (number_behind e.number ++ rest) ∙ ap (λ r. entry_path e ++ r) (reads-number e.number rest)

leaves-path : (e : Entry) (rest : List ℕ) → unread false (path_behind e rest) ≡ left_of e.number rest
leaves-path e rest = unread-front (entry_path e) (number_behind e.number ++ rest) ∙ leaves-number e.number rest

-- numbers and what follows them

abbrev IsFew : ℕ → Type 0
IsFew n = n < 2 ^ 64

-- behind a word nothing follows
one-number : (m n : ℕ) → IsFew m → IsFew n → left_of m [] ≡ left_of n [] → m ≡ n
one-number m n a b e = go (m == 0) (n == 0) refl refl e
  where
    go : (c d : Bool) → (m == 0) ≡ c → (n == 0) ≡ d → cond c [] (119 ∷ decimal m ++ []) ≡ cond d [] (119 ∷ decimal n ++ []) → m ≡ n
    go true true p q e = eq-same m 0 p ∙ sym (eq-same n 0 q)
    go true false p q e = absurd (nil-cons 119 (decimal n ++ []) e)
    go false true p q e = absurd (nil-cons 119 (decimal m ++ []) (sym e))
    go false false p q e = decimal_injective m n a b (append-nothing (decimal m) (decimal n) (cons-tail 119 119 (decimal m ++ []) (decimal n ++ []) e))
      where
        plain : (xs : List ℕ) → xs ++ [] ≡ xs
        plain [] = refl
        plain (x ∷ xs) = ap (λ ys. x ∷ ys) (plain xs)

        append-nothing : (xs ys : List ℕ) → xs ++ [] ≡ ys ++ [] → xs ≡ ys
        append-nothing xs ys h = sym (plain xs) ∙ h ∙ plain ys

-- what follows a part's word
abbrev pub part_behind : List ℕ → List ℕ
part_behind name = codes "_1" ++ spelled name

-- paths, numbers and names of two parts whose exact names are one
pub record AreOne (d e : Entry) (p q : Part) : Type 0 where
  pub path : entry_path d ≡ entry_path e
  pub number : d.number ≡ e.number
  pub name : p.name ≡ q.name

pub reads-name : (name : List ℕ) → read false (part_behind name) ≡ 36 ∷ name
reads-name name = ap (λ r. 36 ∷ r) (read-all name)

leaves-name : (name : List ℕ) → unread false (part_behind name) ≡ []
leaves-name name = leaves name
  where
    leaves : (p : List ℕ) → unread false (spelled p) ≡ []
    leaves p = ap (unread false) (sym (plain (spelled p))) ∙ unread-front p []
      where
        plain : (xs : List ℕ) → xs ++ [] ≡ xs
        plain [] = refl
        plain (x ∷ xs) = ap (λ ys. x ∷ ys) (plain xs)

parts-one : (d e : Entry) (p q : Part) → IsFew d.number → IsFew e.number → lacks 36 p.name ≡ true → lacks 36 q.name ≡ true → path_behind d (part_behind p.name) ≡ path_behind e (part_behind q.name) → AreOne d e p q
parts-one d e p q a b x y h = go (d.number == 0) (e.number == 0) refl refl paths lefts
  where
    paths : entry_path d ++ read_of d.number (part_behind p.name) ≡ entry_path e ++ read_of e.number (part_behind q.name)
    paths = sym (reads-path d (part_behind p.name)) ∙ ap (read false) h ∙ reads-path e (part_behind q.name)

    lefts : left_of d.number (part_behind p.name) ≡ left_of e.number (part_behind q.name)
    lefts = sym (leaves-path d (part_behind p.name)) ∙ ap (unread false) h ∙ leaves-path e (part_behind q.name)

    plain : (xs : List ℕ) → xs ++ [] ≡ xs
    plain [] = refl
    plain (x ∷ xs) = ap (λ ys. x ∷ ys) (plain xs)

    go : (c f : Bool) → (d.number == 0) ≡ c → (e.number == 0) ≡ f → entry_path d ++ cond c (read false (part_behind p.name)) [] ≡ entry_path e ++ cond f (read false (part_behind q.name)) []
        → cond c (unread false (part_behind p.name)) (119 ∷ decimal d.number ++ part_behind p.name) ≡ cond f (unread false (part_behind q.name)) (119 ∷ decimal e.number ++ part_behind q.name) → AreOne d e p q
    go true true m n r l =
        let whole : entry_path d ++ 36 ∷ p.name ≡ entry_path e ++ 36 ∷ q.name = ap (λ t. entry_path d ++ t) (sym (reads-name p.name)) ∙ r ∙ ap (λ t. entry_path e ++ t) (reads-name q.name) in
        let apart = last-split 36 (entry_path d) (entry_path e) p.name q.name x y whole in
        record { path = apart.0; number = eq-same d.number 0 m ∙ sym (eq-same e.number 0 n); name = apart.1 }
    go true false m n r l = absurd (nil-cons 119 (decimal e.number ++ part_behind q.name) (sym (leaves-name p.name) ∙ l))
    go false true m n r l = absurd (nil-cons 119 (decimal d.number ++ part_behind p.name) (sym (leaves-name q.name) ∙ sym l))
    go false false m n r l =
        let digits = cons-tail 119 119 (decimal d.number ++ part_behind p.name) (decimal e.number ++ part_behind q.name) l in
        let apart = first-split 95 (decimal d.number) (decimal e.number) (49 ∷ spelled p.name) (49 ∷ spelled q.name) (decimal-lacks d.number) (decimal-lacks e.number) digits in
        record {
          path = sym (plain (entry_path d)) ∙ r ∙ plain (entry_path e);
          number = decimal_injective d.number e.number a b apart.0;
          name = one-spelling p.name q.name (cons-tail 49 49 (spelled p.name) (spelled q.name) apart.1);
        }

-- Which of two names a thing has.

pub named-alike : (ns : List (List ℕ)) (x y : Base) → high x.natural ≡ true → high y.natural ≡ true → high x.exact ≡ false → high y.exact ≡ false → name_among ns x ≡ name_among ns y
    → ((x.natural ≡ y.natural) × (count_by (λ n. bytes_eq n x.natural) ns ≤ 1)) ⊎ (x.exact ≡ y.exact)
named-alike ns x y xn yn xe ye e = go (is_repeated ns x.natural) (is_repeated ns y.natural) refl e
  where
    go : (c d : Bool) → is_repeated ns x.natural ≡ c → cond c x.exact x.natural ≡ cond d y.exact y.natural → ((x.natural ≡ y.natural) × (count_by (λ n. bytes_eq n x.natural) ns ≤ 1)) ⊎ (x.exact ≡ y.exact)
    go true true r h = inr h
    go true false r h = let bad : false ≡ true = sym xe ∙ ap high h ∙ yn in cc bad
    go false true r h = let bad : true ≡ false = sym xn ∙ ap high h ∙ ye in cc bad
    go false false r h = inl (h, few (count_by (λ n. bytes_eq n x.natural) ns) r)

-- Exact names as a whole.

mark-low : (e : Entry) → is_high (array_mark e) ≡ false
mark-low e = go (stands_for_array e)
  where
    go : (c : Bool) → is_high (cond c 97 120) ≡ false
    go true = refl
    go false = refl

word-low : (begin : List ℕ) (e : Entry) → high (word_exact begin e) ≡ false
word-low begin e = low-front (exact begin (array_mark e) (entry_path e)) (number_behind e.number) (exact-low begin (array_mark e) (entry_path e) (mark-low e))

-- behind the beginning
abbrev marked : Entry → (rest : List ℕ) → List ℕ
marked e rest = 95 ∷ array_mark e ∷ path_behind e rest

exact-word : (begin : List ℕ) (e : Entry) (rest : List ℕ) → word_exact begin e ++ rest ≡ begin ++ marked e rest
exact-word begin e rest =
    append_assoc (exact begin (array_mark e) (entry_path e)) (number_behind e.number) rest
    ∙ append_assoc begin (95 ∷ array_mark e ∷ spelled (entry_path e)) (number_behind e.number ++ rest)

plain-word : (begin : List ℕ) (e : Entry) → word_exact begin e ≡ begin ++ marked e []
plain-word begin e = sym (none (word_exact begin e)) ∙ exact-word begin e []
  where
    none : (xs : List ℕ) → xs ++ [] ≡ xs
    none [] = refl
    none (x ∷ xs) = ap (λ ys. x ∷ ys) (none xs)

marks : (begin : List ℕ) (d e : Entry) (r s : List ℕ) → begin ++ marked d r ≡ begin ++ marked e s → (array_mark d ≡ array_mark e) × (path_behind d r ≡ path_behind e s)
marks begin d e r s h =
    let all = append_cancel_left begin (marked d r) (marked e s) h in
    let from = cons-tail 95 95 (array_mark d ∷ path_behind d r) (array_mark e ∷ path_behind e s) all in
    (cons-head (array_mark d) (array_mark e) (path_behind d r) (path_behind e s) from, cons-tail (array_mark d) (array_mark e) (path_behind d r) (path_behind e s) from)

one-key : (d e : Entry) → array_mark d ≡ array_mark e → d.number ≡ e.number → entry_path d ≡ entry_path e → entry_key d ≡ entry_key e
one-key d e m n p = λ i. m i ∷ n i ∷ p i

module _ (begin : List ℕ) (us : List Entry) (capitals : high begin ≡ true) where
  -- entries of one name have one key
  pub same-word : (j k : ℕ) (d e : Entry) → slice_get us j ≡ Some d → slice_get us k ≡ Some e → IsFew d.number → IsFew e.number → entry_name begin us d ≡ entry_name begin us e → entry_key d ≡ entry_key e
  same-word j k d e x y a b h = ⊎_elim natural-one exact-one
      (named-alike (word_naturals begin us) (word_base begin d) (word_base begin e) (natural-high begin (word_path d) capitals) (natural-high begin (word_path e) capitals) (word-low begin d) (word-low begin e) h)
    where
      is : List ℕ → Bool
      is n = bytes_eq n (natural begin (word_path d))

      natural-one : (natural begin (word_path d) ≡ natural begin (word_path e)) × (count_by is (word_naturals begin us) ≤ 1) → entry_key d ≡ entry_key e
      natural-one r =
          let f : Entry → List ℕ = λ u. natural begin (word_path u) in
          let place : j ≡ k = only-at is (word_naturals begin us) j k (f d) (f e) r.1 (get-map_at f us j d x) (get-map_at f us k e y) (bytes_eq-itself (f d)) (ap (λ n. bytes_eq n (f d)) (sym r.0) ∙ bytes_eq-itself (f d)) in
          let same : Some d ≡ Some e = sym x ∙ ap (slice_get us) place ∙ y in
          let one : d ≡ e = cc same in ap entry_key one

      exact-one : word_exact begin d ≡ word_exact begin e → entry_key d ≡ entry_key e
      exact-one r =
          let m = marks begin d e [] [] (sym (plain-word begin d) ∙ r ∙ plain-word begin e) in
          let number : d.number ≡ e.number = one-number d.number e.number a b (sym (leaves-path d []) ∙ ap (unread false) m.1 ∙ leaves-path e []) in
          let path : entry_path d ≡ entry_path e = sym (whole d) ∙ ap (read false) m.1 ∙ whole e in
          one-key d e m.0 number path
        where
          whole : (u : Entry) → read false (path_behind u []) ≡ entry_path u
          whole u = reads-path u [] ∙ go (u.number == 0)
            where
              plain : (xs : List ℕ) → xs ++ [] ≡ xs
              plain [] = refl
              plain (z ∷ zs) = ap (λ ys. z ∷ ys) (plain zs)

              go : (c : Bool) → entry_path u ++ cond c [] [] ≡ entry_path u
              go true = plain (entry_path u)
              go false = plain (entry_path u)

  -- parts of one name have one name in entries of one key
  pub same-part : (j k : ℕ) (d e : Entry) (l m : ℕ) (p q : Part) → slice_get us j ≡ Some d → slice_get us k ≡ Some e → IsFew d.number → IsFew e.number → slice_get d.parts l ≡ Some p → slice_get e.parts m ≡ Some q
      → lacks 36 p.name ≡ true → lacks 36 q.name ≡ true → part_name begin us d p ≡ part_name begin us e q → (entry_key d ≡ entry_key e) × (p.name ≡ q.name)
  same-part j k d e l m p q x y a b v w lp lq h = ⊎_elim natural-one exact-one
      (named-alike (part_naturals begin us) (part_base begin d p) (part_base begin e q) (natural-high begin (part_path d p) capitals) (natural-high begin (part_path e q) capitals) (low d p) (low e q) h)
    where
      low : (u : Entry) (r : Part) → high ((word_exact begin u ++ codes "_1") ++ spelled r.name) ≡ false
      low u r = low-front (word_exact begin u ++ codes "_1") (spelled r.name) (low-front (word_exact begin u) (codes "_1") (word-low begin u))

      joined : (u : Entry) (r : Part) → (word_exact begin u ++ codes "_1") ++ spelled r.name ≡ begin ++ marked u (part_behind r.name)
      joined u r = append_assoc (word_exact begin u) (codes "_1") (spelled r.name) ∙ exact-word begin u (part_behind r.name)

      is : List ℕ → Bool
      is n = bytes_eq n (natural begin (part_path d p))

      natural-one : (natural begin (part_path d p) ≡ natural begin (part_path e q)) × (count_by is (part_naturals begin us) ≤ 1) → (entry_key d ≡ entry_key e) × (p.name ≡ q.name)
      natural-one r =
          let f : Part → List ℕ = λ t. natural begin (part_path d t) in
          let g : Part → List ℕ = λ t. natural begin (part_path e t) in
          let here : is (f p) ≡ true = bytes_eq-itself (f p) in
          let there : is (g q) ≡ true = ap (λ n. bytes_eq n (f p)) (sym r.0) ∙ bytes_eq-itself (f p) in
          let place : j ≡ k = only-part is (entry_naturals begin) us j k d e r.1 x y (one-at is (entry_naturals begin d) l (f p) (get-map_at f d.parts l p v) here) (one-at is (entry_naturals begin e) m (g q) (get-map_at g e.parts m q w) there) in
          let same : Some d ≡ Some e = sym x ∙ ap (slice_get us) place ∙ y in
          let one : d ≡ e = cc same in
          let moved : slice_get d.parts m ≡ Some q = ap (λ (u : Entry). slice_get u.parts m) one ∙ w in
          let there2 : is (f q) ≡ true = ap (λ (u : Entry). is (natural begin (part_path u q))) one ∙ there in
          let inner : l ≡ m = only-at is (entry_naturals begin d) l m (f p) (f q) (within-part is (entry_naturals begin) us j d r.1 x) (get-map_at f d.parts l p v) (get-map_at f d.parts m q moved) here there2 in
          let alike : Some p ≡ Some q = sym v ∙ ap (slice_get d.parts) inner ∙ moved in
          let part : p ≡ q = cc alike in
          (ap entry_key one, ap (λ (t : Part). t.name) part)

      exact-one : (word_exact begin d ++ codes "_1") ++ spelled p.name ≡ (word_exact begin e ++ codes "_1") ++ spelled q.name → (entry_key d ≡ entry_key e) × (p.name ≡ q.name)
      exact-one r =
          let t = marks begin d e (part_behind p.name) (part_behind q.name) (sym (joined d p) ∙ r ∙ joined e q) in
          let one = parts-one d e p q a b lp lq t.1 in
          (one-key d e t.0 one.number one.path, one.name)

-- the last name of a path has no `$`
pub last_name-lacks : (path : List ℕ) → lacks 36 (last_name path) ≡ true
last_name-lacks path = all [] path refl
  where
    pushed : (name : List ℕ) (b : ℕ) → lacks 36 name ≡ true → (b == 36) ≡ false → lacks 36 (name ++ b ∷ []) ≡ true
    pushed [] b h e = ap (λ t. not t && true) e
    pushed (x ∷ xs) b h e = and-both_true (not (x == 36)) (lacks 36 (xs ++ b ∷ [])) (and-left (not (x == 36)) (lacks 36 xs) h) (pushed xs b (and-right (not (x == 36)) (lacks 36 xs) h) e)

    step : (name : List ℕ) (b : ℕ) → lacks 36 name ≡ true → lacks 36 (name_with name b) ≡ true
    step name b h = go (b == 36) refl
      where
        go : (c : Bool) → (b == 36) ≡ c → lacks 36 (cond c [] (name ++ b ∷ [])) ≡ true
        go true e = refl
        go false e = pushed name b h e

    all : (name path : List ℕ) → lacks 36 name ≡ true → lacks 36 (fold name_with name path) ≡ true
    all name [] h = h
    all name (b ∷ bs) h = all (name_with name b) bs (step name b h)
