-- Entries by their keys, of which no two are equal.
use Rattle.std.proofs.Common.{◌≡◌, ◌∙◌, ℕ, suc, ◌+◌, ◌<◌, ◌^◌, ◌==◌, Bool, true, false, cond, bytes_eq, nat_lt, List, [], ◌∷◌, ◌++◌, fold, length, map, Option, None, Some, slice_get, refl, sym, ap, subst, arith}
use Rattle.std.specs.List.{enumerate_from, list_all}
use Rattle.std.specs.Option.{option_map_or}
use Rattle.rb_model.specs.declared.block.Block.{Block}
use Rattle.rb_model.specs.declared.block.Reg.{Reg}
use Rattle.rb_model.specs.declared.block.Word.{Word}
use Rattle.rb_model.specs.References.{Each}
use Rattle.rb_model.specs.Sound.{IsSound, WordIsSound}
use Rattle.rb_model.proofs.Apart.{Apart, Apart-flat_map, Apart-from, Apart-place}
use Rattle.rb_model.proofs.Eachs.{Each-append, Each-at, Each-flat_map, Each-map, Each-numbered_all, Each-weaker}
use Rattle.rb_model.proofs.OwnViews.{both_true}
use Rattle.word_groups.specs.declared.entries.Entry.{Entry}
use Rattle.word_groups.specs.Arrays.{as_array, at_each, entries, entries_of, groups, has_key, is_array, is_element, key, length_at, placed, stride_at, strides_of}
use Rattle.word_groups.specs.Entries.{all_words, other_word, path_of, single, singles, words_at}
use Rattle.word_groups.specs.Parts.{parts}
use Rattle.word_groups.specs.Paths.{indices, names_of}
use Rattle.v_design.specs.WellFormed.{distinct}
use Rattle.c_header.specs.Laws.{Has}
use Rattle.c_header.proofs.Telling.{AreTold}
use Rattle.c_header.specs.Macros.{array_mark, entry_path}
use Rattle.plain_lemmas.proofs.Bools.{and-left}
use Rattle.plain_lemmas.proofs.Lists.{bytes_eq-itself, bytes_eq-same, cons-head, cons-tail, get-map_at, get-mapped, length-map, map-append, map-flat_map as map-flat, nil-cons, some-at}

-- Lists

pub each-by : {X : Type 0} (P : X → Type 0) (xs : List X) → ((k : ℕ) (x : X) → slice_get xs k ≡ Some x → P x) → Each P xs
each-by P [] h = tt
each-by P (x ∷ xs) h = (h 0 x refl, each-by P xs (λ k y e. h (suc k) y e))

pub each-mapped : {X : Type 0} (f : X → List ℕ) (P : List ℕ → Type 0) (xs : List X) → Each P (map f xs) → Each (λ x. P (f x)) xs
each-mapped f P [] h = tt
each-mapped f P (x ∷ xs) h = (h.0, each-mapped f P xs h.1)

pub apart-by : (ns : List (List ℕ)) → ((j k : ℕ) (n : List ℕ) → slice_get ns j ≡ Some n → slice_get ns k ≡ Some n → j ≡ k) → Apart ns
apart-by [] h = tt
apart-by (n ∷ ns) h = (
  each-by (λ m. m ≡ n → ⊥) ns (λ k m e q. let bad : 0 ≡ suc k = h 0 (suc k) n refl (e ∙ ap Some q) in omega (arith, bad)),
  apart-by ns (λ j k m e f. let same : suc j ≡ suc k = h (suc j) (suc k) m e f in omega (arith, same)),
)

apart-push : (ns : List (List ℕ)) (n : List ℕ) → Apart ns → Each (λ m. m ≡ n → ⊥) ns → Apart (ns ++ n ∷ [])
apart-push [] n a h = (tt, tt)
apart-push (m ∷ ns) n a h = (Each-append (λ x. x ≡ m → ⊥) ns (n ∷ []) a.0 (λ q. h.0 (sym q), tt), apart-push ns n a.1 h.1)

-- Words

pub words-sound : (b : Block) → IsSound b → Each (WordIsSound b) (all_words b)
words-sound b s = Each-flat_map (WordIsSound b) (words_at b) (enumerate_from 0 b.reads) (Each-numbered_all (λ r. Each (WordIsSound b) (words_at b r)) b.reads (λ k r e. (Each-at (WordIsSound b) b.reads k r s.reads e, other k r (slice_get b.writes k) refl)))
  where
    other : (k : ℕ) (r : Word) (o : Option Word) → slice_get b.writes k ≡ o → Each (WordIsSound b) (other_word r o)
    other k r None e = tt
    other k r (Some w) e = go (w.reg == r.reg)
      where
        go : (c : Bool) → Each (WordIsSound b) (cond c [] (w ∷ []))
        go true = tt
        go false = (Each-at (WordIsSound b) b.writes k w s.writes e, tt)

-- the path of a register that is there
path-found : (b : Block) (w : Word) → WordIsSound b w → slice_get (map (λ r. r.path) b.regs) w.reg ≡ Some (path_of b w)
path-found b w h =
    let r = some-at b.regs w.reg h.in_register in
    get-map_at (λ (x : Reg). x.path) b.regs w.reg r.0 r.1 ∙ ap Some (sym (ap (λ (o : Option Reg). option_map_or (λ (x : Reg). x.path) o []) r.1))

pub one-register : (b : Block) → IsSound b → (v w : Word) → WordIsSound b v → WordIsSound b w → path_of b v ≡ path_of b w → v.reg ≡ w.reg
one-register b s v w sv sw e =
    let apart = Apart-from (map (λ r. r.path) b.regs) (both_true (distinct (map (λ r. r.path) b.regs)) _ s.reg_paths).0 in
    Apart-place (map (λ r. r.path) b.regs) v.reg w.reg (path_of b w) apart (path-found b v sv ∙ ap Some e) (path-found b w sw)

-- the number and the path of a word
abbrev pub spot : Entry → List ℕ
spot u = u.number ∷ u.path

pub singles-apart : (b : Block) → IsSound b → AreTold b → Apart (map spot (singles b))
singles-apart b s a = apart-by (map spot (singles b)) (λ j k n e f.
    let u = get-mapped spot (singles b) j n e in
    let v = get-mapped spot (singles b) k n f in
    let x = get-mapped (single b) (all_words b) j u.0 u.1 in
    let y = get-mapped (single b) (all_words b) k v.0 v.1 in
    let same : spot (single b x.0) ≡ spot (single b y.0) = ap spot x.2 ∙ u.2 ∙ sym (ap spot y.2 ∙ v.2) in
    let number : x.0.number ≡ y.0.number = cons-head x.0.number y.0.number (path_of b x.0) (path_of b y.0) same in
    let path : path_of b x.0 ≡ path_of b y.0 = cons-tail x.0.number y.0.number (path_of b x.0) (path_of b y.0) same in
    let sound = words-sound b s in
    a.words j k x.0 y.0 x.1 y.1 (one-register b s x.0 y.0 (Each-at (WordIsSound b) (all_words b) j x.0 sound x.1) (Each-at (WordIsSound b) (all_words b) k y.0 sound y.1) path) number)

-- Groups

-- the key of its words
abbrev pub group_key : List Entry → List ℕ
group_key [] = []
group_key (u ∷ us) = key u

-- no one of these has the number and path of v
abbrev pub Foreign : List Entry → Entry → Type 0
Foreign rest v = Each (λ u. spot u ≡ spot v → ⊥) rest

pub record IsGroup (Q : Entry → Type 0) (rest g : List Entry) : Type 0 where
  pub keyed : Each (λ v. key v ≡ group_key g) g
  pub apart : Apart (map spot g)
  pub foreign : Each (Foreign rest) g
  pub are : Each Q g

module _ (Q : Entry → Type 0) (u : Entry) (us : List Entry) (q : Q u) (strange : Foreign us u) where
  alone : IsGroup Q us (u ∷ [])
  alone = record { keyed = (refl, tt); apart = (tt, tt); foreign = (strange, tt); are = (q, tt) }

  kept : (g : List Entry) → IsGroup Q (u ∷ us) g → IsGroup Q us g
  kept g h = record { keyed = h.keyed; apart = h.apart; foreign = Each-weaker (Foreign (u ∷ us)) (Foreign us) (λ v f. f.1) g h.foreign; are = h.are }

  grown : (g : List Entry) → has_key (key u) g ≡ true → IsGroup Q (u ∷ us) g → IsGroup Q us (g ++ u ∷ [])
  grown [] e h = cc e
  grown (x ∷ xs) e h =
      let same : key u ≡ key x = sym (bytes_eq-same (key x) (key u) e) in
      let others : Each (λ m. m ≡ spot u → ⊥) (map spot (x ∷ xs)) = Each-map (λ m. m ≡ spot u → ⊥) spot (x ∷ xs) (Each-weaker (Foreign (u ∷ us)) (λ v. spot v ≡ spot u → ⊥) (λ v f p. f.0 (sym p)) (x ∷ xs) h.foreign) in
      record {
        keyed = Each-append (λ v. key v ≡ key x) (x ∷ xs) (u ∷ []) h.keyed (same, tt);
        apart = subst Apart (sym (map-append spot (x ∷ xs) (u ∷ []))) (apart-push (map spot (x ∷ xs)) (spot u) h.apart others);
        foreign = Each-append (Foreign us) (x ∷ xs) (u ∷ []) (Each-weaker (Foreign (u ∷ us)) (Foreign us) (λ v f. f.1) (x ∷ xs) h.foreign) (strange, tt);
        are = Each-append Q (x ∷ xs) (u ∷ []) h.are (q, tt);
      }

  placed-groups : (gs : List (List Entry)) → Each (IsGroup Q (u ∷ us)) gs → Each (IsGroup Q us) (placed gs u)
  placed-groups [] h = (alone, tt)
  placed-groups (g ∷ gs) h = go (has_key (key u) g) refl (placed-groups gs h.1)
    where
      go : (c : Bool) → has_key (key u) g ≡ c → Each (IsGroup Q us) (placed gs u) → Each (IsGroup Q us) (cond c ((g ++ u ∷ []) ∷ gs) (g ∷ placed gs u))
      go true e more = (grown g e h.0, Each-weaker (IsGroup Q (u ∷ us)) (IsGroup Q us) kept gs h.1)
      go false e more = (kept g h.0, more)

all-groups : (Q : Entry → Type 0) (gs : List (List Entry)) (us : List Entry) → Each (IsGroup Q us) gs → Each Q us → Apart (map spot us) → Each (IsGroup Q []) (fold placed gs us)
all-groups Q gs [] h q a = h
all-groups Q gs (u ∷ us) h q a =
    let strange : Foreign us u = each-mapped spot (λ m. m ≡ spot u → ⊥) us a.0 in
    all-groups Q (placed gs u) us (placed-groups Q u us q.0 strange gs h) q.1 a.1

-- no two groups have one key

grown-key : (g : List Entry) (u : Entry) → has_key (key u) g ≡ true → group_key (g ++ u ∷ []) ≡ group_key g
grown-key [] u e = cc e
grown-key (x ∷ xs) u e = refl

other-key : (g : List Entry) (u : Entry) → has_key (key u) g ≡ false → key u ≡ group_key g → ⊥
other-key [] u e q = nil-cons u.number (names_of u.path) (sym q)
other-key (x ∷ xs) u e q = let bad : true ≡ false = sym (bytes_eq-itself (key x)) ∙ ap (λ k. bytes_eq (key x) k) (sym q) ∙ e in cc bad

each-placed : (P : List ℕ → Type 0) (gs : List (List Entry)) (u : Entry) → Each (λ g. P (group_key g)) gs → P (key u) → Each (λ g. P (group_key g)) (placed gs u)
each-placed P [] u h p = (p, tt)
each-placed P (g ∷ gs) u h p = go (has_key (key u) g) refl (each-placed P gs u h.1 p)
  where
    go : (c : Bool) → has_key (key u) g ≡ c → Each (λ f. P (group_key f)) (placed gs u) → Each (λ f. P (group_key f)) (cond c ((g ++ u ∷ []) ∷ gs) (g ∷ placed gs u))
    go true e more = (subst P (sym (grown-key g u e)) h.0, h.1)
    go false e more = (h.0, more)

keys-placed : (gs : List (List Entry)) (u : Entry) → Apart (map group_key gs) → Apart (map group_key (placed gs u))
keys-placed [] u a = (tt, tt)
keys-placed (g ∷ gs) u a = go (has_key (key u) g) refl (keys-placed gs u a.1)
  where
    go : (c : Bool) → has_key (key u) g ≡ c → Apart (map group_key (placed gs u)) → Apart (map group_key (cond c ((g ++ u ∷ []) ∷ gs) (g ∷ placed gs u)))
    go true e more = subst (λ k. Apart (k ∷ map group_key gs)) (sym (grown-key g u e)) a
    go false e more = (
      Each-map (λ n. n ≡ group_key g → ⊥) group_key (placed gs u) (each-placed (λ n. n ≡ group_key g → ⊥) gs u (each-mapped group_key (λ n. n ≡ group_key g → ⊥) gs a.0) (other-key g u e)),
      more,
    )

pub all-keys : (gs : List (List Entry)) (us : List Entry) → Apart (map group_key gs) → Apart (map group_key (fold placed gs us))
all-keys gs [] a = a
all-keys gs (u ∷ us) a = all-keys (placed gs u) us (keys-placed gs u a)

-- Entries

-- the array's names or the register's path, and the number
abbrev pub entry_key : Entry → List ℕ
entry_key e = array_mark e ∷ e.number ∷ entry_path e

-- the key of its group: a single word's has its path
abbrev pub key_of_group : List ℕ → List ℕ
key_of_group [] = []
key_of_group (m ∷ []) = []
key_of_group (m ∷ n ∷ path) = n ∷ cond (m == 97) path (names_of path)

-- the word that an entry was made of
pub record IsMade (b : Block) (e : Entry) : Type 0 where
  pub word : Word
  pub has : Has (all_words b) word
  pub number : e.number ≡ word.number
  pub parts_ : e.parts ≡ parts b word
  pub lengths_ : length e.lengths < 2 ^ 64
  pub strides_ : length e.strides < 2 ^ 64

none-few : 0 < 2 ^ 64
none-few = omega arith

abbrev pub IsSingle : Block → Entry → Type 0
IsSingle b u = (w : Word) × Has (all_words b) w × (u ≡ single b w)

module _ (b : Block) (a : AreTold b) where
  single-made : (u : Entry) → IsSingle b u → IsMade b u
  single-made u is = subst (IsMade b) (sym is.2) (record { word = is.0; has = is.1; number = refl; parts_ = refl; lengths_ = none-few; strides_ = none-few })

  single-key : (u : Entry) → IsSingle b u → entry_key u ≡ 120 ∷ spot u
  single-key u is = subst (λ (v : Entry). entry_key v ≡ 120 ∷ spot v) (sym is.2) refl

  many : (f : ℕ → ℕ) (is : List ℕ) → length (at_each f is) ≡ length is
  many f is = length-map (λ k. f k.0) (enumerate_from 0 is) ∙ counted 0 is
    where
      counted : (n : ℕ) (xs : List ℕ) → length (enumerate_from n xs) ≡ length xs
      counted n [] = refl
      counted n (x ∷ xs) = ap suc (counted (n + 1) xs)

  array-key : (u : Entry) (us : List Entry) → is_array u us ≡ true → entry_key (as_array u us) ≡ 97 ∷ u.number ∷ names_of u.path
  array-key u us e =
      let some : nat_lt 0 (length u.indices) ≡ true = and-left (nat_lt 0 (length u.indices)) (list_all (is_element u (strides_of u us)) us) e in
      let stands : nat_lt 0 (length (strides_of u us)) ≡ true = ap (λ n. nat_lt 0 n) (many (stride_at u.address us) u.indices) ∙ some in
      ap (λ s. cond s 97 120 ∷ u.number ∷ cond s (names_of u.path) u.path) stands

  array-made : (u : Entry) (us : List Entry) → IsSingle b u → IsMade b (as_array u us)
  array-made u us is =
      let few = (a.few is.0 is.1).1 in
      let long : length u.indices ≡ length (indices (path_of b is.0)) = ap (λ (v : Entry). length v.indices) is.2 in
      record {
        word = is.0;
        has = is.1;
        number = ap (λ (v : Entry). v.number) is.2;
        parts_ = ap (λ (v : Entry). v.parts) is.2;
        lengths_ = subst (λ n. n < 2 ^ 64) (sym (many (length_at us) u.indices ∙ long)) few;
        strides_ = subst (λ n. n < 2 ^ 64) (sym (many (stride_at u.address us) u.indices ∙ long)) few;
      }

  singles-keyed : (g : List Entry) (k : List ℕ) → Each (λ v. key v ≡ k) g → Each (IsSingle b) g → Each (λ e. key_of_group (entry_key e) ≡ k) g
  singles-keyed [] k h is = tt
  singles-keyed (u ∷ us) k h is = (ap key_of_group (single-key u is.0) ∙ h.0, singles-keyed us k h.1 is.1)

  singles-differ : (g : List Entry) → Apart (map spot g) → Each (IsSingle b) g → Apart (map entry_key g)
  singles-differ [] h is = tt
  singles-differ (u ∷ us) h is = (others us h.0 is.1, singles-differ us h.1 is.1)
    where
      others : (vs : List Entry) → Each (λ m. m ≡ spot u → ⊥) (map spot vs) → Each (IsSingle b) vs → Each (λ m. m ≡ entry_key u → ⊥) (map entry_key vs)
      others [] f js = tt
      others (v ∷ vs) f js = (
        λ q. f.0 (cons-tail 120 120 (spot v) (spot u) (sym (single-key v js.0) ∙ q ∙ single-key u is.0)),
        others vs f.1 js.1,
      )

  -- the entries of a group
  pub record AreOfGroup (g es : List Entry) : Type 0 where
    pub keyed : Each (λ e. key_of_group (entry_key e) ≡ group_key g) es
    pub apart : Apart (map entry_key es)
    pub made : Each (IsMade b) es

  pub of-group : (g : List Entry) → IsGroup (IsSingle b) [] g → AreOfGroup g (entries_of g)
  of-group [] h = record { keyed = tt; apart = tt; made = tt }
  of-group (u ∷ us) h = go (is_array u (u ∷ us)) refl
    where
      go : (c : Bool) → is_array u (u ∷ us) ≡ c → AreOfGroup (u ∷ us) (cond c (as_array u (u ∷ us) ∷ []) (u ∷ us))
      go true e = record { keyed = (ap key_of_group (array-key u (u ∷ us) e), tt); apart = (tt, tt); made = (array-made u (u ∷ us) h.are.0, tt) }
      go false e = record {
        keyed = singles-keyed (u ∷ us) (key u) h.keyed h.are;
        apart = singles-differ (u ∷ us) h.apart h.are;
        made = Each-weaker (IsSingle b) (IsMade b) single-made (u ∷ us) h.are;
      }

  all-single : (ws : List Word) → ((w : Word) → Has ws w → Has (all_words b) w) → Each (IsSingle b) (map (single b) ws)
  all-single [] h = tt
  all-single (w ∷ ws) h = ((w, h w (0, refl), refl), all-single ws (λ v g. h v (suc g.0, g.1)))

  module _ (s : IsSound b) where
    pub block-groups : Each (IsGroup (IsSingle b) []) (groups (singles b))
    block-groups = all-groups (IsSingle b) [] (singles b) tt (all-single (all_words b) (λ w h. h)) (singles-apart b s a)

    pub entries-made : Each (IsMade b) (entries b)
    entries-made = Each-flat_map (IsMade b) entries_of (groups (singles b)) (Each-weaker (IsGroup (IsSingle b) []) (λ g. Each (IsMade b) (entries_of g)) (λ g h. (of-group g h).made) (groups (singles b)) block-groups)

    pub entries-apart : Apart (map entry_key (entries b))
    entries-apart = subst Apart (sym (map-flat entry_key entries_of (groups (singles b)))) (Apart-flat_map (λ p n. key_of_group n ≡ p)
        (λ p q m n x y e. sym x ∙ ap key_of_group (sym e) ∙ y) group_key (λ g. map entry_key (entries_of g)) (groups (singles b)) (all-keys [] (singles b) tt)
        (Each-weaker (IsGroup (IsSingle b) []) (λ g. Apart (map entry_key (entries_of g)) × Each (λ n. key_of_group n ≡ group_key g) (map entry_key (entries_of g)))
        (λ g h. ((of-group g h).apart, Each-map (λ n. key_of_group n ≡ group_key g) entry_key (entries_of g) (of-group g h).keyed)) (groups (singles b)) block-groups))
