-- Each word has an entry that says where it stands.
use Rattle.std.proofs.Common.{◌≡◌, ◌∙◌, ⊎_elim, ℕ, zero, suc, ◌+◌, ◌*◌, ◌/◌, ◌<◌, ◌≤◌, ◌==◌, Bool, true, false, ◌&&◌, cond, bytes_eq, max, min, nat_lt, List, [], ◌∷◌, ◌++◌, filter, flat_map, fold, get_or, length, map, Option, None, Some, refl, sym, ap, subst, arith}
use Rattle.std.specs.List.{enumerate_from, list_all}
use Rattle.rb_model.specs.declared.block.Block.{Block}
use Rattle.rb_model.specs.declared.block.Word.{Word}
use Rattle.rb_model.specs.Sound.{WordIsSound}
use Rattle.word_groups.specs.declared.entries.Entry.{Entry}
use Rattle.word_groups.specs.declared.parts.Part.{Part}
use Rattle.word_groups.specs.Arrays.{as_array, distance, entries, entries_of, groups, has_key, is_array, is_element, key, length_at, placed, stride_at, strides_of}
use Rattle.word_groups.specs.Entries.{all_words, path_of, single, singles}
use Rattle.c_header.specs.Laws.{AreBelow, Has, IsEntryOf, viewless}
use Rattle.word_groups.specs.Parts.{are_like, have_like_access, have_like_bits, have_like_names, is_like, same_bool, same_reset}
use Rattle.word_groups.specs.Paths.{indices, is_index, names_and_indices, names_of, number_of, with_digit}
use Rattle.plain_lemmas.proofs.Bools.{and-left, and-right}
use Rattle.plain_lemmas.proofs.Lists.{all-get, bytes_eq-itself, bytes_eq-same, cons-head, cons-tail, get-behind, get-front, get-map_at, nil-cons}
use Rattle.plain_lemmas.proofs.Numbers.{eq-same}

-- Lists

pub has-map : {X Y : Type 0} (f : X → Y) (xs : List X) (x : X) → Has xs x → Has (map f xs) (f x)
has-map f xs x h = (h.0, get-map_at f xs h.0 x h.1)

has-front : {X : Type 0} (xs ys : List X) (x : X) → Has xs x → Has (xs ++ ys) x
has-front xs ys x h = (h.0, get-front xs ys h.0 x h.1)

pub has-behind : {X : Type 0} (xs ys : List X) (y : X) → Has ys y → Has (xs ++ ys) y
has-behind xs ys y h = (length xs + h.0, get-behind xs ys h.0 ∙ h.1)

has-later : {X : Type 0} (x : X) (xs : List X) (y : X) → Has xs y → Has (x ∷ xs) y
has-later x xs y h = (suc h.0, h.1)

pub has-flat : {X Y : Type 0} (f : X → List Y) (xs : List X) (x : X) (y : Y) → Has xs x → Has (f x) y → Has (flat_map f xs) y
has-flat f [] x y h k = cc h.1
has-flat {X = X} {Y = Y} f (z ∷ zs) x y (zero, e) k = let same : z ≡ x = cc e in has-front (f z) (flat_map f zs) y (subst (λ (w : X). Has (f w) y) (sym same) k)
has-flat f (z ∷ zs) x y (suc n, e) k = has-behind (f z) (flat_map f zs) y (has-flat f zs x y (n, e) k)

-- Groups

-- a group of a word's key, with the word in it
pub record IsGroupOf (u : Entry) (g : List Entry) : Type 0 where
  pub has : Has g u
  pub keyed : has_key (key u) g ≡ true

grown : (u v : Entry) (g : List Entry) → IsGroupOf u g → IsGroupOf u (g ++ v ∷ [])
grown u v g h = record { has = has-front g (v ∷ []) u h.has; keyed = more g h.keyed }
  where
    more : (g : List Entry) → has_key (key u) g ≡ true → has_key (key u) (g ++ v ∷ []) ≡ true
    more [] e = cc e
    more (x ∷ xs) e = e

joined : (u : Entry) (g : List Entry) → has_key (key u) g ≡ true → IsGroupOf u (g ++ u ∷ [])
joined u g e = record { has = has-behind g (u ∷ []) u (0, refl); keyed = more g e }
  where
    more : (g : List Entry) → has_key (key u) g ≡ true → has_key (key u) (g ++ u ∷ []) ≡ true
    more [] e = cc e
    more (x ∷ xs) e = e

abbrev GroupIn : List (List Entry) → Entry → Type 0
GroupIn gs u = (g : List Entry) × Has gs g × IsGroupOf u g

stays : (gs : List (List Entry)) (u v : Entry) → GroupIn gs u → GroupIn (placed gs v) u
stays [] u v (g, h, is) = cc h.1
stays (f ∷ gs) u v (g, (zero, e), is) = let same : f ≡ g = cc e in go (has_key (key v) f) (subst (IsGroupOf u) (sym same) is)
  where
    go : (c : Bool) → IsGroupOf u f → GroupIn (cond c ((f ++ v ∷ []) ∷ gs) (f ∷ placed gs v)) u
    go true is = (f ++ v ∷ [], (0, refl), grown u v f is)
    go false is = (f, (0, refl), is)
stays (f ∷ gs) u v (g, (suc n, e), is) = go (has_key (key v) f) (stays gs u v (g, (n, e), is))
  where
    go : (c : Bool) → GroupIn (placed gs v) u → GroupIn (cond c ((f ++ v ∷ []) ∷ gs) (f ∷ placed gs v)) u
    go true later = (g, (suc n, e), is)
    go false later = (later.0, has-later f (placed gs v) later.0 later.1, later.2)

comes : (gs : List (List Entry)) (u : Entry) → GroupIn (placed gs u) u
comes [] u = (u ∷ [], (0, refl), record { has = (0, refl); keyed = bytes_eq-itself (key u) })
comes (f ∷ gs) u = go (has_key (key u) f) refl (comes gs u)
  where
    go : (c : Bool) → has_key (key u) f ≡ c → GroupIn (placed gs u) u → GroupIn (cond c ((f ++ u ∷ []) ∷ gs) (f ∷ placed gs u)) u
    go true e later = (f ++ u ∷ [], (0, refl), joined u f e)
    go false e later = (later.0, has-later f (placed gs u) later.0 later.1, later.2)

all_stay : (gs : List (List Entry)) (us : List Entry) (u : Entry) → GroupIn gs u → GroupIn (fold placed gs us) u
all_stay gs [] u h = h
all_stay gs (v ∷ us) u h = all_stay (placed gs v) us u (stays gs u v h)

all_come : (gs : List (List Entry)) (us : List Entry) (u : Entry) → Has us u → GroupIn (fold placed gs us) u
all_come gs [] u h = cc h.1
all_come gs (v ∷ us) u (zero, e) = let same : v ≡ u = cc e in subst (λ (w : Entry). GroupIn (fold placed (placed gs v) us) w) same (all_stay (placed gs v) us v (comes gs v))
all_come gs (v ∷ us) u (suc n, e) = all_come (placed gs v) us u (n, e)

-- Alike parts are one

bool-same : (a b : Bool) → same_bool a b ≡ true → a ≡ b
bool-same true true e = refl
bool-same true false e = cc e
bool-same false true e = cc e
bool-same false false e = refl

reset-same : (a b : Option ℕ) → same_reset a b ≡ true → a ≡ b
reset-same None None e = refl
reset-same None (Some n) e = cc e
reset-same (Some m) None e = cc e
reset-same (Some m) (Some n) e = ap Some (eq-same m n e)

like-same : (p q : Part) → is_like p q ≡ true → viewless p ≡ viewless q
like-same p q h =
    let numbers = and-left (have_like_bits p q && have_like_access p q) (have_like_names p q) h in
    let texts = and-right (have_like_bits p q && have_like_access p q) (have_like_names p q) h in
    let places = and-left (have_like_bits p q) (have_like_access p q) numbers in
    let uses = and-right (have_like_bits p q) (have_like_access p q) numbers in
    let name = bytes_eq-same p.name q.name (and-left (bytes_eq p.name q.name) (bytes_eq p.access q.access) texts) in
    let access = bytes_eq-same p.access q.access (and-right (bytes_eq p.name q.name) (bytes_eq p.access q.access) texts) in
    let three = and-left (same_bool p.whole q.whole && same_bool p.reads q.reads && same_reset p.reset q.reset) (same_reset p.shows q.shows) uses in
    let shows = reset-same p.shows q.shows (and-right (same_bool p.whole q.whole && same_bool p.reads q.reads && same_reset p.reset q.reset) (same_reset p.shows q.shows) uses) in
    let two = and-left (same_bool p.whole q.whole && same_bool p.reads q.reads) (same_reset p.reset q.reset) three in
    let reset = reset-same p.reset q.reset (and-right (same_bool p.whole q.whole && same_bool p.reads q.reads) (same_reset p.reset q.reset) three) in
    let reads = bool-same p.reads q.reads (and-right (same_bool p.whole q.whole) (same_bool p.reads q.reads) two) in
    let whole = bool-same p.whole q.whole (and-left (same_bool p.whole q.whole) (same_bool p.reads q.reads) two) in
    let lows = and-left (p.low == q.low && p.from == q.from && p.bits == q.bits) (p.mask == q.mask) places in
    let mask = eq-same p.mask q.mask (and-right (p.low == q.low && p.from == q.from && p.bits == q.bits) (p.mask == q.mask) places) in
    let starts = and-left (p.low == q.low && p.from == q.from) (p.bits == q.bits) lows in
    let bits = eq-same p.bits q.bits (and-right (p.low == q.low && p.from == q.from) (p.bits == q.bits) lows) in
    let from = eq-same p.from q.from (and-right (p.low == q.low) (p.from == q.from) starts) in
    let low = eq-same p.low q.low (and-left (p.low == q.low) (p.from == q.from) starts) in
    λ i. record { view = 0; name = name i; low = low i; from = from i; bits = bits i; mask = mask i; whole = whole i; reads = reads i; access = access i; reset = reset i; shows = shows i }

pub likes-same : (ps qs : List Part) → are_like ps qs ≡ true → map viewless ps ≡ map viewless qs
likes-same [] [] h = refl
likes-same [] (q ∷ qs) h = cc h
likes-same (p ∷ ps) [] h = cc h
likes-same (p ∷ ps) (q ∷ qs) h =
    let first = like-same p q (and-left (is_like p q) (are_like ps qs) h) in
    let rest = likes-same ps qs (and-right (is_like p q) (are_like ps qs) h) in
    λ i. first i ∷ rest i

-- Indices

small_step : (n b : ℕ) → with_digit n b ≤ 99999999
small_step n b = omega arith

small_fold : (n : ℕ) (ds : List ℕ) → n ≤ 99999999 → fold with_digit n ds ≤ 99999999
small_fold n [] h = h
small_fold n (d ∷ ds) h = small_fold (with_digit n d) ds (small_step n d)

small_each : (ps : List (List ℕ)) (k : ℕ) → get_or (map number_of ps) k 0 ≤ 99999999
small_each [] k = omega arith
small_each (p ∷ ps) zero = small_fold 0 p (omega arith)
small_each (p ∷ ps) (suc k) = small_each ps k

-- a count is above each index at its place
abbrev counting : ℕ → ℕ → Entry → ℕ
counting k n u = max n (min 4294967295 (get_or u.indices k 0 + 1))

kept : (k n : ℕ) (us : List Entry) → n ≤ fold (counting k) n us
kept k n [] = omega arith
kept k n (u ∷ us) = let rest = kept k (counting k n u) us in let grows : n ≤ counting k n u = omega arith in omega (arith, rest, grows)

above : (k n : ℕ) (us : List Entry) (u : Entry) → Has us u → get_or u.indices k 0 ≤ 99999999 → get_or u.indices k 0 < fold (counting k) n us
above k n [] u h s = cc h.1
above k n (v ∷ us) u (zero, e) s =
    let same : v ≡ u = cc e in
    let rest = kept k (counting k n v) us in
    let low : get_or u.indices k 0 < counting k n v = subst (λ (w : Entry). get_or u.indices k 0 < counting k n w) (sym same) (omega (arith, s)) in
    omega (arith, rest, low)
above k n (v ∷ us) u (suc m, e) s = above k (counting k n v) us u (m, e) s

below_each : (f : ℕ → ℕ) (n : ℕ) (is xs : List ℕ) → ((k : ℕ) → get_or is k 0 < f (n + k)) → AreBelow is (map (λ k. f k.0) (enumerate_from n xs))
below_each f n is [] h = tt
below_each f n [] (x ∷ xs) h = tt
below_each f n (i ∷ is) (x ∷ xs) h = (
  (let at : n + 0 ≡ n = omega arith in subst (λ (m : ℕ). i < f m) at (h 0)),
  below_each f (n + 1) is xs (λ k. let at : n + suc k ≡ n + 1 + k = omega arith in subst (λ (m : ℕ). get_or is k 0 < f m) at (h (suc k))),
)

-- Entries

width-of : (b : Block) (w : Word) → WordIsSound b w → w.width / 8 * 8 ≡ w.width
width-of b w s = ⊎_elim (λ e. eight w.width 8 1 e refl) (λ r. ⊎_elim (λ e. eight w.width 16 2 e refl) (λ e. eight w.width 32 4 e refl) r) s.wide
  where
    eight : (n m q : ℕ) → n ≡ m → m / 8 * 8 ≡ m → n / 8 * 8 ≡ n
    eight n m q e h = subst (λ (k : ℕ). k / 8 * 8 ≡ k) (sym e) h

alone : (b : Block) (w : Word) → WordIsSound b w → IsEntryOf b w (single b w)
alone b w s = record {
  names = refl;
  number = refl;
  offset = plain w.address;
  counts = none (indices (path_of b w));
  width = width-of b w s;
  parts = refl;
  alone = λ n. refl;
}
  where
    plain : (n : ℕ) → n + 0 ≡ n
    plain n = omega arith

    none : (is : List ℕ) → AreBelow is []
    none [] = tt
    none (i ∷ is) = tt

in_array : (b : Block) (w : Word) (first : Entry) (us : List Entry) → WordIsSound b w → Has us (single b w) → bytes_eq (key first) (key (single b w)) ≡ true → is_array first us ≡ true
    → IsEntryOf b w (as_array first us)
in_array b w first us s has keyed h =
    let u = single b w in
    let ss = strides_of first us in
    let keys = bytes_eq-same (key first) (key u) keyed in
    let each = and-right (nat_lt 0 (length first.indices)) (list_all (is_element first ss) us) h in
    let it = all-get (is_element first ss) us has.0 u each has.1 in
    let t1 = and-left _ (are_like u.parts first.parts) it in
    let t2 = and-left _ (u.bytes == first.bytes) t1 in
    let like = likes-same u.parts first.parts (and-right _ (are_like u.parts first.parts) it) in
    let bytes = eq-same u.bytes first.bytes (and-right _ (u.bytes == first.bytes) t1) in
    let spaced = eq-same u.address (first.address + distance ss u.indices) (and-right (length u.indices == length first.indices) (u.address == first.address + distance ss u.indices) t2) in
    record {
      names = cons-tail first.number u.number (names_of first.path) (names_of u.path) keys;
      number = cons-head first.number u.number (names_of first.path) (names_of u.path) keys;
      offset = sym spaced;
      counts = below_each (length_at us) 0 u.indices first.indices (λ k. let at : 0 + k ≡ k = omega arith in subst (λ (m : ℕ). get_or u.indices k 0 < length_at us m) (sym at) (above k 0 us u has (small_each (filter is_index (names_and_indices (path_of b w))) k)));
      width = ap (λ n. n * 8) (sym bytes) ∙ width-of b w s;
      parts = sym like;
      alone = λ n. absurd (some_stride (stride_at first.address us) 0 first.indices (and-left (nat_lt 0 (length first.indices)) (list_all (is_element first ss) us) h) n);
    }
  where
    some_stride : (f : ℕ → ℕ) (k : ℕ) (is : List ℕ) → nat_lt 0 (length is) ≡ true → map (λ k. f k.0) (enumerate_from k is) ≡ [] → ⊥
    some_stride f k [] some n = cc some
    some_stride f k (i ∷ is) some n = nil-cons (f k) (map (λ k. f k.0) (enumerate_from (k + 1) is)) (sym n)

in_group : (b : Block) (w : Word) (g : List Entry) → WordIsSound b w → IsGroupOf (single b w) g → (e : Entry) × Has (entries_of g) e × IsEntryOf b w e
in_group b w [] s h = cc h.has.1
in_group b w (f ∷ us) s h = go (is_array f (f ∷ us)) refl
  where
    go : (c : Bool) → is_array f (f ∷ us) ≡ c → (e : Entry) × Has (cond c (as_array f (f ∷ us) ∷ []) (f ∷ us)) e × IsEntryOf b w e
    go true e = (as_array f (f ∷ us), (0, refl), in_array b w f (f ∷ us) s h.has h.keyed e)
    go false e = (single b w, h.has, alone b w s)

pub decoded : (b : Block) (w : Word) → WordIsSound b w → Has (all_words b) w → (e : Entry) × Has (entries b) e × IsEntryOf b w e
decoded b w s h =
    let g = all_come [] (singles b) (single b w) (has-map (single b) (all_words b) w h) in
    let e = in_group b w g.0 s g.2 in
    (e.0, has-flat entries_of (groups (singles b)) g.0 e.0 g.1 e.1, e.2)
