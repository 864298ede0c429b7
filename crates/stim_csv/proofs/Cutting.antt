-- Lists of one length, one behind the other.
use Rattle.std.proofs.Common.{◌≡◌, ℕ, zero, suc, ◌+◌, ◌*◌, ◌<◌, ◌≤◌, List, [], ◌∷◌, ◌++◌, length, get_or, take, drop, refl, ap, sym, ◌∙◌, arith}
use Rattle.std.proofs.lemmas.List.{take-append-le, drop-append-le, drop-drop, take_all, length-drop, length-take, get_or-take, get_or-drop}
use Rattle.stim_csv.specs.Vectors.{cut}

pub length-cut : (w n : ℕ) (xs : List ℕ) → length (cut w n xs) ≡ n
unfolding cut
length-cut w zero xs = refl
length-cut w (suc n) xs = ap suc (length-cut w n (drop w xs))

pub suc_times : (k w : ℕ) → suc k * w ≡ w + k * w
suc_times k w = grind arith

-- the list at a place
pub get_or-cut : (w n : ℕ) (xs : List ℕ) (k : ℕ) → k < n → get_or (cut w n xs) k [] ≡ take w (drop (k * w) xs)
unfolding cut
get_or-cut w zero xs k h = absurd (omega arith)
get_or-cut w (suc n) xs zero h = let none : 0 ≡ 0 * w = omega arith in ap (λ m. take w (drop m xs)) none
get_or-cut w (suc n) xs (suc k) h =
    get_or-cut w n (drop w xs) k (omega (arith, h)) ∙ (ap (take w) (drop-drop (k * w) w xs) ∙ ap (λ m. take w (drop m xs)) (sym (suc_times k w)))

empty : (xs : List ℕ) → length xs ≡ 0 → xs ≡ []
empty [] h = refl
empty (x ∷ xs) h = absurd (omega (arith, h))

-- one more list
pub cut-push : (w n : ℕ) (xs ys : List ℕ) → length xs ≡ n * w → length ys ≡ w → cut w (suc n) (xs ++ ys) ≡ cut w n xs ++ (ys ∷ [])
unfolding cut
cut-push w zero xs ys p q = rw (empty xs (omega (arith, p))) (ap (λ l. l ∷ []) (take_all w ys (omega (arith, q))))
cut-push w (suc n) xs ys p q =
    let long = suc_times n w in
    let fits : w ≤ length xs = omega (arith, p, long) in
    let left : length (drop w xs) ≡ n * w = omega (arith, length-drop w xs, p, long) in
    ap (λ l. l ∷ cut w (suc n) (drop w (xs ++ ys))) (take-append-le w xs ys fits)
    ∙ ap (λ l. take w xs ∷ l) (ap (cut w (suc n)) (drop-append-le w xs ys fits) ∙ cut-push w n (drop w xs) ys left q)

-- a list at a place lies within
pub within : (at rows w : ℕ) → at < rows → at * w + w ≤ rows * w
within at rows w h = grind arith

-- a number of a list at a place
pub get_or-row : (w n k i : ℕ) (xs : List ℕ) → k < n → i < w → get_or (get_or (cut w n xs) k []) i 0 ≡ get_or xs (k * w + i) 0
get_or-row w n k i xs low p = ap (λ l. get_or l i 0) (get_or-cut w n xs k low) ∙ (get_or-take w (drop (k * w) xs) i 0 p ∙ get_or-drop (k * w) xs i 0)

-- a list that is there: where it stands, what it is, and how long
pub row_of : (w n : ℕ) (xs : List ℕ) (seen : List (List ℕ)) (at : ℕ) → cut w n xs ≡ seen → at < length seen → length xs ≡ n * w
    → (at * w + w ≤ length xs) × (get_or seen at [] ≡ take w (drop (at * w) xs)) × (length (get_or seen at []) ≡ w)
row_of w n xs seen at is low whole =
    let below : at < n = omega (arith, ap length is, length-cut w n xs, low) in
    let row : get_or seen at [] ≡ take w (drop (at * w) xs) = ap (λ rs. get_or rs at []) (sym is) ∙ get_or-cut w n xs at below in
    let fits : at * w + w ≤ length xs = omega (arith, within at n w below, whole) in
    (fits, row, ap length row ∙ omega (arith, length-take w (drop (at * w) xs), length-drop (at * w) xs, fits))

pub number_there : (w n : ℕ) (xs : List ℕ) (seen : List (List ℕ)) (at i : ℕ) → cut w n xs ≡ seen → at < length seen → length xs ≡ n * w → i < length (get_or seen at [])
    → (at * w + i < length xs) × (get_or xs (at * w + i) 0 ≡ get_or (get_or seen at []) i 0)
number_there w n xs seen at i is low whole p =
    let row = row_of w n xs seen at is low whole in
    let below : at < n = omega (arith, ap length is, length-cut w n xs, low) in
    (omega (arith, row.0, row.2, p), sym (get_or-row w n at i xs below (omega (arith, p, row.2))) ∙ ap (λ rs. get_or (get_or rs at []) i 0) is)
