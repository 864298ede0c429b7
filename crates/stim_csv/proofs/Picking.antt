-- Numbers of rows in the columns of the pins.
use Rattle.std.proofs.Common.{◌≡◌, ℕ, zero, suc, ◌+◌, ◌*◌, ◌<◌, ◌≤◌, List, [], ◌∷◌, ◌++◌, length, map, take, drop, get_or, slice_index, refl, ap, sym, ◌∙◌, add-one, length-append, arith}
use Rattle.std.specs.List.{AllByRecursion}
use Rattle.std.proofs.lemmas.List.{length-map, length-take-le, length-drop, get_or-map, map_more}
use Rattle.std.proofs.lemmas.Grind.{same_number_lists}
use Rattle.stim_csv.specs.Columns.{picked}
use Rattle.stim_csv.specs.Vectors.{cut}
use Rattle.stim_csv.proofs.Cutting.{cut-push, get_or-row, length-cut, suc_times}

-- a row in the order of its columns is the row
in_order : (columns row : List ℕ) (w : ℕ) → length columns ≡ w → ((k : ℕ) → k < w → slice_index columns k ≡ k) → length row ≡ w → picked columns row ≡ row
in_order columns row w long places is = same_number_lists (picked columns row) row (count ∙ (long ∙ sym is)) at
  where
    count : length (picked columns row) ≡ length columns
    count = length-map columns (λ c. slice_index row c)

    at : (k : ℕ) → k < length (picked columns row) → get_or (picked columns row) k 0 ≡ get_or row k 0
    at k l =
        let low : k < length columns = omega (arith, l, count) in
        get_or-map (λ c. slice_index row c) columns k 0 0 low ∙ ap (λ c. slice_index row c) (places k (omega (arith, low, long)))

pub all_in_order : (columns cells : List ℕ) (w n : ℕ) → length columns ≡ w → ((k : ℕ) → k < w → slice_index columns k ≡ k) → length cells ≡ n * w
    → cut (length columns) n cells ≡ map (picked columns) (cut w n cells)
unfolding cut
all_in_order columns cells w n long places whole = ap (λ k. cut k n cells) long ∙ go n cells whole
  where
    go : (n : ℕ) (xs : List ℕ) → length xs ≡ n * w → cut w n xs ≡ map (picked columns) (cut w n xs)
    go zero xs h = refl
    go (suc n) xs h =
        let more = suc_times n w in
        let fits : w ≤ length xs = omega (arith, h, more) in
        let first : picked columns (take w xs) ≡ take w xs = in_order columns (take w xs) w long places (length-take-le w xs fits) in
        ap (λ r. r ∷ cut w n (drop w xs)) (sym first) ∙ ap (λ rs. picked columns (take w xs) ∷ rs) (go n (drop w xs) (omega (arith, length-drop w xs, h, more)))

-- the numbers of a row in these columns
row_picked : (columns cells : List ℕ) (w n row : ℕ) → AllByRecursion (λ c. c < w) columns → row < n → map (λ c. slice_index cells (row * w + c)) columns ≡ picked columns (get_or (cut w n cells) row [])
row_picked [] cells w n row low l = refl
row_picked (c ∷ cs) cells w n row low l =
    ap (λ x. x ∷ map (λ k. slice_index cells (row * w + k)) cs) (sym (get_or-row w n row c cells l low.0))
    ∙ ap (λ xs. slice_index (get_or (cut w n cells) row []) c ∷ xs) (row_picked cs cells w n row low.1 l)

-- one row more
pub rows_more : (columns cells vectors more : List ℕ) (w n row : ℕ) → AllByRecursion (λ c. c < w) columns → row < n → cut (length columns) row vectors ≡ map (picked columns) (take row (cut w n cells))
    → length vectors ≡ row * length columns → more ≡ vectors ++ map (λ c. slice_index cells (row * w + c)) columns
    → cut (length columns) (row + 1) more ≡ map (picked columns) (take (row + 1) (cut w n cells))
rows_more columns cells vectors more w n row low l was whole pushed =
    let rows = cut w n cells in
    let vector = map (λ c. slice_index cells (row * w + c)) columns in
    let one : cut (length columns) (row + 1) more ≡ cut (length columns) row vectors ++ (vector ∷ [])
    = rw (add-one row, pushed) (cut-push (length columns) row vectors vector whole (length-map columns (λ c. slice_index cells (row * w + c)))) in
    one ∙ (ap (λ z. z ++ (vector ∷ [])) was ∙ (ap (λ v. map (picked columns) (take row rows) ++ (v ∷ [])) (row_picked columns cells w n row low l) ∙ sym (map_more (picked columns) rows row [] (omega (arith, l, length-cut w n cells)))))

pub whole_more : (columns vectors more : List ℕ) (f : ℕ → ℕ) (row : ℕ) → length vectors ≡ row * length columns → more ≡ vectors ++ map f columns → length more ≡ (row + 1) * length columns
whole_more columns vectors more f row whole pushed =
    ap length pushed ∙ rw (add-one row) (omega (arith, length-append vectors (map f columns), length-map columns f, whole, suc_times row (length columns)))

-- no row yet
pub none_yet : (w : ℕ) (vectors : List ℕ) → vectors ≡ [] → record { rows : cut w 0 vectors ≡ []; whole : length vectors ≡ 0 * w }
unfolding cut
none_yet w vectors is = record { rows = refl; whole = ap length is ∙ omega arith }
