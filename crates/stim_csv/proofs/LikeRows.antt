-- Rows read as far as a column, by their cells and by those of the row before.
use Rattle.std.proofs.Common.{◌≡◌, ℕ, ◌+◌, ◌-◌, ◌<◌, ◌≤◌, List, [], ◌∷◌, ◌++◌, length, get_or, take, drop, refl, ap, sym, subst, ◌∙◌, append-nil, append_assoc, length-append, take-add, arith}
use Rattle.std.proofs.Math.ListN.{set}
use Rattle.std.specs.List.{sum}
use Rattle.std.proofs.lemmas.List.{length-drop, length-set, take-append-le, take_all, take_more_set, drop-append-le, drop-set-lt, drop-drop, drop_at, drop_more, drop_all, take_rest}
use Rattle.stim_csv.specs.Plain.{IsCellBefore, IsCellWith, AreCellsOf, AddsCells, HasRow, separator_before}
use Rattle.stim_csv.proofs.RowCells.{as_many, between, carried}

-- the cells from a column up to another were read, and what is behind them goes on the row
pub record CellsSoFar (widths : List ℕ) (first column : ℕ) (text rest measured row : List ℕ) : Type 0 where
  pub read : (ls ns end : List ℕ) → AreCellsOf (drop column widths) ls ns rest end → AreCellsOf (drop first widths) (measured ++ ls) (row ++ ns) text end

pub none_read : (widths : List ℕ) (first : ℕ) (text : List ℕ) → CellsSoFar widths first first text text [] []
none_read widths first text = record { read = λ ls ns end h. h }

separator_is : (separator : ℕ) (ws : List ℕ) → (0 < length ws → separator ≡ 44) → (length ws ≡ 0 → separator ≡ 10) → separator ≡ separator_before ws
separator_is separator [] comma line = line refl
separator_is separator (w ∷ ws) comma line = comma (omega arith)

pub cell_read : (widths : List ℕ) (first column at end : ℕ) (text begin measured row : List ℕ) (separator width n : ℕ) → CellsSoFar widths first column begin (drop at text) measured row → column < length widths
    → width ≡ get_or widths column 0 → (column + 1 < length widths → separator ≡ 44) → (length widths ≤ column + 1 → separator ≡ 10) → at < end → end ≤ length text
    → IsCellBefore separator width (drop at text) (drop end text) n → CellsSoFar widths first (column + 1) begin (drop end text) (measured ++ (end - at) ∷ []) (row ++ n ∷ [])
cell_read widths first column at end text begin measured row separator width n so low width_is comma line past within cell =
    let ws = drop (column + 1) widths in
    let long : length ws ≡ length widths - (column + 1) = length-drop (column + 1) widths in
    let parts = between text at end separator width n past within cell in
    let same : separator ≡ separator_before ws = separator_is separator ws (λ some. comma (omega (arith, long, some))) (λ none. line (omega (arith, long, none))) in
    let place : at + (end - at) ≡ end = omega (arith, past) in
    let these : drop column widths ≡ get_or widths column 0 ∷ ws = drop_more widths column 0 low in
    let behind : drop (end - at) (drop at text) ≡ drop end text = drop-drop (end - at) at text ∙ ap (λ k. drop k text) place in
    let one : IsCellWith (separator_before ws) (get_or widths column 0) n (take (end - at) (drop at text)) = subst (λ w. IsCellWith (separator_before ws) w n (take (end - at) (drop at text))) width_is (subst (λ s. IsCellWith s width n (take (end - at) (drop at text))) same parts.1) in
    record {
      read = λ ls ns rest h.
          let all : AreCellsOf (drop column widths) ((end - at) ∷ ls) (n ∷ ns) (drop at text) rest = subst (λ w. AreCellsOf w ((end - at) ∷ ls) (n ∷ ns) (drop at text) rest) (sym these) (parts.0, one, subst (λ t. AreCellsOf ws ls ns t rest) (sym behind) h) in
          subst (λ l. AreCellsOf (drop first widths) l ((row ++ n ∷ []) ++ ns) begin rest) (sym (append_assoc measured ((end - at) ∷ []) ls))
          (subst (λ m. AreCellsOf (drop first widths) (measured ++ (end - at) ∷ ls) m begin rest) (sym (append_assoc row (n ∷ []) ns)) (so.read ((end - at) ∷ ls) (n ∷ ns) rest all));
    }

-- the lengths up to a column, with one more
pub measured_more : (lengths front measured : List ℕ) (column l : ℕ) → column < length lengths → take column lengths ≡ front ++ measured → take (column + 1) (set lengths column l) ≡ front ++ (measured ++ l ∷ [])
measured_more lengths front measured column l low is = take_more_set lengths column l low ∙ (ap (λ m. m ++ l ∷ []) is ∙ append_assoc front measured (l ∷ []))

pub number_more : (old row new : List ℕ) (numbers : List ℕ) (n m : ℕ) → numbers ≡ old ++ row → new ≡ numbers ++ m ∷ [] → m ≡ n → new ≡ old ++ (row ++ n ∷ [])
number_more old row new numbers n m was is same = is ∙ (ap (λ k. numbers ++ k ∷ []) same ∙ (ap (λ ns. ns ++ n ∷ []) was ∙ append_assoc old row (n ∷ [])))

-- all columns were read
pub all_read : (widths lengths lengths' old new measured row begin rest : List ℕ) (first column : ℕ) → CellsSoFar widths first column begin rest measured row → length widths ≤ column → length lengths' ≡ length widths
    → take column lengths' ≡ take first lengths ++ measured → new ≡ old ++ row → AddsCells widths first begin rest lengths lengths' old new
all_read widths lengths lengths' old new measured row begin rest first column so all long is added = record {
  measured = measured;
  numbers = row;
  lengths_are = sym (take_all column lengths' (omega (arith, long, all))) ∙ is;
  added = added;
  cells = subst (λ l. AreCellsOf (drop first widths) l row begin rest) (append-nil measured) (subst (λ n. AreCellsOf (drop first widths) (measured ++ []) n begin rest) (append-nil row)
      (so.read [] [] rest (subst (λ w. AreCellsOf w [] [] rest rest) (sym (drop_all column widths all)) refl)));
}

-- a row read as far as a column, with what is left of the row before
pub record LikeSoFar (widths lengths last text : List ℕ) (column was at start : ℕ) (row : List ℕ) : Type 0 where
  pub passed : was ≤ length text
  pub within : at ≤ length text
  pub low : column ≤ length widths
  pub long : length lengths ≡ length widths
  pub so : CellsSoFar widths 0 column (drop start text) (drop at text) (take column lengths) row
  pub left : AreCellsOf (drop column widths) (drop column lengths) (drop column last) (drop was text) (drop start text)

-- the last numbers are those of the row before
pub last_row : (widths lengths text rest all : List ℕ) → (h : HasRow widths text rest lengths all) → (length widths ≤ length all) × (drop (length all - length widths) all ≡ h.numbers)
last_row widths lengths text rest all h =
    let many = (as_many widths lengths h.numbers text rest h.cells).1 in
    let sum = ap length h.all_are ∙ length-append h.earlier h.numbers in
    let place : length h.earlier ≡ length all - length widths = omega (arith, many, sum) in
    (omega (arith, many, sum), ap (drop (length all - length widths)) h.all_are ∙ drop_at h.earlier h.numbers (length all - length widths) place)

pub like_none : (widths lengths text all : List ℕ) (before start : ℕ) → before ≤ length text → start ≤ length text → length lengths ≡ length widths → HasRow widths (drop before text) (drop start text) lengths all
    → LikeSoFar widths lengths (drop (length all - length widths) all) text 0 before start start []
like_none widths lengths text all before start passed within long h = record {
  passed = passed;
  within = within;
  low = omega arith;
  long = long;
  so = none_read widths 0 (drop start text);
  left = subst (λ ns. AreCellsOf widths lengths ns (drop before text) (drop start text)) (sym (last_row widths lengths (drop before text) (drop start text) all h).1) h.cells;
}

-- so many cells more, which are those of the row before
pub like_more : (widths lengths last text row : List ℕ) (column was at start count bytes alike : ℕ) → LikeSoFar widths lengths last text column was at start row → count ≤ length (drop column lengths) → bytes ≡ sum (take count (drop column lengths)) → bytes ≤ alike
    → alike ≤ length (drop was text) → alike ≤ length (drop at text) → take alike (drop was text) ≡ take alike (drop at text) → LikeSoFar widths lengths last text (column + count) (was + bytes) (at + bytes) start (row ++ take count (drop column last))
like_more widths lengths last text row column was at start count bytes alike l few is within one other same =
    let c = carried count alike (drop column widths) (drop column lengths) (drop column last) (drop was text) (drop at text) (drop start text) l.left few (omega (arith, is, within)) other same in
    let s = sum (take count (drop column lengths)) in
    let place : (k : ℕ) → drop s (drop k text) ≡ drop (k + bytes) text = λ k. drop-drop s k text ∙ ap (λ b. drop (k + b) text) (sym is) in
    record {
      passed = omega (arith, one, within, length-drop was text, l.passed);
      within = omega (arith, other, within, length-drop at text, l.within);
      low = omega (arith, few, length-drop column lengths, l.long, l.low);
      long = l.long;
      so = record {
        read = λ ls ns end h.
            let there : AreCellsOf (drop count (drop column widths)) ls ns (drop s (drop at text)) end = subst (λ t. AreCellsOf (drop count (drop column widths)) ls ns t end) (sym (place at)) (subst (λ w. AreCellsOf w ls ns (drop (at + bytes) text) end) (sym (drop-drop count column widths)) h) in
            let whole = l.so.read (take count (drop column lengths) ++ ls) (take count (drop column last) ++ ns) end (c.here ls ns end there) in
            subst (λ m. AreCellsOf widths m ((row ++ take count (drop column last)) ++ ns) (drop start text) end) (sym (append_assoc (take column lengths) (take count (drop column lengths)) ls) ∙ ap (λ m. m ++ ls) (sym (take-add column count lengths)))
            (subst (λ m. AreCellsOf widths (take column lengths ++ (take count (drop column lengths) ++ ls)) m (drop start text) end) (sym (append_assoc row (take count (drop column last)) ns)) whole);
      };
      left = subst (λ w. AreCellsOf w (drop (column + count) lengths) (drop (column + count) last) (drop (was + bytes) text) (drop start text)) (drop-drop count column widths)
          (subst (λ m. AreCellsOf (drop count (drop column widths)) m (drop (column + count) last) (drop (was + bytes) text) (drop start text)) (drop-drop count column lengths)
          (subst (λ m. AreCellsOf (drop count (drop column widths)) (drop count (drop column lengths)) m (drop (was + bytes) text) (drop start text)) (drop-drop count column last)
          (subst (λ t. AreCellsOf (drop count (drop column widths)) (drop count (drop column lengths)) (drop count (drop column last)) t (drop start text)) (place was) c.left)));
    }

-- the same of what slices have
pub stretch : (widths lengths last text row : List ℕ) (column was at start count bytes alike : ℕ) → LikeSoFar widths lengths last text column was at start row → count ≤ length (take (length lengths - column) (drop column lengths))
    → bytes ≡ sum (take count (take (length lengths - column) (drop column lengths))) → bytes ≤ alike → alike ≤ length (take (length text - was) (drop was text)) → alike ≤ length (take (length text - at) (drop at text))
    → take alike (take (length text - was) (drop was text)) ≡ take alike (take (length text - at) (drop at text)) → LikeSoFar widths lengths last text (column + count) (was + bytes) (at + bytes) start (row ++ take count (drop column last))
stretch widths lengths last text row column was at start count bytes alike l few is within one other same =
    let left = take_rest lengths column in
    let before = take_rest text was in
    let here = take_rest text at in
    like_more widths lengths last text row column was at start count bytes alike l (subst (λ xs. count ≤ length xs) left few) (is ∙ ap (λ xs. sum (take count xs)) left) within
    (subst (λ xs. alike ≤ length xs) before one) (subst (λ xs. alike ≤ length xs) here other) (sym (ap (take alike) before) ∙ (same ∙ ap (take alike) here))

-- the numbers that are repeated are there
pub room : (widths lengths text rest all numbers row : List ℕ) (from column count long : ℕ) → HasRow widths text rest lengths all → long ≡ length all → from ≡ long - length widths → column + count ≤ length widths → numbers ≡ all ++ row
    → (from + column + count ≤ length all) × (from + column + count ≤ length numbers)
room widths lengths text rest all numbers row from column count long h is place low added =
    let some = (last_row widths lengths text rest all h).0 in
    let whole = ap length added ∙ length-append all row in
    (omega (arith, some, is, place, low), omega (arith, some, is, place, low, whole))

-- what is left of the row before behind one more cell of it
one_passed : (w l n : ℕ) (ws ls ns text rest : List ℕ) → AreCellsOf (w ∷ ws) (l ∷ ls) (n ∷ ns) text rest → (l ≤ length text) × AreCellsOf ws ls ns (drop l text) rest
one_passed w l n ws ls ns text rest h = (h.0, h.2)

pub cell_passed : (widths lengths last : List ℕ) (column : ℕ) (text rest : List ℕ) → column < length widths → length lengths ≡ length widths → AreCellsOf (drop column widths) (drop column lengths) (drop column last) text rest
    → (get_or lengths column 0 ≤ length text) × AreCellsOf (drop (column + 1) widths) (drop (column + 1) lengths) (drop (column + 1) last) (drop (get_or lengths column 0) text) rest
cell_passed widths lengths last column text rest low long h =
    let many = (as_many (drop column widths) (drop column lengths) (drop column last) text rest h).1 in
    let inside : column < length last = omega (arith, many, length-drop column widths, length-drop column last, low) in
    one_passed (get_or widths column 0) (get_or lengths column 0) (get_or last column 0) (drop (column + 1) widths) (drop (column + 1) lengths) (drop (column + 1) last) text rest
    (subst (λ w. AreCellsOf w (get_or lengths column 0 ∷ drop (column + 1) lengths) (get_or last column 0 ∷ drop (column + 1) last) text rest) (drop_more widths column 0 low)
    (subst (λ m. AreCellsOf (drop column widths) m (get_or last column 0 ∷ drop (column + 1) last) text rest) (drop_more lengths column 0 (omega (arith, low, long)))
    (subst (λ m. AreCellsOf (drop column widths) (drop column lengths) m text rest) (drop_more last column 0 inside) h)))

-- one cell more, whatever the row before has in its column
pub like_cell : (widths lengths last text row : List ℕ) (column was at start end separator width n : ℕ) → LikeSoFar widths lengths last text column was at start row → column < length widths
    → width ≡ get_or widths column 0 → (column + 1 < length widths → separator ≡ 44) → (length widths ≤ column + 1 → separator ≡ 10) → at < end → end ≤ length text → IsCellBefore separator width (drop at text) (drop end text) n
    → LikeSoFar widths (set lengths column (end - at)) last text (column + 1) (was + get_or lengths column 0) end start (row ++ n ∷ [])
like_cell widths lengths last text row column was at start end separator width n l low is comma line past within cell =
    let passed = cell_passed widths lengths last column (drop was text) (drop start text) low l.long l.left in
    let inside : column < length lengths = omega (arith, low, l.long) in
    record {
      passed = omega (arith, passed.0, length-drop was text, l.passed);
      within = within;
      low = omega (arith, low);
      long = length-set lengths column (end - at) ∙ l.long;
      so = subst (λ m. CellsSoFar widths 0 (column + 1) (drop start text) (drop end text) m (row ++ n ∷ [])) (sym (take_more_set lengths column (end - at) inside))
          (cell_read widths 0 column at end text (drop start text) (take column lengths) row separator width n l.so low is comma line past within cell);
      left = subst (λ m. AreCellsOf (drop (column + 1) widths) m (drop (column + 1) last) (drop (was + get_or lengths column 0) text) (drop start text)) (sym (drop-set-lt (column + 1) lengths column (end - at) (omega arith)))
          (subst (λ t. AreCellsOf (drop (column + 1) widths) (drop (column + 1) lengths) (drop (column + 1) last) t (drop start text)) (drop-drop (get_or lengths column 0) was text) passed.1);
    }

-- the numbers of the row before from a column on, behind which a part of this row stands
pub repeated : (all row new numbers : List ℕ) (from column count : ℕ) → numbers ≡ all ++ row → from + column + count ≤ length all → new ≡ numbers ++ take count (drop (from + column) numbers)
    → new ≡ all ++ (row ++ take count (drop column (drop from all)))
repeated all row new numbers from column count is low added =
    let less : from + column ≤ length all = omega (arith, low) in
    let fits : count ≤ length (drop (from + column) all) = omega (arith, low, length-drop (from + column) all) in
    let part : take count (drop (from + column) (all ++ row)) ≡ take count (drop column (drop from all)) =
    ap (take count) (drop-append-le (from + column) all row less) ∙ (take-append-le count (drop (from + column) all) row fits ∙ ap (take count) (sym (drop-drop column from all))) in
    added ∙ (ap (λ ns. ns ++ take count (drop (from + column) ns)) is ∙ (ap (λ ns. (all ++ row) ++ ns) part ∙ append_assoc all row (take count (drop column (drop from all)))))

-- the rest of the row was read without the row before
pub like_rest : (widths lengths lengths0 lengths' last text row all numbers new : List ℕ) (column was at start end : ℕ) → LikeSoFar widths lengths last text column was at start row → numbers ≡ all ++ row
    → AddsCells widths column (drop at text) (drop end text) lengths lengths' numbers new → AddsCells widths 0 (drop start text) (drop end text) lengths0 lengths' all new
like_rest widths lengths lengths0 lengths' last text row all numbers new column was at start end l is more = record {
  measured = take column lengths ++ more.measured;
  numbers = row ++ more.numbers;
  lengths_are = more.lengths_are;
  added = more.added ∙ (ap (λ ns. ns ++ more.numbers) is ∙ append_assoc all row more.numbers);
  cells = l.so.read more.measured more.numbers (drop end text) more.cells;
}

-- the row is at its end
pub like_all : (widths lengths lengths0 last text row all new : List ℕ) (column was at start : ℕ) → LikeSoFar widths lengths last text column was at start row → column ≡ length widths → new ≡ all ++ row
    → AddsCells widths 0 (drop start text) (drop at text) lengths0 lengths all new
like_all widths lengths lengths0 last text row all new column was at start l end is =
    all_read widths lengths0 lengths all new (take column lengths) row (drop start text) (drop at text) 0 column l.so (omega (arith, end)) l.long refl is

-- what was added is the row before from then on
pub has_row : (widths text rest lengths lengths' old new : List ℕ) → AddsCells widths 0 text rest lengths lengths' old new → HasRow widths text rest lengths' new
has_row widths text rest lengths lengths' old new a = record {
  earlier = old;
  numbers = a.numbers;
  all_are = a.added;
  cells = subst (λ l. AreCellsOf widths l a.numbers text rest) (sym a.lengths_are) a.cells;
}
