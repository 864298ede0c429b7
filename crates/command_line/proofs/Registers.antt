-- The lines of registers: one more, and how long they are.
use Rattle.std.proofs.Common.{◌≡◌, ◌∙◌, ℕ, zero, suc, ◌+◌, ◌*◌, ◌%◌, ◌<◌, ◌≤◌, List, ◌++◌, append_assoc, append-nil, codes, decimal, flat_map, length, length-append, lit<, sym, ap, subst, arith}
use Rattle.std.specs.List.{range_with_len}
use Rattle.std.proofs.lemmas.Fmt.{length-decimal-le}
use Rattle.command_line.specs.Source.{first_line, register_line, register_lines, source_of}

more : (f : ℕ → List ℕ) (a n : ℕ) → flat_map f (range_with_len a (suc n)) ≡ flat_map f (range_with_len a n) ++ f (a + n)
more f a zero = let here : a ≡ a + 0 = omega arith in append-nil (f a) ∙ ap f here
more f a (suc n) =
    let at : (a + 1) + n ≡ a + suc n = omega arith in
    ap (λ xs. f a ++ xs) (more f (a + 1) n) ∙ sym (append_assoc (f a) (flat_map f (range_with_len (a + 1) n)) (f ((a + 1) + n)))
    ∙ ap (λ m. flat_map f (range_with_len a (suc n)) ++ f m) at

-- one register more
pub one_more : (n : ℕ) → register_lines (n + 1) ≡ register_lines n ++ register_line n
one_more n =
    let next : n + 1 ≡ suc n = omega arith in
    let here : 0 + n ≡ n = omega arith in
    ap register_lines next ∙ more register_line 0 n ∙ ap (λ m. register_lines n ++ register_line m) here

five : (a b c d e : List ℕ) → length (a ++ b ++ c ++ d ++ e) ≡ length a + length b + length c + length d + length e
five a b c d e = simp length-append

three : (a b c : List ℕ) → length (a ++ b ++ c) ≡ length a + length b + length c
three a b c = simp length-append

line-short : (i : ℕ) → i < 8192 → length (register_line i) ≤ 200
line-short i h =
    let reset : length (decimal (i % 256)) ≤ 3 = length-decimal-le 3 (i % 256) (lit< tt) (omega arith) (omega arith) in
    let number : length (decimal i) ≤ 4 = length-decimal-le 4 i (lit< tt) (omega (arith, h)) (omega (arith, h)) in
    fixed (decimal (i % 256)) (decimal i) reset number
  where
    fixed : (v n : List ℕ) → length v ≤ 3 → length n ≤ 4
        → length (codes "  reg { field { sw = rw; hw = r; } a[8] = " ++ v ++ codes "; field { sw = r; hw = w; } b[8]; field { sw = r; hw = r; counter; } c[8] = 0; } r" ++ n ++ codes ";\n") ≤ 200
    fixed v n few less =
        let whole : length (codes "  reg { field { sw = rw; hw = r; } a[8] = " ++ v ++ codes "; field { sw = r; hw = w; } b[8]; field { sw = r; hw = r; counter; } c[8] = 0; } r" ++ n ++ codes ";\n") ≡ 42 + length v + 82 + length n + 2
        = five (codes "  reg { field { sw = rw; hw = r; } a[8] = ") v (codes "; field { sw = r; hw = w; } b[8]; field { sw = r; hw = r; counter; } c[8] = 0; } r") n (codes ";\n") in
        omega (arith, whole)

lines-short : (a n : ℕ) → a + n ≤ 8192 → length (flat_map register_line (range_with_len a n)) ≤ 200 * n
lines-short a zero h = omega arith
lines-short a (suc n) h =
    let first : length (register_line a) ≤ 200 = line-short a (omega (arith, h)) in
    let rest : length (flat_map register_line (range_with_len (a + 1) n)) ≤ 200 * n = lines-short (a + 1) n (omega (arith, h)) in
    sum (register_line a) (flat_map register_line (range_with_len (a + 1) n)) first rest
  where
    sum : (x y : List ℕ) → length x ≤ 200 → length y ≤ 200 * n → length (x ++ y) ≤ 200 * suc n
    sum x y p q = let whole : length (x ++ y) ≡ length x + length y = length-append x y in omega (arith, whole)

-- a source of 8,192 registers is within the limit
pub source-short : (n : ℕ) → n ≤ 8192 → length (source_of n) ≤ 8388608
source-short n h =
    let number : length (decimal n) ≤ 4 = length-decimal-le 4 n (lit< tt) (omega (arith, h)) (omega (arith, h)) in
    let first : length (first_line n) ≡ 9 + length (decimal n) + 3 = three (codes "addrmap g") (decimal n) (codes " {\n") in
    let lines : length (register_lines n) ≤ 200 * n = lines-short 0 n (omega (arith, h)) in
    sum (first_line n) (register_lines n) (omega (arith, first)) lines
  where
    sum : (x y : List ℕ) → length x ≤ 16 → length y ≤ 200 * n → length (x ++ y ++ codes "};\n") ≤ 8388608
    sum x y p q = let whole : length (x ++ y ++ codes "};\n") ≡ length x + length y + 3 = three x y (codes "};\n") in omega (arith, whole, h)

pub short-text : (text : List ℕ) (n : ℕ) → n ≤ 8192 → text ≡ source_of n → length text ≤ 8388608
short-text text n h e = let whole : length text ≡ length (source_of n) = ap length e in let short = source-short n h in subst (λ m. m ≤ 8388608) (sym whole) short
