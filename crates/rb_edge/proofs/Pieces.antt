-- A piece of a file, read into the tail of a vector.
use Rattle.std.proofs.Common.{◌≡◌, ℕ, ◌+◌, ◌≤◌, List, ◌++◌, length, take, sym, ◌∙◌, ap, arith, length-append}
use Rattle.std.proofs.lemmas.List.{take_all, take_at, take-take, take-append-le}
use Rattle.std.proofs.Math.Seq.{take-append-add}

-- of a vector with room behind its bytes, the bytes
before_room : (bytes room : List ℕ) (n end : ℕ) → n ≡ length bytes → n ≤ end → take n (take end bytes ++ room) ≡ bytes
before_room bytes room n end is fits =
    let all : take end bytes ≡ bytes = take_all end bytes (omega (arith, is)) in
    ap (λ front. take n (front ++ room)) all ∙ take_at bytes room n (sym is)

joined : (bytes tail rest more : List ℕ) (n m len : ℕ) → n ≡ length bytes → m ≤ length tail → n + m ≤ len
    → take (n + m) (take len ((bytes ++ (tail ++ rest)) ++ more)) ≡ bytes ++ take m tail
joined bytes tail rest more n m len is fits within =
    let whole = bytes ++ (tail ++ rest) in
    let enough : n + m ≤ length whole = omega (arith, is, length-append bytes (tail ++ rest), length-append tail rest) in
    take-take (n + m) len (whole ++ more) within
    ∙ take-append-le (n + m) whole more enough
    ∙ ap (λ k. take (k + m) whole) is
    ∙ take-append-add bytes (tail ++ rest) m
    ∙ ap (λ read. bytes ++ read) (take-append-le m tail rest fits)

-- A vector of n bytes got room behind them, its tail was lent for a read of m bytes, and it was cut to them: now it has the
-- bytes, and those that were read.
pub behind_read : (bytes room grown lent tail rest more new : List ℕ) (n m end len : ℕ) → n ≡ length bytes → n ≤ end → grown ≡ take end bytes ++ room → lent ≡ grown
    → m ≤ length tail → n + m ≤ len → new ≡ take (n + m) (take len ((take n lent ++ (tail ++ rest)) ++ more)) → new ≡ bytes ++ take m tail
behind_read bytes room grown lent tail rest more new n m end len is further grows lends fits within cut =
    let front : take n lent ≡ bytes = ap (λ xs. take n xs) (lends ∙ grows) ∙ before_room bytes room n end is further in
    let long : n ≡ length (take n lent) = is ∙ ap length (sym front) in
    cut ∙ joined (take n lent) tail rest more n m len long fits within ∙ ap (λ xs. xs ++ take m tail) front
